-- Steps of the loops over files, lines and paths.
use Rattle.std.proofs.Common.{◌≡◌, ℕ, ◌+◌, ◌-◌, ◌<◌, ◌≤◌, zero, suc, true, false, List, [], ◌∷◌, ◌++◌, map, length, take, drop, get_or, Option, None, Some, Result, Ok, Err, IfOk, refl, ap, sym, ◌∙◌, subst, arith, append_assoc, IfSome, drop-cons}
use Rattle.std.proofs.lemmas.Grind.{flat_map-append}
use Rattle.std.proofs.lemmas.List.{append-nil, length-map, get_or-map, take_more, take_rest, drop-map}
use Rattle.std.specs.Option.{MatchOption}
use Rattle.std.specs.Prelude.{option_map}
use Rattle.clmodel.specs.Setup.{same_text}
use Rattle.script_lines.specs.Plain.{spaced, plain}
use Rattle.script_lines.specs.Reading.{says_at}
use Rattle.script_lines.specs.Says.{Says}
use Rattle.script_lines.specs.declared.says.LineSays.{LineSays}
use Rattle.script_lines.specs.declared.says.LineSays.TheVariants as says
use Rattle.script_lines.proofs.Grammar.{says_takes, says_again}
use Rattle.simfile.specs.Script.{line_feed}
use Rattle.written_scripts.specs.Lines.{first_end, lines_text}
use Rattle.written_scripts.specs.Telling.{Fits, text_at}
use Rattle.written_scripts.specs.declared.files.NamedFile.{NamedFile}

-- the element of a list that stands next
pub next_is : {A : Type 0} (xs : List A) (i : ℕ) (d : A) → i < length xs → drop i xs ≡ get_or xs i d ∷ drop (i + 1) xs
next_is xs i d h = let one : i + 1 ≡ suc i = omega arith in drop-cons xs i d h ∙ ap (λ n. get_or xs i d ∷ drop n xs) (sym one)

-- what references show is the element of the list of what they show
pub shown_at : {A B : Type 0} (f : A → B) (xs : List A) (i : ℕ) (d : A) (e : B) → i < length xs → get_or (map f xs) i e ≡ f (get_or xs i d)
shown_at f xs i d e h = get_or-map f xs i d e h

pub within_map : {A B : Type 0} (f : A → B) (xs : List A) (i : ℕ) → i < length xs → i < length (map f xs)
within_map f xs i h = omega (arith, h, length-map xs f)

-- files

pub file_found : (files : List NamedFile) (i : ℕ) (d : NamedFile) (path : List ℕ) (whole : Option (List ℕ)) → i < length files → same_text (get_or files i d).path path ≡ true → text_at (drop i files) path ≡ whole → Some (get_or files i d).text ≡ whole
file_found files i d path whole h same e = sym (ap (λ l. text_at l path) (next_is files i d h) ∙ rw same refl) ∙ e

pub file_passed : (files : List NamedFile) (i : ℕ) (d : NamedFile) (path : List ℕ) (whole : Option (List ℕ)) → i < length files → same_text (get_or files i d).path path ≡ false → text_at (drop i files) path ≡ whole → text_at (drop (i + 1) files) path ≡ whole
file_passed files i d path whole h other e = sym (ap (λ l. text_at l path) (next_is files i d h) ∙ rw other refl) ∙ e

-- lines as a text

pub text_more : {A : Type 0} (f : A → List ℕ) (lines : List A) (i : ℕ) (d : A) {old mid new : List ℕ} → i < length lines → old ≡ lines_text (take i (map f lines)) → mid ≡ old ++ f (get_or lines i d) → new ≡ mid ++ 10 ∷ [] → new ≡ lines_text (take (i + 1) (map f lines))
text_more f lines i d {old} {mid} {new} h is line feed =
    let front = take i (map f lines) in
    let last = f (get_or lines i d) in
    let more : take (i + 1) (map f lines) ≡ front ++ last ∷ [] = take_more (map f lines) i [] (within_map f lines i h) ∙ ap (λ l. front ++ l ∷ []) (shown_at f lines i d [] h) in
    let all : lines_text (take (i + 1) (map f lines)) ≡ lines_text front ++ (last ++ 10 ∷ []) =
    ap lines_text more ∙ (flat_map-append (λ line. line ++ line_feed) front (last ∷ []) ∙ ap (λ l. lines_text front ++ l) (append-nil (last ++ 10 ∷ []))) in
    feed ∙ (ap (λ l. l ++ 10 ∷ []) (line ∙ ap (λ l. l ++ last) is) ∙ (append_assoc (lines_text front) last (10 ∷ []) ∙ sym all))

-- the first line that ends a source

abbrev pub further : ℕ → Option ℕ → Option ℕ
further n count = option_map (λ m. n + m) count

further_by : (n : ℕ) (count : Option ℕ) → further n (option_map (λ m. suc m) count) ≡ further (n + 1) count
further_by n None = refl
further_by n (Some m) = let e : n + suc m ≡ n + 1 + m = omega arith in ap Some e

pub further_none : (count whole : Option ℕ) → further 0 count ≡ whole → count ≡ whole
further_none None whole e = e
further_none (Some m) whole e = let z : m ≡ 0 + m = omega arith in ap Some z ∙ e

pub further_zero : (count : Option ℕ) → further 0 count ≡ count
further_zero None = refl
further_zero (Some m) = let z : 0 + m ≡ m = omega arith in ap Some z

pub end_found : (word : List ℕ) (lines : List (List ℕ)) (i : ℕ) (whole : Option ℕ) → i < length lines → same_text (spaced (get_or lines i [])) word ≡ true → further i (first_end word (drop i lines)) ≡ whole → Some i ≡ whole
end_found word lines i whole h same e =
    let read : first_end word (drop i lines) ≡ Some 0 = ap (first_end word) (next_is lines i [] h) ∙ rw same refl in
    let at : Some i ≡ further i (Some 0) = let z : i ≡ i + 0 = omega arith in ap Some z in
    at ∙ (ap (further i) (sym read) ∙ e)

pub end_passed : (word : List ℕ) (lines : List (List ℕ)) (i : ℕ) (whole : Option ℕ) → i < length lines → same_text (spaced (get_or lines i [])) word ≡ false → further i (first_end word (drop i lines)) ≡ whole → further (i + 1) (first_end word (drop (i + 1) lines)) ≡ whole
end_passed word lines i whole h other e =
    let read : first_end word (drop i lines) ≡ option_map (λ m. suc m) (first_end word (drop (i + 1) lines)) = ap (first_end word) (next_is lines i [] h) ∙ rw other refl in
    sym (further_by i (first_end word (drop (i + 1) lines))) ∙ (ap (further i) (sym read) ∙ e)

pub end_none : (word : List ℕ) (lines : List (List ℕ)) (i : ℕ) (whole : Option ℕ) → length lines ≤ i → further i (first_end word (drop i lines)) ≡ whole → None ≡ whole
end_none word lines i whole h e = sym (ap (λ l. further i (first_end word l)) (drop_past lines i h)) ∙ e where
  drop_past : (xs : List (List ℕ)) (n : ℕ) → length xs ≤ n → drop n xs ≡ []
  drop_past [] zero k = refl
  drop_past [] (suc n) k = refl
  drop_past (x ∷ xs) zero k = absurd (omega (arith, k))
  drop_past (x ∷ xs) (suc n) k = drop_past xs n (omega (arith, k))

-- what is read of a line is what it says

pub said_is : (line : List ℕ) (told : Option LineSays) → IfSome told (λ said. Says line said) → ((said : LineSays) → Says line said → told ≡ Some said) → says_at (plain line) ≡ told
said_is line (Some said) found only = says_again (plain line) said found
said_is line None found only = by_read (says_at (plain line)) refl where
  by_read : (o : Option LineSays) → says_at (plain line) ≡ o → says_at (plain line) ≡ None
  by_read None is = is
  by_read (Some said) is = let bad : ◌≡◌ {A = Option LineSays} None (Some said) = only said (says_takes (plain line) said is) in absurd (cc)

pub said_both : {E : Type 0} (line : List ℕ) (r : Result (Option LineSays) E) → IfOk r (λ told. IfSome told (λ said. Says line said)) → ((said : LineSays) → Says line said → IfOk r (λ told. told ≡ Some said)) → IfOk r (λ told. told ≡ says_at (plain line))
said_both line (Err e) found only = tt
said_both line (Ok told) found only = sym (said_is line told found only)

says_fits : (line : List ℕ) (said : LineSays) → Says line said → Fits said
says_fits line says.Nothing h = tt
says_fits line (says.Command told) h = tt
says_fits line (says.ReadNumbers buffer offset kind count) h = h.2
says_fits line (says.SourceLines name count) h = tt
says_fits line (says.SourceUntil name word) h = tt
says_fits line (says.SourceFile name path) h = tt

some_fits : (line : List ℕ) (told : Option LineSays) → IfSome told (λ said. Says line said) → IfSome told Fits
some_fits line None h = tt
some_fits line (Some said) h = says_fits line said h

pub said_fits : {E : Type 0} (line : List ℕ) (r : Result (Option LineSays) E) → IfOk r (λ told. IfSome told (λ said. Says line said)) → IfOk r (λ told. IfSome told Fits)
said_fits line (Err e) found = tt
said_fits line (Ok told) found = some_fits line told found

-- slices of what references show

pub behind_is : {A B : Type 0} (f : A → B) (xs : List A) (i : ℕ) → map f (take (length xs - i) (drop i xs)) ≡ drop i (map f xs)
behind_is f xs i = ap (map f) (take_rest xs i) ∙ sym (drop-map f i xs)

pub next_shown : {A : Type 0} (f : A → List ℕ) (xs : List A) (i : ℕ) (d : A) → i < length xs → drop i (map f xs) ≡ f (get_or xs i d) ∷ drop (i + 1) (map f xs)
next_shown f xs i d h = next_is (map f xs) i [] (within_map f xs i h) ∙ ap (λ l. l ∷ drop (i + 1) (map f xs)) (shown_at f xs i d [] h)

pub none_of : {A : Type 0} (P : Type 0) (Q : A → Type 0) (o : Option A) → o ≡ None → MatchOption o P Q → P
none_of P Q None e h = h
none_of {A} P Q (Some x) e h = let bad : ◌≡◌ {A = Option A} (Some x) None = e in absurd (cc)

pub some_of : {A : Type 0} (P : Type 0) (Q : A → Type 0) (o : Option A) (x : A) → o ≡ Some x → MatchOption o P Q → Q x
some_of P Q o x e h = subst (λ u. MatchOption u P Q) e h
