-- Steps of the loops over words and numbers.
use Rattle.std.proofs.Common.{◌≡◌, ℕ, zero, suc, ◌+◌, ◌<◌, ◌≤◌, ℤ, Bool, true, false, nat_lt, if◌then◌else◌, List, [], ◌∷◌, ◌++◌, map, length, take, get_or, Option, None, Some, refl, ap, sym, ◌∙◌, arith, append_assoc}
use Rattle.std.proofs.lemmas.Bool.Decides.{nat_tests}
use Rattle.std.proofs.lemmas.List.{length-map, get_or-map}
use Rattle.std.specs.Prelude.{option_map, position, cond}
use Rattle.std.specs.List.{join_with_byte, position_or_len}
use Rattle.clmodel.specs.Setup.{same_text}
use Rattle.clnum.specs.declared.int_type.IntType.{IntType}
use Rattle.simfile.specs.Script.{line_feed}
use Rattle.text_lines.specs.Fronts.{◌>>=◌, after, value_at}
use Rattle.script_lines.specs.Numbers.{bytes_of}
use Rattle.script_lines.specs.Reading.{is_in, bytes_at}

regrouped : (w before word : List ℕ) → w ++ 32 ∷ ((before ++ 32 ∷ []) ++ word) ≡ ((w ++ 32 ∷ before) ++ 32 ∷ []) ++ word
regrouped w before word =
    ap (λ l. w ++ 32 ∷ l) (append_assoc before (32 ∷ []) word) ∙ sym (append_assoc (w ++ 32 ∷ before) (32 ∷ []) word ∙ append_assoc w (32 ∷ before) (32 ∷ word))

one_space : (v : Bool) → v ≡ true → if◌then◌else◌ {A = List ℕ} v (32 ∷ []) [] ≡ 32 ∷ []
one_space true e = refl
one_space false e = absurd (cc)

some_before : (i : ℕ) → nat_lt 0 (suc i) ≡ true
some_before i = grind (arith, nat_tests)

-- one word more
pub join_more : (words : List (List ℕ)) (i : ℕ) → i < length words → join_with_byte 32 (take (i + 1) words) ≡ (join_with_byte 32 (take i words) ++ (if nat_lt 0 i then 32 ∷ [] else [])) ++ get_or words i []
join_more [] i h = absurd (omega (arith, h))
join_more (w ∷ []) zero h = refl
join_more (w ∷ []) (suc i) h = absurd (omega (arith, h))
join_more (w ∷ x ∷ words) zero h = refl
join_more (w ∷ x ∷ words) (suc zero) h = sym (append_assoc w (32 ∷ []) x)
join_more (w ∷ x ∷ words) (suc (suc i)) h =
    let before = join_with_byte 32 (x ∷ take i words) in
    let word = get_or (x ∷ words) (suc i) [] in
    let three : suc (suc i) + 1 ≡ suc (suc (suc i)) = omega arith in
    let two : suc i + 1 ≡ suc (suc i) = omega arith in
    let more : join_with_byte 32 (x ∷ take (suc i) words) ≡ (before ++ 32 ∷ []) ++ word =
    sym (ap (λ n. join_with_byte 32 (take n (x ∷ words))) two) ∙ (join_more (x ∷ words) (suc i) (omega (arith, h)) ∙ ap (λ l. (before ++ l) ++ word) (one_space (nat_lt 0 (suc i)) (some_before i))) in
    ap (λ n. join_with_byte 32 (take n (w ∷ x ∷ words))) three
    ∙ (ap (λ l. w ++ 32 ∷ l) more ∙ (regrouped w before word ∙ ap (λ l. ((w ++ 32 ∷ before) ++ l) ++ word) (sym (one_space (nat_lt 0 (suc (suc i))) (some_before (suc i))))))

-- one word more of those that references show, behind its space
pub words_more : {A : Type 0} (f : A → List ℕ) (words : List A) (i : ℕ) (d : A) {text spaced new : List ℕ} → i < length words → text ≡ join_with_byte 32 (take i (map f words)) → spaced ≡ text ++ (if nat_lt 0 i then 32 ∷ [] else []) → new ≡ spaced ++ f (get_or words i d)
    → new ≡ join_with_byte 32 (take (i + 1) (map f words))
words_more f words i d h is space word =
    let within : i < length (map f words) = omega (arith, h, length-map words f) in
    let more = join_more (map f words) i within in
    let same = get_or-map f words i d [] h in
    word ∙ (ap (λ l. l ++ f (get_or words i d)) (space ∙ ap (λ l. l ++ (if nat_lt 0 i then 32 ∷ [] else [])) is) ∙ sym (more ∙ ap (λ l. (join_with_byte 32 (take i (map f words)) ++ (if nat_lt 0 i then 32 ∷ [] else [])) ++ l) same))

-- numbers that are behind others
abbrev pub behind : List ℕ → Option (List ℕ) → Option (List ℕ)
behind front read = option_map (λ more. front ++ more) read

pushed : (front bytes : List ℕ) (o : Option (List ℕ)) → behind front (o >>= (λ more. Some (bytes ++ more))) ≡ behind (front ++ bytes) o
pushed front bytes None = refl
pushed front bytes (Some more) = ap Some (sym (append_assoc front bytes more))

pub none_left : (kind : IntType) (n : ℕ) (front rest : List ℕ) (whole : Option (List ℕ)) → n ≡ 0 → behind front (bytes_at kind n rest) ≡ whole → whole ≡ None
none_left kind zero front rest whole e h = sym h
none_left kind (suc n) front rest whole e h = absurd (omega (arith, e))

pub none_value : (kind : IntType) (n : ℕ) (front rest : List ℕ) (whole : Option (List ℕ)) → 0 < n → value_at rest ≡ None → behind front (bytes_at kind n rest) ≡ whole → whole ≡ None
none_value kind zero front rest whole some e h = absurd (omega (arith, some))
none_value kind (suc n) front rest whole some e h = sym h ∙ rw e refl

pub none_range : (kind : IntType) (n : ℕ) (front rest more : List ℕ) (number : ℤ) (whole : Option (List ℕ)) → 0 < n → value_at rest ≡ Some (number, more) → is_in kind number ≡ false → behind front (bytes_at kind n rest) ≡ whole → whole ≡ None
none_range kind zero front rest more number whole some e out h = absurd (omega (arith, some))
none_range kind (suc n) front rest more number whole some e out h = sym h ∙ rw (e, out) refl

pub last_value : (kind : IntType) (n : ℕ) (front rest more : List ℕ) (number : ℤ) (whole : Option (List ℕ)) → 0 < n → value_at rest ≡ Some (number, more) → is_in kind number ≡ true → same_text more line_feed ≡ true → behind front (bytes_at kind n rest) ≡ whole → whole ≡ Some (front ++ bytes_of kind number)
last_value kind zero front rest more number whole some e fits end h = absurd (omega (arith, some))
last_value kind (suc n) front rest more number whole some e fits end h = sym h ∙ rw (e, fits, end) refl

pub none_space : (kind : IntType) (n : ℕ) (front rest more : List ℕ) (number : ℤ) (whole : Option (List ℕ)) → 0 < n → value_at rest ≡ Some (number, more) → is_in kind number ≡ true → same_text more line_feed ≡ false → after (32 ∷ []) more ≡ None
    → behind front (bytes_at kind n rest) ≡ whole → whole ≡ None
none_space kind zero front rest more number whole some e fits end none h = absurd (omega (arith, some))
none_space kind (suc n) front rest more number whole some e fits end none h = sym h ∙ rw (e, fits, end, none) refl

pub next_value : (kind : IntType) (n m : ℕ) (front rest more others : List ℕ) (number : ℤ) (whole : Option (List ℕ)) → n ≡ suc m → value_at rest ≡ Some (number, more) → is_in kind number ≡ true → same_text more line_feed ≡ false → after (32 ∷ []) more ≡ Some others
    → behind front (bytes_at kind n rest) ≡ whole → behind (front ++ bytes_of kind number) (bytes_at kind m others) ≡ whole
next_value kind n m front rest more others number whole one e fits end onto h =
    let read : behind front (bytes_at kind (suc m) rest) ≡ behind front (bytes_at kind m others >>= (λ bytes. Some (bytes_of kind number ++ bytes))) = rw (e, fits, end, onto) refl in
    sym (pushed front (bytes_of kind number) (bytes_at kind m others)) ∙ (sym read ∙ (ap (λ k. behind front (bytes_at kind k rest)) (sym one) ∙ h))

-- the place of the first element that passes a test

place_by : (v : Bool) (n at : ℕ) → Some at ≡ cond v (Some n) None → at ≡ n
place_by true n at e = cc
place_by false n at e = absurd (cc)

pub at_first : (p : ℕ → Bool) (xs : List ℕ) (at : ℕ) → Some at ≡ position p xs → at ≡ position_or_len p xs
at_first p xs at e = place_by (nat_lt (position_or_len p xs) (length xs)) (position_or_len p xs) at e

none_by : (v : Bool) (n m : ℕ) → nat_lt n m ≡ v → None ≡ cond v (Some n) None → m ≤ n
none_by true n m is e = absurd (cc)
none_by false n m is e = grind (arith, nat_tests)

pub at_none : (p : ℕ → Bool) (xs : List ℕ) → None ≡ position p xs → length xs ≤ position_or_len p xs
at_none p xs e = none_by (nat_lt (position_or_len p xs) (length xs)) (position_or_len p xs) (length xs) refl e

pub some_bytes : (bytes : List ℕ) → (length bytes ≡ 0 → ⊥) → nat_lt 0 (length bytes) ≡ true
some_bytes [] h = absurd (h refl)
some_bytes (b ∷ bytes) h = some_before (length bytes)
