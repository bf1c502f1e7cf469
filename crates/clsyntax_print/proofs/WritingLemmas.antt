-- How tokens that are written come one after another.
use Rattle.std.proofs.Common.{◌≡◌, ℕ, ◌+◌, ◌<◌, ◌≤◌, List, [], ◌∷◌, ◌++◌, length, drop, get_or, Result, Ok, Err, refl, ap, sym, ◌∙◌, append_assoc, subst}
use Rattle.std.proofs.lemmas.List.{append-nil, drop_more, at_drop_all}
use Rattle.clsyntax_lex.specs.declared.token.TokenKind.{TokenKind}
use Rattle.clsyntax_lex.specs.Printed.{spelled, text_of}
use Rattle.byte_io.specs.Sink.{Sink, Wrote, Stopped, Puts}
use Rattle.byte_io.proofs.Puts.{wrote_none, wrote_then, stopped_then, stopped_more}
use Rattle.clsyntax_print.specs.Printing.{Kinds}
use Rattle.clsyntax_print.specs.Writing.{Passed, Passes}

pub passed_none : {names : List (List ℕ)} {s : Sink} {tokens : Kinds} → Passed names s s tokens tokens
passed_none {s = s} = record { text = []; split = refl; wrote = wrote_none s }

pub passed_then : {names : List (List ℕ)} {a b c : Sink} {first second third : Kinds} → Passed names a b first second → Passed names b c second third → Passed names a c first third
passed_then {names = names} {third = third} p q =
    record { text = p.text ++ q.text; split = p.split ∙ (ap (λ t. p.text ++ t) q.split ∙ sym (append_assoc p.text q.text (text_of names third))); wrote = wrote_then p.wrote q.wrote }

pub stopped_behind : {names : List (List ℕ)} {a b c : Sink} {first second : Kinds} → Passed names a b first second → Stopped b c (text_of names second) → Stopped a c (text_of names first)
stopped_behind {a = a} {c = c} p q = subst (λ t. Stopped a c t) (sym p.split) (stopped_then p.wrote q)

pub passes_then : {names : List (List ℕ)} {a b : Sink} {first second : Kinds} {A E : Type 0} (c : Sink) (third : Kinds) (r : Result A E) → Passed names a b first second → Passes names b r c second third → Passes names a r c first third
passes_then c third (Ok v) p q = passed_then p q
passes_then c third (Err e) p q = stopped_behind p q

-- where nothing is left, all was written
pub wrote_all : {names : List (List ℕ)} {a b : Sink} {tokens : Kinds} → Passed names a b tokens [] → Wrote a b (text_of names tokens)
wrote_all {a = a} {b = b} p = subst (λ t. Wrote a b t) (sym (p.split ∙ append-nil p.text)) p.wrote

-- a token's text and the space behind it
pub passed_token : {a b c : Sink} (names : List (List ℕ)) (kind : TokenKind) (rest : Kinds) → Wrote a b (spelled names kind) → Wrote b c (32 ∷ []) → Passed names a c (kind ∷ rest) rest
passed_token names kind rest p q =
    record { text = spelled names kind ++ 32 ∷ []; split = sym (append_assoc (spelled names kind) (32 ∷ []) (text_of names rest)); wrote = wrote_then p q }

pub stopped_in_token : {a b : Sink} (names : List (List ℕ)) (kind : TokenKind) (rest : Kinds) → Stopped a b (spelled names kind) → Stopped a b (text_of names (kind ∷ rest))
stopped_in_token names kind rest p = stopped_more (32 ∷ text_of names rest) p

pub passes_token : {a b : Sink} {A E : Type 0} (c : Sink) (names : List (List ℕ)) (kind : TokenKind) (rest : Kinds) (r : Result A E) → Wrote a b (spelled names kind) → Puts b r c (32 ∷ []) → Passes names a r c (kind ∷ rest) rest
passes_token c names kind rest (Ok v) p q = passed_token names kind rest p q
passes_token c names kind rest (Err e) p q = stopped_then p (stopped_more (text_of names rest) q)

-- ---- the items of a list, one by one; F gives the tokens of those that are left

drop_item : {A : Type 0} (xs : List A) (i : ℕ) (x : A) → x ≡ get_or xs i x → i < length xs → drop i xs ≡ x ∷ drop (i + 1) xs
drop_item xs i x is h = drop_more xs i x h ∙ ap (λ y. y ∷ drop (i + 1) xs) (sym is)

pub passed_item : {A : Type 0} {names : List (List ℕ)} {a b c : Sink} {tokens : Kinds} (F : List A → Kinds) (xs : List A) (i : ℕ) (x : A) → x ≡ get_or xs i x → i < length xs
    → Passed names a b tokens (F (drop i xs)) → Passed names b c (F (x ∷ drop (i + 1) xs)) (F (drop (i + 1) xs)) → Passed names a c tokens (F (drop (i + 1) xs))
passed_item {names = names} {b = b} {c = c} F xs i x is h p q = passed_then p (subst (λ ys. Passed names b c (F ys) (F (drop (i + 1) xs))) (sym (drop_item xs i x is h)) q)

pub stopped_item : {A : Type 0} {names : List (List ℕ)} {a b c : Sink} {tokens : Kinds} (F : List A → Kinds) (xs : List A) (i : ℕ) (x : A) → x ≡ get_or xs i x → i < length xs
    → Passed names a b tokens (F (drop i xs)) → Stopped b c (text_of names (F (x ∷ drop (i + 1) xs))) → Stopped a c (text_of names tokens)
stopped_item {names = names} {b = b} {c = c} F xs i x is h p q = stopped_behind p (subst (λ ys. Stopped b c (text_of names (F ys))) (sym (drop_item xs i x is h)) q)

pub passed_all : {A : Type 0} {names : List (List ℕ)} {a b : Sink} {tokens : Kinds} (F : List A → Kinds) (xs : List A) (i : ℕ) → length xs ≤ i → Passed names a b tokens (F (drop i xs)) → Passed names a b tokens (F [])
passed_all {names = names} {a = a} {b = b} {tokens = tokens} F xs i h p = let P : Kinds → Type 0 = λ ks. Passed names a b tokens ks in subst P (at_drop_all F xs i h) p
