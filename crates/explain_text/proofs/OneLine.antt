-- Texts without a line feed.
use Rattle.std.proofs.Common.{◌≢◌, ℕ, ◌+◌, ◌/◌, Bool, true, false, All, List, [], ◌∷◌, arith}
use Rattle.std.proofs.lemmas.List.Elements.{All-cons, All-nil}
use lib.Dec.{ltb}
use lib.Utf8.{encode, next}
use mathlib.Core.Bool.{cond}

chosen : (P : ℕ → Type 0) (b : Bool) (xs ys : List ℕ) → All P xs → All P ys → All P (cond b xs ys)
chosen P true xs ys h k = h
chosen P false xs ys h k = k

one : (x : ℕ) (xs : List ℕ) → x ≢ 10 → All (λ (b : ℕ). b ≢ 10) xs → All (λ (b : ℕ). b ≢ 10) (x ∷ xs)
one x xs h k = All-cons (λ (b : ℕ). b ≢ 10) x xs h k

none : All (λ (b : ℕ). b ≢ 10) []
none = All-nil (λ (b : ℕ). b ≢ 10)

-- the bytes of a character that has more than two, and more than one
abbrev after_two : ℕ → List ℕ
after_two c = cond (ltb c 65536) ((224 + c / 4096) ∷ next (c / 64) ∷ next c ∷ []) ((240 + c / 262144) ∷ next (c / 4096) ∷ next (c / 64) ∷ next c ∷ [])

abbrev after_one : ℕ → List ℕ
after_one c = cond (ltb c 2048) ((192 + c / 64) ∷ next c ∷ []) (after_two c)

-- the bytes of a character that is no line feed
pub char_in_line : (c : ℕ) → c ≢ 10 → All (λ (b : ℕ). b ≢ 10) (encode c)
unfolding encode
char_in_line c other =
    chosen (λ (b : ℕ). b ≢ 10) (ltb c 128) (c ∷ []) (after_one c) (one c [] other none)
    (chosen (λ (b : ℕ). b ≢ 10) (ltb c 2048) ((192 + c / 64) ∷ next c ∷ []) (after_two c)
    (one (192 + c / 64) (next c ∷ []) (λ e. omega (arith, e)) (one (next c) [] (λ e. omega (arith, e)) none))
    (chosen (λ (b : ℕ). b ≢ 10) (ltb c 65536) ((224 + c / 4096) ∷ next (c / 64) ∷ next c ∷ []) ((240 + c / 262144) ∷ next (c / 4096) ∷ next (c / 64) ∷ next c ∷ [])
    (one (224 + c / 4096) (next (c / 64) ∷ next c ∷ []) (λ e. omega (arith, e)) (one (next (c / 64)) (next c ∷ []) (λ e. omega (arith, e)) (one (next c) [] (λ e. omega (arith, e)) none)))
    (one (240 + c / 262144) (next (c / 4096) ∷ next (c / 64) ∷ next c ∷ []) (λ e. omega (arith, e))
    (one (next (c / 4096)) (next (c / 64) ∷ next c ∷ []) (λ e. omega (arith, e)) (one (next (c / 64)) (next c ∷ []) (λ e. omega (arith, e)) (one (next c) [] (λ e. omega (arith, e)) none))))))
