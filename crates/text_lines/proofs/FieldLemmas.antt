-- Fields as loops find them.
use Rattle.std.proofs.Common.{◌≡◌, ℕ, suc, ◌+◌, ◌-◌, ◌*◌, ◌<◌, ◌≤◌, Bool, true, false, not, List, [], ◌∷◌, length, drop, get_or, None, Some, unwrap_or, refl, sym, ◌∙◌, arith, cond, nat_lt, if◌then◌else◌, position}
use Rattle.std.proofs.lemmas.List.{at_drop_more, at_drop_all}
use Rattle.std.proofs.lemmas.Bool.Decides.{nat_tests}
use Rattle.std.specs.List.{position_or_len}
use Rattle.text_lines.specs.Texts.{value_behind, value_of}
use Rattle.text_lines.specs.Fronts.{front_length}

pub value_grows : (n : ℕ) (ds : List ℕ) → n ≤ value_behind n ds
value_grows n [] = omega arith
value_grows n (d ∷ ds) = let more : 10 * n + (d - 48) ≤ value_behind (10 * n + (d - 48)) ds = value_grows (10 * n + (d - 48)) ds in omega arith

pub value_more : (v i u : ℕ) (ds : List ℕ) → i < length ds → u ≡ get_or ds i 0 - 48 → value_behind v (drop i ds) ≡ value_of ds → value_behind (10 * v + u) (drop (i + 1) ds) ≡ value_of ds
value_more v i u ds h e p = let s : value_behind v (drop i ds) ≡ value_behind (10 * v + (get_or ds i 0 - 48)) (drop (i + 1) ds) = at_drop_more (value_behind v) ds i 0 h in rw e (sym s ∙ p)

pub value_past : (v i u : ℕ) (ds : List ℕ) → i < length ds → u ≡ get_or ds i 0 - 48 → value_behind v (drop i ds) ≡ value_of ds → 10 * v + u ≤ value_of ds
value_past v i u ds h e p = let s = value_more v i u ds h e p in rw (← s) (value_grows (10 * v + u) (drop (i + 1) ds))

pub value_all : (v i : ℕ) (ds : List ℕ) → length ds ≤ i → value_behind v (drop i ds) ≡ value_of ds → v ≡ value_of ds
value_all v i ds h p = let s : value_behind v (drop i ds) ≡ v = at_drop_all (value_behind v) ds i h in sym s ∙ p

pub front_is : (p : ℕ → Bool) (bs : List ℕ) → position_or_len (λ b. not (p b)) bs ≡ front_length p bs
front_is p [] = refl
front_is p (b ∷ bs) = elim (p b) as (λ v. cond (not (not v)) (1 + position_or_len (λ x. not (p x)) bs) 0 ≡ (if v then front_length p bs + 1 else 0)) [
  | true ↦ let h = front_is p bs in omega (arith, h)
  | false ↦ refl
]

pub front_within : (p : ℕ → Bool) (bs : List ℕ) → front_length p bs ≤ length bs
front_within p [] = omega arith
front_within p (b ∷ bs) = let h = front_within p bs in elim (p b) as (λ v. (if v then front_length p bs + 1 else 0) ≤ suc (length bs)) [ true ↦ omega (arith, h) | false ↦ omega arith ]

pub least : (m n : ℕ) → m ≤ n → unwrap_or (cond (nat_lt m n) (Some m) None) n ≡ m
least m n h = grind (arith, nat_tests)

pub front_of_position : (p : ℕ → Bool) (bs : List ℕ) → unwrap_or (position (λ b. not (p b)) bs) (length bs) ≡ front_length p bs
front_of_position p bs = let e = front_is p bs in let h = front_within p bs in let same : position_or_len (λ b. not (p b)) bs ≤ length bs = rw e h in least (position_or_len (λ b. not (p b)) bs) (length bs) same ∙ e
