-- The rule of the two words that workers share, and what each step tells. All of it is own: the standard doesn't say
-- who runs which group. Word 0 is the number of draws. Word 1 is the count of groups, or a group whose run stops.
use Rattle.std.specs.Prelude.{◌≡◌, ◌⊎◌, ℕ, suc, zero, ◌+◌, ◌-◌, ◌<◌, ◌≤◌, ◌==◌, if◌then◌else◌, List, [], ◌∷◌, ◌++◌, nat_le}
use mathlib.Core.Option.{some}
use lib.ListN.{get_elem?}
use Rattle.atomic_table.specs.Table.{Me, Step}
use Rattle.workers_draw.specs.declared.board.Hand.{Hand}

abbrev pub hand : ℕ → List ℕ → List ℕ → List ℕ → Hand
hand parts drawn seen stopped = record { parts = parts; drawn = drawn; seen = seen; stopped = stopped }

-- f of each, added up
abbrev pub total : {A : Type 0} → (A → ℕ) → List A → ℕ
total f [] = 0
total f (x ∷ xs) = f x + total f xs

-- f of each number below n, added up
abbrev pub total_below : (ℕ → ℕ) → ℕ → ℕ
total_below f zero = 0
total_below f (suc n) = total_below f n + f n

-- 1 at this number, 0 elsewhere
abbrev pub is_it : ℕ → ℕ → ℕ
is_it x y = if y == x then 1 else 0

-- 1 from this number on, 0 below
abbrev pub is_past : ℕ → ℕ → ℕ
is_past count y = if nat_le count y then 1 else 0

abbrev pub Has : List ℕ → ℕ → Type 0
Has xs x = 0 < total (is_it x) xs

-- some seat knows that the run of this group stops
abbrev pub IsStop : List Hand → ℕ → Type 0
IsStop views e = 0 < total (λ (v : Hand). total (is_it e) v.stopped) views

module _ (count : ℕ) where
  abbrev pub IsLeast : List Hand → ℕ → Type 0
  IsLeast views e = (e ≡ count) ⊎ IsStop views e

  -- What was drawn, by all, are the numbers below the draw word, each once. A seat draws past the end at most as often
  -- as it has parts.
  pub record Kept (draws low : ℕ) (views : List Hand) : Type 0 where
    pub parts : total (λ (v : Hand). v.parts) views ≡ 16
    pub drawn : (h : ℕ → ℕ) → total (λ (v : Hand). total h v.drawn) views ≡ total_below h draws
    pub past : (j : ℕ) (v : Hand) → get_elem? views j ≡ some v → total (is_past count) v.drawn ≤ v.parts
    pub idle : (j : ℕ) (v : Hand) → get_elem? views j ≡ some v → v.parts ≡ 0 → (v.drawn ≡ []) × (v.stopped ≡ [])
    pub least : IsLeast views low
    pub seen : (j : ℕ) (v : Hand) → get_elem? views j ≡ some v → (e : ℕ) → Has v.seen e → IsLeast views e

  abbrev pub Holds : List ℕ → List Hand → Type 0
  Holds [] views = ⊥
  Holds (draw ∷ []) views = ⊥
  Holds (draw ∷ least ∷ []) views = Kept draw least views
  Holds (draw ∷ least ∷ x ∷ xs) views = ⊥

module _ {S : Type 0} where
  -- the number found was drawn
  abbrev pub drew : Step S → Me S Hand → ℕ → Me S Hand → Type 0
  drew s me n after = after ≡ (hand me.0.parts (me.0.drawn ++ n ∷ []) me.0.seen me.0.stopped, me.1)

  -- the least-fault word was seen
  abbrev pub looked : Step S → Me S Hand → ℕ → Me S Hand → Type 0
  looked s me n after = after ≡ (hand me.0.parts me.0.drawn (me.0.seen ++ n ∷ []) me.0.stopped, me.1)

  -- the operand is the number of a group whose run stops
  abbrev pub lowered : Step S → Me S Hand → ℕ → Me S Hand → Type 0
  lowered s me n after = after ≡ (hand me.0.parts me.0.drawn me.0.seen (me.0.stopped ++ s.first ∷ []), me.1)

-- all parts but one, and that one for a seat that has drawn nothing
abbrev pub dealer : Hand → Hand
dealer v = hand (v.parts - 1) v.drawn v.seen v.stopped

abbrev pub worker : Hand → Hand
worker v = hand 1 [] [] []

abbrev pub both : Hand → Hand → Hand
both v w = hand (v.parts + w.parts) (v.drawn ++ w.drawn) (v.seen ++ w.seen) (v.stopped ++ w.stopped)

abbrev pub nobody : Hand
nobody = hand 0 [] [] []
