-- Names that a table doesn't have.
use Rattle.std.proofs.Common.{◌≡◌, ℕ, Bool, true, false, cond, nat_eq, List, [], ◌∷◌, ◌++◌, None, Some, refl, ap}
use Rattle.std.specs.Map.{set_value}
use Rattle.indexmap.specs.IndexMap.{insert_entry}
use Rattle.std.specs.Cmp.Lexicographic.{pointwise}
use Rattle.spaces.specs.Tables.{is, find}

-- a name that isn't there goes last
pub added : {A : Type 0} (es : List (List ℕ × A)) (name : List ℕ) (a : A) → find es name ≡ None → insert_entry (pointwise nat_eq) es name a ≡ es ++ (name, a) ∷ []
added [] name a none = refl
added {A} (e ∷ es) name a none = by (is name e.0) (added es name a) none
  where
    by : (b : Bool) → (find es name ≡ None → insert_entry (pointwise nat_eq) es name a ≡ es ++ (name, a) ∷ []) → cond b (Some e.1) (find es name) ≡ None
        → cond b ((e.0, a) ∷ es) (e ∷ insert_entry (pointwise nat_eq) es name a) ≡ e ∷ (es ++ (name, a) ∷ [])
    by true rest h = cc
    by false rest h = ap (λ l. e ∷ l) (rest h)

-- and no value takes its place
pub unreplaced : {A : Type 0} (es : List (List ℕ × A)) (name : List ℕ) (a : A) → find es name ≡ None → set_value (is name) es a ≡ es
unreplaced [] name a none = refl
unreplaced {A} (e ∷ es) name a none = by (is name e.0) (unreplaced es name a) none
  where
    by : (b : Bool) → (find es name ≡ None → set_value (is name) es a ≡ es) → cond b (Some e.1) (find es name) ≡ None
        → cond b ((e.0, a) ∷ es) (e ∷ set_value (is name) es a) ≡ e ∷ es
    by true rest h = cc
    by false rest h = ap (λ l. e ∷ l) (rest h)
