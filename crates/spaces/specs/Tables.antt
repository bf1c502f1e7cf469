-- Names with what they name.
use Rattle.std.specs.Prelude.{ℕ, Bool, List, [], ◌∷◌, Option, nat_eq}
use Rattle.std.specs.Cmp.Lexicographic.{pointwise}
use Rattle.std.specs.Map.{lookup, set_value}

-- names with what they name, in the order in which they were declared
abbrev pub Table : Type 0 → Type 0
Table A = List (List ℕ × A)

abbrev pub is : List ℕ → List ℕ → Bool
is name = pointwise nat_eq name

-- what has the name
abbrev pub find : {A : Type 0} → Table A → List ℕ → Option A
find table name = lookup (is name) table

-- what has these names has these values in turn, as far as there are names and values
abbrev pub with_values : {A : Type 0} → Table A → List (List ℕ) → List A → Table A
with_values table names [] = table
with_values table [] (value ∷ values) = table
with_values table (name ∷ names) (value ∷ values) = with_values (set_value (is name) table value) names values
