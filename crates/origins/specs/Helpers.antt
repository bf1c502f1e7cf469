-- The helpers that a function can call (own).
use Rattle.std.specs.Prelude.{◌≡◌, ℕ, ◌≤◌, Option, None, Some, List, length, map, slice_get}
use Rattle.clnum.specs.declared.int_type.IntType.{IntType}
use Rattle.clmodel.specs.declared.tree.Function.{Function}
use Rattle.origins.specs.Origins.{Node, Origin, entered, node_at, times, origins_at}
use Rattle.origins.specs.Walks.{huge}

-- how long code is, or none where it is huge
abbrev pub IsLength : List Origin → Option ℕ → Type 0
IsLength origins (Some n) = n ≡ length origins
IsLength origins None = huge ≤ length origins

-- as many lengths as functions, each that of the helper's code
pub record LengthsKnown (functions : List Function) (lengths : List (Option ℕ)) : Type 0 where
  pub complete : length lengths ≡ length functions
  pub known : (place n : ℕ) → slice_get lengths place ≡ Some (Some n) → n ≡ length (origins_at functions place)
  pub long : (place : ℕ) → slice_get lengths place ≡ Some None → huge ≤ length (origins_at functions place)

-- the instructions of the call of a helper by a node, where the helper of the name has this place, if there is one
abbrev pub found_origins : List Function → Option ℕ → Node → List Origin
found_origins functions None call = times 1 call
found_origins functions (Some place) call = map (entered (node_at call)) (origins_at functions place)

abbrev pub type_there : Option Function → Option IntType
type_there None = None
type_there (Some f) = f.result

-- the type of its value
abbrev pub found_type : List Function → Option ℕ → Option IntType
found_type functions None = None
found_type functions (Some place) = type_there (slice_get functions place)
