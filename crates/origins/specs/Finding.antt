-- What is found of the instruction at a place (own).
use Rattle.std.specs.Prelude.{◌≡◌, ◌≤◌, ◌⊎◌, ℕ, Option, None, Some, List, length, slice_get}
use Rattle.clmodel.specs.Setup.{kernel_in, functions_before}
use Rattle.clmodel.specs.Tree.{Func, Funcs}
use Rattle.clmodel.specs.declared.tree.Function.{Function}
use Rattle.origins.specs.Origins as spec
use Rattle.origins.specs.Origins.{entered, node_of, origins_at, kernel_origins}
use Rattle.origins.specs.Walks.{huge}
use Rattle.origins.specs.declared.node.Entered.{Entered}
use Rattle.origins.specs.declared.origin.Origin.{Origin}

abbrev pub plain : Origin → spec.Origin
plain o = record { node = node_of o.node; through = o.through.items }

-- there is an instruction at a place
abbrev pub HasOrigin : List spec.Origin → ℕ → Type 0
HasOrigin origins place = (o : spec.Origin) × (slice_get origins place ≡ Some o)

-- its origin; or none, where there is no such instruction or the code is huge
abbrev pub IsFound : List spec.Origin → ℕ → Option Origin → Type 0
IsFound origins place (Some o) = slice_get origins place ≡ Some (plain o)
IsFound origins place None = (length origins ≤ place) ⊎ (huge ≤ length origins)

-- that of an instruction in the body of a helper that is called; or none, where that body is huge
abbrev pub IsFoundInside : List Function → Entered → Option Origin → Type 0
IsFoundInside functions e (Some found) = (o : spec.Origin) × (slice_get (origins_at functions e.place) e.left ≡ Some o) × (plain found ≡ entered e.call o)
IsFoundInside functions e None = huge ≤ length (origins_at functions e.place)

-- that of an instruction of the kernel of a name
abbrev pub IsOriginIn : Funcs → ℕ → ℕ → Option Origin → Type 0
IsOriginIn functions name place found = (f : Func) → kernel_in functions name ≡ Some f → IsFound (kernel_origins (functions_before functions name) f) place found
