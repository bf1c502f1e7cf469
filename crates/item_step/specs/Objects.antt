-- The local objects of a launch, as a program lists them (own, on OpenCL 1.2, 6.5.2).
use Rattle.std.specs.Prelude.{◌≡◌, ℕ, ◌-◌, ◌^◌, Bool, nat_lt, Option, None, Some, List, [], ◌∷◌, map, min}
use Rattle.std.specs.List.{sum_by}
use Rattle.clmodel.specs.Setup.{LocalObject}
use Rattle.item_step.specs.declared.local_objects.LocalObjects.{LocalObjects}

-- these are the objects, in their order
pub record Lists (objects : List LocalObject) (listed : LocalObjects) : Type 0 where
  pub names : listed.names.items ≡ map (λ o. o.name) objects
  pub sizes : listed.sizes.items ≡ map (λ o. o.size) objects

-- the bytes of all: the plain sum
abbrev pub all_sizes : List LocalObject → ℕ
all_sizes objects = sum_by (λ o. o.size) objects

-- the most bytes of local memory that any device gives a group (4.2; the number is this project's own)
abbrev pub most_local_bytes : ℕ
most_local_bytes = 65536

-- they are more bytes than a device with this limit gives a group
abbrev pub are_too_large : ℕ → List LocalObject → Bool
are_too_large limit objects = nat_lt limit (all_sizes objects)

-- an object's size as far as a number of 64 bits goes
abbrev pub capped : LocalObject → LocalObject
capped o = record { name = o.name; size = min o.size (2 ^ 64 - 1) }

-- an object by its name's number and its size, if there is one
abbrev pub listed : Option (ℕ × ℕ) → List LocalObject
listed None = []
listed (Some object) = record { name = object.0; size = object.1 } ∷ []
