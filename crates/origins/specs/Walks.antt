-- Walks over code, which count down to a wanted instruction (own).
use Rattle.std.specs.Prelude.{◌≡◌, ℕ, ◌+◌, ◌-◌, ◌^◌, ◌≤◌, Some, List, length, Result, Ok, Err, slice_get}
use Rattle.origins.specs.Origins.{Origin, itself, entered, node_of}
use Rattle.origins.specs.declared.node.WalkEnd.{WalkEnd}
use Rattle.origins.specs.declared.node.WalkEnd.TheVariants as halt

-- so many instructions that lengths of 64 bits can't tell them from more
abbrev pub huge : ℕ
huge = 2 ^ 64 - 1

-- The wanted instruction has so many before it. A walk passes all of the code, and says how many are left to pass
-- behind it; or it stops there: the node is named whose instruction it is, or the place of a helper, by whose code it
-- goes on. It is lost only in code that is huge.
abbrev pub WalksTo : (ℕ → List Origin) → List Origin → ℕ → Result ℕ WalkEnd → Type 0
WalksTo inside origins count (Ok left) = length origins + left ≡ count
WalksTo inside origins count (Err (halt.Found node)) = slice_get origins count ≡ Some (itself (node_of node))
WalksTo inside origins count (Err (halt.Inside e)) =
    (o : Origin) × (slice_get (inside e.place) e.left ≡ Some o) × (slice_get origins count ≡ Some (entered e.call o)) × (length (inside e.place) ≤ length origins)
WalksTo inside origins count (Err halt.Lost) = huge ≤ length origins
WalksTo inside origins count (Err halt.OutOfMemory) = Unit {0}

pub record Walks (inside : ℕ → List Origin) (origins : List Origin) (count : ℕ) (result : Result ℕ WalkEnd) : Type 0 where
  pub leads : WalksTo inside origins count result
