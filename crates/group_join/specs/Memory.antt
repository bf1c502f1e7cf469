-- Buffers that hold a memory (OpenCL 1.2, 5.2.1).
use Rattle.std.specs.Prelude.{◌≡◌, ℕ, ◌<◌, List, length, slice_get}
use Rattle.clmodel.specs.Launch.{Launch}
use Rattle.clmodel.specs.Run.{Memory}
use Rattle.clmodel.specs.declared.access.Region.TheVariants as region
use Rattle.group_join.specs.Changes.{buffer_at}

-- buffers hold a memory, each as long as the launch's (5.2.1)
pub record HoldsBytes (launch : Launch) (memory : Memory) (contents : List (List ℕ)) : Type 0 where
  pub many : length contents ≡ length launch.buffers
  pub sized : (number : ℕ) → length (buffer_at contents number) ≡ length (buffer_at launch.buffers number)
  pub bytes : (number byte : ℕ) → byte < length (buffer_at launch.buffers number) → slice_get (buffer_at contents number) byte ≡ memory (region.Buffer number) byte
