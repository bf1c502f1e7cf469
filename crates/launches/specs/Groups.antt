-- Launches of whole work-groups that a program can run (OpenCL 1.2, 3.2, 5.8).
use Rattle.std.specs.Prelude.{◌≡◌, ℕ, ◌<◌, ◌%◌, ◌^◌, Option, Some, List, map}
use Rattle.clmodel.specs.Launch.{Launch}
use Rattle.clmodel.specs.Law.{IsBounded}
use Rattle.clmodel.specs.Next.{launch_of}
use Rattle.clmodel.specs.Setup.{Setup, item_count, group_items}

-- a setup of whole work-groups, of items whose numbers have 32 bits, as has the budget of each (own; 5.8 asks for whole
-- groups in each dimension)
pub record HasGroups (setup : Setup) : Type 0 where
  pub whole : item_count setup.range % group_items setup.range ≡ 0
  pub numbered : item_count setup.range < 2 ^ 32
  pub short : setup.budget < 2 ^ 32

-- A launch whose groups a program can run: whole groups (5.8), and numbers of 32 bits for the items and for the answers
-- to an item.
pub record IsRunnable (launch : Launch) : Type 0 where
  pub grouped : 0 < launch.group_size
  pub whole : launch.items % launch.group_size ≡ 0
  pub numbered : launch.items < 2 ^ 32
  pub bounded : (bound : ℕ) × (bound < 2 ^ 32) × IsBounded launch bound

-- a setup whose groups have items and are whole and few is runnable on any buffers (own, on 5.8)
abbrev pub SetupsAreRunnable : Type 0
SetupsAreRunnable = (setup : Setup) (bytes : List ℕ → List ℕ) → 0 < group_items setup.range → HasGroups setup → IsRunnable (launch_of setup bytes)

-- what the buffers hold at the start, all of it set (5.2.1)
abbrev pub filled : Launch → List (List (Option ℕ))
filled launch = map (λ bytes. map Some bytes) launch.buffers
