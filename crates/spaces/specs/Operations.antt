-- Operations of work-items, done on a space (OpenCL 1.2, 3.3, 6.12.11; own in the faults).
use Rattle.std.specs.Prelude.{◌≡◌, ℕ, ◌+◌, ◌<◌, ◌≤◌, Bool, true, Option, Some, List, length, Result, Ok, Err}
use Rattle.clmodel.specs.Cells.{cells_of, size_of, reads, found, answer_to, effect, lowest_unset}
use Rattle.clmodel.specs.declared.access.Operation.{Operation}
use Rattle.clmodel.specs.declared.access.Operation.TheVariants as operation
use Rattle.clmodel.specs.declared.action.Answer.{Answer}
use Rattle.spaces.specs.declared.space.SpaceFault.{SpaceFault}
use Rattle.spaces.specs.declared.space.SpaceFault.TheVariants as space_fault

-- what an operation answers and leaves of a space: it is done whole, or nothing is changed and this is why
abbrev pub IsPerformed : Bool → List (Option ℕ) → ℕ → Operation → List (Option ℕ) → Result Answer SpaceFault → Type 0
IsPerformed may_want old first operation new (Ok answer) =
    (x : ℕ) × (found operation (cells_of old) first ≡ Some x) × (answer ≡ answer_to operation x) × (length new ≡ length old)
    × (cells_of new ≡ effect operation x (cells_of old) first)
IsPerformed may_want old first operation new (Err space_fault.Bounds) = (length old < first + size_of operation) × (new ≡ old)
IsPerformed may_want old first operation new (Err (space_fault.Unset byte)) =
    (reads operation ≡ true) × (lowest_unset (cells_of old) first (size_of operation) ≡ Some byte) × (new ≡ old) × (first + size_of operation ≤ length old)
IsPerformed may_want old first operation new (Err space_fault.ReadOnly) = ⊥
IsPerformed may_want old first (operation.Load width) new (Err space_fault.OutOfMemory) = ⊥
IsPerformed may_want old first operation new (Err space_fault.OutOfMemory) = (may_want ≡ true) × (new ≡ old) × (first + size_of operation ≤ length old)
