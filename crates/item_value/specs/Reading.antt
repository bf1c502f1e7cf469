-- How an operand is read (own).
use Rattle.std.specs.Prelude.{◌≡◌, ℕ, Option, None, Some, Result, Ok, Err, slice_get}
use Rattle.clmodel.specs.Next.{Continuation, finish, known}
use Rattle.register_values.specs.Leading.{RunsOnAs}
use Rattle.register_values.specs.declared.termination.Termination.{Termination}
use Rattle.clmodel.specs.declared.operand.Operand.{Operand}
use Rattle.regcode.specs.Machine.{entry_at, name_of}
use Rattle.item_value.specs.declared.registers.RegisterFile.{RegisterFile}

-- what follows with the value of a register, which must have one
abbrev pub reads : RegisterFile → ℕ → (Operand → Continuation) → Continuation
reads registers number after = known (name_of (slice_get registers.table.now number)) (entry_at None registers.values.now number) after

-- what was read of a register: its value, or why there is none
abbrev pub HasRead : Result (Option Operand) Termination → RegisterFile → ℕ → Type 0
HasRead (Ok kept) registers number = (v : Operand) × (kept ≡ Some v) × ((after : Operand → Continuation) → reads registers number after ≡ after v)
HasRead (Err termination) registers number = (after : Operand → Continuation) → RunsOnAs {A = Unit {0}} (Err termination) (reads registers number after) (λ _. finish)
