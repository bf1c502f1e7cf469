-- What a reader gives.
use Rattle.std.specs.Prelude.{◌≡◌, ℕ, Option, None, Some, List, ⊤, Result, Ok, Err}
use Rattle.byte_io.specs.Sink.{CountsUp}
use Rattle.byte_io.specs.declared.counted.ReadFault.{ReadFault}
use Rattle.byte_io.specs.declared.counted.ReadFault.TheVariants as fault

-- the known bytes are these
abbrev pub Are : Option (List ℕ) → List ℕ → Type 0
Are None bytes = ⊤
Are (Some xs) bytes = bytes ≡ xs

-- all that is left, or a failure that is counted, or out of memory
abbrev pub ReadsAll : {A : Type 0} → (A → List ℕ) → Option (List ℕ) → ℕ → Result A ReadFault → ℕ → Type 0
ReadsAll items rest failures (Ok v) failures' = Are rest (items v) × (failures' ≡ failures)
ReadsAll items rest failures (Err fault.Failed) failures' = CountsUp failures failures'
ReadsAll items rest failures (Err fault.OutOfMemory) failures' = failures' ≡ failures
