-- Code that is only longer than it was (own).
use Rattle.std.specs.Prelude.{◌≡◌, ◌++◌, List}
use Rattle.regcode.specs.declared.instruction.Instruction.{Instruction}

-- the code begins with what was there
pub record IsLonger (old new : List Instruction) : Type 0 where
  pub added : List Instruction
  pub is : new ≡ old ++ added
