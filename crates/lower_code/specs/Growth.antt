-- What is left of code and of a scope that were lent where memory is refused (own).
use Rattle.std.specs.Prelude.{◌≡◌, ◌++◌, List}
use Rattle.clmodel.specs.Next.{Variables}
use Rattle.regcode.specs.declared.instruction.Instruction.{Instruction}
use Rattle.lower_expr.specs.Scope.{Scope}

-- code that is written from its end ends with what was there
pub record GrowsBefore (old new : List Instruction) : Type 0 where
  pub added : List Instruction
  pub is : new ≡ added ++ old

-- the variables that were in scope, and maybe more inside
pub record KeepsOuter (old new : Scope) : Type 0 where
  pub added : Variables
  pub is : new ≡ record old { variables = added ++ old.variables }
