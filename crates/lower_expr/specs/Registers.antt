-- The registers of values (own).
use Rattle.std.specs.Prelude.{ℕ, List, map}
use Rattle.lower_expr.specs.declared.scope.RegisterNumber.{RegisterNumber}

-- their numbers
abbrev pub numbers : List RegisterNumber → List ℕ
numbers registers = map (λ (register : RegisterNumber). register.0) registers
