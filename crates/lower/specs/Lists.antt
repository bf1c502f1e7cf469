-- The code of a program's kernel with its tables (own).
use Rattle.std.specs.Prelude.{◌≡◌, ℕ, List, Some, map}
use Rattle.clmodel.specs.Setup.{kernel_in, functions_before}
use Rattle.clmodel.specs.Tree.{Func, Funcs}
use Rattle.clmodel.specs.declared.tree.VariableType.{VariableType}
use Rattle.regcode.specs.Listing.{Listing}
use Rattle.lower_code.specs.Code.{kernel_code}
use Rattle.code_tables.specs.Tables.{tabled}

-- the types of a function's parameters
abbrev pub parameter_types : Func → List VariableType
parameter_types f = map (λ p. p.kind) f.parameters

-- the code of the kernel of a name's number, with the tables that are made from it
pub record Lists (functions : Funcs) (number : ℕ) (code : Listing) : Type 0 where
  pub function : Func
  pub there : kernel_in functions number ≡ Some function
  pub same : code ≡ tabled (kernel_code (functions_before functions number) function) (parameter_types function)
