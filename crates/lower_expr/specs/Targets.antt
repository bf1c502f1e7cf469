-- The register code of targets of assignments (own).
use Rattle.std.specs.Prelude.{ℕ, ◌+◌, Option, None, Some, List, [], ◌∷◌, if◌then◌else◌}
use Rattle.clnum.specs.declared.operators.BinaryOperator.{BinaryOperator}
use Rattle.clmodel.specs.Next.{is_private_array, base_type, infix_type}
use Rattle.clmodel.specs.Tree.{Target, TargetVariable, TargetElement, TargetDereference}
use Rattle.clmodel.specs.declared.tree.InfixOperator.TheVariants.{Arithmetic}
use Rattle.clmodel.specs.declared.tree.VariableType.{VariableType}
use Rattle.clmodel.specs.declared.tree.VariableType.TheVariants.{Integer}
use Rattle.regcode.specs.declared.instruction.Instruction.{Instruction}
use Rattle.regcode.specs.declared.instruction.Instruction.TheVariants as instruction
use Rattle.lower_expr.specs.Scope.{Scope, register_at, register_of}
use Rattle.lower_expr.specs.Expressions.{kind_of, kind_named, type_of_elements, private_load, private_store, variable_code, target_kind, target_register}
use Rattle.lower_expr.specs.declared.destinations.Destination.{Destination}

-- a variable is given a register's value; where there is none of the name, the value is only asked for
abbrev pub set_variable_code : Option ℕ → ℕ → VariableType → List Instruction
set_variable_code None from kind = instruction.AssignConversion from from kind ∷ []
set_variable_code (Some to) from kind = instruction.AssignConversion to from kind ∷ []

-- the type of the target
abbrev pub type_of_target : Scope → Target → VariableType
type_of_target scope (TargetVariable at name) = kind_named scope name
type_of_target scope (TargetElement at name index) = Integer (type_of_elements scope name)
type_of_target scope (TargetDereference at pointer) = Integer (base_type (kind_of scope pointer))

-- The value that is there, by the register of its index in a private array or of the pointer to it.
abbrev pub fetch_code : Scope → Target → ℕ → ℕ → List Instruction
fetch_code scope (TargetVariable at name) reached to = variable_code to (register_of scope name) name
fetch_code scope (TargetElement at name index) reached to =
    if is_private_array scope.variables name then private_load scope to name reached ∷ [] else instruction.Load to reached ∷ []
fetch_code scope (TargetDereference at term) reached to = instruction.Load to reached ∷ []

-- a register's value is put there
abbrev pub put_code : Scope → Target → ℕ → ℕ → List Instruction
put_code scope (TargetVariable at name) reached from = set_variable_code (register_of scope name) from (kind_named scope name)
put_code scope (TargetElement at name index) reached from =
    if is_private_array scope.variables name then private_store scope name reached from ∷ [] else instruction.Store reached from ∷ []
put_code scope (TargetDereference at term) reached from = instruction.Store reached from ∷ []

-- an operator on what is there and on a right operand, both of which are at hand, and its value is put there
abbrev pub combine_code : Scope → Target → ℕ → BinaryOperator → VariableType → ℕ → ℕ → List Instruction
combine_code scope target level operator kind old right =
    let to = register_at (level + 1) (infix_type (Arithmetic operator) (type_of_target scope target) kind) in
    instruction.Binary to operator old right ∷ put_code scope target (target_register scope level target) to

-- the name of a target's variable, 0 where it has none
abbrev pub target_name : Target → ℕ
target_name (TargetVariable at name) = name
target_name (TargetElement at name index) = name
target_name (TargetDereference at pointer) = 0

-- a target, by that name and by what its code leaves
abbrev pub destination_of : Scope → Target → Destination
destination_of scope to = record { name = target_name to; kind = target_kind scope to }
