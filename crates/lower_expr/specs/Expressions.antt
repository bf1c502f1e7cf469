-- The register code of an expression, of arguments and of targets (own). The value of an expression at a level is left
-- in that level's register of its type, and the registers of lower levels stay as they are. A constant expression is
-- its value. An expression of a wrong type ends the item where its evaluation does.
use Rattle.std.specs.Prelude.{ℕ, ◌+◌, true, false, if◌then◌else◌, Option, None, Some, List, [], ◌∷◌, ◌++◌, length}
use Rattle.clnum.specs.Integer as integers
use Rattle.clnum.specs.Operations.{truth}
use Rattle.clnum.specs.declared.int_type.IntType.{IntType}
use Rattle.clmodel.specs.BuiltIns.{built_in}
use Rattle.clmodel.specs.Next.{type_of, declared_type, base_type, is_private_array, is_update}
use Rattle.clmodel.specs.Tree.{Term, Number, Variable, Element, ElementAddress, Dereference, Call, Unary, Cast, Binary, Choice, Terms, NoTerm, ThenTerm, Target, TargetVariable, TargetElement, TargetDereference}
use Rattle.clmodel.specs.declared.setup.AtomicFunction.{AtomicFunction}
use Rattle.clmodel.specs.declared.setup.BuiltIn.{BuiltIn}
use Rattle.clmodel.specs.declared.setup.BuiltIn.TheVariants as built_in_function
use Rattle.clmodel.specs.declared.tree.InfixOperator.{InfixOperator}
use Rattle.clmodel.specs.declared.tree.InfixOperator.TheVariants.{Arithmetic, LogicalAnd, LogicalOr}
use Rattle.clmodel.specs.declared.tree.VariableType.{VariableType}
use Rattle.clmodel.specs.declared.tree.VariableType.TheVariants.{Integer}
use Rattle.folding.specs.Constants.{constant_of}
use Rattle.regcode.specs.declared.instruction.FetchOperands.TheVariants as operands
use Rattle.regcode.specs.declared.instruction.Instruction.{Instruction}
use Rattle.regcode.specs.declared.instruction.Instruction.TheVariants as instruction
use Rattle.lower_expr.specs.Scope.{Scope, register_at, register_of, level_of}
use Rattle.lower_expr.specs.declared.emission.TargetKind.{TargetKind}
use Rattle.lower_expr.specs.declared.emission.TargetKind.TheVariants as target

abbrev pub kind_of : Scope → Term → VariableType
kind_of scope e = type_of scope.variables e

abbrev pub kind_named : Scope → ℕ → VariableType
kind_named scope name = declared_type scope.variables name

-- where an expression's value is left at a level
abbrev pub register_for : Scope → ℕ → Term → ℕ
register_for scope level e = register_at level (kind_of scope e)

-- a variable's value: one that is not in scope is unset
abbrev pub variable_code : ℕ → Option ℕ → ℕ → List Instruction
variable_code to None name = instruction.Unset to ∷ instruction.Move to to name ∷ []
variable_code to (Some from) name = instruction.Move to from name ∷ []

-- a pointer variable's value, moved by an index
abbrev pub element_code : ℕ → Option ℕ → ℕ → List Instruction → ℕ → List Instruction
element_code to from name index index_register = variable_code to from name ++ (index ++ instruction.Offset to to index_register ∷ [])

-- the type of the elements of the array of a name
abbrev pub type_of_elements : Scope → ℕ → IntType
type_of_elements scope name = base_type (kind_named scope name)

-- an element of the private array of a name, by its index
abbrev pub private_load : Scope → (to name index : ℕ) → Instruction
private_load scope to name index = instruction.PrivateLoad to (level_of scope name) index (type_of_elements scope name) name

-- such an element is set
abbrev pub private_store : Scope → (name index value : ℕ) → Instruction
private_store scope name index value = instruction.PrivateStore (level_of scope name) index value (type_of_elements scope name) name

-- the int 1, or the int 0 where it is jumped to the last of these
abbrev pub truth_code : ℕ → List Instruction
truth_code to = instruction.Constant to (truth true) ∷ instruction.Jump 1 ∷ instruction.Constant to (truth false) ∷ []

-- what follows the left operand: the right one only where the left one does not settle the value
abbrev pub infix_code : InfixOperator → ℕ → ℕ → ℕ → List Instruction → List Instruction
infix_code (Arithmetic operator) to first second right = right ++ instruction.Binary to operator first second ∷ []
infix_code LogicalAnd to first second right = instruction.JumpIfZero first (length right + 3) ∷ (right ++ instruction.JumpIfZero second 2 ∷ truth_code to)
infix_code LogicalOr to first second right =
    instruction.JumpIfZero first 1 ∷ instruction.Jump (length right + 1) ∷ (right ++ instruction.JumpIfZero second 2 ∷ truth_code to)

-- a branch of a choice, with its value in the common type of it and of the other branch
abbrev pub branch_code : ℕ → List Instruction → ℕ → VariableType → List Instruction
branch_code to branch from other = branch ++ instruction.UsualConversion to from (base_type other) ∷ []

-- what follows the condition of a choice
abbrev pub choice_code : ℕ → List Instruction → List Instruction → List Instruction
choice_code condition chosen otherwise =
    instruction.JumpIfZero condition (length chosen + 1) ∷ (chosen ++ instruction.Jump (length otherwise) ∷ otherwise)

-- a built-in function on what these registers hold
abbrev pub call_code : Option BuiltIn → ℕ → List ℕ → List Instruction
call_code (Some built_in_function.WorkDim) to [] = instruction.Dimensions to ∷ []
call_code (Some (built_in_function.WorkItem function)) to (a ∷ []) = instruction.Query to function a ∷ []
call_code (Some (built_in_function.Integer function)) to (a ∷ []) = instruction.Builtin to function a None ∷ []
call_code (Some (built_in_function.Integer function)) to (a ∷ b ∷ []) = instruction.Builtin to function a (Some b) ∷ []
call_code (Some (built_in_function.Atomic function)) to (p ∷ []) = instruction.Fetch to function p operands.Alone ∷ []
call_code (Some (built_in_function.Atomic function)) to (p ∷ v ∷ []) = instruction.Fetch to function p (operands.Number v) ∷ []
call_code (Some (built_in_function.Atomic function)) to (p ∷ c ∷ v ∷ []) = instruction.Fetch to function p (operands.Pair c v) ∷ []
call_code _ to registers = instruction.End ∷ []

-- an atomic update
abbrev pub update_code : AtomicFunction → List ℕ → List Instruction
update_code function (p ∷ []) = instruction.Update function p None ∷ []
update_code function (p ∷ v ∷ []) = instruction.Update function p (Some v) ∷ []
update_code function registers = instruction.End ∷ []

-- the same as a whole statement, whose value isn't used: atomic functions but exchange and compare-exchange are updates
abbrev pub call_only_code : Option BuiltIn → ℕ → List ℕ → List Instruction
call_only_code (Some (built_in_function.Atomic function)) to registers =
    if is_update function then update_code function registers else call_code (Some (built_in_function.Atomic function)) to registers
call_only_code function to registers = call_code function to registers

abbrev pub count : Terms → ℕ
count NoTerm = 0
count (ThenTerm terms term) = count terms + 1

-- where the values of arguments are left, each a level above the one before
abbrev pub registers_for : Scope → ℕ → Terms → List ℕ
registers_for scope level NoTerm = []
registers_for scope level (ThenTerm terms term) = registers_for scope level terms ++ register_for scope (level + count terms) term ∷ []

-- a constant expression is one instruction, whatever code its form has
abbrev pub folded : Option integers.Integer → ℕ → List Instruction → List Instruction
folded (Some value) level code = instruction.Constant (register_at level (Integer value.kind)) value ∷ []
folded None level code = code

abbrev mutual
  pub expr_code : Scope → ℕ → Term → List Instruction
  expr_code scope level (Number at value) = instruction.Constant (register_at level (Integer value.kind)) value ∷ []
  expr_code scope level (Variable at name) = variable_code (register_at level (kind_named scope name)) (register_of scope name) name
  expr_code scope level (Element at name index) =
      if is_private_array scope.variables name
      then expr_code scope level index ++ private_load scope (register_at level (Integer (type_of_elements scope name))) name (register_for scope level index) ∷ []
      else element_code (register_at level (kind_named scope name)) (register_of scope name) name (expr_code scope (level + 1) index) (register_for scope (level + 1) index)
      ++ instruction.Load (register_at level (Integer (type_of_elements scope name))) (register_at level (kind_named scope name)) ∷ []
  expr_code scope level (ElementAddress at name_at name index) =
      element_code (register_at level (kind_named scope name)) (register_of scope name) name (expr_code scope (level + 1) index) (register_for scope (level + 1) index)
  expr_code scope level (Dereference at pointer) =
      expr_code scope level pointer ++ instruction.Load (register_for scope level (Dereference at pointer)) (register_for scope level pointer) ∷ []
  expr_code scope level (Call at name arguments) =
      folded (constant_of scope.variables (Call at name arguments)) level
      (terms_code scope level arguments ++ call_code (built_in name) (register_for scope level (Call at name arguments)) (registers_for scope level arguments))
  expr_code scope level (Unary at operator operand) =
      folded (constant_of scope.variables (Unary at operator operand)) level
      (expr_code scope level operand ++ instruction.Unary (register_for scope level (Unary at operator operand)) operator (register_for scope level operand) ∷ [])
  expr_code scope level (Cast at target operand) =
      folded (constant_of scope.variables (Cast at target operand)) level
      (expr_code scope level operand ++ instruction.Convert (register_at level (Integer target)) (register_for scope level operand) target ∷ [])
  expr_code scope level (Binary at operator left right) =
      folded (constant_of scope.variables (Binary at operator left right)) level
      (expr_code scope level left
      ++ infix_code operator (register_for scope level (Binary at operator left right)) (register_for scope level left) (register_for scope (level + 1) right) (expr_code scope (level + 1) right))
  expr_code scope level (Choice at condition chosen otherwise) =
      folded (constant_of scope.variables (Choice at condition chosen otherwise)) level
      (expr_code scope level condition
      ++ choice_code (register_for scope level condition)
      (branch_code (register_for scope level (Choice at condition chosen otherwise)) (expr_code scope level chosen) (register_for scope level chosen) (kind_of scope otherwise))
      (branch_code (register_for scope level (Choice at condition chosen otherwise)) (expr_code scope level otherwise) (register_for scope level otherwise) (kind_of scope chosen)))

  pub terms_code : Scope → ℕ → Terms → List Instruction
  terms_code scope level NoTerm = []
  terms_code scope level (ThenTerm terms term) = terms_code scope level terms ++ expr_code scope (level + count terms) term

-- a pointer variable's value, moved by an index
abbrev pub address_code : Scope → ℕ → ℕ → Term → List Instruction
address_code scope level name index =
    element_code (register_at level (kind_named scope name)) (register_of scope name) name (expr_code scope (level + 1) index) (register_for scope (level + 1) index)

-- The index of a target, or the pointer to it, where it is no variable as a whole.
abbrev pub target_code : Scope → ℕ → Target → List Instruction
target_code scope level (TargetVariable at name) = []
target_code scope level (TargetElement at name index) =
    if is_private_array scope.variables name then expr_code scope level index else address_code scope level name index
target_code scope level (TargetDereference at pointer) = expr_code scope level pointer ++ instruction.MovePointer (register_for scope level pointer) (register_for scope level pointer) ∷ []

-- which of them it is, and its type
abbrev pub target_kind : Scope → Target → TargetKind
target_kind scope (TargetVariable at name) = target.Variable
target_kind scope (TargetElement at name index) = if is_private_array scope.variables name then target.Index (kind_of scope index) else target.Pointer (kind_named scope name)
target_kind scope (TargetDereference at pointer) = target.Pointer (kind_of scope pointer)

-- where it is left
abbrev pub target_register : Scope → ℕ → Target → ℕ
target_register scope level (TargetVariable at name) = 0
target_register scope level (TargetElement at name index) =
    if is_private_array scope.variables name then register_for scope level index else register_at level (kind_named scope name)
target_register scope level (TargetDereference at pointer) = register_for scope level pointer

-- what stands before the right operand, with its jump still to be set
abbrev pub infix_begun : InfixOperator → ℕ → List Instruction
infix_begun (Arithmetic operator) first = []
infix_begun LogicalAnd first = instruction.JumpIfZero first 0 ∷ []
infix_begun LogicalOr first = instruction.JumpIfZero first 1 ∷ instruction.Jump 0 ∷ []
