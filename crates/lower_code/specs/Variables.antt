-- The variables that declarations and parameters add to a scope, and the register code that gives them what they begin
-- with (own).
use Rattle.std.specs.Prelude.{ℕ, ◌+◌, max, Bool, true, false, None, List, [], ◌∷◌}
use Rattle.clnum.specs.declared.int_type.IntType.{IntType}
use Rattle.clmodel.specs.Next as next
use Rattle.clmodel.specs.Next.{Binding, Variables, private_array}
use Rattle.clmodel.specs.Tree.{Stmt, Block, Declare, DeclareAs, DeclareArray, If, IfElse, While, DoWhile, For, Stmts, NoStmt, ThenStmt, MaybeStmt, Without, With, array_length}
use Rattle.clmodel.specs.declared.tree.AddressSpace.TheVariants.{Local}
use Rattle.clmodel.specs.declared.tree.VariableType.{VariableType}
use Rattle.clmodel.specs.declared.tree.VariableType.TheVariants.{Integer, Pointer}
use Rattle.clmodel.specs.declared.tree.Parameter.{Parameter}
use Rattle.regcode.specs.declared.instruction.Instruction.{Instruction}
use Rattle.regcode.specs.declared.instruction.Instruction.TheVariants as instruction
use Rattle.lower_expr.specs.Scope.{Scope, register_at}

-- a variable of a scope
abbrev pub variable : ℕ → VariableType → Binding
variable name kind = next.variable name kind None

-- the type of the variable that points to a local array
abbrev pub local_pointer : IntType → VariableType
local_pointer element = Pointer (record { space = Local; is_const = false; element = element })

-- an array of a scope, of n elements
abbrev pub array_variable : (is_local : Bool) → IntType → (count : ℕ) → ℕ → Binding
array_variable true element count name = variable name (local_pointer element)
array_variable false element count name = private_array element count name

abbrev pub with_variable : Scope → ℕ → VariableType → Scope
with_variable scope name kind = record scope { variables = variable name kind ∷ scope.variables }

-- The variables behind a statement: a declaration adds one.
abbrev pub variables_after : Variables → Stmt → Variables
variables_after variables (Declare at kind name_at name) = variable name kind ∷ variables
variables_after variables (DeclareAs at kind name_at name value) = variable name kind ∷ variables
variables_after variables (DeclareArray at is_local element name_at name length_at count) = array_variable is_local element (array_length count) name ∷ variables
variables_after variables _ = variables

abbrev pub variables_after_part : Variables → MaybeStmt → Variables
variables_after_part variables Without = variables
variables_after_part variables (With statement) = variables_after variables statement

abbrev pub variables_after_all : Variables → Stmts → Variables
variables_after_all variables NoStmt = variables
variables_after_all variables (ThenStmt statements statement) = variables_after (variables_after_all variables statements) statement

abbrev pub scope_after : Scope → Stmt → Scope
scope_after scope statement = record scope { variables = variables_after scope.variables statement }

abbrev pub scope_after_part : Scope → MaybeStmt → Scope
scope_after_part scope part = record scope { variables = variables_after_part scope.variables part }

abbrev pub scope_after_all : Scope → Stmts → Scope
scope_after_all scope statements = record scope { variables = variables_after_all scope.variables statements }

-- how many elements the largest array has that is declared in a statement, or 0
abbrev mutual
  pub elements : Stmt → ℕ
  elements (Block at body) = row_elements body
  elements (DeclareArray at is_local element name_at name length_at count) = array_length count
  elements (If at test chosen) = elements chosen
  elements (IfElse at test chosen otherwise) = max (elements chosen) (elements otherwise)
  elements (While at test body) = elements body
  elements (DoWhile at body test) = elements body
  elements (For at first test third body) = max (part_elements first) (max (part_elements third) (elements body))
  elements _ = 0

  pub part_elements : MaybeStmt → ℕ
  part_elements Without = 0
  part_elements (With statement) = elements statement

  pub row_elements : Stmts → ℕ
  row_elements NoStmt = 0
  row_elements (ThenStmt statements statement) = max (row_elements statements) (elements statement)

-- The declaration of an array at a level, behind n variables: a pointer to its object in local memory, which has their
-- number, or the elements, none of which is set, of the private array of the level.
abbrev pub array_code : (is_local : Bool) → IntType → (count number level : ℕ) → List Instruction
array_code true element count number level = instruction.Local (register_at level (local_pointer element)) number element ∷ []
array_code false element count number level = instruction.Unset (register_at level (Integer element)) ∷ instruction.UnsetArray level count ∷ []

-- the parameters of a function, the last innermost
abbrev pub parameter_variables : List Parameter → Variables → Variables
parameter_variables [] variables = variables
parameter_variables (p ∷ ps) variables = parameter_variables ps (variable p.name p.kind ∷ variables)

-- the parameters from a level on are given the arguments of a call
abbrev pub pass_code : List Parameter → List ℕ → ℕ → List Instruction
pass_code [] arguments level = []
pass_code (p ∷ ps) [] level = instruction.Unset (register_at level p.kind) ∷ pass_code ps [] (level + 1)
pass_code (p ∷ ps) (argument ∷ arguments) level = instruction.AssignConversion (register_at level p.kind) argument p.kind ∷ pass_code ps arguments (level + 1)

-- the parameters from a level on are given the arguments of the launch
abbrev pub arguments_code : List Parameter → ℕ → List Instruction
arguments_code [] level = []
arguments_code (p ∷ ps) level = instruction.Argument (register_at level p.kind) level p.kind ∷ arguments_code ps (level + 1)
