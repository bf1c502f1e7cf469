-- The register code of statements, of helper functions in place of their calls, and of kernels (own).
use Rattle.std.specs.Prelude.{ℕ, ◌+◌, ◌==◌, pos, Bool, true, false, Option, None, Some, List, [], ◌∷◌, ◌++◌, length}
use Rattle.clnum.specs.declared.int_type.IntType.{IntType}
use Rattle.clnum.specs.declared.int_type.IntType.TheVariants.{Int}
use Rattle.clnum.specs.declared.operators.BinaryOperator.{BinaryOperator}
use Rattle.clmodel.specs.Barrier.{is_barrier, fences}
use Rattle.clmodel.specs.BuiltIns.{built_in}
use Rattle.clmodel.specs.Next.{argument_type, call_type, step_operator, HelperCall, helper_call, sites, part_sites, all_sites, sites_in}
use Rattle.clmodel.specs.Tree.{Term, Terms, Target, Stmt, Empty, Block, Declare, DeclareAs, DeclareArray, Assign, Step, CallOnly, If, IfElse, While, DoWhile, For, Break, Continue, Return, ReturnValue, Stmts, NoStmt, ThenStmt, MaybeStmt, Without, With, MaybeTerm, WithoutTerm, WithTerm, array_length, Func, Funcs, NoFunc, ThenFunc}
use Rattle.clmodel.specs.declared.tree.VariableType.{VariableType}
use Rattle.clmodel.specs.declared.tree.VariableType.TheVariants.{Integer}
use Rattle.clmodel.specs.declared.action.Fences.{Fences}
use Rattle.clmodel.specs.declared.setup.BuiltIn.{BuiltIn}
use Rattle.regcode.specs.declared.instruction.Instruction.{Instruction}
use Rattle.regcode.specs.declared.instruction.Instruction.TheVariants as instruction
use Rattle.lower_expr.specs.Scope.{Scope, free_level, register_at}
use Rattle.lower_expr.specs.Expressions.{kind_of, register_for, registers_for, expr_code, terms_code, call_only_code, target_code, target_register}
pub use Rattle.lower_expr.specs.Targets.{set_variable_code, type_of_target, fetch_code, put_code, combine_code}
pub use Rattle.lower_code.specs.Variables.{variable, local_pointer, array_variable, with_variable, variables_after, variables_after_part, variables_after_all, scope_after, scope_after_part, scope_after_all, array_code, parameter_variables, pass_code, arguments_code}

-- How far behind the end of a statement's code its other ends are: what follows a loop that is broken, the condition or
-- the third part of one that is continued, and the end of the function.
pub record Exits : Type 0 where
  pub broken : ℕ
  pub continued : ℕ
  pub returned : ℕ

-- the exits from n instructions earlier
abbrev pub past : ℕ → Exits → Exits
past count exits = record { broken = count + exits.broken; continued = count + exits.continued; returned = count + exits.returned }

-- those of a part of a loop, behind which stand n instructions of it: continued, the loop goes on with the first of
-- them
abbrev pub body_exits : ℕ → Exits → Exits
body_exits rest exits = record { broken = rest; continued = 0; returned = rest + exits.returned }

-- The code of a call: the helper's name, the registers of the arguments, the level of the first, the number of loops
-- round the call, and the number of its first barrier. Its value is left at that level.
abbrev pub Calls : Type 0
Calls = ℕ → List ℕ → ℕ → ℕ → ℕ → List Instruction

-- the type of a call's value
abbrev pub result_type : Option IntType → VariableType
result_type None = Integer Int
result_type (Some kind) = Integer kind

-- where a value is needed, a call that has none ends the item
abbrev pub needed_code : Option IntType → List Instruction
needed_code None = instruction.End ∷ []
needed_code (Some kind) = []

-- a function returns no value: one that gives a value ends the item there
abbrev pub no_value_code : Option IntType → List Instruction
no_value_code None = []
no_value_code (Some kind) = instruction.End ∷ []

-- a function returns a register's value, in its type
abbrev pub value_code : Option IntType → ℕ → ℕ → List Instruction
value_code None level from = []
value_code (Some kind) level from = instruction.AssignConversion (register_at level (Integer kind)) from (Integer kind) ∷ []

-- a wait at a barrier
abbrev pub wait_code : Option Fences → ℕ → ℕ → List Instruction
wait_code (Some named) site depth = instruction.Barrier site depth named ∷ []
wait_code None site depth = instruction.End ∷ []

-- a condition, and a jump past the next instruction where it doesn't hold
abbrev pub condition_code : Scope → MaybeTerm → List Instruction
condition_code scope WithoutTerm = []
condition_code scope (WithTerm test) =
    expr_code scope (free_level scope) test ++ instruction.JumpIfZero (register_for scope (free_level scope) test) 1 ∷ []

-- a choice without a second side: the test, and a jump past the first side
abbrev pub if_code : List Instruction → ℕ → List Instruction → List Instruction
if_code test register chosen = test ++ (instruction.JumpIfZero register (length chosen) ∷ chosen)

-- a choice: the test, a jump past the first side, that side, a jump past the second, and the second side
abbrev pub if_else_code : List Instruction → ℕ → List Instruction → List Instruction → List Instruction
if_else_code test register chosen otherwise =
    test ++ (instruction.JumpIfZero register (length chosen + 1) ∷ (chosen ++ (instruction.Jump (length otherwise) ∷ otherwise)))

-- a loop's turn: its body, the condition, and the way back
abbrev pub turn_code : ℕ → List Instruction → List Instruction → List Instruction
turn_code depth body condition = instruction.Turn depth ∷ (body ++ (condition ++ instruction.Back (length body + length condition + 1) ∷ []))

-- a loop that begins with its condition
abbrev pub while_code : ℕ → List Instruction → List Instruction → List Instruction
while_code depth body condition = instruction.Enter depth ∷ instruction.Jump (1 + length body) ∷ turn_code depth body condition

-- a loop that begins with its body
abbrev pub do_code : ℕ → List Instruction → List Instruction → List Instruction
do_code depth body condition = instruction.Enter depth ∷ turn_code depth body condition

-- In a function that returns a value of a type, with the helpers that it can call: the code of their calls, the types
-- of their values, and the barriers in each.
module _ (calls : Calls) (results : ℕ → Option IntType) (inside : ℕ → ℕ) (result : Option IntType) where
  -- the right side of an assignment: the call of a helper, or another expression
  abbrev pub right_code : Scope → ℕ → Option HelperCall → Term → ℕ → ℕ → List Instruction
  right_code scope level (Some c) value depth site =
      terms_code scope level c.arguments ++ (calls c.name (registers_for scope level c.arguments) level depth site ++ needed_code (results c.name))
  right_code scope level None value depth site = expr_code scope level value

  abbrev pub right_type : Scope → Option HelperCall → Term → VariableType
  right_type scope (Some c) value = result_type (results c.name)
  right_type scope None value = kind_of scope value

  -- an assignment: the target, the right side, and the value is put there
  abbrev pub assign_code : Scope → ℕ → Target → Option HelperCall → Term → ℕ → ℕ → List Instruction
  assign_code scope level target called value depth site =
      target_code scope level target
      ++ (right_code scope (level + 1) called value depth site
      ++ put_code scope target (target_register scope level target) (register_at (level + 1) (right_type scope called value)))

  -- a compound assignment: the old value is fetched before the right side
  abbrev pub compound_code : Scope → ℕ → Target → BinaryOperator → Option HelperCall → Term → ℕ → ℕ → List Instruction
  compound_code scope level target operator called value depth site =
      target_code scope level target
      ++ (fetch_code scope target (target_register scope level target) (register_at (level + 1) (type_of_target scope target))
      ++ (right_code scope (level + 2) called value depth site
      ++ combine_code scope target level operator (right_type scope called value) (register_at (level + 1) (type_of_target scope target)) (register_at (level + 2) (right_type scope called value))))

  -- `++` and `--`
  abbrev pub step_code : Scope → ℕ → Target → BinaryOperator → List Instruction
  step_code scope level target operator =
      target_code scope level target
      ++ (fetch_code scope target (target_register scope level target) (register_at (level + 1) (type_of_target scope target))
      ++ instruction.Constant (register_at (level + 2) (Integer Int)) (record { kind = Int; number = pos 1 })
      ∷ combine_code scope target level operator (Integer Int) (register_at (level + 1) (type_of_target scope target)) (register_at (level + 2) (Integer Int)))

  -- a call that is a whole statement: of the barrier, of another built-in function, or of a helper
  abbrev pub call_only_statement : Scope → Bool → Option BuiltIn → ℕ → Terms → ℕ → ℕ → List Instruction
  call_only_statement scope true function name arguments depth site = wait_code (fences arguments) site depth
  call_only_statement scope false (Some function) name arguments depth site =
      terms_code scope (free_level scope) arguments
      ++ call_only_code (Some function) (register_at (free_level scope) (Integer (call_type (Some function) (argument_type scope.variables arguments)))) (registers_for scope (free_level scope) arguments)
  call_only_statement scope false None name arguments depth site =
      terms_code scope (free_level scope) arguments ++ calls name (registers_for scope (free_level scope) arguments) (free_level scope) depth site

  -- A statement in a scope, with n loops round it and a number for its first barrier.
  abbrev mutual
    pub stmt_code : Scope → Stmt → ℕ → ℕ → Exits → List Instruction
    stmt_code scope (Empty at) depth site exits = []
    stmt_code scope (Block at body) depth site exits = stmts_code scope body depth site exits
    stmt_code scope (Declare at kind name_at name) depth site exits = instruction.Unset (register_at (free_level scope) kind) ∷ []
    stmt_code scope (DeclareAs at kind name_at name value) depth site exits =
        instruction.Unset (register_at (free_level scope) kind)
        ∷ (right_code (with_variable scope name kind) (free_level scope + 1) (helper_call value) value depth site
        ++ instruction.AssignConversion (register_at (free_level scope) kind) (register_at (free_level scope + 1) (right_type (with_variable scope name kind) (helper_call value) value)) kind ∷ [])
    stmt_code scope (DeclareArray at is_local element name_at name length_at count) depth site exits = array_code is_local element (array_length count) (length scope.variables) (free_level scope)
    stmt_code scope (Assign at target None value) depth site exits = assign_code scope (free_level scope) target (helper_call value) value depth site
    stmt_code scope (Assign at target (Some operator) value) depth site exits = compound_code scope (free_level scope) target operator (helper_call value) value depth site
    stmt_code scope (Step at target is_increment) depth site exits = step_code scope (free_level scope) target (step_operator is_increment)
    stmt_code scope (CallOnly at name arguments) depth site exits = call_only_statement scope (is_barrier name) (built_in name) name arguments depth site
    stmt_code scope (If at test chosen) depth site exits =
        if_code (expr_code scope (free_level scope) test) (register_for scope (free_level scope) test) (stmt_code scope chosen depth site exits)
    stmt_code scope (IfElse at test chosen otherwise) depth site exits =
        let second = stmt_code scope otherwise depth (site + sites inside chosen) exits in
        if_else_code (expr_code scope (free_level scope) test) (register_for scope (free_level scope) test)
        (stmt_code scope chosen depth site (past (length second + 1) exits)) second
    stmt_code scope (While at test body) depth site exits =
        let condition = condition_code scope (WithTerm test) in
        while_code depth (stmt_code scope body (depth + 1) site (body_exits (length condition + 1) exits)) condition
    stmt_code scope (DoWhile at body test) depth site exits =
        let condition = condition_code scope (WithTerm test) in
        do_code depth (stmt_code scope body (depth + 1) site (body_exits (length condition + 1) exits)) condition
    stmt_code scope (For at first test third body) depth site exits =
        let inner = scope_after_part scope first in
        let condition = condition_code inner test in
        let last = part_code inner third (depth + 1) (site + part_sites inside first) (body_exits (length condition + 1) exits) in
        let turn = stmt_code inner body (depth + 1) (site + part_sites inside first + part_sites inside third) (body_exits (length last + length condition + 1) exits) in
        let loop = while_code depth (turn ++ last) condition in
        part_code scope first depth site (past (length loop) exits) ++ loop
    stmt_code scope (Break at) depth site exits = instruction.Jump exits.broken ∷ []
    stmt_code scope (Continue at) depth site exits = instruction.Jump exits.continued ∷ []
    stmt_code scope (Return at) depth site exits = no_value_code result ++ instruction.Jump exits.returned ∷ []
    stmt_code scope (ReturnValue at value) depth site exits =
        expr_code scope (free_level scope) value
        ++ (value_code result scope.base (register_for scope (free_level scope) value) ++ instruction.Jump exits.returned ∷ [])

    -- the first or the third part of a `for`
    pub part_code : Scope → MaybeStmt → ℕ → ℕ → Exits → List Instruction
    part_code scope Without depth site exits = []
    part_code scope (With statement) depth site exits = stmt_code scope statement depth site exits

    pub stmts_code : Scope → Stmts → ℕ → ℕ → Exits → List Instruction
    stmts_code scope NoStmt depth site exits = []
    stmts_code scope (ThenStmt statements statement) depth site exits =
        let last = stmt_code (scope_after_all scope statements) statement depth (site + all_sites inside statements) exits in
        stmts_code scope statements depth site (past (length last) exits) ++ last

-- the type of a helper's value; one calls only functions before it
abbrev pub result_in : Funcs → ℕ → Option IntType
result_in NoFunc name = None
result_in (ThenFunc earlier f) name = elim (name == f.name) [ true ↦ f.result | false ↦ result_in earlier name ]

-- a function's body, whose parameters are at a level and above
abbrev pub body_code : Calls → (ℕ → Option IntType) → (ℕ → ℕ) → Func → ℕ → ℕ → ℕ → List Instruction
body_code calls results inside f level depth site =
    let end = no_value_code f.result in
    stmts_code calls results inside f.result (record { base = level; variables = parameter_variables f.parameters [] }) f.body depth site
    (record { broken = 0; continued = 0; returned = length end })
    ++ end

-- A helper's body, in place of its call.
abbrev pub call_code : Funcs → Calls
call_code NoFunc name arguments level depth site = instruction.End ∷ []
call_code (ThenFunc earlier f) name arguments level depth site =
    elim (name == f.name) [
      | true ↦ pass_code f.parameters arguments level ++ body_code (call_code earlier) (result_in earlier) (sites_in earlier) f level depth site
      | false ↦ call_code earlier name arguments level depth site
    ]

-- A kernel, with the functions before it.
abbrev pub kernel_code : Funcs → Func → List Instruction
kernel_code earlier f =
    arguments_code f.parameters 0 ++ (body_code (call_code earlier) (result_in earlier) (sites_in earlier) f 0 0 0 ++ instruction.End ∷ [])
