-- Where the instructions of code come from: for each, the node of the tree that it belongs to, and the calls of helpers
-- round it (own).
use Rattle.std.specs.Prelude.{ℕ, ◌==◌, Bool, true, false, Option, None, Some, List, [], ◌∷◌, ◌++◌, length, map, replicate, take, slice_get}
use Rattle.clnum.specs.Integer.{Integer}
use Rattle.clnum.specs.declared.int_type.IntType.{IntType}
use Rattle.clnum.specs.declared.operators.BinaryOperator.{BinaryOperator}
use Rattle.clmodel.specs.Barrier.{is_barrier}
use Rattle.clmodel.specs.BuiltIns.{built_in}
use Rattle.clmodel.specs.Next.{HelperCall, helper_call}
use Rattle.clmodel.specs.Tree.{Term, Number, Variable, Element, ElementAddress, Dereference, Call, Unary, Cast, Binary, Choice, Terms, NoTerm, ThenTerm, Target, TargetVariable, TargetElement, TargetDereference, Stmt, Empty, Block, Declare, DeclareAs, DeclareArray, Assign, Step, CallOnly, If, IfElse, While, DoWhile, For, Break, Continue, Return, ReturnValue, Stmts, NoStmt, ThenStmt, MaybeStmt, Without, With, MaybeTerm, WithoutTerm, WithTerm, Func, Funcs, NoFunc, ThenFunc, term, tree_target, stmt, func}
use Rattle.clmodel.specs.Typing.Faults.{start, target_start}
use Rattle.clmodel.specs.declared.setup.BuiltIn.{BuiltIn}
use Rattle.clmodel.specs.declared.tree.Function.{Function}
use Rattle.clmodel.specs.declared.tree.InfixOperator.{InfixOperator}
use Rattle.clmodel.specs.declared.tree.InfixOperator.TheVariants.{Arithmetic, LogicalAnd, LogicalOr}
use Rattle.folding.specs.Constants.{constant_of}
use Rattle.lower_code.specs.Code.{result_in}
use Rattle.lower_code.specs.Emission.{functions_of}
use Rattle.origins.specs.Names.{meaning_of, variables_of, plain, names_after_part, names_after_all, parameter_names}
use Rattle.origins.specs.declared.names.Meaning.{Meaning}
use Rattle.origins.specs.declared.names.Meaning.TheVariants.{Unknown, Array, Plain}
use Rattle.origins.specs.declared.names.NamedVariable.{NamedVariable}
use Rattle.origins.specs.declared.node.Node as rust_node
use Rattle.origins.specs.declared.node.Node.TheVariants as rust

-- a node of the tree; of a function it is what belongs to no statement of it: its parameters and its end
pub data Node : Type 0 where
  OfTerm : Term → Node
  OfTarget : Target → Node
  OfStmt : Stmt → Node
  OfFunc : Func → Node

abbrev pub node_of : rust_node.Node → Node
node_of (rust.Expression e) = OfTerm (term e.now)
node_of (rust.Target t) = OfTarget (tree_target t.now)
node_of (rust.Statement s) = OfStmt (stmt s.now)
node_of (rust.Function f) = OfFunc (func f.now)

-- where nodes begin in the source
abbrev pub stmt_at : Stmt → ℕ
stmt_at (Empty at) = at
stmt_at (Block at body) = at
stmt_at (Declare at kind name_at name) = at
stmt_at (DeclareAs at kind name_at name value) = at
stmt_at (DeclareArray at is_local element name_at name length_at count) = at
stmt_at (Assign at target operator value) = at
stmt_at (Step at target is_increment) = at
stmt_at (CallOnly at name arguments) = at
stmt_at (If at test chosen) = at
stmt_at (IfElse at test chosen otherwise) = at
stmt_at (While at test body) = at
stmt_at (DoWhile at body test) = at
stmt_at (For at first test third body) = at
stmt_at (Break at) = at
stmt_at (Continue at) = at
stmt_at (Return at) = at
stmt_at (ReturnValue at value) = at

abbrev pub node_at : Node → ℕ
node_at (OfTerm e) = start e
node_at (OfTarget t) = target_start t
node_at (OfStmt s) = stmt_at s
node_at (OfFunc f) = f.name_at

-- an instruction's node, and where the calls of helpers begin in whose bodies it stands, the outermost first
pub record Origin : Type 0 where
  pub node : Node
  pub through : List ℕ

abbrev pub itself : Node → Origin
itself n = record { node = n; through = [] }

-- in the body of a helper that is called there
abbrev pub entered : ℕ → Origin → Origin
entered at o = record o { through = at ∷ o.through }

-- n instructions of a node itself
abbrev pub times : ℕ → Node → List Origin
times count n = replicate count (itself n)

-- a variable's value, which a node asks for
abbrev pub variable_origins : Meaning → Node → List Origin
variable_origins Unknown n = times 2 n
variable_origins Array n = times 1 n
variable_origins Plain n = times 1 n

-- a pointer variable's value, moved by an index
abbrev pub address_origins : Meaning → Node → List Origin → List Origin
address_origins meaning n index = variable_origins meaning n ++ (index ++ times 1 n)

-- an element of a private array, or what a pointer points to
abbrev pub element_origins : Meaning → Node → List Origin → List Origin
element_origins Array n index = index ++ times 1 n
element_origins Unknown n index = address_origins Unknown n index ++ times 1 n
element_origins Plain n index = address_origins Plain n index ++ times 1 n

-- how many instructions an operator has between its operands, and behind them
abbrev pub infix_before : InfixOperator → ℕ
infix_before (Arithmetic operator) = 0
infix_before LogicalAnd = 1
infix_before LogicalOr = 2

abbrev pub infix_behind : InfixOperator → ℕ
infix_behind (Arithmetic operator) = 1
infix_behind LogicalAnd = 4
infix_behind LogicalOr = 4

-- a constant expression is one instruction of its own
abbrev pub folded_origins : Option Integer → Node → List Origin → List Origin
folded_origins (Some value) n origins = times 1 n
folded_origins None n origins = origins

-- those of an expression: of its operands, and its own
abbrev mutual
  pub expr_origins : List NamedVariable → Term → List Origin
  expr_origins names (Number at value) = times 1 (OfTerm (Number at value))
  expr_origins names (Variable at name) = variable_origins (meaning_of names name) (OfTerm (Variable at name))
  expr_origins names (Element at name index) = element_origins (meaning_of names name) (OfTerm (Element at name index)) (expr_origins names index)
  expr_origins names (ElementAddress at name_at name index) = address_origins (meaning_of names name) (OfTerm (ElementAddress at name_at name index)) (expr_origins names index)
  expr_origins names (Dereference at pointer) = expr_origins names pointer ++ times 1 (OfTerm (Dereference at pointer))
  expr_origins names (Call at name arguments) =
      folded_origins (constant_of (variables_of names) (Call at name arguments)) (OfTerm (Call at name arguments))
      (terms_origins names arguments ++ times 1 (OfTerm (Call at name arguments)))
  expr_origins names (Unary at operator operand) =
      folded_origins (constant_of (variables_of names) (Unary at operator operand)) (OfTerm (Unary at operator operand))
      (expr_origins names operand ++ times 1 (OfTerm (Unary at operator operand)))
  expr_origins names (Cast at target operand) =
      folded_origins (constant_of (variables_of names) (Cast at target operand)) (OfTerm (Cast at target operand))
      (expr_origins names operand ++ times 1 (OfTerm (Cast at target operand)))
  expr_origins names (Binary at operator left right) =
      folded_origins (constant_of (variables_of names) (Binary at operator left right)) (OfTerm (Binary at operator left right))
      (expr_origins names left
      ++ (times (infix_before operator) (OfTerm (Binary at operator left right))
      ++ (expr_origins names right
      ++ times (infix_behind operator) (OfTerm (Binary at operator left right)))))
  expr_origins names (Choice at condition chosen otherwise) =
      folded_origins (constant_of (variables_of names) (Choice at condition chosen otherwise)) (OfTerm (Choice at condition chosen otherwise))
      (expr_origins names condition
      ++ (times 1 (OfTerm (Choice at condition chosen otherwise))
      ++ (expr_origins names chosen
      ++ (times 2 (OfTerm (Choice at condition chosen otherwise))
      ++ (expr_origins names otherwise
      ++ times 1 (OfTerm (Choice at condition chosen otherwise)))))))

  pub terms_origins : List NamedVariable → Terms → List Origin
  terms_origins names NoTerm = []
  terms_origins names (ThenTerm es e) = terms_origins names es ++ expr_origins names e

abbrev pub indexed_origins : Meaning → Node → List Origin → List Origin
indexed_origins Array n index = index
indexed_origins Unknown n index = address_origins Unknown n index
indexed_origins Plain n index = address_origins Plain n index

-- those of a target: its index, or the pointer to it
abbrev pub target_origins : List NamedVariable → Target → List Origin
target_origins names (TargetVariable at name) = []
target_origins names (TargetElement at name index) = indexed_origins (meaning_of names name) (OfTarget (TargetElement at name index)) (expr_origins names index)
target_origins names (TargetDereference at pointer) = expr_origins names pointer ++ times 1 (OfTarget (TargetDereference at pointer))

-- the fetch of what a target has, for a node
abbrev pub fetch_origins : List NamedVariable → Target → Node → List Origin
fetch_origins names (TargetVariable at name) n = variable_origins (meaning_of names name) n
fetch_origins names (TargetElement at name index) n = times 1 n
fetch_origins names (TargetDereference at pointer) n = times 1 n

-- the condition of a loop, if there is one
abbrev pub condition_origins : List NamedVariable → MaybeTerm → Node → List Origin
condition_origins names WithoutTerm n = []
condition_origins names (WithTerm test) n = expr_origins names test ++ times 1 n

-- Those of the call of a helper, by the node that calls it and its name.
abbrev pub Calls : Type 0
Calls = Node → ℕ → List Origin

-- how many instructions end the item where a value is needed and there is none, and where there is one and none is
-- returned
abbrev pub needed_count : Option IntType → ℕ
needed_count None = 1
needed_count (Some kind) = 0

abbrev pub value_count : Option IntType → ℕ
value_count None = 0
value_count (Some kind) = 1

-- how many declare an array
abbrev pub array_count : Bool → ℕ
array_count true = 1
array_count false = 2

-- In a function that returns a value of a type, with the helpers that it can call.
module _ (calls : Calls) (results : ℕ → Option IntType) (result : Option IntType) where
  abbrev pub right_origins : List NamedVariable → Option HelperCall → Term → List Origin
  right_origins names (Some c) value =
      terms_origins names c.arguments ++ (calls (OfTerm value) c.name ++ times (needed_count (results c.name)) (OfTerm value))
  right_origins names None value = expr_origins names value

  abbrev pub call_statement_origins : List NamedVariable → Bool → Option BuiltIn → ℕ → Terms → Node → List Origin
  call_statement_origins names true function name arguments n = times 1 n
  call_statement_origins names false (Some function) name arguments n = terms_origins names arguments ++ times 1 n
  call_statement_origins names false None name arguments n = terms_origins names arguments ++ calls n name

  abbrev pub assign_origins : List NamedVariable → Target → Option BinaryOperator → Term → Node → List Origin
  assign_origins names target None value n = target_origins names target ++ (right_origins names (helper_call value) value ++ times 1 n)
  assign_origins names target (Some operator) value n =
      target_origins names target ++ (fetch_origins names target n ++ (right_origins names (helper_call value) value ++ times 2 n))

  abbrev mutual
    pub stmt_origins : List NamedVariable → Stmt → List Origin
    stmt_origins names (Empty at) = []
    stmt_origins names (Block at body) = row_origins names body
    stmt_origins names (Declare at kind name_at name) = times 1 (OfStmt (Declare at kind name_at name))
    stmt_origins names (DeclareAs at kind name_at name value) =
        times 1 (OfStmt (DeclareAs at kind name_at name value))
        ++ (right_origins (names ++ plain name kind ∷ []) (helper_call value) value ++ times 1 (OfStmt (DeclareAs at kind name_at name value)))
    stmt_origins names (DeclareArray at is_local element name_at name length_at count) =
        times (array_count is_local) (OfStmt (DeclareArray at is_local element name_at name length_at count))
    stmt_origins names (Assign at target operator value) = assign_origins names target operator value (OfStmt (Assign at target operator value))
    stmt_origins names (Step at target is_increment) =
        target_origins names target ++ (fetch_origins names target (OfStmt (Step at target is_increment)) ++ times 3 (OfStmt (Step at target is_increment)))
    stmt_origins names (CallOnly at name arguments) = call_statement_origins names (is_barrier name) (built_in name) name arguments (OfStmt (CallOnly at name arguments))
    stmt_origins names (If at test chosen) = expr_origins names test ++ (times 1 (OfStmt (If at test chosen)) ++ stmt_origins names chosen)
    stmt_origins names (IfElse at test chosen otherwise) =
        expr_origins names test
        ++ (times 1 (OfStmt (IfElse at test chosen otherwise))
        ++ (stmt_origins names chosen ++ (times 1 (OfStmt (IfElse at test chosen otherwise)) ++ stmt_origins names otherwise)))
    stmt_origins names (While at test body) =
        times 3 (OfStmt (While at test body))
        ++ (stmt_origins names body ++ (condition_origins names (WithTerm test) (OfStmt (While at test body)) ++ times 1 (OfStmt (While at test body))))
    stmt_origins names (DoWhile at body test) =
        times 2 (OfStmt (DoWhile at body test))
        ++ (stmt_origins names body ++ (condition_origins names (WithTerm test) (OfStmt (DoWhile at body test)) ++ times 1 (OfStmt (DoWhile at body test))))
    stmt_origins names (For at first test third body) =
        part_origins names first
        ++ (times 3 (OfStmt (For at first test third body))
        ++ (stmt_origins (names_after_part names first) body
        ++ (part_origins (names_after_part names first) third
        ++ (condition_origins (names_after_part names first) test (OfStmt (For at first test third body)) ++ times 1 (OfStmt (For at first test third body))))))
    stmt_origins names (Break at) = times 1 (OfStmt (Break at))
    stmt_origins names (Continue at) = times 1 (OfStmt (Continue at))
    stmt_origins names (Return at) = times (value_count result) (OfStmt (Return at)) ++ times 1 (OfStmt (Return at))
    stmt_origins names (ReturnValue at value) =
        expr_origins names value ++ (times (value_count result) (OfStmt (ReturnValue at value)) ++ times 1 (OfStmt (ReturnValue at value)))

    pub part_origins : List NamedVariable → MaybeStmt → List Origin
    part_origins names Without = []
    part_origins names (With s) = stmt_origins names s

    pub row_origins : List NamedVariable → Stmts → List Origin
    row_origins names NoStmt = []
    row_origins names (ThenStmt ss s) = row_origins names ss ++ stmt_origins (names_after_all names ss) s

-- the body of a function
abbrev pub body_origins : Calls → (ℕ → Option IntType) → Func → List Origin
body_origins calls results f = row_origins calls results f.result (parameter_names f.parameters) f.body ++ times (value_count f.result) (OfFunc f)

-- the parameters of a function, and its body
abbrev pub placed_origins : Calls → (ℕ → Option IntType) → Func → List Origin
placed_origins calls results f = times (length f.parameters) (OfFunc f) ++ body_origins calls results f

-- a helper's body, in place of its call
abbrev pub call_origins : Funcs → Calls
call_origins NoFunc call name = times 1 call
call_origins (ThenFunc earlier f) call name =
    elim (name == f.name) [
      | true ↦ map (entered (node_at call)) (placed_origins (call_origins earlier) (result_in earlier) f)
      | false ↦ call_origins earlier call name
    ]

-- a kernel, with the functions before it
abbrev pub kernel_origins : Funcs → Func → List Origin
kernel_origins earlier f = placed_origins (call_origins earlier) (result_in earlier) f ++ times 1 (OfFunc f)

-- a function with those of these that stand before it
abbrev pub function_origins : List Function → Func → List Origin
function_origins functions f = placed_origins (call_origins (functions_of functions)) (result_in (functions_of functions)) f

-- the function at a place among functions
abbrev pub there : List Function → ℕ → Option Function → List Origin
there functions place None = []
there functions place (Some f) = function_origins (take place functions) (func f)

abbrev pub origins_at : List Function → ℕ → List Origin
origins_at functions place = there functions place (slice_get functions place)
