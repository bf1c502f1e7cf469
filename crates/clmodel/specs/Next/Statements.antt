-- Execution of statements and of helper functions, as a tree of actions (OpenCL 1.2, 6.9 and 6.12.8; C99 6.5.2.2,
-- 6.5.16 and 6.8).
use Rattle.std.specs.Prelude.{ℕ, zero, suc, ◌+◌, ◌==◌, pos, Bool, true, false, if◌then◌else◌, Option, None, Some, List, [], ◌∷◌, ◌++◌, length, replicate}
use Rattle.clnum.specs.Integer.{Integer}
use Rattle.clnum.specs.declared.int_type.IntType.{IntType}
use Rattle.clmodel.specs.BuiltIns.{built_in}
use Rattle.clmodel.specs.Barrier.{is_barrier, fences}
use Rattle.clmodel.specs.Next.Expressions.{Continuation, finish, fail, ask, tick, Variables, Binding, variable, held, assign, leave, binary_operation, test, ItemPosition, call_only, eval, eval_all, reach, fetch, put, step_operator, one}
use Rattle.clmodel.specs.Tree.{Term, Number, Variable, Element, ElementAddress, Dereference, Call, Unary, Cast, Binary, Choice, Terms, array_length, Stmt, Empty, Block, Declare, DeclareAs, DeclareArray, Assign, Step, CallOnly, If, IfElse, While, DoWhile, For, Break, Continue, Return, ReturnValue, Stmts, NoStmt, ThenStmt, MaybeStmt, Without, With, MaybeTerm, WithoutTerm, WithTerm, Funcs, NoFunc, ThenFunc}
use Rattle.clmodel.specs.declared.tree.VariableType.TheVariants as variable_type
use Rattle.clmodel.specs.declared.tree.Parameter.{Parameter}
use Rattle.clmodel.specs.declared.action.Action.TheVariants as action
use Rattle.clmodel.specs.declared.action.Cause.TheVariants as cause
use Rattle.clmodel.specs.declared.action.Fences.{Fences}
use Rattle.clmodel.specs.declared.setup.BuiltIn.{BuiltIn}
use Rattle.clmodel.specs.declared.access.Object.TheVariants as object
use Rattle.clmodel.specs.declared.operand.Operand.{Operand}
use Rattle.clmodel.specs.declared.operand.Operand.TheVariants.{Pointed}
use Rattle.clmodel.specs.declared.tree.AddressSpace.TheVariants.{Local}

-- What follows a statement, by the way that it ends: it is done, or it breaks a loop, continues one, or returns, with a
-- value if it has one.
pub record Follows : Type 0 where
  pub next : Variables → Continuation
  pub broken : Variables → Continuation
  pub continued : Variables → Continuation
  pub returned : Option Operand → Continuation

-- What a call of a helper does: its name, its arguments, the number of its first barrier, the turns of the loops round
-- it, and what follows.
abbrev pub Helpers : Type 0
Helpers = ℕ → List Operand → ℕ → List ℕ → (Option Operand → Continuation) → Continuation

-- variables of a block are left before what follows
abbrev pub leaving : ℕ → (Variables → Continuation) → Variables → Continuation
leaving count after variables = after (leave count variables)

-- In a loop's body, done and continued go on with the loop, and broken goes on behind it.
abbrev pub in_loop : Follows → (again after : Variables → Continuation) → Follows
in_loop k again after = record { next = again; broken = after; continued = again; returned = k.returned }

-- A loop that has made n turns. It makes fewer than `most` more, since each is a tick.
abbrev pub turns : (most : ℕ) → (holds : Variables → (Bool → Continuation) → Continuation) → (body : ℕ → Variables → (Variables → Continuation) → Continuation) → (after : Variables → Continuation) → ℕ → Variables → Continuation
turns zero holds body after count variables = fail cause.Budget
turns (suc most) holds body after count variables =
    holds variables (λ go_on. if go_on then tick (body (suc count) variables (turns most holds body after (suc count))) else after variables)

-- a condition; one that is left out holds
abbrev pub condition : ItemPosition → MaybeTerm → Variables → (Bool → Continuation) → Continuation
condition here WithoutTerm variables after = after true
condition here (WithTerm term) variables after = eval here term variables (λ v. test v after)

-- a call of a helper: its name and its arguments
pub record HelperCall : Type 0 where
  pub name : ℕ
  pub arguments : Terms

abbrev pub helper_or : Option BuiltIn → HelperCall → Option HelperCall
helper_or None c = Some c
helper_or (Some function) c = None

-- the call of a helper that an expression is
abbrev pub helper_call : Term → Option HelperCall
helper_call (Call at name arguments) = helper_or (built_in name) (record { name = name; arguments = arguments })
helper_call (Number at value) = None
helper_call (Variable at name) = None
helper_call (Element at name index) = None
helper_call (ElementAddress at name_at name index) = None
helper_call (Dereference at pointer) = None
helper_call (Unary at operator operand) = None
helper_call (Cast at target operand) = None
helper_call (Binary at operator left right) = None
helper_call (Choice at condition chosen otherwise) = None

-- the value that a call returned
abbrev pub value_of : Option Operand → (Operand → Continuation) → Continuation
value_of (Some v) after = after v
value_of None after = finish

-- the barriers in the call of a helper, by those in each helper
abbrev pub call_sites : (ℕ → ℕ) → Option HelperCall → ℕ
call_sites inside None = 0
call_sites inside (Some c) = inside c.name

-- a call that is a whole statement: of the barrier, of another built-in function, or of a helper
abbrev pub statement_sites : (ℕ → ℕ) → (is_barrier : Bool) → Option BuiltIn → ℕ → ℕ
statement_sites inside true function name = 1
statement_sites inside false (Some function) name = 0
statement_sites inside false None name = inside name

-- The barriers in a statement, those in helpers that it calls among them, by those in each helper.
abbrev mutual
  pub sites : (inside : ℕ → ℕ) → Stmt → ℕ
  sites inside (Empty at) = 0
  sites inside (Block at body) = all_sites inside body
  sites inside (Declare at kind name_at name) = 0
  sites inside (DeclareAs at kind name_at name value) = call_sites inside (helper_call value)
  sites inside (DeclareArray at is_local element name_at name length_at count) = 0
  sites inside (Assign at place operator value) = call_sites inside (helper_call value)
  sites inside (Step at place is_increment) = 0
  sites inside (CallOnly at name arguments) = statement_sites inside (is_barrier name) (built_in name) name
  sites inside (If at test chosen) = sites inside chosen
  sites inside (IfElse at test chosen otherwise) = sites inside chosen + sites inside otherwise
  sites inside (While at test body) = sites inside body
  sites inside (DoWhile at body test) = sites inside body
  sites inside (For at first test third body) = part_sites inside first + part_sites inside third + sites inside body
  sites inside (Break at) = 0
  sites inside (Continue at) = 0
  sites inside (Return at) = 0
  sites inside (ReturnValue at value) = 0

  pub part_sites : (inside : ℕ → ℕ) → MaybeStmt → ℕ
  part_sites inside Without = 0
  part_sites inside (With statement) = sites inside statement

  pub all_sites : (inside : ℕ → ℕ) → Stmts → ℕ
  all_sites inside NoStmt = 0
  all_sites inside (ThenStmt statements statement) = all_sites inside statements + sites inside statement

-- a wait at a barrier, whose argument names the fences
abbrev pub wait : Option Fences → ℕ → List ℕ → Continuation → Continuation
wait (Some named) site ts after = ask (action.Barrier (record { site = site; turns = ts }) named) (λ _. after)
wait None site ts after = finish

-- A pointer to the first element of the local array that is declared behind n variables: its object has their number
-- (6.5.2).
abbrev pub local_array : IntType → (number : ℕ) → ℕ → Binding
local_array element number name =
    variable name (variable_type.Pointer (record { space = Local; is_const = false; element = element }))
    (Some (Pointed (record { object = object.Local number; element = element; offset = pos 0 })))

-- A private array of n elements (6.5.4), none of which is set: it is indeterminate each time its declaration is reached
-- (C99 6.2.4, paragraph 5).
abbrev pub private_array : IntType → ℕ → ℕ → Binding
private_array element count name = record { name = name; kind = variable_type.Integer element; content = None; elements = replicate count None }

-- an array that is declared behind these variables (6.5.2 and 6.5.4)
abbrev pub declared_array : (is_local : Bool) → IntType → ℕ → Integer → Variables → Binding
declared_array true element name count variables = local_array element (length variables) name
declared_array false element name count variables = private_array element (array_length count) name

-- Execution with a bound on the turns of a loop, for an item, with the helpers that can be called and the barriers in
-- each.
module _ (most : ℕ) (here : ItemPosition) (helpers : Helpers) (inside : ℕ → ℕ) where
  -- the right side of an assignment: the call of a helper, or another expression
  abbrev pub assigned : Option HelperCall → Term → ℕ → List ℕ → Variables → (Operand → Continuation) → Continuation
  assigned (Some c) value site ts variables after =
      eval_all here c.arguments variables (λ values. helpers c.name values site ts (λ result. value_of result after))
  assigned None value site ts variables after = eval here value variables after

  abbrev pub call_statement : (is_barrier : Bool) → Option BuiltIn → ℕ → Terms → ℕ → List ℕ → Variables → Continuation → Continuation
  call_statement true function name arguments site ts variables after = wait (fences arguments) site ts after
  call_statement false (Some function) name arguments site ts variables after =
      eval_all here arguments variables (λ values. call_only here (Some function) values after)
  call_statement false None name arguments site ts variables after =
      eval_all here arguments variables (λ values. helpers name values site ts (λ _. after))

  -- A statement whose first barrier has this number, inside loops that have made these turns.
  abbrev mutual
    pub exec : Stmt → (site : ℕ) → (ts : List ℕ) → Follows → Variables → Continuation
    exec (Empty at) site ts k variables = k.next variables
    exec (Block at body) site ts k variables = exec_all body site ts (record k { next = leaving (length variables) k.next }) variables
    exec (Declare at kind name_at name) site ts k variables = k.next (variable name kind None ∷ variables)
    exec (DeclareAs at kind name_at name value) site ts k variables =
        let unset : Variables = variable name kind None ∷ variables in
        assigned (helper_call value) value site ts unset (λ v. k.next (assign unset name v))
    exec (DeclareArray at is_local element name_at name length_at count) site ts k variables = k.next (declared_array is_local element name count variables ∷ variables)
    exec (Assign at place None value) site ts k variables =
        reach here place variables (λ to. assigned (helper_call value) value site ts variables (λ v. put to v variables k.next))
    exec (Assign at place (Some operator) value) site ts k variables =
        reach here place variables (λ to. fetch to variables (λ old.
        assigned (helper_call value) value site ts variables (λ v. binary_operation operator old v (λ new. put to new variables k.next))))
    exec (Step at place is_increment) site ts k variables =
        reach here place variables (λ to. fetch to variables (λ old. binary_operation (step_operator is_increment) old one (λ new. put to new variables k.next)))
    exec (CallOnly at name arguments) site ts k variables =
        call_statement (is_barrier name) (built_in name) name arguments site ts variables (k.next variables)
    exec (If at controlling chosen) site ts k variables =
        eval here controlling variables (λ v. test v (λ holds.
        if holds then exec chosen site ts (record k { next = leaving (length variables) k.next }) variables else k.next variables))
    exec (IfElse at controlling chosen otherwise) site ts k variables =
        let k' : Follows = record k { next = leaving (length variables) k.next } in
        eval here controlling variables (λ v. test v (λ holds.
        if holds then exec chosen site ts k' variables else exec otherwise (site + sites inside chosen) ts k' variables))
    exec (While at controlling body) site ts k variables =
        turns most (condition here (WithTerm controlling))
        (λ count now again. exec body site (ts ++ count ∷ []) (in_loop k (leaving (length variables) again) (leaving (length variables) k.next)) now)
        k.next 0 variables
    exec (DoWhile at body controlling) site ts k variables =
        let turn : ℕ → Variables → (Variables → Continuation) → Continuation =
        λ count now again. exec body site (ts ++ count ∷ []) (in_loop k (leaving (length variables) again) (leaving (length variables) k.next)) now in
        tick (turn 1 variables (turns most (condition here (WithTerm controlling)) turn k.next 1))
    exec (For at first controlling third body) site ts k variables =
        exec_part first site ts (record k {
          next = λ start.
              turns most (condition here controlling)
              (λ count now again.
              let k' : Follows = in_loop k (leaving (length start) again) (leaving (length variables) k.next) in
              let third_part : Variables → Continuation = leaving (length start) (exec_part third (site + part_sites inside first) (ts ++ count ∷ []) k') in
              exec body (site + part_sites inside first + part_sites inside third) (ts ++ count ∷ []) (record k' { next = third_part; continued = third_part }) now)
              (leaving (length variables) k.next) 0 start;
        }) variables
    exec (Break at) site ts k variables = k.broken variables
    exec (Continue at) site ts k variables = k.continued variables
    exec (Return at) site ts k variables = k.returned None
    exec (ReturnValue at value) site ts k variables = eval here value variables (λ v. k.returned (Some v))

    -- the first or the third part of a `for`
    pub exec_part : MaybeStmt → (site : ℕ) → (ts : List ℕ) → Follows → Variables → Continuation
    exec_part Without site ts k variables = k.next variables
    exec_part (With statement) site ts k variables = exec statement site ts k variables

    pub exec_all : Stmts → (site : ℕ) → (ts : List ℕ) → Follows → Variables → Continuation
    exec_all NoStmt site ts k variables = k.next variables
    exec_all (ThenStmt statements statement) site ts k variables =
        exec_all statements site ts (record k { next = exec statement (site + all_sites inside statements) ts k }) variables

-- Parameters are fresh variables, which hold the arguments, converted.
abbrev pub passed : List Parameter → List Operand → Variables → Variables
passed [] values variables = variables
passed (p ∷ ps) [] variables = passed ps [] (variable p.name p.kind None ∷ variables)
passed (p ∷ ps) (v ∷ values) variables = passed ps values (variable p.name p.kind (Some (held p.kind v)) ∷ variables)

-- What follows a call of a function of a type that returns a value or none. The value is converted to the type. A
-- function of a type that returns none ends the item (own; C99 6.9.1, paragraph 12): no function of a typed program
-- does.
abbrev pub returned_by : Option IntType → (Option Operand → Continuation) → Option Operand → Continuation
returned_by (Some kind) after (Some v) = after (Some (held (variable_type.Integer kind) v))
returned_by (Some kind) after None = finish
returned_by None after v = after None

-- What follows a function's body, which returns none where it ends.
abbrev pub as_body : (Option Operand → Continuation) → Follows
as_body returned = record { next = λ _. returned None; broken = λ _. returned None; continued = λ _. returned None; returned = returned }

-- the barriers in a helper; one calls only functions before it
abbrev pub sites_in : Funcs → ℕ → ℕ
sites_in NoFunc name = 0
sites_in (ThenFunc earlier f) name = if name == f.name then all_sites (sites_in earlier) f.body else sites_in earlier name

-- A helper's body, in place of its call.
abbrev pub helper : ℕ → ItemPosition → Funcs → Helpers
helper most here NoFunc name values site ts after = finish
helper most here (ThenFunc earlier f) name values site ts after =
    elim (name == f.name) [
      | true ↦ exec_all most here (helper most here earlier) (sites_in earlier) f.body site ts (as_body (returned_by f.result after)) (passed f.parameters values [])
      | false ↦ helper most here earlier name values site ts after
    ]
