-- That each instruction of code is one that its node makes (own).
use Rattle.std.specs.Prelude.{◌≡◌, ℕ, true, false, Bool, Option, None, Some, List, [], ◌∷◌}
use Rattle.clnum.specs.declared.operators.BinaryOperator.{BinaryOperator}
use Rattle.clmodel.specs.Barrier.{is_barrier}
use Rattle.clmodel.specs.BuiltIns.{built_in}
use Rattle.clmodel.specs.Next.{step_operator}
use Rattle.clmodel.specs.Tree.{Term, Variable, Element, ElementAddress, Dereference, Call, Binary, Target, TargetVariable, TargetElement, TargetDereference, Assign, Step, CallOnly, While, DoWhile, For, Func, Funcs}
use Rattle.clmodel.specs.declared.setup.AtomicFunction.{AtomicFunction}
use Rattle.clmodel.specs.declared.setup.BuiltIn.TheVariants as built_in_function
use Rattle.clmodel.specs.declared.tree.InfixOperator.TheVariants.{Arithmetic}
use Rattle.regcode.specs.declared.instruction.Instruction.{Instruction}
use Rattle.regcode.specs.declared.instruction.Instruction.TheVariants as instruction
use Rattle.lower_expr.specs.Scope.{Scope}
use Rattle.lower_expr.specs.Expressions.{expr_code}
use Rattle.lower_code.specs.Code.{kernel_code}
use Rattle.origins.specs.Names.{names_of}
use Rattle.origins.specs.Origins.{Node, OfTerm, OfTarget, OfStmt, Origin, expr_origins, kernel_origins}

-- a node that loads what a pointer points to: an element, `*p`, or an assignment by another operator than `=`
abbrev pub loads : Node → Bool
loads (OfTerm (Element at name index)) = true
loads (OfTerm (Dereference at pointer)) = true
loads (OfStmt (Assign at target (Some operator) value)) = true
loads (OfStmt (Step at target is_increment)) = true
loads _ = false

-- one that stores
abbrev pub stores : Node → Bool
stores (OfStmt (Assign at target operator value)) = true
stores (OfStmt (Step at target is_increment)) = true
stores _ = false

-- the name that is called
abbrev pub called : Node → Option ℕ
called (OfTerm (Call at name arguments)) = Some name
called (OfStmt (CallOnly at name arguments)) = Some name
called _ = None

abbrev pub is_loop : Node → Bool
is_loop (OfStmt (While at test body)) = true
is_loop (OfStmt (DoWhile at body test)) = true
is_loop (OfStmt (For at first test third body)) = true
is_loop _ = false

-- the operator that it applies
abbrev pub combines : Node → Option BinaryOperator
combines (OfTerm (Binary at (Arithmetic operator) left right)) = Some operator
combines (OfStmt (Assign at target operator value)) = operator
combines (OfStmt (Step at target is_increment)) = Some (step_operator is_increment)
combines _ = None

abbrev pub target_named : Target → Option ℕ
target_named (TargetVariable at name) = Some name
target_named (TargetElement at name index) = Some name
target_named (TargetDereference at pointer) = None

-- the name of the variable that it reads, or whose element it reads or sets
abbrev pub names : Node → Option ℕ
names (OfTerm (Variable at name)) = Some name
names (OfTerm (Element at name index)) = Some name
names (OfTerm (ElementAddress at name_at name index)) = Some name
names (OfTarget target) = target_named target
names (OfStmt (Assign at target operator value)) = target_named target
names (OfStmt (Step at target is_increment)) = target_named target
names _ = None

-- the call of an atomic function, or of the barrier
abbrev pub CallsAtomic : Option ℕ → AtomicFunction → Type 0
CallsAtomic None function = ⊥
CallsAtomic (Some name) function = built_in name ≡ Some (built_in_function.Atomic function)

abbrev pub CallsBarrier : Option ℕ → Type 0
CallsBarrier None = ⊥
CallsBarrier (Some name) = is_barrier name ≡ true

-- An instruction that acts or can fail is one that the node makes: a load of what loads, a store of what stores, an
-- atomic operation or a wait of its call, a turn of its loop, an operator, and the value of a variable or an element
-- under its name.
abbrev pub Suits : Instruction → Node → Type 0
Suits (instruction.Load to pointer) n = loads n ≡ true
Suits (instruction.Store pointer value) n = stores n ≡ true
Suits (instruction.Update function pointer value) n = CallsAtomic (called n) function
Suits (instruction.Fetch to function pointer given) n = CallsAtomic (called n) function
Suits (instruction.Barrier site depth fences) n = CallsBarrier (called n)
Suits (instruction.Turn depth) n = is_loop n ≡ true
Suits (instruction.Binary to operator left right) n = combines n ≡ Some operator
Suits (instruction.Move to from name) n = names n ≡ Some name
Suits (instruction.PrivateLoad to array index element name) n = names n ≡ Some name
Suits (instruction.PrivateStore array index value element name) n = names n ≡ Some name
Suits _ n = Unit {0}

-- as many origins as instructions, each with a node that makes its instruction
abbrev pub Each : List Origin → List Instruction → Type 0
Each [] [] = Unit {0}
Each [] (i ∷ is) = ⊥
Each (o ∷ os) [] = ⊥
Each (o ∷ os) (i ∷ is) = Suits i o.node × Each os is

pub record Marks (origins : List Origin) (code : List Instruction) : Type 0 where
  pub each : Each origins code

-- the code of each expression in each scope, at each level
abbrev pub ExpressionsMarked : Type 0
ExpressionsMarked = (scope : Scope) (level : ℕ) (e : Term) → Marks (expr_origins (names_of scope.variables) e) (expr_code scope level e)

-- the code of each kernel, with the helpers in place of their calls
abbrev pub KernelsMarked : Type 0
KernelsMarked = (earlier : Funcs) (f : Func) → Marks (kernel_origins earlier f) (kernel_code earlier f)
