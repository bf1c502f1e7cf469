-- Evaluation of expressions, as a tree of actions (OpenCL 1.2, 6.3 and 6.12; C99 6.5).
use Rattle.std.specs.Prelude.{ℕ, zero, suc, ◌-◌, ◌==◌, ℤ, pos, negsuc, ◌+ℤ◌, ◌-ℤ◌, Bool, true, false, not, if◌then◌else◌, Option, None, Some, List, [], ◌∷◌, ◌++◌, length, drop, nat_lt, slice_get, slice_set, Result, Ok, Err}
use Rattle.std.specs.Ordering.{int_eq}
use Rattle.clnum.specs.Integer.{Integer, bits_of, wrap, converted, is_signed}
use Rattle.clnum.specs.Conversions.{common, unsigned_of}
use Rattle.clnum.specs.Operations.{unary_value, unary_kind, binary_value, binary_kind, truth, wrapped}
use Rattle.clnum.specs.Builtins.{builtin_value}
use Rattle.clnum.specs.declared.int_type.IntType.{IntType}
use Rattle.clnum.specs.declared.int_type.IntType.TheVariants.{Char, Uchar, Short, Ushort, Int, Uint, Long, Ulong}
use Rattle.clnum.specs.declared.operators.ArithFault.{ArithFault}
use Rattle.clnum.specs.declared.operators.ArithFault.TheVariants as arith_fault
use Rattle.clnum.specs.declared.operators.BinaryOperator.{BinaryOperator}
use Rattle.clnum.specs.declared.operators.BinaryOperator.TheVariants as binary_operator
use Rattle.clnum.specs.declared.operators.UnaryOperator.TheVariants as unary_operator
use Rattle.clnum.specs.declared.operators.Builtin.{Builtin}
use Rattle.clnum.specs.declared.operators.Builtin.TheVariants as builtin
use Rattle.clmodel.specs.BuiltIns.{built_in}
use Rattle.clmodel.specs.Setup.{work_item_value}
use Rattle.clmodel.specs.Tree.{Term, Number, Variable, Element, ElementAddress, Dereference, Call, Unary, Cast, Binary, Choice, Terms, NoTerm, ThenTerm, Target, TargetVariable, TargetElement, TargetDereference}
use Rattle.clmodel.specs.declared.tree.InfixOperator.{InfixOperator}
use Rattle.clmodel.specs.declared.tree.InfixOperator.TheVariants.{Arithmetic, LogicalAnd, LogicalOr}
use Rattle.clmodel.specs.declared.tree.VariableType.{VariableType}
use Rattle.clmodel.specs.declared.tree.VariableType.TheVariants as variable_type
use Rattle.clmodel.specs.declared.access.Width.{Width}
use Rattle.clmodel.specs.declared.access.Width.TheVariants.{One, Two, Four, Eight}
use Rattle.clmodel.specs.declared.access.Class.{Class}
use Rattle.clmodel.specs.declared.access.Class.TheVariants as class
use Rattle.clmodel.specs.declared.access.FetchOp.{FetchOp}
use Rattle.clmodel.specs.declared.access.FetchOp.TheVariants as fetch_op
use Rattle.clmodel.specs.declared.access.Operation.TheVariants as operation
use Rattle.clmodel.specs.declared.action.Action.{Action}
use Rattle.clmodel.specs.declared.action.Action.TheVariants as action
use Rattle.clmodel.specs.declared.action.Answer.{Answer}
use Rattle.clmodel.specs.declared.action.Answer.TheVariants.{Value, Done}
use Rattle.clmodel.specs.declared.action.Cause.{Cause}
use Rattle.clmodel.specs.declared.action.Cause.TheVariants as cause
use Rattle.clmodel.specs.declared.setup.Range.{Range}
use Rattle.clmodel.specs.declared.setup.BuiltIn.{BuiltIn}
use Rattle.clmodel.specs.declared.setup.BuiltIn.TheVariants as built_in_function
use Rattle.clmodel.specs.declared.setup.AtomicFunction.{AtomicFunction}
use Rattle.clmodel.specs.declared.setup.AtomicFunction.TheVariants as atomic
use Rattle.clmodel.specs.declared.operand.Operand.{Operand}
use Rattle.clmodel.specs.declared.operand.Operand.TheVariants.{Integral, Pointed}
use Rattle.clmodel.specs.declared.operand.Pointer.{Pointer}

-- What is still to be done: actions that come one after the answer of another, and loop turns between them.
pub data Continuation : Type 0 where
  finish : Continuation
  fail : (cause : Cause) → Continuation
  ask : (wanted : Action) → (after : Answer → Continuation) → Continuation
  tick : (after : Continuation) → Continuation

-- The action when these answers are used up, given the ticks that are left: each action and each loop turn is one.
abbrev pub walk : Continuation → ℕ → List Answer → Action
walk finish ticks answers = action.End
walk (fail cause) ticks answers = action.Fault cause
walk (ask wanted after) zero answers = action.Fault cause.Budget
walk (ask wanted after) (suc ticks) [] = wanted
walk (ask wanted after) (suc ticks) (answer ∷ answers) = walk (after answer) ticks answers
walk (tick after) zero answers = action.Fault cause.Budget
walk (tick after) (suc ticks) answers = walk after ticks answers

-- A variable in scope: its name, its declared type, and what it holds, if it is set. A private array is of its
-- elements' type and holds nothing itself: of each element it has the low bits of its number, as memory would, if that
-- element is set (6.5.4). Another variable has none, and so a private array of no elements, which no typed program
-- declares, is no array here: its name is that of a variable that isn't set (own).
pub record Binding : Type 0 where
  pub name : ℕ
  pub kind : VariableType
  pub content : Option Operand
  pub elements : List (Option ℕ)

-- a variable that is no array
abbrev pub variable : ℕ → VariableType → Option Operand → Binding
variable name kind content = record { name = name; kind = kind; content = content; elements = [] }

-- The target, once its index or its pointer has been evaluated (C99 6.5.16): the variable of a name, an element of the
-- private array of a name, by the value of its index, or the element that a pointer points to.
pub data Destination : Type 0 where
  Named : ℕ → Destination
  ElementOf : (name : ℕ) → (index : Operand) → Destination
  Through : Pointer → Destination

-- the variables in scope, innermost first
abbrev pub Variables : Type 0
Variables = List Binding

-- what the innermost variable of a name holds, if it is set
abbrev pub look : Variables → ℕ → Option Operand
look [] name = None
look (variable ∷ variables) name = elim (name == variable.name) [ true ↦ variable.content | false ↦ look variables name ]

-- its declared type
abbrev pub declared_type : Variables → ℕ → VariableType
declared_type [] name = variable_type.Integer Int
declared_type (variable ∷ variables) name = elim (name == variable.name) [ true ↦ variable.kind | false ↦ declared_type variables name ]

-- a value as a variable of a type holds it: a number is converted
abbrev pub held : VariableType → Operand → Operand
held (variable_type.Integer kind) (Integral v) = Integral (converted v kind)
held (variable_type.Integer kind) (Pointed p) = Pointed p
held (variable_type.Pointer pointer) v = v

-- the innermost variable of a name holds a value
abbrev pub assign : Variables → ℕ → Operand → Variables
assign [] name v = []
assign (variable ∷ variables) name v =
    elim (name == variable.name) [ true ↦ record variable { content = Some (held variable.kind v) } ∷ variables | false ↦ variable ∷ assign variables name v ]

-- the elements of the private array of a name (6.5.4); another variable has none
abbrev pub elements_of : Variables → ℕ → List (Option ℕ)
elements_of [] name = []
elements_of (variable ∷ variables) name = elim (name == variable.name) [ true ↦ variable.elements | false ↦ elements_of variables name ]

-- whether there is an element
abbrev pub has_elements : List (Option ℕ) → Bool
has_elements [] = false
has_elements (element ∷ elements) = true

-- whether the innermost variable of a name is a private array, and has elements; a local array is a pointer here
-- (6.5.2), and so it isn't one
abbrev pub is_private_array : Variables → ℕ → Bool
is_private_array variables name = has_elements (elements_of variables name)

-- the private array of a name has other elements
abbrev pub with_elements : Variables → ℕ → List (Option ℕ) → Variables
with_elements [] name elements = []
with_elements (variable ∷ variables) name elements =
    elim (name == variable.name) [ true ↦ record variable { elements = elements } ∷ variables | false ↦ variable ∷ with_elements variables name elements ]

-- the n outermost variables: those of a block are left at its end
abbrev pub leave : ℕ → Variables → Variables
leave count variables = drop (length variables - count) variables

abbrev pub known : ℕ → Option Operand → (Operand → Continuation) → Continuation
known name None after = fail (cause.UnsetVariable name)
known name (Some value) after = after value

-- the width of an integer type
abbrev pub element_width : IntType → Width
element_width Char = One
element_width Uchar = One
element_width Short = Two
element_width Ushort = Two
element_width Int = Four
element_width Uint = Four
element_width Long = Eight
element_width Ulong = Eight

-- the number of an answer
abbrev pub answered : Answer → ℕ
answered (Value n) = n
answered Done = 0

-- a pointer at another offset: 64 wrapped bits, read as signed
abbrev pub at_offset : Pointer → ℤ → Pointer
at_offset p offset = record p { offset = wrap Long offset }

-- a pointer moved by a whole number of elements
abbrev pub moved : Operand → Operand → (Pointer → Continuation) → Continuation
moved (Pointed p) (Integral i) after = after (at_offset p (p.offset +ℤ i.number))
moved (Pointed p) (Pointed q) after = finish
moved (Integral v) i after = finish

-- a pointer moved back
abbrev pub moved_back : Operand → Operand → (Pointer → Continuation) → Continuation
moved_back (Pointed p) (Integral i) after = after (at_offset p (p.offset -ℤ i.number))
moved_back (Pointed p) (Pointed q) after = finish
moved_back (Integral v) i after = finish

-- a value that is a number
abbrev pub number : Operand → (Integer → Continuation) → Continuation
number (Integral v) after = after v
number (Pointed p) after = finish

-- a value that is a pointer
abbrev pub pointing : Operand → (Pointer → Continuation) → Continuation
pointing (Pointed p) after = after p
pointing (Integral v) after = finish

-- a load through a pointer
abbrev pub load : Pointer → (Operand → Continuation) → Continuation
load p after =
    ask (action.Access p.object p.offset (operation.Load (element_width p.element)))
    (λ answer. after (Integral (wrapped p.element (pos (answered answer)))))

-- a store through a pointer, of the low bits of a number
abbrev pub store : Pointer → Operand → Continuation → Continuation
store p (Integral v) after =
    ask (action.Access p.object p.offset (operation.Store (element_width p.element) (bits_of p.element v.number))) (λ _. after)
store p (Pointed q) after = finish

-- an index as the offset of a pointer would be it: 64 wrapped bits, read as signed (own)
abbrev pub index_of : Integer → ℤ
index_of i = wrap Long i.number

-- the element at an index, if there is one (C99 6.5.2.1)
abbrev pub element_at : List (Option ℕ) → ℤ → Option (Option ℕ)
element_at elements (pos i) = slice_get elements i
element_at elements (negsuc i) = None

-- The value of what is at an index of the private array of a name (C99 6.5.2.1): its bits read as a number of the
-- elements' type (6.2.3), as by a load. An index out of range and an element that isn't set are faults, the range first
-- (own).
abbrev pub element_value : (name : ℕ) → (index : ℤ) → IntType → Option (Option ℕ) → (Operand → Continuation) → Continuation
element_value name i kind None after = fail (cause.PrivateBounds name i)
element_value name i kind (Some None) after = fail (cause.UnsetElement name i)
element_value name i kind (Some (Some n)) after = after (Integral (wrapped kind (pos n)))

-- an element of the private array of a name is read (C99 6.5.2.1), which is no action (own)
abbrev pub read_element : (name : ℕ) → IntType → List (Option ℕ) → (index : Operand) → (Operand → Continuation) → Continuation
read_element name kind elements i after = number i (λ n. element_value name (index_of n) kind (element_at elements (index_of n)) after)

-- The elements of the private array of a name with the low bits of a number at an index (C99 6.5.2.1 and 6.5.16.1), as
-- by a store. An index out of range is a fault (own).
abbrev pub element_set : (name : ℕ) → (index : ℤ) → IntType → List (Option ℕ) → Integer → (List (Option ℕ) → Continuation) → Continuation
element_set name (pos i) kind elements v after =
    if nat_lt i (length elements) then after (slice_set elements i (Some (bits_of kind v.number))) else fail (cause.PrivateBounds name (pos i))
element_set name (negsuc i) kind elements v after = fail (cause.PrivateBounds name (negsuc i))

-- a number is put into an element of the private array of a name (C99 6.5.2.1), which is no action (own)
abbrev pub write_element : (name : ℕ) → IntType → List (Option ℕ) → (index value : Operand) → (List (Option ℕ) → Continuation) → Continuation
write_element name kind elements i v after = number i (λ n. number v (λ m. element_set name (index_of n) kind elements m after))

-- The class of an atomic function at an element type: the least and the greatest go by its sign. (An exchange and a
-- compare-exchange have none: they are no updates.)
abbrev pub class_of : AtomicFunction → IntType → Class
class_of atomic.Add kind = class.Add
class_of atomic.Sub kind = class.Add
class_of atomic.Min kind = if is_signed kind then class.SignedMin else class.UnsignedMin
class_of atomic.Max kind = if is_signed kind then class.SignedMax else class.UnsignedMax
class_of atomic.And kind = class.And
class_of atomic.Or kind = class.Or
class_of atomic.Xor kind = class.Xor
class_of atomic.Inc kind = class.Add
class_of atomic.Dec kind = class.Add
class_of atomic.Exchange kind = class.Add
class_of atomic.CompareExchange kind = class.Add

-- what an atomic function brings to its element, given a number of the element's type
abbrev pub amount : AtomicFunction → Integer → Integer
amount atomic.Sub v = unary_value unary_operator.Negate v
amount atomic.Dec v = unary_value unary_operator.Negate v
amount _ v = v

-- an atomic update of 32 bits through a pointer
abbrev pub update : AtomicFunction → Pointer → Integer → Continuation → Continuation
update function p v after =
    ask (action.Access p.object p.offset (operation.Update (class_of function p.element) (bits_of Uint (amount function v).number))) (λ _. after)

-- A call of an atomic function that is an update. Its number is converted to the element's type; `inc` and `dec` are
-- given none, and it is 1.
abbrev pub atomic_call : AtomicFunction → List Operand → Continuation → Continuation
atomic_call function (p ∷ []) after = pointing p (λ q. update function q (wrapped q.element (pos 1)) after)
atomic_call function (p ∷ v ∷ []) after = pointing p (λ q. number v (λ n. update function q (converted n q.element) after))
atomic_call function _ after = finish

-- what an atomic function whose old number is used leaves, where the number that it compares with has these bits
-- (6.12.11)
abbrev pub fetch_op_of : AtomicFunction → IntType → (expected : ℕ) → FetchOp
fetch_op_of atomic.Exchange kind expected = fetch_op.Exchange
fetch_op_of atomic.CompareExchange kind expected = fetch_op.CompareExchange expected
fetch_op_of function kind expected = fetch_op.Class (class_of function kind)

-- an atomic operation on 32 bits through a pointer, with numbers of the element's type; its value is the old number
-- (6.12.11)
abbrev pub fetch_number : AtomicFunction → Pointer → (expected value : Integer) → (Operand → Continuation) → Continuation
fetch_number function p expected v after =
    ask (action.Access p.object p.offset
    (operation.Fetch (fetch_op_of function p.element (bits_of Uint expected.number)) (bits_of Uint (amount function v).number)))
    (λ answer. after (Integral (wrapped p.element (pos (answered answer)))))

-- A call of an atomic function whose old number is used. Its numbers are converted to the element's type (6.12.11); one
-- that isn't given is 1, and the number to compare with, which only a compare-exchange has, 0.
abbrev pub fetch_call : AtomicFunction → List Operand → (Operand → Continuation) → Continuation
fetch_call function (p ∷ []) after = pointing p (λ q. fetch_number function q (wrapped q.element (pos 0)) (wrapped q.element (pos 1)) after)
fetch_call function (p ∷ v ∷ []) after =
    pointing p (λ q. number v (λ n. fetch_number function q (wrapped q.element (pos 0)) (converted n q.element) after))
fetch_call function (p ∷ c ∷ v ∷ []) after =
    pointing p (λ q. number c (λ m. number v (λ n. fetch_number function q (converted m q.element) (converted n q.element) after)))
fetch_call function _ after = finish

-- whether a call that is a whole statement is an update: each atomic function but exchange and compare-exchange (own)
abbrev pub is_update : AtomicFunction → Bool
is_update atomic.Exchange = false
is_update atomic.CompareExchange = false
is_update _ = true

abbrev pub arithmetic : Result Integer ArithFault → (Operand → Continuation) → Continuation
arithmetic (Ok value) after = after (Integral value)
arithmetic (Err arith_fault.DivideByZero) after = fail cause.DivideByZero
arithmetic (Err arith_fault.DivideOverflow) after = fail cause.DivideOverflow

-- an operator on two values: integers, or a pointer and an integer that is added to it or taken from it
abbrev pub binary_operation : BinaryOperator → Operand → Operand → (Operand → Continuation) → Continuation
binary_operation operator (Integral v) (Integral w) after = arithmetic (binary_value operator v w) after
binary_operation binary_operator.Add (Pointed p) w after = moved (Pointed p) w (λ q. after (Pointed q))
binary_operation binary_operator.Add (Integral v) (Pointed p) after = moved (Pointed p) (Integral v) (λ q. after (Pointed q))
binary_operation binary_operator.Subtract (Pointed p) w after = moved_back (Pointed p) w (λ q. after (Pointed q))
binary_operation _ _ _ after = finish

-- whether a number isn't zero
abbrev pub test : Operand → (Bool → Continuation) → Continuation
test (Integral v) after = after (not (int_eq v.number (pos 0)))
test (Pointed p) after = finish

-- the item that runs: the range, and its number
pub record ItemPosition : Type 0 where
  pub range : Range
  pub item : ℕ

-- a dimension is an argument of type uint
abbrev pub dimension : Operand → ℕ
dimension (Integral v) = bits_of Uint v.number
dimension (Pointed _) = 0

abbrev pub given_value : Option Integer → (Operand → Continuation) → Continuation
given_value (Some v) after = after (Integral v)
given_value None after = finish

-- a function of one integer or of two
abbrev pub integer_call : Builtin → List Operand → (Operand → Continuation) → Continuation
integer_call function (a ∷ []) after = number a (λ m. given_value (builtin_value function (m ∷ [])) after)
integer_call function (a ∷ b ∷ []) after = number a (λ m. number b (λ n. given_value (builtin_value function (m ∷ n ∷ [])) after))
integer_call function _ after = finish

-- a built-in function that gives a value
abbrev pub call : ItemPosition → Option BuiltIn → List Operand → (Operand → Continuation) → Continuation
call here (Some built_in_function.WorkDim) [] after = after (Integral (wrapped Uint (pos (length here.range.global))))
call here (Some (built_in_function.WorkItem function)) (d ∷ []) after =
    after (Integral (wrapped Ulong (pos (work_item_value here.range here.item function (dimension d)))))
call here (Some (built_in_function.Integer function)) values after = integer_call function values after
call here (Some (built_in_function.Atomic function)) values after = fetch_call function values after
call here _ _ after = finish

-- a call that is a whole statement: an atomic update, or a function whose value is dropped
abbrev pub call_only : ItemPosition → Option BuiltIn → List Operand → Continuation → Continuation
call_only here (Some (built_in_function.Atomic function)) values after =
    if is_update function then atomic_call function values after else fetch_call function values (λ _. after)
call_only here function values after = call here function values (λ _. after)

-- the integer type of a type, or of what it points to
abbrev pub base_type : VariableType → IntType
base_type (variable_type.Integer kind) = kind
base_type (variable_type.Pointer pointer) = pointer.element

-- an element of the private array of a name among these variables is read (C99 6.5.2.1; own in its faults)
abbrev pub load_element : Variables → (name : ℕ) → (index : Operand) → (Operand → Continuation) → Continuation
load_element variables name i after = read_element name (base_type (declared_type variables name)) (elements_of variables name) i after

-- the variables with a number in an element of the private array of a name (C99 6.5.2.1 and 6.5.16; own in its faults)
abbrev pub store_element : Variables → (name : ℕ) → (index value : Operand) → (Variables → Continuation) → Continuation
store_element variables name i v after =
    write_element name (base_type (declared_type variables name)) (elements_of variables name) i v (λ elements. after (with_elements variables name elements))

-- the type of an operator's value
abbrev pub infix_type : InfixOperator → VariableType → VariableType → VariableType
infix_type (Arithmetic operator) (variable_type.Integer a) (variable_type.Integer b) = variable_type.Integer (binary_kind operator a b)
infix_type (Arithmetic operator) (variable_type.Integer a) (variable_type.Pointer p) = variable_type.Pointer p
infix_type (Arithmetic operator) (variable_type.Pointer p) b = variable_type.Pointer p
infix_type LogicalAnd a b = variable_type.Integer Int
infix_type LogicalOr a b = variable_type.Integer Int

-- the type of a built-in function's value, given the type of its first argument, or of what that points to
abbrev pub call_type : Option BuiltIn → IntType → IntType
call_type (Some built_in_function.WorkDim) kind = Uint
call_type (Some (built_in_function.WorkItem function)) kind = Ulong
call_type (Some (built_in_function.Integer builtin.Abs)) kind = unsigned_of kind
call_type _ kind = kind

-- The type of an expression, by the declared types of the variables.
abbrev mutual
  pub type_of : Variables → Term → VariableType
  type_of variables (Number at value) = variable_type.Integer value.kind
  type_of variables (Variable at name) = declared_type variables name
  type_of variables (Element at name index) = variable_type.Integer (base_type (declared_type variables name))
  type_of variables (ElementAddress at name_at name index) = declared_type variables name
  type_of variables (Dereference at pointer) = variable_type.Integer (base_type (type_of variables pointer))
  type_of variables (Call at name arguments) = variable_type.Integer (call_type (built_in name) (argument_type variables arguments))
  type_of variables (Unary at operator operand) = variable_type.Integer (unary_kind operator (base_type (type_of variables operand)))
  type_of variables (Cast at kind operand) = variable_type.Integer kind
  type_of variables (Binary at operator left right) = infix_type operator (type_of variables left) (type_of variables right)
  type_of variables (Choice at condition chosen otherwise) =
      variable_type.Integer (common (base_type (type_of variables chosen)) (base_type (type_of variables otherwise)))

  -- That of the first argument: functions of two integers have both of one type, and an atomic function has that of
  -- what its pointer points to (6.12.3 and 6.12.11).
  pub argument_type : Variables → Terms → IntType
  argument_type variables NoTerm = Int
  argument_type variables (ThenTerm NoTerm term) = base_type (type_of variables term)
  argument_type variables (ThenTerm (ThenTerm terms first) term) = argument_type variables (ThenTerm terms first)

-- What follows the left operand: that of `&&` or `||` may settle the value, and else more follows (6.3.g).
abbrev pub settle : InfixOperator → Operand → (Operand → Continuation) → Continuation → Continuation
settle (Arithmetic operator) v after more = more
settle LogicalAnd v after more = test v (λ holds. if holds then more else after (Integral (truth false)))
settle LogicalOr v after more = test v (λ holds. if holds then after (Integral (truth true)) else more)

-- an operator's value on both operands
abbrev pub join : InfixOperator → Operand → Operand → (Operand → Continuation) → Continuation
join (Arithmetic operator) v w after = binary_operation operator v w after
join LogicalAnd v w after = test w (λ holds. after (Integral (truth holds)))
join LogicalOr v w after = test w (λ holds. after (Integral (truth holds)))

-- the value of a chosen branch in the common type of it and of the other branch (6.3.i)
abbrev pub chosen_value : Operand → VariableType → (Operand → Continuation) → Continuation
chosen_value v other after = number v (λ n. after (Integral (converted n (common n.kind (base_type other)))))

-- An expression, and what follows its value. (An expression of a wrong type ends the item: no typed program has one.)
abbrev mutual
  pub eval : ItemPosition → Term → Variables → (Operand → Continuation) → Continuation
  eval here (Number at value) variables after = after (Integral value)
  eval here (Variable at name) variables after = known name (look variables name) after
  eval here (Element at name index) variables after =
      if is_private_array variables name
      then eval here index variables (λ i. load_element variables name i after)
      else known name (look variables name) (λ p. eval here index variables (λ i. moved p i (λ q. load q after)))
  eval here (ElementAddress at name_at name index) variables after =
      known name (look variables name) (λ p. eval here index variables (λ i. moved p i (λ q. after (Pointed q))))
  eval here (Dereference at pointer) variables after = eval here pointer variables (λ p. pointing p (λ q. load q after))
  eval here (Call at name arguments) variables after = eval_all here arguments variables (λ values. call here (built_in name) values after)
  eval here (Unary at operator operand) variables after = eval here operand variables (λ v. number v (λ n. after (Integral (unary_value operator n))))
  eval here (Cast at target operand) variables after = eval here operand variables (λ v. number v (λ n. after (Integral (converted n target))))
  eval here (Binary at operator left right) variables after =
      eval here left variables (λ v. settle operator v after (eval here right variables (λ w. join operator v w after)))
  eval here (Choice at condition chosen otherwise) variables after =
      eval here condition variables (λ v. test v (λ holds.
      if holds then eval here chosen variables (λ w. chosen_value w (type_of variables otherwise) after)
      else eval here otherwise variables (λ w. chosen_value w (type_of variables chosen) after)))

  -- arguments, from left to right
  pub eval_all : ItemPosition → Terms → Variables → (List Operand → Continuation) → Continuation
  eval_all here NoTerm variables after = after []
  eval_all here (ThenTerm terms term) variables after =
      eval_all here terms variables (λ values. eval here term variables (λ v. after (values ++ v ∷ [])))

-- the target: its pointer is read, if it has one, and then its index evaluated
abbrev pub reach : ItemPosition → Target → Variables → (Destination → Continuation) → Continuation
reach here (TargetVariable at name) variables after = after (Named name)
reach here (TargetElement at name index) variables after =
    if is_private_array variables name
    then eval here index variables (λ i. after (ElementOf name i))
    else known name (look variables name) (λ p. eval here index variables (λ i. moved p i (λ q. after (Through q))))
reach here (TargetDereference at pointer) variables after = eval here pointer variables (λ p. pointing p (λ q. after (Through q)))

-- the value that is there
abbrev pub fetch : Destination → Variables → (Operand → Continuation) → Continuation
fetch (Named name) variables after = known name (look variables name) after
fetch (ElementOf name i) variables after = load_element variables name i after
fetch (Through p) variables after = load p after

-- a value is put there
abbrev pub put : Destination → Operand → Variables → (Variables → Continuation) → Continuation
put (Named name) v variables after = after (assign variables name v)
put (ElementOf name i) v variables after = store_element variables name i v after
put (Through p) v variables after = store p v (after variables)

-- `++` adds 1, `--` takes 1 away
abbrev pub step_operator : Bool → BinaryOperator
step_operator true = binary_operator.Add
step_operator false = binary_operator.Subtract

abbrev pub one : Operand
one = Integral (record { kind = Int; number = pos 1 })
