-- The faults of a tree: for each place the list of its faults, in no order, and the places in the order of the text,
-- children before parents.
use Rattle.std.specs.Prelude.{ℕ, Bool, true, false, not, ◌||◌, ◌&&◌, nat_eq, nat_le, List, [], ◌∷◌, ◌++◌, map, replicate, Option, None, Some, is_some, length}
use Rattle.std.specs.List.{slice_get}
use Rattle.clnum.specs.Integer.{Integer}
use Rattle.clnum.specs.Builtins.{is_same}
use Rattle.clnum.specs.Conversions.{common, unsigned_of}
use Rattle.clnum.specs.Operations.{unary_kind, binary_kind}
use Rattle.clnum.specs.declared.int_type.IntType.{IntType}
use Rattle.clnum.specs.declared.int_type.IntType.TheVariants.{Int, Uint, Ulong}
use Rattle.clnum.specs.declared.operators.BinaryOperator.{BinaryOperator}
use Rattle.clnum.specs.declared.operators.BinaryOperator.TheVariants.{Add, Subtract}
use Rattle.clnum.specs.declared.operators.UnaryOperator.{UnaryOperator}
use Rattle.clnum.specs.declared.operators.Builtin.{Builtin}
use Rattle.clnum.specs.declared.operators.Builtin.TheVariants as integer
use Rattle.clmodel.specs.Barrier.{fences_of}
use Rattle.clmodel.specs.declared.setup.BuiltIn.{BuiltIn}
use Rattle.clmodel.specs.declared.setup.BuiltIn.TheVariants as built_in
use Rattle.clmodel.specs.declared.tree.AddressSpace.{AddressSpace}
use Rattle.clmodel.specs.declared.tree.AddressSpace.TheVariants.{Global, Local, Constant}
use Rattle.clmodel.specs.declared.tree.InfixOperator.{InfixOperator}
use Rattle.clmodel.specs.declared.tree.InfixOperator.TheVariants.{Arithmetic, LogicalAnd, LogicalOr}
use Rattle.clmodel.specs.declared.tree.VariableType.{VariableType}
use Rattle.clmodel.specs.declared.tree.VariableType.TheVariants.{Integer as Number, Pointer}
use Rattle.clmodel.specs.declared.type_fault.TypeFault.{TypeFault}
use Rattle.clmodel.specs.declared.type_fault.TypeFault.TheVariants as fault
use Rattle.clmodel.specs.Tree as tree
use Rattle.clmodel.specs.Tree.{Term, Terms, NoTerm, ThenTerm, array_length, Target, Stmt, Stmts, NoStmt, ThenStmt, MaybeStmt, Without, With, MaybeTerm, WithoutTerm, WithTerm}
use Rattle.clmodel.specs.Typing.Context.{Context, Signature, Single, LocalArray, PrivateArray, value_type, element_type, is_outermost, Meaning, meaning, Bound, Callable, Current, BuiltInFunction, Barrier, Unknown, is_free, bind, enter, fenced, turning, for_context, after_all}
use Rattle.clmodel.specs.Typing.Least.{Places, node}
use Rattle.clmodel.specs.Typing.Rules.{is_constant, is_writable, is_stored, is_atomic, operands, count}

abbrev pub unless : Bool → TypeFault → List TypeFault
unless true f = []
unless false f = f ∷ []

-- where an expression begins
abbrev pub start : Term → ℕ
start (tree.Number a v) = a
start (tree.Variable a x) = a
start (tree.Element a x e) = a
start (tree.ElementAddress a b x e) = a
start (tree.Dereference a e) = a
start (tree.Call a x es) = a
start (tree.Unary a op e) = a
start (tree.Cast a t e) = a
start (tree.Binary a op d e) = a
start (tree.Choice a e d f) = a

-- where the target begins
abbrev pub target_start : Target → ℕ
target_start (tree.TargetVariable a x) = a
target_start (tree.TargetElement a x e) = a
target_start (tree.TargetDereference a e) = a

-- where an integer is wanted
abbrev pub integer_faults : VariableType → ℕ → List TypeFault
integer_faults (Number t) a = []
integer_faults (Pointer p) a = fault.TypeMismatch a ∷ []

-- where a pointer is wanted
abbrev pub pointer_faults : VariableType → ℕ → List TypeFault
pointer_faults (Number t) a = fault.TypeMismatch a ∷ []
pointer_faults (Pointer p) a = []

abbrev pub is_same_space : AddressSpace → AddressSpace → Bool
is_same_space Global Global = true
is_same_space Local Local = true
is_same_space Constant Constant = true
is_same_space _ _ = false

-- a value of the second type given to what has the first
abbrev pub passing_faults : VariableType → VariableType → ℕ → List TypeFault
passing_faults (Number t) k a = integer_faults k a
passing_faults (Pointer p) (Number u) a = fault.TypeMismatch a ∷ []
passing_faults (Pointer p) (Pointer q) a =
    unless (is_same p.element q.element) (fault.TypeMismatch a)
    ++ unless (p.is_const || not q.is_const) (fault.NotAssignable a)
    ++ unless (is_same_space p.space q.space) (fault.WrongSpace a)

-- a name as a value
abbrev pub name_faults : Meaning → ℕ → List TypeFault
name_faults (Bound d) a = unless (is_some (value_type d)) (fault.WrongSpace a)
name_faults (Callable s) a = fault.TypeMismatch a ∷ []
name_faults (Current s) a = fault.TypeMismatch a ∷ []
name_faults (BuiltInFunction f) a = fault.TypeMismatch a ∷ []
name_faults Barrier a = fault.TypeMismatch a ∷ []
name_faults Unknown a = fault.UnknownName a ∷ []

-- a name in front of an index
abbrev pub front_faults : Meaning → ℕ → List TypeFault
front_faults (Bound d) a = unless (is_some (element_type d)) (fault.TypeMismatch a)
front_faults m a = name_faults m a

-- a name in front of an index, of whose element the address is taken: where the address and the name begin
abbrev pub address_faults : Meaning → (at name : ℕ) → List TypeFault
address_faults (Bound (PrivateArray t)) a b = fault.WrongSpace a ∷ []
address_faults m a b = front_faults m b

-- a name that is a target
abbrev pub whole_faults : Meaning → ℕ → List TypeFault
whole_faults (Bound (LocalArray t)) a = fault.NotAssignable a ∷ []
whole_faults (Bound (PrivateArray t)) a = fault.NotAssignable a ∷ []
whole_faults m a = name_faults m a

-- operators that move the pointer on their left, and that one that moves a pointer on its right
abbrev pub moves : BinaryOperator → Bool
moves Add = true
moves Subtract = true
moves _ = false

abbrev pub takes_pointer : InfixOperator → Bool
takes_pointer (Arithmetic op) = moves op
takes_pointer _ = false

abbrev pub is_sum : InfixOperator → Bool
is_sum (Arithmetic Add) = true
is_sum _ = false

-- the two operands, and where they begin
abbrev pub operand_faults : InfixOperator → VariableType → VariableType → (left right : ℕ) → List TypeFault
operand_faults op (Number t) (Number u) a b = []
operand_faults op (Number t) (Pointer q) a b = unless (is_sum op) (fault.TypeMismatch b)
operand_faults op (Pointer p) k a b = unless (takes_pointer op) (fault.TypeMismatch a) ++ integer_faults k b

-- an operator that assigns: the target, the value, and where they begin
abbrev pub assigning_faults : BinaryOperator → VariableType → VariableType → (to value : ℕ) → List TypeFault
assigning_faults op (Number t) k a b = integer_faults k b
assigning_faults op (Pointer p) k a b = unless (moves op) (fault.TypeMismatch a) ++ integer_faults k b

-- what an argument has to be
pub data Want : Type 0 where
  AnInteger : Want
  OfTypeBefore : Want  -- of the type of the argument before it
  AnAtomicPointer : Want
  ForParameter : VariableType → Want  -- what can be given to a parameter of this type

-- the parameters of a function on integers
abbrev pub integer_wants : Builtin → List Want
integer_wants integer.Min = AnInteger ∷ OfTypeBefore ∷ []
integer_wants integer.Max = AnInteger ∷ OfTypeBefore ∷ []
integer_wants integer.Rotate = AnInteger ∷ OfTypeBefore ∷ []
integer_wants _ = AnInteger ∷ []

-- those of an atomic function, by how many operands it has beside its pointer
abbrev pub atomic_wants : (operands : ℕ) → List Want
atomic_wants operands = AnAtomicPointer ∷ replicate operands AnInteger

-- the parameters of a built-in function
abbrev pub wants : BuiltIn → List Want
wants built_in.WorkDim = []
wants (built_in.WorkItem f) = AnInteger ∷ []
wants (built_in.Integer f) = integer_wants f
wants (built_in.Atomic f) = atomic_wants (operands f)

-- where a call stands
pub data Spot : Type 0 where
  WholeStatement : Spot
  RightSide : Spot  -- all that is assigned, or that initialises a variable
  Inside : Spot  -- part of another expression, a condition, or what is returned

abbrev pub is_statement : Spot → Bool
is_statement WholeStatement = true
is_statement _ = false

-- whether a function of the text may be called there
abbrev pub takes_helper : Spot → Bool
takes_helper Inside = false
takes_helper _ = true

-- a call of a function of the text with this signature: no kernel, at a spot that takes it, and with an argument for
-- each parameter
abbrev pub helper_faults : Spot → Signature → (at arguments : ℕ) → List TypeFault
helper_faults spot s a n =
    unless (takes_helper spot && not s.is_kernel) (fault.TypeMismatch a) ++ unless (nat_eq n (length s.parameters)) (fault.WrongArgumentCount a)

-- what is called: at which spot, where, and with how many arguments
abbrev pub callee_faults : Spot → Meaning → (at arguments : ℕ) → List TypeFault
callee_faults spot (BuiltInFunction f) a n = unless (nat_eq n (length (wants f))) (fault.WrongArgumentCount a)
callee_faults spot Barrier a n = unless (is_statement spot) (fault.TypeMismatch a) ++ unless (nat_eq n 1) (fault.WrongArgumentCount a)
callee_faults spot (Callable s) a n = helper_faults spot s a n
callee_faults spot (Current s) a n = helper_faults spot s a n ++ fault.Recursion a ∷ []
callee_faults spot (Bound d) a n = fault.TypeMismatch a ∷ []
callee_faults spot Unknown a n = fault.UnknownName a ∷ []

-- what arguments it wants
abbrev pub wanted : Meaning → List Want
wanted (BuiltInFunction f) = wants f
wanted Barrier = AnInteger ∷ []
wanted (Callable s) = map ForParameter s.parameters
wanted (Current s) = map ForParameter s.parameters
wanted _ = []

-- an integer of the type of the one before it
abbrev pub same_faults : VariableType → VariableType → ℕ → List TypeFault
same_faults (Number t) (Number u) a = unless (is_same t u) (fault.TypeMismatch a)
same_faults _ k a = integer_faults k a

-- a pointer for an atomic function
abbrev pub atomic_faults : VariableType → ℕ → List TypeFault
atomic_faults (Number t) a = fault.TypeMismatch a ∷ []
atomic_faults (Pointer p) a =
    unless (is_atomic p.element) (fault.TypeMismatch a) ++ unless (not p.is_const) (fault.NotAssignable a) ++ unless (not (is_constant p.space)) (fault.WrongSpace a)

-- an argument: what is wanted in its place, the type of the one before it, its own, and where it begins
abbrev pub argument_faults : Option Want → VariableType → VariableType → ℕ → List TypeFault
argument_faults None j k a = []
argument_faults (Some AnInteger) j k a = integer_faults k a
argument_faults (Some OfTypeBefore) j k a = same_faults j k a
argument_faults (Some AnAtomicPointer) j k a = atomic_faults k a
argument_faults (Some (ForParameter p)) j k a = passing_faults p k a

-- The type of an expression, if it has no faults.
abbrev pub type_or_int : Option VariableType → VariableType
type_or_int (Some k) = k
type_or_int None = Number Int

abbrev pub name_kind : Meaning → VariableType
name_kind (Bound d) = type_or_int (value_type d)
name_kind _ = Number Int

abbrev pub number_or_int : Option IntType → VariableType
number_or_int (Some t) = Number t
number_or_int None = Number Int

-- of an element behind a name
abbrev pub front_kind : Meaning → VariableType
front_kind (Bound d) = number_or_int (element_type d)
front_kind _ = Number Int

-- the type of what a value of this type points to
abbrev pub element_kind : VariableType → VariableType
element_kind (Number t) = Number t
element_kind (Pointer p) = Number p.element

abbrev pub unary_type : UnaryOperator → VariableType → VariableType
unary_type op (Number t) = Number (unary_kind op t)
unary_type op (Pointer p) = Pointer p

abbrev pub number_kind : InfixOperator → IntType → IntType → IntType
number_kind (Arithmetic op) t u = binary_kind op t u
number_kind LogicalAnd t u = Int
number_kind LogicalOr t u = Int

abbrev pub binary_type : InfixOperator → VariableType → VariableType → VariableType
binary_type op (Number t) (Number u) = Number (number_kind op t u)
binary_type op (Number t) (Pointer p) = Pointer p
binary_type op (Pointer p) k = Pointer p

abbrev pub choice_type : VariableType → VariableType → VariableType
choice_type (Number t) (Number u) = Number (common t u)
choice_type k _ = k

abbrev pub unsigned_type : VariableType → VariableType
unsigned_type (Number t) = Number (unsigned_of t)
unsigned_type (Pointer p) = Pointer p

abbrev pub integer_call_kind : Builtin → VariableType → VariableType
integer_call_kind integer.Abs k = unsigned_type k
integer_call_kind _ k = k

-- what a function of the text gives
abbrev pub result_kind : Option IntType → VariableType
result_kind (Some t) = Number t
result_kind None = Number Int

-- a call, by the type of its first argument; that of an atomic function is the type of what its pointer points to
-- (6.12.11)
abbrev pub call_kind : Meaning → VariableType → VariableType
call_kind (BuiltInFunction built_in.WorkDim) k = Number Uint
call_kind (BuiltInFunction (built_in.WorkItem f)) k = Number Ulong
call_kind (BuiltInFunction (built_in.Integer f)) k = integer_call_kind f k
call_kind (BuiltInFunction (built_in.Atomic f)) k = element_kind k
call_kind (Callable s) k = result_kind s.result
call_kind _ k = Number Int

abbrev mutual
  pub kind_of : Context → Term → VariableType
  kind_of c (tree.Number a v) = Number v.kind
  kind_of c (tree.Variable a x) = name_kind (meaning c x)
  kind_of c (tree.Element a x e) = front_kind (meaning c x)
  kind_of c (tree.ElementAddress a b x e) = name_kind (meaning c x)
  kind_of c (tree.Dereference a e) = element_kind (kind_of c e)
  kind_of c (tree.Call a x es) = call_kind (meaning c x) (first_kind c es)
  kind_of c (tree.Unary a op e) = unary_type op (kind_of c e)
  kind_of c (tree.Cast a t e) = Number t
  kind_of c (tree.Binary a op d e) = binary_type op (kind_of c d) (kind_of c e)
  kind_of c (tree.Choice a e d f) = choice_type (kind_of c d) (kind_of c f)

  -- the type of the last of these arguments
  pub last_kind : Context → Terms → VariableType
  last_kind c NoTerm = Number Int
  last_kind c (ThenTerm es e) = kind_of c e

  -- the type of the first of them
  pub first_kind : Context → Terms → VariableType
  first_kind c NoTerm = Number Int
  first_kind c (ThenTerm NoTerm e) = kind_of c e
  first_kind c (ThenTerm (ThenTerm es d) e) = first_kind c (ThenTerm es d)

abbrev pub arguments_faults : Context → List Want → Terms → List TypeFault
arguments_faults c ws NoTerm = []
arguments_faults c ws (ThenTerm es e) =
    arguments_faults c ws es ++ argument_faults (slice_get ws (count es)) (last_kind c es) (kind_of c e) (start e)

-- where the arguments of a call stand
abbrev pub inside_call : Meaning → Context → Context
inside_call Barrier c = fenced c
inside_call _ c = c

-- the flags of a barrier: the name of a fence, or the two names joined by `|`
abbrev pub flags_faults : Terms → List TypeFault
flags_faults NoTerm = []
flags_faults (ThenTerm es e) = flags_faults es ++ unless (is_some (fences_of e)) (fault.BadBarrierFlags (start e))

abbrev pub barrier_faults : Meaning → Terms → List TypeFault
barrier_faults Barrier es = flags_faults es
barrier_faults _ es = []

-- a call's own faults
abbrev pub call_faults : Context → Spot → Meaning → (at : ℕ) → Terms → List TypeFault
call_faults c spot m a es = callee_faults spot m a (count es) ++ arguments_faults (inside_call m c) (wanted m) es ++ barrier_faults m es

-- An expression's places: its parts from left to right, then itself.
abbrev mutual
  pub term_faults : Context → Term → Places
  term_faults c (tree.Number a v) = [] ∷ []
  term_faults c (tree.Variable a x) = name_faults (meaning c x) a ∷ []
  term_faults c (tree.Element a x e) = node (term_faults c e) (front_faults (meaning c x) a ++ integer_faults (kind_of c e) (start e))
  term_faults c (tree.ElementAddress a b x e) = node (term_faults c e) (address_faults (meaning c x) a b ++ integer_faults (kind_of c e) (start e))
  term_faults c (tree.Dereference a e) = node (term_faults c e) (pointer_faults (kind_of c e) (start e))
  term_faults c (tree.Call a x es) = node (terms_faults (inside_call (meaning c x) c) es) (call_faults c Inside (meaning c x) a es)
  term_faults c (tree.Unary a op e) = node (term_faults c e) (integer_faults (kind_of c e) (start e))
  term_faults c (tree.Cast a t e) = node (term_faults c e) (integer_faults (kind_of c e) (start e))
  term_faults c (tree.Binary a op d e) =
      node (term_faults c d ++ term_faults c e) (operand_faults op (kind_of c d) (kind_of c e) (start d) (start e))
  term_faults c (tree.Choice a e d f) =
      node (term_faults c e ++ term_faults c d ++ term_faults c f)
      (integer_faults (kind_of c e) (start e) ++ integer_faults (kind_of c d) (start d) ++ integer_faults (kind_of c f) (start f))

  pub terms_faults : Context → Terms → Places
  terms_faults c NoTerm = []
  terms_faults c (ThenTerm es e) = terms_faults c es ++ term_faults c e

-- what a value of this type points to, stored to at this offset
abbrev pub store_faults : VariableType → ℕ → List TypeFault
store_faults (Number t) a = []
store_faults (Pointer p) a = unless (is_writable p) (fault.NotAssignable a)

-- a name in front of the index of a target
abbrev pub stored_faults : Meaning → ℕ → List TypeFault
stored_faults (Bound d) a = unless (is_stored d) (fault.NotAssignable a)
stored_faults _ a = []

abbrev pub element_target_faults : Meaning → ℕ → List TypeFault
element_target_faults m a = front_faults m a ++ stored_faults m a

-- The target: its parts, then itself.
abbrev pub target_faults : Context → Target → Places
target_faults c (tree.TargetVariable a x) = whole_faults (meaning c x) a ∷ []
target_faults c (tree.TargetElement a x e) = node (term_faults c e) (element_target_faults (meaning c x) a ++ integer_faults (kind_of c e) (start e))
target_faults c (tree.TargetDereference a e) = node (term_faults c e) (pointer_faults (kind_of c e) (start e) ++ store_faults (kind_of c e) a)

-- its type, if it has no faults
abbrev pub target_kind : Context → Target → VariableType
target_kind c (tree.TargetVariable a x) = name_kind (meaning c x)
target_kind c (tree.TargetElement a x e) = front_kind (meaning c x)
target_kind c (tree.TargetDereference a e) = element_kind (kind_of c e)

-- What is assigned, or initialises a variable. A helper may be called here.
abbrev pub value_faults : Context → Term → Places
value_faults c (tree.Call a x es) = node (terms_faults (inside_call (meaning c x) c) es) (call_faults c RightSide (meaning c x) a es)
value_faults c e = term_faults c e

-- whether it has a value
abbrev pub gives_value : Meaning → Bool
gives_value (Callable s) = is_some s.result
gives_value _ = true

abbrev pub void_faults : Context → Term → List TypeFault
void_faults c (tree.Call a x es) = unless (gives_value (meaning c x)) (fault.TypeMismatch a)
void_faults c e = []

abbrev pub declared_faults : Context → (at name : ℕ) → List TypeFault
declared_faults c b x = unless (is_free c x) (fault.Redeclared b)

-- an array: its name, where it is local the block that it stands in (6.5.2), and how many elements it has, by the
-- device's limit (own); all at one place (own)
abbrev pub array_faults : Context → (is_local : Bool) → (at name length_at : ℕ) → Integer → List TypeFault
array_faults c is_local b x d n =
    declared_faults c b x
    ++ unless (not is_local || is_outermost c) (fault.WrongSpace b)
    ++ unless (nat_le 1 (array_length n) && nat_le (array_length n) c.limits.elements) (fault.TooLarge d)

-- an initialiser
abbrev pub initial_faults : Context → VariableType → Term → Places
initial_faults c k e = node (value_faults c e) (void_faults c e ++ passing_faults k (kind_of c e) (start e))

-- the own faults of an assignment
abbrev pub assignment_faults : Context → Target → Option BinaryOperator → Term → List TypeFault
assignment_faults c p None e = void_faults c e ++ passing_faults (target_kind c p) (kind_of c e) (start e)
assignment_faults c p (Some op) e = void_faults c e ++ assigning_faults op (target_kind c p) (kind_of c e) (target_start p) (start e)

-- a condition that may be left out, as a part
abbrev pub condition_parts : Context → MaybeTerm → Places
condition_parts c WithoutTerm = []
condition_parts c (WithTerm e) = term_faults c e

-- and what its statement wants of it
abbrev pub condition_faults : Context → MaybeTerm → List TypeFault
condition_faults c WithoutTerm = []
condition_faults c (WithTerm e) = integer_faults (kind_of c e) (start e)

-- `return` with a value: in a function that gives one, and an integer
abbrev pub return_faults : Context → ℕ → Term → List TypeFault
return_faults c a e = unless (is_some c.signature.result) (fault.TypeMismatch a) ++ integer_faults (kind_of c e) (start e)

-- A statement's places. A declared name has its own place before those of its initialiser, and is in scope there. A
-- condition is a fault of its statement, and so comes after what is controlled.
abbrev mutual
  pub faults : Context → Stmt → Places
  faults c (tree.Empty a) = []
  faults c (tree.Block a ss) = row_faults (enter c) ss
  faults c (tree.Declare a k b x) = declared_faults c b x ∷ []
  faults c (tree.DeclareAs a k b x e) = declared_faults c b x ∷ initial_faults (bind c x (Single k)) k e
  faults c (tree.DeclareArray a is_local t b x d n) = array_faults c is_local b x d n ∷ []
  faults c (tree.Assign a p op e) = node (target_faults c p ++ value_faults c e) (assignment_faults c p op e)
  faults c (tree.Step a p is_increment) = target_faults c p
  faults c (tree.CallOnly a x es) = node (terms_faults (inside_call (meaning c x) c) es) (call_faults c WholeStatement (meaning c x) a es)
  faults c (tree.If a e s) = node (term_faults c e ++ faults (enter c) s) (condition_faults c (WithTerm e))
  faults c (tree.IfElse a e s r) = node (term_faults c e ++ faults (enter c) s ++ faults (enter c) r) (condition_faults c (WithTerm e))
  faults c (tree.While a e s) = node (term_faults c e ++ faults (turning c) s) (condition_faults c (WithTerm e))
  faults c (tree.DoWhile a s e) = node (faults (turning c) s ++ term_faults c e) (condition_faults c (WithTerm e))
  faults c (tree.For a first e third s) = let d = for_context c first in
      node (part_faults (enter c) first ++ condition_parts d e ++ part_faults (enter d) third ++ faults (turning d) s) (condition_faults d e)
  faults c (tree.Break a) = unless c.in_loop (fault.TypeMismatch a) ∷ []
  faults c (tree.Continue a) = unless c.in_loop (fault.TypeMismatch a) ∷ []
  faults c (tree.Return a) = unless (not (is_some c.signature.result)) (fault.TypeMismatch a) ∷ []
  faults c (tree.ReturnValue a e) = node (term_faults c e) (return_faults c a e)

  -- a part of a `for` that may be left out
  pub part_faults : Context → MaybeStmt → Places
  part_faults c Without = []
  part_faults c (With s) = faults c s

  pub row_faults : Context → Stmts → Places
  row_faults c NoStmt = []
  row_faults c (ThenStmt ss s) = row_faults c ss ++ faults (after_all c ss) s
