-- The rules of types (OpenCL 1.2, 6.1 to 6.12; C99 6.5, 6.7 and 6.8).
use Rattle.std.specs.Prelude.{◌≡◌, ℕ, suc, ◌≤◌, Bool, true, false, not, ◌&&◌, List, [], ◌∷◌, ◌++◌, length, None, Some}
use Rattle.std.specs.List.{slice_get}
use Rattle.clnum.specs.Integer.{Integer}
use Rattle.clnum.specs.Conversions.{common, unsigned_of}
use Rattle.clnum.specs.Operations.{unary_kind, binary_kind}
use Rattle.clnum.specs.declared.int_type.IntType.{IntType}
use Rattle.clnum.specs.declared.int_type.IntType.TheVariants.{Int, Uint, Ulong}
use Rattle.clnum.specs.declared.operators.BinaryOperator.{BinaryOperator}
use Rattle.clnum.specs.declared.operators.BinaryOperator.TheVariants.{Add, Subtract}
use Rattle.clnum.specs.declared.operators.UnaryOperator.{UnaryOperator}
use Rattle.clnum.specs.declared.operators.Builtin.TheVariants as integer
use Rattle.clmodel.specs.Barrier.{fences}
use Rattle.clmodel.specs.declared.action.Fences.{Fences}
use Rattle.clmodel.specs.declared.declaration.Declaration.{Declaration}
use Rattle.clmodel.specs.declared.setup.AtomicFunction.{AtomicFunction}
use Rattle.clmodel.specs.declared.setup.AtomicFunction.TheVariants.{Inc, Dec, CompareExchange}
use Rattle.clmodel.specs.declared.setup.BuiltIn.{BuiltIn}
use Rattle.clmodel.specs.declared.setup.BuiltIn.TheVariants as built_in
use Rattle.clmodel.specs.declared.setup.WorkItemFunction.{WorkItemFunction}
use Rattle.clmodel.specs.declared.tree.AddressSpace.{AddressSpace}
use Rattle.clmodel.specs.declared.tree.AddressSpace.TheVariants.{Global, Local, Constant}
use Rattle.clmodel.specs.declared.tree.InfixOperator.{InfixOperator}
use Rattle.clmodel.specs.declared.tree.InfixOperator.TheVariants.{Arithmetic, LogicalAnd, LogicalOr}
use Rattle.clmodel.specs.declared.tree.PointerType.{PointerType}
use Rattle.clmodel.specs.declared.tree.VariableType.{VariableType}
use Rattle.clmodel.specs.declared.tree.VariableType.TheVariants.{Integer as Number, Pointer}
use Rattle.clmodel.specs.Tree as tree
use Rattle.clmodel.specs.Tree.{Term, Terms, NoTerm, ThenTerm, array_length, Target, Stmt, Stmts, NoStmt, ThenStmt, MaybeStmt, Without, With, MaybeTerm, WithoutTerm, WithTerm}
use Rattle.clmodel.specs.Typing.Context.{Context, Signature, Single, LocalArray, PrivateArray, value_type, element_type, is_outermost, meaning, Bound, Callable, BuiltInFunction, Barrier, is_free, bind, enter, turning, for_context, after_all}

abbrev pub is_constant : AddressSpace → Bool
is_constant Global = false
is_constant Local = false
is_constant Constant = true

-- whether what a pointer of this type points to can be stored to (6.5.3; C99 6.5.16, paragraph 2)
abbrev pub is_writable : PointerType → Bool
is_writable p = not p.is_const && not (is_constant p.space)

-- whether the elements of what is declared can be stored to, where it can stand in front of an index (C99 6.5.2.1)
abbrev pub is_stored : Declaration → Bool
is_stored (Single (Number t)) = true
is_stored (Single (Pointer p)) = is_writable p
is_stored (LocalArray t) = true
is_stored (PrivateArray t) = true

-- The greatest limit that a device may have of the elements of an array (own): each device says its own limit. Their
-- number is always constant (6.9.d).
abbrev pub length_limit : ℕ
length_limit = 65536

-- whether atomic functions work on this type
abbrev pub is_atomic : IntType → Bool
is_atomic Int = true
is_atomic Uint = true
is_atomic _ = false

-- how many operands an atomic function has beside its pointer (6.12.11)
abbrev pub operands : AtomicFunction → ℕ
operands Inc = 0
operands Dec = 0
operands CompareExchange = 2
operands _ = 1

-- A value of the second type can be given to what has the first: as an initialiser, an assignment or an argument (C99
-- 6.5.16.1).
pub data Passes : VariableType → VariableType → Type 0 where
  integers : {t u : IntType} → Passes (Number t) (Number u)
  pointers : {p q : PointerType} → p.element ≡ q.element → (q.is_const ≡ true → p.is_const ≡ true) → p.space ≡ q.space → Passes (Pointer p) (Pointer q)

-- An operator on operands of two types, and the type of its value (6.3; C99 6.5.5 to 6.5.14).
pub data Operates : InfixOperator → VariableType → VariableType → VariableType → Type 0 where
  arithmetic : {op : BinaryOperator} {t u : IntType} → Operates (Arithmetic op) (Number t) (Number u) (Number (binary_kind op t u))
  logical_and : {t u : IntType} → Operates LogicalAnd (Number t) (Number u) (Number Int)
  logical_or : {t u : IntType} → Operates LogicalOr (Number t) (Number u) (Number Int)
  pointer_sum : {p : PointerType} {u : IntType} → Operates (Arithmetic Add) (Pointer p) (Number u) (Pointer p)
  pointer_difference : {p : PointerType} {u : IntType} → Operates (Arithmetic Subtract) (Pointer p) (Number u) (Pointer p)
  sum_pointer : {t : IntType} {p : PointerType} → Operates (Arithmetic Add) (Number t) (Pointer p) (Pointer p)

-- A built-in function with arguments of these types, and the type of its value (6.12.1, 6.12.3, 6.12.11).
pub data Calls : BuiltIn → List VariableType → VariableType → Type 0 where
  work_dim : Calls built_in.WorkDim [] (Number Uint)
  work_item : {f : WorkItemFunction} {t : IntType} → Calls (built_in.WorkItem f) (Number t ∷ []) (Number Ulong)
  min : {t : IntType} → Calls (built_in.Integer integer.Min) (Number t ∷ Number t ∷ []) (Number t)
  max : {t : IntType} → Calls (built_in.Integer integer.Max) (Number t ∷ Number t ∷ []) (Number t)
  rotate : {t : IntType} → Calls (built_in.Integer integer.Rotate) (Number t ∷ Number t ∷ []) (Number t)
  abs : {t : IntType} → Calls (built_in.Integer integer.Abs) (Number t ∷ []) (Number (unsigned_of t))
  clz : {t : IntType} → Calls (built_in.Integer integer.Clz) (Number t ∷ []) (Number t)
  popcount : {t : IntType} → Calls (built_in.Integer integer.Popcount) (Number t ∷ []) (Number t)
  atomic : {f : AtomicFunction} {p : PointerType} {t : IntType}
      → operands f ≡ 1 → is_atomic p.element ≡ true → is_writable p ≡ true → Calls (built_in.Atomic f) (Pointer p ∷ Number t ∷ []) (Number p.element)
  atomic_alone : {f : AtomicFunction} {p : PointerType}
      → operands f ≡ 0 → is_atomic p.element ≡ true → is_writable p ≡ true → Calls (built_in.Atomic f) (Pointer p ∷ []) (Number p.element)
  atomic_pair : {f : AtomicFunction} {p : PointerType} {t u : IntType}
      → operands f ≡ 2 → is_atomic p.element ≡ true → is_writable p ≡ true
      → Calls (built_in.Atomic f) (Pointer p ∷ Number t ∷ Number u ∷ []) (Number p.element)

mutual
  -- An expression and its type.
  pub data Types (c : Context) : Term → VariableType → Type 0 where
    number : {a : ℕ} {v : Integer} → Types c (tree.Number a v) (Number v.kind)
    variable : {a x : ℕ} {d : Declaration} {k : VariableType} → meaning c x ≡ Bound d → value_type d ≡ Some k → Types c (tree.Variable a x) k
    element : {a x : ℕ} {d : Declaration} {t u : IntType} {e : Term}
        → meaning c x ≡ Bound d → element_type d ≡ Some t → Types c e (Number u) → Types c (tree.Element a x e) (Number t)
    address : {a b x : ℕ} {d : Declaration} {p : PointerType} {u : IntType} {e : Term}
        → meaning c x ≡ Bound d → value_type d ≡ Some (Pointer p) → Types c e (Number u) → Types c (tree.ElementAddress a b x e) (Pointer p)
    dereference : {a : ℕ} {p : PointerType} {e : Term} → Types c e (Pointer p) → Types c (tree.Dereference a e) (Number p.element)
    call : {a x : ℕ} {f : BuiltIn} {es : Terms} {ks : List VariableType} {k : VariableType}
        → meaning c x ≡ BuiltInFunction f → TypesAll c es ks → Calls f ks k → Types c (tree.Call a x es) k
    unary : {a : ℕ} {op : UnaryOperator} {t : IntType} {e : Term} → Types c e (Number t) → Types c (tree.Unary a op e) (Number (unary_kind op t))
    cast : {a : ℕ} {t u : IntType} {e : Term} → Types c e (Number u) → Types c (tree.Cast a t e) (Number t)
    binary : {a : ℕ} {op : InfixOperator} {d e : Term} {j k r : VariableType}
        → Types c d j → Types c e k → Operates op j k r → Types c (tree.Binary a op d e) r
    choice : {a : ℕ} {s t u : IntType} {e d f : Term}
        → Types c e (Number s) → Types c d (Number t) → Types c f (Number u) → Types c (tree.Choice a e d f) (Number (common t u))

  -- Arguments and their types.
  pub data TypesAll (c : Context) : Terms → List VariableType → Type 0 where
    no_argument : TypesAll c NoTerm []
    argument : {es : Terms} {e : Term} {ks : List VariableType} {k : VariableType}
        → TypesAll c es ks → Types c e k → TypesAll c (ThenTerm es e) (ks ++ k ∷ [])

-- What can be a target, and its type.
pub data TypesTarget (c : Context) : Target → VariableType → Type 0 where
  variable_target : {a x : ℕ} {k : VariableType} → meaning c x ≡ Bound (Single k) → TypesTarget c (tree.TargetVariable a x) k
  element_target : {a x : ℕ} {d : Declaration} {t u : IntType} {e : Term}
      → meaning c x ≡ Bound d → element_type d ≡ Some t → is_stored d ≡ true → Types c e (Number u) → TypesTarget c (tree.TargetElement a x e) (Number t)
  dereference_target : {a : ℕ} {p : PointerType} {e : Term} → is_writable p ≡ true → Types c e (Pointer p) → TypesTarget c (tree.TargetDereference a e) (Number p.element)

abbrev pub count : Terms → ℕ
count NoTerm = 0
count (ThenTerm es e) = suc (count es)

-- Arguments that can be given to parameters of these types, from the first on.
pub data AreGiven (c : Context) (ps : List VariableType) : Terms → Type 0 where
  no_argument : AreGiven c ps NoTerm
  argument : {es : Terms} {e : Term} {p k : VariableType}
      → AreGiven c ps es → Types c e k → slice_get ps (count es) ≡ Some p → Passes p k → AreGiven c ps (ThenTerm es e)

-- A call of a function of the text that stands before and is no kernel, with one argument for each parameter (C99
-- 6.5.2.2).
pub record CallsHelper (c : Context) (x : ℕ) (es : Terms) (s : Signature) : Type 0 where
  pub meaning : meaning c x ≡ Callable s
  pub is_helper : s.is_kernel ≡ false
  pub count : count es ≡ length s.parameters
  pub arguments : AreGiven c s.parameters es

-- What is assigned, or initialises a variable: an expression, or the call of a helper that gives a value.
pub data Gives (c : Context) : Term → VariableType → Type 0 where
  expression : {e : Term} {k : VariableType} → Types c e k → Gives c e k
  helper : {a x : ℕ} {es : Terms} {s : Signature} {t : IntType} → CallsHelper c x es s → s.result ≡ Some t → Gives c (tree.Call a x es) (Number t)

-- a condition, or none
pub data IsCondition (c : Context) : MaybeTerm → Type 0 where
  always : IsCondition c WithoutTerm
  condition : {e : Term} {t : IntType} → Types c e (Number t) → IsCondition c (WithTerm e)

mutual
  -- A statement or a declaration. What is declared is in scope in its own initialiser (C99 6.2.1, paragraph 7).
  pub data IsTyped : Context → Stmt → Type 0 where
    empty : {c : Context} {a : ℕ} → IsTyped c (tree.Empty a)
    block : {c : Context} {a : ℕ} {ss : Stmts} → AreTyped (enter c) ss → IsTyped c (tree.Block a ss)
    declare : {c : Context} {a b x : ℕ} {k : VariableType} → is_free c x ≡ true → IsTyped c (tree.Declare a k b x)
    declare_as : {c : Context} {a b x : ℕ} {k j : VariableType} {e : Term}
        → is_free c x ≡ true → Gives (bind c x (Single k)) e j → Passes k j → IsTyped c (tree.DeclareAs a k b x e)
    -- A local array is declared in the outermost block of a kernel alone (6.5.2), a private one in each block (6.5.4).
    declare_array : {c : Context} {a b x d : ℕ} {is_local : Bool} {t : IntType} {n : Integer}
        → is_free c x ≡ true → (is_local ≡ true → is_outermost c ≡ true) → 1 ≤ array_length n → array_length n ≤ c.limits.elements
        → IsTyped c (tree.DeclareArray a is_local t b x d n)
    assign : {c : Context} {a : ℕ} {p : Target} {e : Term} {k j : VariableType}
        → TypesTarget c p k → Gives c e j → Passes k j → IsTyped c (tree.Assign a p None e)
    -- as the operator's value assigned (C99 6.5.16.2)
    assign_by : {c : Context} {a : ℕ} {p : Target} {op : BinaryOperator} {e : Term} {k j r : VariableType}
        → TypesTarget c p k → Gives c e j → Operates (Arithmetic op) k j r → Passes k r → IsTyped c (tree.Assign a p (Some op) e)
    step : {c : Context} {a : ℕ} {p : Target} {is_increment : Bool} {k : VariableType} → TypesTarget c p k → IsTyped c (tree.Step a p is_increment)
    call_only : {c : Context} {a x : ℕ} {f : BuiltIn} {es : Terms} {ks : List VariableType} {r : VariableType}
        → meaning c x ≡ BuiltInFunction f → TypesAll c es ks → Calls f ks r → IsTyped c (tree.CallOnly a x es)
    -- with the name of a fence, or both names (6.12.8)
    barrier : {c : Context} {a x : ℕ} {es : Terms} {f : Fences} → meaning c x ≡ Barrier → fences es ≡ Some f → IsTyped c (tree.CallOnly a x es)
    call_helper : {c : Context} {a x : ℕ} {es : Terms} {s : Signature} → CallsHelper c x es s → IsTyped c (tree.CallOnly a x es)
    -- What is controlled is a block (C99 6.8.4, paragraph 3, and 6.8.5, paragraph 5).
    if : {c : Context} {a : ℕ} {e : Term} {s : Stmt} {t : IntType} → Types c e (Number t) → IsTyped (enter c) s → IsTyped c (tree.If a e s)
    if_else : {c : Context} {a : ℕ} {e : Term} {s r : Stmt} {t : IntType}
        → Types c e (Number t) → IsTyped (enter c) s → IsTyped (enter c) r → IsTyped c (tree.IfElse a e s r)
    while : {c : Context} {a : ℕ} {e : Term} {s : Stmt} {t : IntType} → Types c e (Number t) → IsTyped (turning c) s → IsTyped c (tree.While a e s)
    do_while : {c : Context} {a : ℕ} {e : Term} {s : Stmt} {t : IntType} → IsTyped (turning c) s → Types c e (Number t) → IsTyped c (tree.DoWhile a s e)
    for : {c : Context} {a : ℕ} {first third : MaybeStmt} {e : MaybeTerm} {s : Stmt}
        → IsTypedPart (enter c) first → IsCondition (for_context c first) e → IsTypedPart (enter (for_context c first)) third
        → IsTyped (turning (for_context c first)) s → IsTyped c (tree.For a first e third s)
    break : {c : Context} {a : ℕ} → c.in_loop ≡ true → IsTyped c (tree.Break a)
    continue : {c : Context} {a : ℕ} → c.in_loop ≡ true → IsTyped c (tree.Continue a)
    -- as the function gives a value or doesn't (C99 6.8.6.4)
    return : {c : Context} {a : ℕ} → c.signature.result ≡ None → IsTyped c (tree.Return a)
    return_value : {c : Context} {a : ℕ} {e : Term} {t u : IntType}
        → c.signature.result ≡ Some t → Types c e (Number u) → IsTyped c (tree.ReturnValue a e)

  -- a part of a `for` that may be left out
  pub data IsTypedPart : Context → MaybeStmt → Type 0 where
    without : {c : Context} → IsTypedPart c Without
    part : {c : Context} {s : Stmt} → IsTyped c s → IsTypedPart c (With s)

  -- Statements one after the other.
  pub data AreTyped : Context → Stmts → Type 0 where
    no_statement : {c : Context} → AreTyped c NoStmt
    statement : {c : Context} {ss : Stmts} {s : Stmt} → AreTyped c ss → IsTyped (after_all c ss) s → AreTyped c (ThenStmt ss s)
