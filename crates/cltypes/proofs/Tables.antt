-- A node's own faults against the rule of the node, by the types of its parts.
use Rattle.std.proofs.Common.{◌≡◌, ℕ, true, not, ◌||◌, [], ◌∷◌, None, Some, is_some, refl, sym, ap, ◌∙◌, subst}
use Rattle.clnum.specs.Builtins.{is_same}
use Rattle.clnum.specs.declared.int_type.IntType.{IntType}
use Rattle.clnum.specs.declared.int_type.IntType.TheVariants.{Char, Uchar, Short, Ushort, Int, Uint, Long, Ulong}
use Rattle.clnum.specs.declared.operators.BinaryOperator.{BinaryOperator}
use Rattle.clnum.specs.declared.operators.BinaryOperator.TheVariants.{Add, Subtract}
use Rattle.clmodel.specs.declared.declaration.Declaration.{Declaration}
use Rattle.clmodel.specs.declared.tree.AddressSpace.{AddressSpace}
use Rattle.clmodel.specs.declared.tree.AddressSpace.TheVariants.{Global, Local, Constant}
use Rattle.clmodel.specs.declared.tree.InfixOperator.{InfixOperator}
use Rattle.clmodel.specs.declared.tree.InfixOperator.TheVariants.{Arithmetic, LogicalAnd, LogicalOr}
use Rattle.clmodel.specs.declared.tree.PointerType.{PointerType}
use Rattle.clmodel.specs.declared.tree.VariableType.{VariableType}
use Rattle.clmodel.specs.declared.tree.VariableType.TheVariants.{Integer as Number, Pointer}
use Rattle.clmodel.specs.declared.type_fault.TypeFault.TheVariants as fault
use Rattle.clmodel.specs.declared.declaration.Declaration.TheVariants.{Single, LocalArray, PrivateArray}
use Rattle.clmodel.specs.Typing.Context.{value_type, element_type, Meaning, Bound, Callable, Current, BuiltInFunction, Barrier, Unknown}
use Rattle.clmodel.specs.Typing.Least.{least}
use Rattle.clmodel.specs.Typing.Rules as rule
use Rattle.clmodel.specs.Typing.Rules.{is_writable, Passes, Operates}
use Rattle.clmodel.specs.Typing.Faults.{unless, integer_faults, pointer_faults, is_same_space, passing_faults, name_faults, front_faults, address_faults, whole_faults, moves, takes_pointer, is_sum, operand_faults, assigning_faults, name_kind, front_kind, binary_type, store_faults}
use Rattle.cltypes.proofs.Splits.{none_split, some_fault, unless_none, unless_true, three_none, three_true, implied, implies}

-- types

pub same_type_sound : (t u : IntType) → is_same t u ≡ true → t ≡ u
same_type_sound Char Char e = refl
same_type_sound Uchar Uchar e = refl
same_type_sound Short Short e = refl
same_type_sound Ushort Ushort e = refl
same_type_sound Int Int e = refl
same_type_sound Uint Uint e = refl
same_type_sound Long Long e = refl
same_type_sound Ulong Ulong e = refl
same_type_sound t u e = absurd (cc)

same_self : (t : IntType) → is_same t t ≡ true
same_self Char = refl
same_self Uchar = refl
same_self Short = refl
same_self Ushort = refl
same_self Int = refl
same_self Uint = refl
same_self Long = refl
same_self Ulong = refl

pub same_type_complete : (t u : IntType) → t ≡ u → is_same t u ≡ true
same_type_complete t u e = ap (λ v. is_same t v) (sym e) ∙ same_self t

space_sound : (s r : AddressSpace) → is_same_space s r ≡ true → s ≡ r
space_sound Global Global e = refl
space_sound Local Local e = refl
space_sound Constant Constant e = refl
space_sound s r e = absurd (cc)

space_self : (s : AddressSpace) → is_same_space s s ≡ true
space_self Global = refl
space_self Local = refl
space_self Constant = refl

space_complete : (s r : AddressSpace) → s ≡ r → is_same_space s r ≡ true
space_complete s r e = ap (λ v. is_same_space s v) (sym e) ∙ space_self s

-- what is wanted of one type

pub integer_sound : (k : VariableType) (a : ℕ) → least (integer_faults k a) ≡ None → (t : IntType) × (k ≡ Number t)
integer_sound (Number t) a e = (t, refl)
integer_sound (Pointer p) a e = absurd (some_fault (fault.TypeMismatch a) [] e)

pub pointer_sound : (k : VariableType) (a : ℕ) → least (pointer_faults k a) ≡ None → (p : PointerType) × (k ≡ Pointer p)
pointer_sound (Pointer p) a e = (p, refl)
pointer_sound (Number t) a e = absurd (some_fault (fault.TypeMismatch a) [] e)

-- a name that has a value
pub record IsValue (m : Meaning) : Type 0 where
  pub declared : Declaration
  pub is : m ≡ Bound declared
  pub typed : value_type declared ≡ Some (name_kind m)

pub name_sound : (m : Meaning) (a : ℕ) → least (name_faults m a) ≡ None → IsValue m
name_sound (Bound (Single k)) a e = record { declared = Single k; is = refl; typed = refl }
name_sound (Bound (LocalArray t)) a e = record { declared = LocalArray t; is = refl; typed = refl }
name_sound (Bound (PrivateArray t)) a e = absurd (some_fault (fault.WrongSpace a) [] e)
name_sound (Callable s) a e = absurd (some_fault (fault.TypeMismatch a) [] e)
name_sound (Current s) a e = absurd (some_fault (fault.TypeMismatch a) [] e)
name_sound (BuiltInFunction f) a e = absurd (some_fault (fault.TypeMismatch a) [] e)
name_sound Barrier a e = absurd (some_fault (fault.TypeMismatch a) [] e)
name_sound Unknown a e = absurd (some_fault (fault.UnknownName a) [] e)

pub name_complete : (d : Declaration) (k : VariableType) (a : ℕ) → value_type d ≡ Some k → least (name_faults (Bound d) a) ≡ None
name_complete d k a h = unless_true (is_some (value_type d)) (fault.WrongSpace a) (ap is_some h)

-- a name that has elements
pub record IsFront (m : Meaning) : Type 0 where
  pub declared : Declaration
  pub element : IntType
  pub is : m ≡ Bound declared
  pub typed : element_type declared ≡ Some element
  pub kind : front_kind m ≡ Number element

pub front_sound : (m : Meaning) (a : ℕ) → least (front_faults m a) ≡ None → IsFront m
front_sound (Bound (Single (Pointer p))) a e = record { declared = Single (Pointer p); element = p.element; is = refl; typed = refl; kind = refl }
front_sound (Bound (Single (Number t))) a e = absurd (some_fault (fault.TypeMismatch a) [] e)
front_sound (Bound (LocalArray t)) a e = record { declared = LocalArray t; element = t; is = refl; typed = refl; kind = refl }
front_sound (Bound (PrivateArray t)) a e = record { declared = PrivateArray t; element = t; is = refl; typed = refl; kind = refl }
front_sound (Callable s) a e = absurd (some_fault (fault.TypeMismatch a) [] e)
front_sound (Current s) a e = absurd (some_fault (fault.TypeMismatch a) [] e)
front_sound (BuiltInFunction f) a e = absurd (some_fault (fault.TypeMismatch a) [] e)
front_sound Barrier a e = absurd (some_fault (fault.TypeMismatch a) [] e)
front_sound Unknown a e = absurd (some_fault (fault.UnknownName a) [] e)

pub front_complete : (d : Declaration) (t : IntType) (a : ℕ) → element_type d ≡ Some t → least (front_faults (Bound d) a) ≡ None
front_complete d t a h = unless_true (is_some (element_type d)) (fault.TypeMismatch a) (ap is_some h)

-- a name whose elements have addresses
pub record IsAddressed (m : Meaning) : Type 0 where
  pub declared : Declaration
  pub pointer : PointerType
  pub is : m ≡ Bound declared
  pub typed : value_type declared ≡ Some (Pointer pointer)
  pub kind : name_kind m ≡ Pointer pointer

pub address_sound : (m : Meaning) (a b : ℕ) → least (address_faults m a b) ≡ None → IsAddressed m
address_sound (Bound (Single (Pointer p))) a b e = record { declared = Single (Pointer p); pointer = p; is = refl; typed = refl; kind = refl }
address_sound (Bound (Single (Number t))) a b e = absurd (some_fault (fault.TypeMismatch b) [] e)
address_sound (Bound (LocalArray t)) a b e = record { declared = LocalArray t; pointer = _; is = refl; typed = refl; kind = refl }
address_sound (Bound (PrivateArray t)) a b e = absurd (some_fault (fault.WrongSpace a) [] e)
address_sound (Callable s) a b e = absurd (some_fault (fault.TypeMismatch b) [] e)
address_sound (Current s) a b e = absurd (some_fault (fault.TypeMismatch b) [] e)
address_sound (BuiltInFunction f) a b e = absurd (some_fault (fault.TypeMismatch b) [] e)
address_sound Barrier a b e = absurd (some_fault (fault.TypeMismatch b) [] e)
address_sound Unknown a b e = absurd (some_fault (fault.UnknownName b) [] e)

pub address_complete : (d : Declaration) (p : PointerType) (a b : ℕ) → value_type d ≡ Some (Pointer p) → least (address_faults (Bound d) a b) ≡ None
address_complete (Single (Pointer q)) p a b h = refl
address_complete (Single (Number t)) p a b h = absurd (cc)
address_complete (LocalArray t) p a b h = refl
address_complete (PrivateArray t) p a b h = absurd (cc)

-- a variable that is a target
pub whole_sound : (m : Meaning) (a : ℕ) → least (whole_faults m a) ≡ None → m ≡ Bound (Single (name_kind m))
whole_sound (Bound (Single k)) a e = refl
whole_sound (Bound (LocalArray t)) a e = absurd (some_fault (fault.NotAssignable a) [] e)
whole_sound (Bound (PrivateArray t)) a e = absurd (some_fault (fault.NotAssignable a) [] e)
whole_sound (Callable s) a e = absurd (some_fault (fault.TypeMismatch a) [] e)
whole_sound (Current s) a e = absurd (some_fault (fault.TypeMismatch a) [] e)
whole_sound (BuiltInFunction f) a e = absurd (some_fault (fault.TypeMismatch a) [] e)
whole_sound Barrier a e = absurd (some_fault (fault.TypeMismatch a) [] e)
whole_sound Unknown a e = absurd (some_fault (fault.UnknownName a) [] e)

-- a value given

pub passing_sound : (k j : VariableType) (a : ℕ) → least (passing_faults k j a) ≡ None → Passes k j
passing_sound (Number t) (Number u) a e = rule.integers
passing_sound (Number t) (Pointer q) a e = absurd (some_fault (fault.TypeMismatch a) [] e)
passing_sound (Pointer p) (Number u) a e = absurd (some_fault (fault.TypeMismatch a) [] e)
passing_sound (Pointer p) (Pointer q) a e =
    let r = three_none (is_same p.element q.element) (p.is_const || not q.is_const) (is_same_space p.space q.space) (fault.TypeMismatch a) (fault.NotAssignable a) (fault.WrongSpace a) e in
    rule.pointers (same_type_sound p.element q.element r.0) (implied p.is_const q.is_const r.1) (space_sound p.space q.space r.2)

pub passing_complete : (k j : VariableType) (a : ℕ) → Passes k j → least (passing_faults k j a) ≡ None
passing_complete _ _ a rule.integers = refl
passing_complete _ _ a (rule.pointers {p = p} {q = q} t h s) =
    three_true (is_same p.element q.element) (p.is_const || not q.is_const) (is_same_space p.space q.space) (fault.TypeMismatch a) (fault.NotAssignable a) (fault.WrongSpace a)
    (same_type_complete p.element q.element t) (implies p.is_const q.is_const h) (space_complete p.space q.space s)

-- operators

moved : (op : BinaryOperator) (p : PointerType) (u : IntType) → moves op ≡ true → Operates (Arithmetic op) (Pointer p) (Number u) (Pointer p)
moved Add p u e = rule.pointer_sum
moved Subtract p u e = rule.pointer_difference
moved op p u e = absurd (cc)

taken : (op : InfixOperator) (p : PointerType) (u : IntType) → takes_pointer op ≡ true → Operates op (Pointer p) (Number u) (Pointer p)
taken (Arithmetic op) p u e = moved op p u e
taken LogicalAnd p u e = absurd (cc)
taken LogicalOr p u e = absurd (cc)

summed : (op : InfixOperator) (t : IntType) (q : PointerType) → is_sum op ≡ true → Operates op (Number t) (Pointer q) (Pointer q)
summed (Arithmetic Add) t q e = rule.sum_pointer
summed op t q e = absurd (cc)

pub operands_sound : (op : InfixOperator) (k j : VariableType) (a b : ℕ) → least (operand_faults op k j a b) ≡ None → Operates op k j (binary_type op k j)
operands_sound (Arithmetic op) (Number t) (Number u) a b e = rule.arithmetic
operands_sound LogicalAnd (Number t) (Number u) a b e = rule.logical_and
operands_sound LogicalOr (Number t) (Number u) a b e = rule.logical_or
operands_sound op (Number t) (Pointer q) a b e = summed op t q (unless_none (is_sum op) (fault.TypeMismatch b) e)
operands_sound op (Pointer p) (Number u) a b e = taken op p u (unless_none (takes_pointer op) (fault.TypeMismatch a) (none_split (unless (takes_pointer op) (fault.TypeMismatch a)) [] e).0)
operands_sound op (Pointer p) (Pointer q) a b e =
    absurd (some_fault (fault.TypeMismatch b) [] (none_split (unless (takes_pointer op) (fault.TypeMismatch a)) (fault.TypeMismatch b ∷ []) e).1)

-- operands without a fault, and the type of their value
pub operands_complete : (op : InfixOperator) (k j r : VariableType) (a b : ℕ) → Operates op k j r → (least (operand_faults op k j a b) ≡ None) × (binary_type op k j ≡ r)
operands_complete _ _ _ _ a b rule.arithmetic = (refl, refl)
operands_complete _ _ _ _ a b rule.logical_and = (refl, refl)
operands_complete _ _ _ _ a b rule.logical_or = (refl, refl)
operands_complete _ _ _ _ a b rule.pointer_sum = (refl, refl)
operands_complete _ _ _ _ a b rule.pointer_difference = (refl, refl)
operands_complete _ _ _ _ a b rule.sum_pointer = (refl, refl)

-- an operator that assigns
pub record Assigns (op : BinaryOperator) (k j : VariableType) : Type 0 where
  pub result : VariableType
  pub operates : Operates (Arithmetic op) k j result
  pub passes : Passes k result

passes_itself : (p : PointerType) → Passes (Pointer p) (Pointer p)
passes_itself p = rule.pointers refl (λ h. h) refl

pub assigning_sound : (op : BinaryOperator) (k j : VariableType) (a b : ℕ) → least (assigning_faults op k j a b) ≡ None → Assigns op k j
assigning_sound op (Number t) (Number u) a b e = record { result = _; operates = rule.arithmetic; passes = rule.integers }
assigning_sound op (Number t) (Pointer q) a b e = absurd (some_fault (fault.TypeMismatch b) [] e)
assigning_sound op (Pointer p) (Number u) a b e = record {
  result = Pointer p;
  operates = moved op p u (unless_none (moves op) (fault.TypeMismatch a) (none_split (unless (moves op) (fault.TypeMismatch a)) [] e).0);
  passes = passes_itself p;
}
assigning_sound op (Pointer p) (Pointer q) a b e =
    absurd (some_fault (fault.TypeMismatch b) [] (none_split (unless (moves op) (fault.TypeMismatch a)) (fault.TypeMismatch b ∷ []) e).1)

no_pass : (t : IntType) (p : PointerType) → Passes (Number t) (Pointer p) → ⊥
no_pass t p h = elim h [ ]

pub assigning_complete : (op : BinaryOperator) (k j r : VariableType) (a b : ℕ) → Operates (Arithmetic op) k j r → Passes k r → least (assigning_faults op k j a b) ≡ None
assigning_complete op (Number t) (Number u) r a b h s = refl
assigning_complete op (Number t) (Pointer q) r a b h s = absurd (let o = operands_complete (Arithmetic op) (Number t) (Pointer q) r a b h in no_pass t q (subst (λ v. Passes (Number t) v) (sym o.1) s))
assigning_complete op (Pointer p) j r a b h s = (operands_complete (Arithmetic op) (Pointer p) j r a b h).0

-- what is stored to

pub store_sound : (p : PointerType) (a : ℕ) → least (store_faults (Pointer p) a) ≡ None → is_writable p ≡ true
store_sound p a e = unless_none (is_writable p) (fault.NotAssignable a) e

pub store_complete : (p : PointerType) (a : ℕ) → is_writable p ≡ true → least (store_faults (Pointer p) a) ≡ None
store_complete p a e = unless_true (is_writable p) (fault.NotAssignable a) e
