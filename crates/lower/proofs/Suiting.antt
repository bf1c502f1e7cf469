-- Instructions whose registers are of the kinds that they want, in tables that give each register its kind.
use Rattle.std.proofs.Common.{◌≡◌, ℕ, ◌+◌, ◌*◌, ◌%◌, Bool, true, false, IsTrue, if◌then◌else◌, Option, None, Some, List, [], ◌∷◌, ◌++◌, slice_get, get_or, refl, ap, ap₂, sym, subst, ◌∙◌, arith}
use Rattle.std.proofs.lemmas.Nat.{mod-mul-add}
use Rattle.clnum.specs.Builtins.{is_same}
use Rattle.clnum.specs.Conversions.{common}
use Rattle.clnum.specs.Operations.{unary_kind}
use Rattle.clnum.specs.Integer.{Integer as Number}
use Rattle.clnum.specs.declared.int_type.IntType.{IntType}
use Rattle.clnum.specs.declared.int_type.IntType.TheVariants.{Char, Uchar, Short, Ushort, Int, Uint, Long, Ulong}
use Rattle.clnum.specs.declared.operators.BinaryOperator.{BinaryOperator}
use Rattle.clnum.specs.declared.operators.UnaryOperator.{UnaryOperator}
use Rattle.clnum.specs.declared.operators.Builtin.{Builtin}
use Rattle.clmodel.specs.declared.setup.WorkItemFunction.{WorkItemFunction}
use Rattle.clmodel.specs.declared.setup.AtomicFunction.{AtomicFunction}
use Rattle.clmodel.specs.declared.tree.VariableType.{VariableType}
use Rattle.clmodel.specs.declared.tree.VariableType.TheVariants as variable_type
use Rattle.clmodel.specs.declared.tree.InfixOperator.TheVariants.{Arithmetic}
use Rattle.clmodel.specs.Next.{is_update}
use Rattle.clmodel.specs.Typing.Rules.{Passes, integers, pointers, Operates, arithmetic, pointer_sum, pointer_difference, sum_pointer}
use Rattle.regcode.specs.Listing.{Listing}
use Rattle.regcode.specs.Rules.{kind_at, kind_of, held_kind, number_kind, common_kind, changed_kind, binary_operation_kind, of_one_kind, of_two_kind, offset_kind, loaded_kind, fetched_kind, is_integer, is_pointer, is_atomic, Takes, HasType}
use Rattle.regcode.specs.declared.instruction.FetchOperands.TheVariants as operands
use Rattle.regcode.specs.declared.instruction.Instruction.{Instruction}
use Rattle.regcode.specs.declared.instruction.Instruction.TheVariants as instruction
use Rattle.regcode.specs.declared.tables.RegisterKind.{RegisterKind}
use Rattle.regcode.specs.declared.tables.RegisterKind.TheVariants.{Integer, Pointer}
use Rattle.regcode.proofs.Registers.{kind_within}
use Rattle.clnum.specs.Integer.{type_number}
use Rattle.lower_expr.specs.Scope.{kind_number, register_at}
use Rattle.lower_expr.proofs.Places.{register_below}
use Rattle.code_tables.specs.Tables.{kinds, register_kind}
use Rattle.lower.specs.Accepted.{Suits, Suit, Is}

pub suit_both : (parameters : List VariableType) (xs ys : List Instruction) → Suit parameters xs → Suit parameters ys → Suit parameters (xs ++ ys)
suit_both parameters [] ys a b = b
suit_both parameters (x ∷ xs) ys a b = (a.0, suit_both parameters xs ys a.1 b)

pub suit_either : (parameters : List VariableType) (b : Bool) (xs ys : List Instruction) → (IsTrue b → Suit parameters xs) → Suit parameters ys → Suit parameters (if b then xs else ys)
suit_either parameters true xs ys a b = a refl
suit_either parameters false xs ys a b = b

number_kind_of : (kind : VariableType) → get_or kinds (kind_number kind) (Integer Int) ≡ kind_of kind
number_kind_of (variable_type.Integer Char) = refl
number_kind_of (variable_type.Integer Uchar) = refl
number_kind_of (variable_type.Integer Short) = refl
number_kind_of (variable_type.Integer Ushort) = refl
number_kind_of (variable_type.Integer Int) = refl
number_kind_of (variable_type.Integer Uint) = refl
number_kind_of (variable_type.Integer Long) = refl
number_kind_of (variable_type.Integer Ulong) = refl
number_kind_of (variable_type.Pointer p) = pointer_kind_of p.element
  where
    pointer_kind_of : (element : IntType) → get_or kinds (8 + type_number element) (Integer Int) ≡ Pointer element
    pointer_kind_of Char = refl
    pointer_kind_of Uchar = refl
    pointer_kind_of Short = refl
    pointer_kind_of Ushort = refl
    pointer_kind_of Int = refl
    pointer_kind_of Uint = refl
    pointer_kind_of Long = refl
    pointer_kind_of Ulong = refl

pub is_at : (level : ℕ) (kind : VariableType) → Is (register_at level kind) kind
is_at level kind =
    let below = register_below 0 kind 1 (omega arith) in
    let rest : (16 * level + kind_number kind) % 16 ≡ kind_number kind = ap (λ n. n % 16) (omega arith) ∙ mod-mul-add level 16 (kind_number kind) (omega (arith, below)) in
    ap (λ n. get_or kinds n (Integer Int)) rest ∙ number_kind_of kind

pub is_as : (level : ℕ) (kind as_kind : VariableType) → kind ≡ as_kind → Is (register_at level kind) as_kind
is_as level kind as_kind e = is_at level kind ∙ ap kind_of e

takes : (to value : Option RegisterKind) (kind : RegisterKind) → to ≡ Some kind → value ≡ Some kind → Takes to value
takes to value kind a b = subst (λ o. Takes o value) (sym a) (subst (λ o. Takes (Some kind) o) (sym b) refl)

same_element : (a b : IntType) → a ≡ b → (if is_same b a then Some (Pointer b) else None) ≡ Some (Pointer a)
same_element a b e = subst (λ c. (if is_same c a then Some (Pointer c) else None) ≡ Some (Pointer a)) e (itself a)
  where
    itself : (a : IntType) → (if is_same a a then Some (Pointer a) else None) ≡ Some (Pointer a)
    itself Char = refl
    itself Uchar = refl
    itself Short = refl
    itself Ushort = refl
    itself Int = refl
    itself Uint = refl
    itself Long = refl
    itself Ulong = refl

pub same_integer : (a : IntType) → (if is_same a a then Some (Integer a) else None) ≡ Some (Integer a)
same_integer Char = refl
same_integer Uchar = refl
same_integer Short = refl
same_integer Ushort = refl
same_integer Int = refl
same_integer Uint = refl
same_integer Long = refl
same_integer Ulong = refl

held_is : (kind from : VariableType) → Passes kind from → held_kind kind (Some (kind_of from)) ≡ Some (kind_of kind)
held_is _ _ integers = refl
held_is _ _ (pointers {p = p} {q = q} e writable space) = same_element p.element q.element e

binary_operation_kind_is : {operator : BinaryOperator} (j k r : VariableType) → Operates (Arithmetic operator) j k r → binary_operation_kind operator (Some (kind_of j)) (Some (kind_of k)) ≡ Some (kind_of r)
binary_operation_kind_is _ _ _ arithmetic = refl
binary_operation_kind_is _ _ _ pointer_sum = refl
binary_operation_kind_is _ _ _ pointer_difference = refl
binary_operation_kind_is _ _ _ sum_pointer = refl

module _ (parameters : List VariableType) where
  pub constant_suits : (to : ℕ) (value : Number) → Is to (variable_type.Integer value.kind) → Suits parameters (instruction.Constant to value)
  constant_suits to value is code same wide = takes (kind_at code to) (Some (Integer value.kind)) (Integer value.kind) (wide.registers.0 ∙ ap Some is) refl

  pub unset_suits : (to : ℕ) → Suits parameters (instruction.Unset to)
  unset_suits to code same wide = kind_within code to (register_kind to) wide.registers.0

  pub move_suits : (to from name : ℕ) (kind : VariableType) → Is to kind → Is from kind → Suits parameters (instruction.Move to from name)
  move_suits to from name kind is of code same wide =
      (takes (kind_at code to) (kind_at code from) (kind_of kind) (wide.registers.0 ∙ ap Some is) (wide.registers.1.0 ∙ ap Some of), let n = wide.names in omega (arith, n))

  pub hold_suits : (to from : ℕ) (kind other : VariableType) → Is to kind → Is from other → Passes kind other → Suits parameters (instruction.AssignConversion to from kind)
  hold_suits to from kind other is of passes code same wide =
      takes (kind_at code to) (held_kind kind (kind_at code from)) (kind_of kind) (wide.registers.0 ∙ ap Some is)
      (ap (held_kind kind) (wide.registers.1.0 ∙ ap Some of) ∙ held_is kind other passes)

  pub convert_suits : (to from : ℕ) (kind other : IntType) → Is to (variable_type.Integer kind) → Is from (variable_type.Integer other) → Suits parameters (instruction.Convert to from kind)
  convert_suits to from kind other is of code same wide =
      takes (kind_at code to) (number_kind kind (kind_at code from)) (Integer kind) (wide.registers.0 ∙ ap Some is) (ap (number_kind kind) (wide.registers.1.0 ∙ ap Some of))

  pub common_suits : (to from : ℕ) (kind other : IntType) → Is to (variable_type.Integer (common kind other)) → Is from (variable_type.Integer kind) → Suits parameters (instruction.UsualConversion to from other)
  common_suits to from kind other is of code same wide =
      takes (kind_at code to) (common_kind other (kind_at code from)) (Integer (common kind other)) (wide.registers.0 ∙ ap Some is)
      (ap (common_kind other) (wide.registers.1.0 ∙ ap Some of))

  pub unary_suits : (to operand : ℕ) (operator : UnaryOperator) (kind : IntType) → Is to (variable_type.Integer (unary_kind operator kind)) → Is operand (variable_type.Integer kind) → Suits parameters (instruction.Unary to operator operand)
  unary_suits to operand operator kind is of code same wide =
      takes (kind_at code to) (changed_kind operator (kind_at code operand)) (Integer (unary_kind operator kind)) (wide.registers.0 ∙ ap Some is)
      (ap (changed_kind operator) (wide.registers.1.0 ∙ ap Some of))

  pub binary_suits : (to left right : ℕ) (operator : BinaryOperator) (j k r : VariableType) → Is to r → Is left j → Is right k → Operates (Arithmetic operator) j k r
      → Suits parameters (instruction.Binary to operator left right)
  binary_suits to left right operator j k r is of by operates code same wide =
      takes (kind_at code to) (binary_operation_kind operator (kind_at code left) (kind_at code right)) (kind_of r) (wide.registers.0 ∙ ap Some is)
      (ap₂ (binary_operation_kind operator) (wide.registers.1.0 ∙ ap Some of) (wide.registers.1.1.0 ∙ ap Some by) ∙ binary_operation_kind_is j k r operates)

  pub one_suits : (to first : ℕ) (function : Builtin) (kind result : IntType) → Is to (variable_type.Integer result) → Is first (variable_type.Integer kind)
      → of_one_kind function (Some (Integer kind)) ≡ Some (Integer result) → Suits parameters (instruction.Builtin to function first None)
  one_suits to first function kind result is of gives code same wide =
      takes (kind_at code to) (of_one_kind function (kind_at code first)) (Integer result) (wide.registers.0 ∙ ap Some is)
      (ap (of_one_kind function) (wide.registers.1.0 ∙ ap Some of) ∙ gives)

  pub two_suit : (to first second : ℕ) (function : Builtin) (kind : IntType) → Is to (variable_type.Integer kind) → Is first (variable_type.Integer kind) → Is second (variable_type.Integer kind)
      → of_two_kind function (Some (Integer kind)) (Some (Integer kind)) ≡ Some (Integer kind) → Suits parameters (instruction.Builtin to function first (Some second))
  two_suit to first second function kind is of by gives code same wide =
      takes (kind_at code to) (of_two_kind function (kind_at code first) (kind_at code second)) (Integer kind) (wide.registers.0 ∙ ap Some is)
      (ap₂ (of_two_kind function) (wide.registers.1.0 ∙ ap Some of) (wide.registers.1.1.0 ∙ ap Some by) ∙ gives)

  pub dimensions_suit : (to : ℕ) → Is to (variable_type.Integer Uint) → Suits parameters (instruction.Dimensions to)
  dimensions_suit to is code same wide = takes (kind_at code to) (Some (Integer Uint)) (Integer Uint) (wide.registers.0 ∙ ap Some is) refl

  pub query_suits : (to dimension : ℕ) (function : WorkItemFunction) (kind : IntType) → Is to (variable_type.Integer Ulong) → Is dimension (variable_type.Integer kind)
      → Suits parameters (instruction.Query to function dimension)
  query_suits to dimension function kind is of code same wide =
      takes (kind_at code to) (number_kind Ulong (kind_at code dimension)) (Integer Ulong) (wide.registers.0 ∙ ap Some is) (ap (number_kind Ulong) (wide.registers.1.0 ∙ ap Some of))

  pub argument_suits : (to index : ℕ) (kind : VariableType) → Is to kind → slice_get parameters index ≡ Some kind → Suits parameters (instruction.Argument to index kind)
  argument_suits to index kind is at code same wide = (
    takes (kind_at code to) (Some (kind_of kind)) (kind_of kind) (wide.registers.0 ∙ ap Some is) refl,
    subst (λ o. HasType o kind) (sym (ap (λ ps. slice_get ps index) same ∙ at)) refl,
  )

  pub local_suits : (to number : ℕ) (element : IntType) → register_kind to ≡ Pointer element → Suits parameters (instruction.Local to number element)
  local_suits to number element is code same wide =
      (takes (kind_at code to) (Some (Pointer element)) (Pointer element) (wide.registers.0 ∙ ap Some is) refl, let n = wide.objects in omega (arith, n))

  pub unset_array_suits : (array count : ℕ) → Suits parameters (instruction.UnsetArray array count)
  unset_array_suits array count code same wide = wide.arrays

  pub private_load_suits : (to array index name : ℕ) (element kind : IntType) → Is to (variable_type.Integer element) → Is index (variable_type.Integer kind)
      → Suits parameters (instruction.PrivateLoad to array index element name)
  private_load_suits to array index name element kind is of code same wide = (
    takes (kind_at code to) (Some (Integer element)) (Integer element) (wide.registers.0 ∙ ap Some is) refl,
    subst (λ o. IsTrue (is_integer o)) (sym (wide.registers.1.0 ∙ ap Some of)) refl,
    wide.arrays,
    (let n = wide.names in omega (arith, n)),
  )

  pub private_store_suits : (array index value name : ℕ) (element kind other : IntType) → Is index (variable_type.Integer kind) → Is value (variable_type.Integer other)
      → Suits parameters (instruction.PrivateStore array index value element name)
  private_store_suits array index value name element kind other of by code same wide = (
    subst (λ o. IsTrue (is_integer o)) (sym (wide.registers.0 ∙ ap Some of)) refl,
    subst (λ o. IsTrue (is_integer o)) (sym (wide.registers.1.0 ∙ ap Some by)) refl,
    wide.arrays,
    (let n = wide.names in omega (arith, n)),
  )

  pub point_suits : (to from : ℕ) (kind : VariableType) → Is to kind → Is from kind → IsTrue (is_pointer (Some (kind_of kind))) → Suits parameters (instruction.MovePointer to from)
  point_suits to from kind is of points code same wide = (
    takes (kind_at code to) (kind_at code from) (kind_of kind) (wide.registers.0 ∙ ap Some is) (wide.registers.1.0 ∙ ap Some of),
    subst (λ o. IsTrue (is_pointer o)) (sym (wide.registers.1.0 ∙ ap Some of)) points,
  )

  pub offset_suits : (to pointer index : ℕ) (element kind : IntType) → register_kind to ≡ Pointer element → register_kind pointer ≡ Pointer element → Is index (variable_type.Integer kind)
      → Suits parameters (instruction.Offset to pointer index)
  offset_suits to pointer index element kind is of by code same wide =
      takes (kind_at code to) (offset_kind (kind_at code pointer) (kind_at code index)) (Pointer element) (wide.registers.0 ∙ ap Some is)
      (ap₂ offset_kind (wide.registers.1.0 ∙ ap Some of) (wide.registers.1.1.0 ∙ ap Some by))

  pub load_suits : (to pointer : ℕ) (element : IntType) → Is to (variable_type.Integer element) → register_kind pointer ≡ Pointer element → Suits parameters (instruction.Load to pointer)
  load_suits to pointer element is of code same wide =
      takes (kind_at code to) (loaded_kind (kind_at code pointer)) (Integer element) (wide.registers.0 ∙ ap Some is) (ap loaded_kind (wide.registers.1.0 ∙ ap Some of))

  pub store_suits : (pointer value : ℕ) (element kind : IntType) → register_kind pointer ≡ Pointer element → Is value (variable_type.Integer kind) → Suits parameters (instruction.Store pointer value)
  store_suits pointer value element kind of by code same wide =
      (subst (λ o. IsTrue (is_pointer o)) (sym (wide.registers.0 ∙ ap Some of)) refl, subst (λ o. IsTrue (is_integer o)) (sym (wide.registers.1.0 ∙ ap Some by)) refl)

  pub update_suits : (function : AtomicFunction) (pointer value : ℕ) (element kind : IntType) → IsTrue (is_update function) → register_kind pointer ≡ Pointer element → IsTrue (is_atomic (Some (Pointer element)))
      → Is value (variable_type.Integer kind) → Suits parameters (instruction.Update function pointer (Some value))
  update_suits function pointer value element kind updates of known by code same wide =
      (updates, subst (λ o. IsTrue (is_atomic o)) (sym (wide.registers.0 ∙ ap Some of)) known, subst (λ o. IsTrue (is_integer o)) (sym (wide.registers.1.0 ∙ ap Some by)) refl)

  pub update_by_one_suits : (function : AtomicFunction) (pointer : ℕ) (element : IntType) → IsTrue (is_update function) → register_kind pointer ≡ Pointer element → IsTrue (is_atomic (Some (Pointer element)))
      → Suits parameters (instruction.Update function pointer None)
  update_by_one_suits function pointer element updates of known code same wide = (updates, subst (λ o. IsTrue (is_atomic o)) (sym (wide.registers.0 ∙ ap Some of)) known)

  -- an atomic operation whose old number is used
  fetched : (to pointer : ℕ) (element : IntType) (code : Listing) → kind_at code to ≡ Some (Integer element) → kind_at code pointer ≡ Some (Pointer element)
      → fetched_kind (Some (Pointer element)) ≡ Some (Integer element) → Takes (kind_at code to) (fetched_kind (kind_at code pointer))
  fetched to pointer element code is of known = takes (kind_at code to) (fetched_kind (kind_at code pointer)) (Integer element) is (ap fetched_kind of ∙ known)

  number_given : (value : ℕ) (kind : IntType) (code : Listing) → kind_at code value ≡ Some (Integer kind) → IsTrue (is_integer (kind_at code value))
  number_given value kind code by = subst (λ o. IsTrue (is_integer o)) (sym by) refl

  pub fetch_alone_suits : (to : ℕ) (function : AtomicFunction) (pointer : ℕ) (element : IntType) → Is to (variable_type.Integer element) → register_kind pointer ≡ Pointer element
      → fetched_kind (Some (Pointer element)) ≡ Some (Integer element) → Suits parameters (instruction.Fetch to function pointer operands.Alone)
  fetch_alone_suits to function pointer element is of known code same wide =
      (fetched to pointer element code (wide.registers.0 ∙ ap Some is) (wide.registers.1.0 ∙ ap Some of) known, tt)

  pub fetch_number_suits : (to : ℕ) (function : AtomicFunction) (pointer value : ℕ) (element kind : IntType) → Is to (variable_type.Integer element) → register_kind pointer ≡ Pointer element
      → fetched_kind (Some (Pointer element)) ≡ Some (Integer element) → Is value (variable_type.Integer kind) → Suits parameters (instruction.Fetch to function pointer (operands.Number value))
  fetch_number_suits to function pointer value element kind is of known by code same wide = (
    fetched to pointer element code (wide.registers.0 ∙ ap Some is) (wide.registers.1.0 ∙ ap Some of) known,
    number_given value kind code (wide.registers.1.1.0 ∙ ap Some by),
  )

  pub fetch_pair_suits : (to : ℕ) (function : AtomicFunction) (pointer expected value : ℕ) (element kind other : IntType) → Is to (variable_type.Integer element) → register_kind pointer ≡ Pointer element
      → fetched_kind (Some (Pointer element)) ≡ Some (Integer element) → Is expected (variable_type.Integer kind) → Is value (variable_type.Integer other)
      → Suits parameters (instruction.Fetch to function pointer (operands.Pair expected value))
  fetch_pair_suits to function pointer expected value element kind other is of known by by' code same wide = (
    fetched to pointer element code (wide.registers.0 ∙ ap Some is) (wide.registers.1.0 ∙ ap Some of) known,
    (number_given expected kind code (wide.registers.1.1.0 ∙ ap Some by), number_given value other code (wide.registers.1.1.1.0 ∙ ap Some by')),
  )

  pub branch_suits : (register by : ℕ) (kind : IntType) → Is register (variable_type.Integer kind) → Suits parameters (instruction.JumpIfZero register by)
  branch_suits register by kind of code same wide = subst (λ o. IsTrue (is_integer o)) (sym (wide.registers.0 ∙ ap Some of)) refl
