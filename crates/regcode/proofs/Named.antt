-- What verified code names is in its tables.
use Rattle.std.proofs.Common.{◌≡◌, ℕ, ◌<◌, IsTrue, Option, None, Some, List, length, slice_get, refl, ap}
use Rattle.std.proofs.lemmas.Bool.{false≢true}
use Rattle.std.proofs.lemmas.Option.{slice_get_within}
use Rattle.std.specs.Option.{option_map}
use Rattle.clnum.specs.declared.int_type.IntType.{IntType}
use Rattle.clnum.specs.declared.int_type.IntType.TheVariants.{Int, Uint}
use Rattle.clnum.specs.declared.operators.BinaryOperator.{BinaryOperator}
use Rattle.clnum.specs.declared.operators.BinaryOperator.TheVariants as binary_operator
use Rattle.clnum.specs.declared.operators.Builtin.{Builtin}
use Rattle.clnum.specs.declared.operators.Builtin.TheVariants as builtin
use Rattle.clnum.specs.declared.operators.UnaryOperator.{UnaryOperator}
use Rattle.clmodel.specs.declared.tree.VariableType.{VariableType}
use Rattle.clmodel.specs.declared.tree.VariableType.TheVariants as variable_type
use Rattle.regcode.specs.Listing.{Listing}
use Rattle.regcode.specs.Rules.{Fits, Takes, HasType, HasRoom, kind_at, held_kind, number_kind, common_kind, changed_kind, binary_operation_kind, of_one_kind, of_two_kind, offset_kind, loaded_kind, fetched_kind, is_integer, is_pointer, is_atomic, AreIntegers}
use Rattle.regcode.specs.Safety.{InTables, Below, operand_sources}
use Rattle.regcode.specs.declared.instruction.FetchOperands.{FetchOperands}
use Rattle.regcode.specs.declared.instruction.FetchOperands.TheVariants as operands
use Rattle.regcode.specs.declared.instruction.Instruction.{Instruction}
use Rattle.regcode.specs.declared.instruction.Instruction.TheVariants as instruction
use Rattle.regcode.specs.declared.tables.Register.{Register}
use Rattle.regcode.specs.declared.tables.RegisterKind.{RegisterKind}
use Rattle.regcode.specs.declared.tables.RegisterKind.TheVariants.{Integer, Pointer}

-- an entry is there
abbrev There : {A : Type 0} → Option A → Type 0
There None = ⊥
There (Some x) = Unit {0}

entry_there : (o : Option Register) → There (option_map (λ register. register.kind) o) → There o
entry_there (Some x) h = tt
entry_there None h = h

within : {A : Type 0} (xs : List A) (i : ℕ) (o : Option A) → slice_get xs i ≡ o → There o → i < length xs
within xs i (Some x) e h = slice_get_within xs i x e
within xs i None e h = absurd h

pub takes_nothing : (r : Option RegisterKind) → Takes r None → ⊥
takes_nothing (Some r) h = h
takes_nothing None h = h

taken : (r v : Option RegisterKind) → Takes r v → There r
taken (Some r) v h = tt
taken None v h = absurd h

given : (r v : Option RegisterKind) → Takes r v → There v
given r (Some v) h = tt
given r None h = absurd (takes_nothing r h)

held_there : (kind : VariableType) (o r : Option RegisterKind) → Takes r (held_kind kind o) → There o
held_there (variable_type.Integer kind) (Some (Integer from)) r h = tt
held_there (variable_type.Pointer pointer) (Some (Pointer element)) r h = tt
held_there _ _ r h = absurd (takes_nothing r h)

number_there : (kind : IntType) (o r : Option RegisterKind) → Takes r (number_kind kind o) → There o
number_there kind (Some (Integer from)) r h = tt
number_there kind _ r h = absurd (takes_nothing r h)

common_there : (other : IntType) (o r : Option RegisterKind) → Takes r (common_kind other o) → There o
common_there other (Some (Integer kind)) r h = tt
common_there other _ r h = absurd (takes_nothing r h)

changed_there : (operator : UnaryOperator) (o r : Option RegisterKind) → Takes r (changed_kind operator o) → There o
changed_there operator (Some (Integer kind)) r h = tt
changed_there operator _ r h = absurd (takes_nothing r h)

binary_operation_there : (operator : BinaryOperator) (o p r : Option RegisterKind) → Takes r (binary_operation_kind operator o p) → There o × There p
binary_operation_there operator (Some (Integer a)) (Some (Integer b)) r h = (tt, tt)
binary_operation_there binary_operator.Add (Some (Pointer a)) (Some (Integer b)) r h = (tt, tt)
binary_operation_there binary_operator.Add (Some (Integer a)) (Some (Pointer b)) r h = (tt, tt)
binary_operation_there binary_operator.Subtract (Some (Pointer a)) (Some (Integer b)) r h = (tt, tt)
binary_operation_there _ _ _ r h = absurd (takes_nothing r h)

of_one_there : (function : Builtin) (o r : Option RegisterKind) → Takes r (of_one_kind function o) → There o
of_one_there builtin.Abs (Some (Integer a)) r h = tt
of_one_there builtin.Clz (Some (Integer a)) r h = tt
of_one_there builtin.Popcount (Some (Integer a)) r h = tt
of_one_there _ _ r h = absurd (takes_nothing r h)

of_two_there : (function : Builtin) (o p r : Option RegisterKind) → Takes r (of_two_kind function o p) → There o × There p
of_two_there builtin.Min (Some (Integer a)) (Some (Integer b)) r h = (tt, tt)
of_two_there builtin.Max (Some (Integer a)) (Some (Integer b)) r h = (tt, tt)
of_two_there builtin.Rotate (Some (Integer a)) (Some (Integer b)) r h = (tt, tt)
of_two_there _ _ _ r h = absurd (takes_nothing r h)

offset_there : (o p r : Option RegisterKind) → Takes r (offset_kind o p) → There o × There p
offset_there (Some (Pointer element)) (Some (Integer index)) r h = (tt, tt)
offset_there _ _ r h = absurd (takes_nothing r h)

loaded_there : (o r : Option RegisterKind) → Takes r (loaded_kind o) → There o
loaded_there (Some (Pointer element)) r h = tt
loaded_there _ r h = absurd (takes_nothing r h)

fetched_there : (o r : Option RegisterKind) → Takes r (fetched_kind o) → There o
fetched_there (Some (Pointer Int)) r h = tt
fetched_there (Some (Pointer Uint)) r h = tt
fetched_there _ r h = absurd (takes_nothing r h)

integer_there : (o : Option RegisterKind) → IsTrue (is_integer o) → There o
integer_there (Some (Integer kind)) h = tt
integer_there _ h = absurd (false≢true h)

pointer_there : (o : Option RegisterKind) → IsTrue (is_pointer o) → There o
pointer_there (Some (Pointer element)) h = tt
pointer_there _ h = absurd (false≢true h)

atomic_there : (o : Option RegisterKind) → IsTrue (is_atomic o) → There o
atomic_there (Some (Pointer Int)) h = tt
atomic_there (Some (Pointer Uint)) h = tt
atomic_there _ h = absurd (false≢true h)

parameter_is : (o : Option VariableType) (kind : VariableType) → HasType o kind → o ≡ Some kind
parameter_is (Some declared) kind h = ap Some h
parameter_is None kind h = absurd h

room_there : (o : Option ℕ) (count : ℕ) → HasRoom o count → There o
room_there (Some most) count h = tt
room_there None count h = absurd h

module _ (code : Listing) where
  register : (r : ℕ) → There (kind_at code r) → r < length code.registers
  register r h = within code.registers r (slice_get code.registers r) refl (entry_there (slice_get code.registers r) h)

  target : (to : ℕ) (v : Option RegisterKind) → Takes (kind_at code to) v → to < length code.registers
  target to v h = register to (taken (kind_at code to) v h)

  operand_registers : (given : FetchOperands) → AreIntegers code given → Below (length code.registers) (operand_sources given)
  operand_registers operands.Alone h = tt
  operand_registers (operands.Number value) h = (register value (integer_there _ h), tt)
  operand_registers (operands.Pair expected value) h = (register expected (integer_there _ h.0), (register value (integer_there _ h.1), tt))

  -- an instruction that keeps the rules
  pub in_tables : (i : Instruction) → Fits code i → InTables code i
  in_tables (instruction.Constant to value) h = record { reads = tt; writes = (target to _ h, tt); arrays = tt; objects = tt; names = tt; parameters = tt }
  in_tables (instruction.Unset to) h = record { reads = tt; writes = (h, tt); arrays = tt; objects = tt; names = tt; parameters = tt }
  in_tables (instruction.Move to from name) h =
      record { reads = (register from (given _ _ h.0), tt); writes = (target to _ h.0, tt); arrays = tt; objects = tt; names = (h.1, tt); parameters = tt }
  in_tables (instruction.AssignConversion to from kind) h =
      record { reads = (register from (held_there kind _ _ h), tt); writes = (target to _ h, tt); arrays = tt; objects = tt; names = tt; parameters = tt }
  in_tables (instruction.Convert to from kind) h =
      record { reads = (register from (number_there kind _ _ h), tt); writes = (target to _ h, tt); arrays = tt; objects = tt; names = tt; parameters = tt }
  in_tables (instruction.UsualConversion to from other) h =
      record { reads = (register from (common_there other _ _ h), tt); writes = (target to _ h, tt); arrays = tt; objects = tt; names = tt; parameters = tt }
  in_tables (instruction.Unary to operator operand) h =
      record { reads = (register operand (changed_there operator _ _ h), tt); writes = (target to _ h, tt); arrays = tt; objects = tt; names = tt; parameters = tt }
  in_tables (instruction.Binary to operator left right) h =
      let both = binary_operation_there operator _ _ _ h in
      record { reads = (register left both.0, (register right both.1, tt)); writes = (target to _ h, tt); arrays = tt; objects = tt; names = tt; parameters = tt }
  in_tables (instruction.Builtin to function first None) h =
      record { reads = (register first (of_one_there function _ _ h), tt); writes = (target to _ h, tt); arrays = tt; objects = tt; names = tt; parameters = tt }
  in_tables (instruction.Builtin to function first (Some second)) h =
      let both = of_two_there function _ _ _ h in
      record { reads = (register first both.0, (register second both.1, tt)); writes = (target to _ h, tt); arrays = tt; objects = tt; names = tt; parameters = tt }
  in_tables (instruction.Dimensions to) h = record { reads = tt; writes = (target to _ h, tt); arrays = tt; objects = tt; names = tt; parameters = tt }
  in_tables (instruction.Query to function dimension) h =
      record { reads = (register dimension (number_there _ _ _ h), tt); writes = (target to _ h, tt); arrays = tt; objects = tt; names = tt; parameters = tt }
  in_tables (instruction.Argument to index kind) h =
      record { reads = tt; writes = (target to _ h.0, tt); arrays = tt; objects = tt; names = tt; parameters = (parameter_is _ kind h.1, tt) }
  in_tables (instruction.Local to number element) h = record { reads = tt; writes = (target to _ h.0, tt); arrays = tt; objects = (h.1, tt); names = tt; parameters = tt }
  in_tables (instruction.UnsetArray array count) h =
      record { reads = tt; writes = tt; arrays = (within code.arrays array _ refl (room_there _ count h), tt); objects = tt; names = tt; parameters = tt }
  in_tables (instruction.PrivateLoad to array index element name) h =
      record { reads = (register index (integer_there _ h.1), tt); writes = (target to _ h.0, tt); arrays = (h.2, tt); objects = tt; names = (h.3, tt); parameters = tt }
  in_tables (instruction.PrivateStore array index value element name) h =
      record { reads = (register index (integer_there _ h.0), (register value (integer_there _ h.1), tt)); writes = tt; arrays = (h.2, tt); objects = tt; names = (h.3, tt); parameters = tt }
  in_tables (instruction.MovePointer to from) h =
      record { reads = (register from (pointer_there _ h.1), tt); writes = (target to _ h.0, tt); arrays = tt; objects = tt; names = tt; parameters = tt }
  in_tables (instruction.Offset to pointer index) h =
      let both = offset_there _ _ _ h in
      record { reads = (register pointer both.0, (register index both.1, tt)); writes = (target to _ h, tt); arrays = tt; objects = tt; names = tt; parameters = tt }
  in_tables (instruction.Load to pointer) h =
      record { reads = (register pointer (loaded_there _ _ h), tt); writes = (target to _ h, tt); arrays = tt; objects = tt; names = tt; parameters = tt }
  in_tables (instruction.Store pointer value) h =
      record { reads = (register pointer (pointer_there _ h.0), (register value (integer_there _ h.1), tt)); writes = tt; arrays = tt; objects = tt; names = tt; parameters = tt }
  in_tables (instruction.Update function pointer None) h =
      record { reads = (register pointer (atomic_there _ h.1), tt); writes = tt; arrays = tt; objects = tt; names = tt; parameters = tt }
  in_tables (instruction.Update function pointer (Some value)) h =
      record { reads = (register pointer (atomic_there _ h.1), (register value (integer_there _ h.2), tt)); writes = tt; arrays = tt; objects = tt; names = tt; parameters = tt }
  in_tables (instruction.Fetch to function pointer given) h =
      record { reads = (register pointer (fetched_there _ _ h.0), operand_registers given h.1); writes = (target to _ h.0, tt); arrays = tt; objects = tt; names = tt; parameters = tt }
  in_tables (instruction.Barrier site depth fences) h = record { reads = tt; writes = tt; arrays = tt; objects = tt; names = tt; parameters = tt }
  in_tables (instruction.Enter depth) h = record { reads = tt; writes = tt; arrays = tt; objects = tt; names = tt; parameters = tt }
  in_tables (instruction.Turn depth) h = record { reads = tt; writes = tt; arrays = tt; objects = tt; names = tt; parameters = tt }
  in_tables (instruction.Jump by) h = record { reads = tt; writes = tt; arrays = tt; objects = tt; names = tt; parameters = tt }
  in_tables (instruction.JumpIfZero register' by) h =
      record { reads = (register register' (integer_there _ h), tt); writes = tt; arrays = tt; objects = tt; names = tt; parameters = tt }
  in_tables (instruction.Back by) h = record { reads = tt; writes = tt; arrays = tt; objects = tt; names = tt; parameters = tt }
  in_tables instruction.End h = record { reads = tt; writes = tt; arrays = tt; objects = tt; names = tt; parameters = tt }
