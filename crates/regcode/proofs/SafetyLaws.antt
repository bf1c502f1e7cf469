-- Verified code never sticks: instruction by instruction.
use Rattle.std.proofs.Common.{◌≡◌, ℕ, zero, suc, ℤ, pos, negsuc, ◌+◌, ◌<◌, ◌≤◌, ◌++◌, ◌⊎◌, inl, inr, Bool, true, false, IsTrue, if◌then◌else◌, Option, None, Some, List, [], ◌∷◌, Result, Ok, Err, length, take, replicate, slice_get, slice_index, refl, ap, sym, ◌∙◌, subst, arith}
use Rattle.std.proofs.lemmas.Bool.{false≢true, cases_eq}
use Rattle.std.proofs.lemmas.List.{length-take-le, length-append, length-replicate, length-set}
use Rattle.std.proofs.lemmas.Option.{none-some, slice_get-get_or}
use Rattle.std.specs.List.{All}
use Rattle.std.specs.Option.{option_map}
use Rattle.clnum.specs.Integer.{Integer, converted}
use Rattle.clnum.specs.Builtins.{is_same, builtin_value}
use Rattle.clnum.specs.Operations.{unary_value, unary_kind, binary_value, binary_kind, wrapped}
use Rattle.clnum.specs.declared.int_type.IntType.{IntType}
use Rattle.clnum.specs.declared.int_type.IntType.TheVariants.{Int, Uint, Ulong}
use Rattle.clnum.specs.declared.operators.ArithFault.{ArithFault}
use Rattle.clnum.specs.declared.operators.ArithFault.TheVariants as arith_fault
use Rattle.clnum.specs.declared.operators.BinaryOperator.{BinaryOperator}
use Rattle.clnum.specs.declared.operators.BinaryOperator.TheVariants as binary_operator
use Rattle.clnum.specs.declared.operators.UnaryOperator.{UnaryOperator}
use Rattle.clnum.specs.declared.operators.UnaryOperator.TheVariants as unary_operator
use Rattle.clnum.specs.declared.operators.Builtin.{Builtin}
use Rattle.clnum.specs.declared.operators.Builtin.TheVariants as builtin
use Rattle.clmodel.specs.Next.{Continuation, fail, number, pointing, moved, load, store, element_value, read_element, element_set, write_element, atomic_call, fetch_number, fetch_call, binary_operation, arithmetic, test, integer_call, given_value, content, held, known}
use Rattle.clmodel.specs.declared.action.Cause.{Cause}
use Rattle.clmodel.specs.declared.operand.Operand.{Operand}
use Rattle.clmodel.specs.declared.operand.Operand.TheVariants.{Integral, Pointed}
use Rattle.clmodel.specs.declared.operand.Pointer.{Pointer as PointerValue}
use Rattle.clmodel.specs.declared.setup.Argument.{Argument}
use Rattle.clmodel.specs.declared.setup.Argument.TheVariants as given_argument
use Rattle.clmodel.specs.declared.setup.AtomicFunction.{AtomicFunction}
use Rattle.clmodel.specs.declared.tree.VariableType.{VariableType}
use Rattle.clmodel.specs.declared.tree.VariableType.TheVariants as variable_type
use Rattle.regcode.specs.Listing.{Listing}
use Rattle.regcode.specs.Machine.{State, ItemContext, Registers, reg, put, put_array, array_of, entry_at, act, name_of, with_put, with_array, with_turns, passed, onward, argument_at}
use Rattle.regcode.specs.Rules.{IsVerified, Fits, LeadsInside, Takes, HasRoom, MayGoOn, kind_at, loops_at, kind_of, held_kind, number_kind, common_kind, changed_kind, binary_operation_kind, of_one_kind, of_two_kind, offset_kind, loaded_kind, fetched_kind, is_integer, is_pointer, is_atomic, is_turn}
use Rattle.regcode.specs.Safety.{Suits, operand_kind, InTables, Proceeds, ended, failed, on_at, after_at, asked, ticked, IsNext, NeverSticks}
use Rattle.regcode.specs.declared.instruction.FetchOperands.TheVariants as operands
use Rattle.regcode.specs.declared.instruction.Instruction.{Instruction}
use Rattle.regcode.specs.declared.instruction.Instruction.TheVariants as instruction
use Rattle.regcode.specs.declared.tables.Register.{Register}
use Rattle.regcode.specs.declared.tables.RegisterKind.{RegisterKind}
use Rattle.regcode.specs.declared.tables.RegisterKind.TheVariants.{Integer as IntegerKind, Pointer as PointerKind}
use Rattle.regcode.proofs.Registers.{reg_put, reg_kept, array_put, array_kept, with_entry_length, kind_within}
use Rattle.regcode.proofs.Named.{in_tables, takes_nothing}

-- The types of operators' values.
pub unary_is : (operator : UnaryOperator) (v : Integer) → (unary_value operator v).kind ≡ unary_kind operator v.kind
unfolding unary_value unary_kind
unary_is unary_operator.Plus v = refl
unary_is unary_operator.Negate v = refl
unary_is unary_operator.Complement v = refl
unary_is unary_operator.Not v = refl

-- the number of an operator on two integers is of the operator's type
IsOfType : IntType → Result Integer ArithFault → Type 0
IsOfType kind (Ok v) = v.kind ≡ kind
IsOfType kind (Err fault) = Unit {0}

choice_is : (kind : IntType) (b : Bool) (v : Integer) (fault : ArithFault) → v.kind ≡ kind → IsOfType kind (if b then Ok v else Err fault)
unfolding IsOfType
choice_is kind true v fault e = e
choice_is kind false v fault e = tt

divided_is : (kind : IntType) (a b : Bool) (v : Integer) (fault other : ArithFault) → v.kind ≡ kind → IsOfType kind (if a then Err other else (if b then Ok v else Err fault))
unfolding IsOfType
divided_is kind true b v fault other e = tt
divided_is kind false b v fault other e = choice_is kind b v fault e

binary_is : (operator : BinaryOperator) (v w : Integer) → IsOfType (binary_kind operator v.kind w.kind) (binary_value operator v w)
unfolding binary_value binary_kind IsOfType
binary_is binary_operator.Add v w = refl
binary_is binary_operator.Subtract v w = refl
binary_is binary_operator.Multiply v w = refl
binary_is binary_operator.Divide v w = divided_is _ _ _ _ _ _ refl
binary_is binary_operator.Remainder v w = divided_is _ _ _ _ _ _ refl
binary_is binary_operator.ShiftLeft v w = refl
binary_is binary_operator.ShiftRight v w = refl
binary_is binary_operator.Less v w = refl
binary_is binary_operator.Greater v w = refl
binary_is binary_operator.LessOrEqual v w = refl
binary_is binary_operator.GreaterOrEqual v w = refl
binary_is binary_operator.Equal v w = refl
binary_is binary_operator.NotEqual v w = refl
binary_is binary_operator.BitAnd v w = refl
binary_is binary_operator.BitXor v w = refl
binary_is binary_operator.BitOr v w = refl

-- What a register takes.
takes_is : (r v : Option RegisterKind) → Takes r v → r ≡ v
takes_is (Some r) (Some v) h = ap Some h
takes_is (Some r) None h = absurd h
takes_is None v h = absurd h

fetched_takes : (kind : IntType) (r : Option RegisterKind) → Takes r (fetched_kind (Some (PointerKind kind))) → r ≡ Some (IntegerKind kind)
fetched_takes Int r h = takes_is r _ h
fetched_takes Uint r h = takes_is r _ h
fetched_takes _ r h = absurd (takes_nothing r h)

module _ (Ends : Type 0) (Next : State → Type 0) (on after : State → Continuation) where
  abbrev Safe : Continuation → Type 0
  Safe run = Proceeds Ends Next on after run

  known_safe : (name : ℕ) (o : Option Operand) (f : Operand → Continuation) → ((v : Operand) → o ≡ Some v → Safe (f v)) → Safe (known name o f)
  known_safe name None f h = failed _
  known_safe name (Some v) f h = h v refl

  number_safe : (v : Operand) (f : Integer → Continuation) → IsTrue (is_integer (Some (operand_kind v))) → ((n : Integer) → v ≡ Integral n → Safe (f n)) → Safe (number v f)
  number_safe (Integral n) f i h = h n refl
  number_safe (Pointed p) f i h = absurd (false≢true i)

  test_safe : (v : Operand) (f : Bool → Continuation) → IsTrue (is_integer (Some (operand_kind v))) → ((b : Bool) → Safe (f b)) → Safe (test v f)
  test_safe (Integral n) f i h = h _
  test_safe (Pointed p) f i h = absurd (false≢true i)

  pointing_safe : (v : Operand) (f : PointerValue → Continuation) → IsTrue (is_pointer (Some (operand_kind v))) → ((p : PointerValue) → v ≡ Pointed p → Safe (f p)) → Safe (pointing v f)
  pointing_safe (Integral n) f i h = absurd (false≢true i)
  pointing_safe (Pointed p) f i h = h p refl

  load_safe : (p : PointerValue) (f : Operand → Continuation) → ((x : Operand) → operand_kind x ≡ IntegerKind p.element → Safe (f x)) → Safe (load p f)
  load_safe p f h = asked _ _ (λ answer. h _ refl)

  store_safe : (p : PointerValue) (v : Operand) (run : Continuation) → IsTrue (is_integer (Some (operand_kind v))) → Safe run → Safe (store p v run)
  store_safe p (Integral n) run i h = asked _ _ (λ answer. h)
  store_safe p (Pointed q) run i h = absurd (false≢true i)

  arithmetic_safe : (r : Result Integer ArithFault) (kind : IntType) (f : Operand → Continuation) → IsOfType kind r → ((x : Operand) → operand_kind x ≡ IntegerKind kind → Safe (f x)) → Safe (arithmetic r f)
  unfolding IsOfType
  arithmetic_safe (Ok v) kind f is h = h _ (ap IntegerKind is)
  arithmetic_safe (Err arith_fault.DivideByZero) kind f is h = failed _
  arithmetic_safe (Err arith_fault.DivideOverflow) kind f is h = failed _

  binary_operation_safe : (operator : BinaryOperator) (v w : Operand) (f : Operand → Continuation) (r : Option RegisterKind)
      → Takes r (binary_operation_kind operator (Some (operand_kind v)) (Some (operand_kind w))) → ((x : Operand) → r ≡ Some (operand_kind x) → Safe (f x)) → Safe (binary_operation operator v w f)
  binary_operation_safe operator (Integral v) (Integral w) f r takes h =
      arithmetic_safe (binary_value operator v w) _ f (binary_is operator v w) (λ x is. h x (takes_is r _ takes ∙ ap Some (sym is)))
  binary_operation_safe binary_operator.Add (Pointed p) (Integral i) f r takes h = h _ (takes_is r _ takes)
  binary_operation_safe binary_operator.Add (Integral i) (Pointed p) f r takes h = h _ (takes_is r _ takes)
  binary_operation_safe binary_operator.Subtract (Pointed p) (Integral i) f r takes h = h _ (takes_is r _ takes)
  binary_operation_safe _ _ _ f r takes h = absurd (takes_nothing r takes)

  moved_safe : (v w : Operand) (f : PointerValue → Continuation) (r : Option RegisterKind)
      → Takes r (offset_kind (Some (operand_kind v)) (Some (operand_kind w))) → ((q : PointerValue) → r ≡ Some (PointerKind q.element) → Safe (f q)) → Safe (moved v w f)
  moved_safe (Pointed p) (Integral i) f r takes h = h _ (takes_is r _ takes)
  moved_safe (Pointed p) (Pointed q) f r takes h = absurd (takes_nothing r takes)
  moved_safe (Integral v) w f r takes h = absurd (takes_nothing r takes)

  of_one_safe : (function : Builtin) (v : Operand) (f : Operand → Continuation) (r : Option RegisterKind)
      → Takes r (of_one_kind function (Some (operand_kind v))) → ((x : Operand) → r ≡ Some (operand_kind x) → Safe (f x)) → Safe (integer_call function (v ∷ []) f)
  unfolding builtin_value
  of_one_safe builtin.Abs (Integral v) f r takes h = h _ (takes_is r _ takes)
  of_one_safe builtin.Clz (Integral v) f r takes h = h _ (takes_is r _ takes)
  of_one_safe builtin.Popcount (Integral v) f r takes h = h _ (takes_is r _ takes)
  of_one_safe _ _ f r takes h = absurd (takes_nothing r takes)

  -- two numbers of one type, or not
  same_safe : (b : Bool) (kind : IntType) (v : Integer) (f : Operand → Continuation) (r : Option RegisterKind) → v.kind ≡ kind
      → Takes r (if b then Some (IntegerKind kind) else None) → ((x : Operand) → r ≡ Some (operand_kind x) → Safe (f x)) → Safe (given_value (if b then Some v else None) f)
  same_safe true kind v f r is takes h = h _ (takes_is r _ takes ∙ ap (λ k. Some (IntegerKind k)) (sym is))
  same_safe false kind v f r is takes h = absurd (takes_nothing r takes)

  of_two_safe : (function : Builtin) (v w : Operand) (f : Operand → Continuation) (r : Option RegisterKind)
      → Takes r (of_two_kind function (Some (operand_kind v)) (Some (operand_kind w))) → ((x : Operand) → r ≡ Some (operand_kind x) → Safe (f x)) → Safe (integer_call function (v ∷ w ∷ []) f)
  unfolding builtin_value
  of_two_safe builtin.Min (Integral v) (Integral w) f r takes h = same_safe (is_same v.kind w.kind) v.kind _ f r refl takes h
  of_two_safe builtin.Max (Integral v) (Integral w) f r takes h = same_safe (is_same v.kind w.kind) v.kind _ f r refl takes h
  of_two_safe builtin.Rotate (Integral v) (Integral w) f r takes h = same_safe (is_same v.kind w.kind) v.kind _ f r refl takes h
  of_two_safe _ _ _ f r takes h = absurd (takes_nothing r takes)

  value_safe : (name : ℕ) (i : ℤ) (kind : IntType) (found : Option (Option ℕ)) (f : Operand → Continuation) → ((x : Operand) → operand_kind x ≡ IntegerKind kind → Safe (f x))
      → Safe (element_value name i kind found f)
  value_safe name i kind None f h = failed _
  value_safe name i kind (Some None) f h = failed _
  value_safe name i kind (Some (Some n)) f h = h _ refl

  read_safe : (name : ℕ) (kind : IntType) (elements : List (Option ℕ)) (i : Operand) (f : Operand → Continuation) → IsTrue (is_integer (Some (operand_kind i)))
      → ((x : Operand) → operand_kind x ≡ IntegerKind kind → Safe (f x)) → Safe (read_element name kind elements i f)
  read_safe name kind elements i f integer h = number_safe i _ integer (λ n is. value_safe name _ kind _ f h)

  if_safe : (b : Bool) (run : Continuation) (cause : Cause) → Safe run → Safe (if b then run else fail cause)
  if_safe true run cause h = h
  if_safe false run cause h = failed _

  set_safe : (name : ℕ) (i : ℤ) (kind : IntType) (elements : List (Option ℕ)) (v : Integer) (f : List (Option ℕ) → Continuation) → ((xs : List (Option ℕ)) → length xs ≡ length elements → Safe (f xs))
      → Safe (element_set name i kind elements v f)
  set_safe name (pos i) kind elements v f h = if_safe _ _ _ (h _ (length-set elements i _))
  set_safe name (negsuc i) kind elements v f h = failed _

  write_safe : (name : ℕ) (kind : IntType) (elements : List (Option ℕ)) (i v : Operand) (f : List (Option ℕ) → Continuation) → IsTrue (is_integer (Some (operand_kind i)))
      → IsTrue (is_integer (Some (operand_kind v))) → ((xs : List (Option ℕ)) → length xs ≡ length elements → Safe (f xs)) → Safe (write_element name kind elements i v f)
  write_safe name kind elements i v f integer other h =
      number_safe i _ integer (λ n is. number_safe v _ other (λ m is'. set_safe name _ kind elements m f h))

  atomic_pointer : (v : Operand) → IsTrue (is_atomic (Some (operand_kind v))) → IsTrue (is_pointer (Some (operand_kind v)))
  atomic_pointer (Integral v) h = absurd (false≢true h)
  atomic_pointer (Pointed p) h = refl

  update_by_one_safe : (function : AtomicFunction) (p : Operand) (run : Continuation) → IsTrue (is_atomic (Some (operand_kind p))) → Safe run → Safe (atomic_call function (p ∷ []) run)
  update_by_one_safe function p run a h = pointing_safe p _ (atomic_pointer p a) (λ q is. asked _ _ (λ answer. h))

  update_safe : (function : AtomicFunction) (p v : Operand) (run : Continuation) → IsTrue (is_atomic (Some (operand_kind p))) → IsTrue (is_integer (Some (operand_kind v))) → Safe run
      → Safe (atomic_call function (p ∷ v ∷ []) run)
  update_safe function p v run a i h = pointing_safe p _ (atomic_pointer p a) (λ q is. number_safe v _ i (λ n is'. asked _ _ (λ answer. h)))

  old_safe : (function : AtomicFunction) (p : PointerValue) (c n : Integer) (f : Operand → Continuation) (r : Option RegisterKind) → Takes r (fetched_kind (Some (PointerKind p.element)))
      → ((x : Operand) → r ≡ Some (operand_kind x) → Safe (f x)) → Safe (fetch_number function p c n f)
  old_safe function p c n f r takes h = asked _ _ (λ answer. h _ (fetched_takes p.element r takes))

  fetch_alone_safe : (function : AtomicFunction) (p : Operand) (f : Operand → Continuation) (r : Option RegisterKind) → Takes r (fetched_kind (Some (operand_kind p)))
      → ((x : Operand) → r ≡ Some (operand_kind x) → Safe (f x)) → Safe (fetch_call function (p ∷ []) f)
  fetch_alone_safe function (Pointed p) f r takes h = old_safe function p (wrapped p.element (pos 0)) (wrapped p.element (pos 1)) f r takes h
  fetch_alone_safe function (Integral n) f r takes h = absurd (takes_nothing r takes)

  fetch_number_safe : (function : AtomicFunction) (p v : Operand) (f : Operand → Continuation) (r : Option RegisterKind) → Takes r (fetched_kind (Some (operand_kind p)))
      → IsTrue (is_integer (Some (operand_kind v))) → ((x : Operand) → r ≡ Some (operand_kind x) → Safe (f x)) → Safe (fetch_call function (p ∷ v ∷ []) f)
  fetch_number_safe function (Pointed p) v f r takes i h = number_safe v _ i (λ n is. old_safe function p (wrapped p.element (pos 0)) (converted n p.element) f r takes h)
  fetch_number_safe function (Integral n) v f r takes i h = absurd (takes_nothing r takes)

  fetch_pair_safe : (function : AtomicFunction) (p c v : Operand) (f : Operand → Continuation) (r : Option RegisterKind) → Takes r (fetched_kind (Some (operand_kind p)))
      → IsTrue (is_integer (Some (operand_kind c))) → IsTrue (is_integer (Some (operand_kind v)))
      → ((x : Operand) → r ≡ Some (operand_kind x) → Safe (f x)) → Safe (fetch_call function (p ∷ c ∷ v ∷ []) f)
  fetch_pair_safe function (Pointed p) c v f r takes i j h = number_safe c _ i (λ m is. number_safe v _ j (λ n is'. old_safe function p (converted m p.element) (converted n p.element) f r takes h))
  fetch_pair_safe function (Integral n) c v f r takes i j h = absurd (takes_nothing r takes)

-- The kinds of what is put into registers.
number_integer : (kind : IntType) (v : Operand) (r : Option RegisterKind) → Takes r (number_kind kind (Some (operand_kind v))) → IsTrue (is_integer (Some (operand_kind v)))
number_integer kind (Integral n) r h = refl
number_integer kind (Pointed p) r h = absurd (takes_nothing r h)

number_takes : (kind : IntType) (v : Operand) (r : Option RegisterKind) → Takes r (number_kind kind (Some (operand_kind v))) → r ≡ Some (IntegerKind kind)
number_takes kind (Integral n) r h = takes_is r _ h
number_takes kind (Pointed p) r h = absurd (takes_nothing r h)

common_integer : (other : IntType) (v : Operand) (r : Option RegisterKind) → Takes r (common_kind other (Some (operand_kind v))) → IsTrue (is_integer (Some (operand_kind v)))
common_integer other (Integral n) r h = refl
common_integer other (Pointed p) r h = absurd (takes_nothing r h)

changed_integer : (operator : UnaryOperator) (v : Operand) (r : Option RegisterKind) → Takes r (changed_kind operator (Some (operand_kind v))) → IsTrue (is_integer (Some (operand_kind v)))
changed_integer operator (Integral n) r h = refl
changed_integer operator (Pointed p) r h = absurd (takes_nothing r h)

loaded_pointer : (v : Operand) (r : Option RegisterKind) → Takes r (loaded_kind (Some (operand_kind v))) → IsTrue (is_pointer (Some (operand_kind v)))
loaded_pointer (Integral n) r h = absurd (takes_nothing r h)
loaded_pointer (Pointed p) r h = refl

held_pointer : (b : Bool) (kind : RegisterKind) (r : Option RegisterKind) → Takes r (if b then Some kind else None) → r ≡ Some kind
held_pointer true kind r h = takes_is r _ h
held_pointer false kind r h = absurd (takes_nothing r h)

held_takes : (kind : VariableType) (v : Operand) (r : Option RegisterKind) → Takes r (held_kind kind (Some (operand_kind v))) → r ≡ Some (operand_kind (held kind v))
unfolding converted
held_takes (variable_type.Integer kind) (Integral n) r h = takes_is r _ h
held_takes (variable_type.Integer kind) (Pointed p) r h = absurd (takes_nothing r h)
held_takes (variable_type.Pointer pointer) (Integral n) r h = absurd (takes_nothing r h)
held_takes (variable_type.Pointer pointer) (Pointed p) r h = held_pointer (is_same p.element pointer.element) _ r h

content_is : (buffers : List (List ℕ)) (place : ℕ) (kind : VariableType) (argument : Option Argument) (w : Operand) → content buffers place kind argument ≡ Some w → Some (kind_of kind) ≡ Some (operand_kind w)
content_is buffers place (variable_type.Pointer p) (Some (given_argument.Buffer name)) w e = ap (option_map operand_kind) e
content_is buffers place (variable_type.Pointer p) (Some (given_argument.Local size)) w e = ap (option_map operand_kind) e
content_is buffers place (variable_type.Integer kind) (Some (given_argument.Value n)) w e = ap (option_map operand_kind) e
content_is _ _ _ _ w e = absurd (none-some _ e)

-- a register of others is what was put there, or what it was
put_cases : (registers : Registers) (i : ℕ) (v : Option Operand) (j : ℕ) → ((i ≡ j) × (reg (put registers i v) j ≡ v)) ⊎ (reg (put registers i v) j ≡ reg registers j)
put_cases registers i v j =
    elim (cases_eq i j) [
      | inl e ↦ inl (e, subst (λ k. reg (put registers i v) k ≡ v) e (reg_put registers i v))
      | inr n ↦ inr (reg_kept registers i v j n)
    ]

-- what there is room for
room_is : (xs : List ℕ) (a count : ℕ) → HasRoom (slice_get xs a) count → count ≤ slice_index xs a
room_is [] a count h = absurd h
room_is (most ∷ xs) zero count h = h
room_is (most ∷ xs) (suc a) count h = room_is xs a count h

module _ (code : Listing) (s : State) (suits : Suits code s) where
  put_typed : (to : ℕ) (v : Option Operand) → ((w : Operand) → v ≡ Some w → kind_at code to ≡ Some (operand_kind w)) → (r : ℕ) (w : Operand) → reg (put s.registers to v) r ≡ Some w
      → kind_at code r ≡ Some (operand_kind w)
  put_typed to v fits r w here =
      elim (put_cases s.registers to v r) [
        | inl e ↦ subst (λ k. kind_at code k ≡ Some (operand_kind w)) e.0 (fits w (sym e.1 ∙ here))
        | inr e ↦ suits.typed r w (sym e ∙ here)
      ]

  put_size : (to : ℕ) (v : Option Operand) → to < length code.registers → length (put s.registers to v).values ≡ length code.registers
  put_size to v below =
      let same = suits.registers in
      with_entry_length None s.registers.values to v (omega (arith, below, same)) ∙ same

  array_room : (array : ℕ) (elements : List (Option ℕ)) → length elements ≤ slice_index code.arrays array → (a : ℕ) → length (array_of (put_array s.registers array elements) a) ≤ slice_index code.arrays a
  array_room array elements few a =
      elim (cases_eq array a) [
        | inl e ↦ subst (λ b. length (array_of (put_array s.registers array elements) b) ≤ slice_index code.arrays b) e
            (subst (λ xs. length xs ≤ slice_index code.arrays array) (sym (array_put s.registers array elements)) few)
        | inr n ↦ subst (λ xs. length xs ≤ slice_index code.arrays a) (sym (array_kept s.registers array elements a n)) (suits.room a)
      ]

  set_next : (to : ℕ) (v : Option Operand) → to < length code.registers → ((w : Operand) → v ≡ Some w → kind_at code to ≡ Some (operand_kind w)) → MayGoOn code (s.place + 1) (loops_at code s.place) → IsNext code s (with_put s to v)
  set_next to v below fits leads =
      let counted = suits.counted in
      let few = leads.1 in
      record { suits = record { inside = leads.0; registers = put_size to v below; arrays = suits.arrays; typed = put_typed to v fits; room = suits.room; counted = omega (arith, counted, few) }; forward = inl (omega arith) }

  put_next : (to : ℕ) (v : Operand) → kind_at code to ≡ Some (operand_kind v) → MayGoOn code (s.place + 1) (loops_at code s.place) → IsNext code s (with_put s to (Some v))
  put_next to v is leads = set_next to (Some v) (kind_within code to _ is) (λ w e. is ∙ ap (option_map operand_kind) e) leads

  array_next : (array : ℕ) (elements : List (Option ℕ)) → array < length code.arrays → length elements ≤ slice_index code.arrays array → MayGoOn code (s.place + 1) (loops_at code s.place) → IsNext code s (with_array s array elements)
  array_next array elements below small leads =
      let counted = suits.counted in
      let few = leads.1 in
      let same = suits.arrays in
      let size = with_entry_length [] s.registers.arrays array elements (omega (arith, below, same)) ∙ same in
      record { suits = record { inside = leads.0; registers = suits.registers; arrays = size; typed = suits.typed; room = array_room array elements small; counted = omega (arith, counted, few) }; forward = inl (omega arith) }

  onward_next : (next : ℕ) → s.place < next → MayGoOn code next (loops_at code s.place) → IsNext code s (record s { place = next })
  onward_next next further leads =
      let counted = suits.counted in
      let few = leads.1 in
      record { suits = record { inside = leads.0; registers = suits.registers; arrays = suits.arrays; typed = suits.typed; room = suits.room; counted = omega (arith, counted, few) }; forward = inl further }

  turns_next : (depth count : ℕ) → depth ≤ loops_at code s.place → MayGoOn code (s.place + 1) (depth + 1) → IsNext code s (with_turns s (take depth s.counters ++ count ∷ []))
  turns_next depth count within leads =
      let counted = suits.counted in
      let few = leads.1 in
      let taken = length-take-le depth s.counters (omega (arith, counted, within)) in
      let all = length-append (take depth s.counters) (count ∷ []) in
      record { suits = record { inside = leads.0; registers = suits.registers; arrays = suits.arrays; typed = suits.typed; room = suits.room; counted = omega (arith, few, taken, all) }; forward = inl (omega arith) }

  back_next : (next : ℕ) → next < length code.instructions → IsTrue (is_turn (slice_get code.instructions next)) → loops_at code next ≤ loops_at code s.place → IsNext code s (record s { place = next })
  back_next next inside turn few =
      let counted = suits.counted in
      record { suits = record { inside = inside; registers = suits.registers; arrays = suits.arrays; typed = suits.typed; room = suits.room; counted = omega (arith, counted, few) }; forward = inr turn }

  -- what an instruction does, where its operands are as it wants them
  module _ (given : ItemContext) (on after : State → Continuation) where
    does : (i : Instruction) → Fits code i → InTables code i → LeadsInside code s.place i → Proceeds (i ≡ instruction.End) (IsNext code s) on after (act given (Some i) on after s)
    unfolding converted
    does (instruction.Constant to value) fits named goes = on_at _ (put_next to _ (takes_is _ _ fits) goes)
    does (instruction.Unset to) fits named goes = on_at _ (set_next to None fits (λ w e. absurd (none-some w e)) goes)
    does (instruction.Move to from name) fits named goes =
        known_safe _ _ on after name _ _ (λ v e. on_at _ (put_next to v (takes_is _ _ fits.0 ∙ suits.typed from v e) goes))
    does (instruction.AssignConversion to from kind) fits named goes =
        known_safe _ _ on after _ _ _ (λ v e.
        on_at _ (put_next to _ (held_takes kind v _ (subst (λ k. Takes (kind_at code to) (held_kind kind k)) (suits.typed from v e) fits)) goes))
    does (instruction.Convert to from kind) fits named goes =
        known_safe _ _ on after _ _ _ (λ v e.
        let takes = subst (λ k. Takes (kind_at code to) (number_kind kind k)) (suits.typed from v e) fits in
        number_safe _ _ on after v _ (number_integer kind v _ takes) (λ n is. on_at _ (put_next to _ (number_takes kind v _ takes) goes)))
    does (instruction.UsualConversion to from other) fits named goes =
        known_safe _ _ on after _ _ _ (λ v e.
        let takes = subst (λ k. Takes (kind_at code to) (common_kind other k)) (suits.typed from v e) fits in
        number_safe _ _ on after v _ (common_integer other v _ takes) (λ n is.
        on_at _ (put_next to _ (takes_is _ _ (subst (λ x. Takes (kind_at code to) (common_kind other (Some (operand_kind x)))) is takes)) goes)))
    does (instruction.Unary to operator operand) fits named goes =
        known_safe _ _ on after _ _ _ (λ v e.
        let takes = subst (λ k. Takes (kind_at code to) (changed_kind operator k)) (suits.typed operand v e) fits in
        number_safe _ _ on after v _ (changed_integer operator v _ takes) (λ n is.
        on_at _ (put_next to _ (takes_is _ _ (subst (λ x. Takes (kind_at code to) (changed_kind operator (Some (operand_kind x)))) is takes) ∙ ap (λ k. Some (IntegerKind k)) (sym (unary_is operator n))) goes)))
    does (instruction.Binary to operator left right) fits named goes =
        known_safe _ _ on after _ _ _ (λ v e.
        known_safe _ _ on after _ _ _ (λ w e'.
        binary_operation_safe _ _ on after operator v w _ (kind_at code to)
        (subst (λ k. Takes (kind_at code to) (binary_operation_kind operator (Some (operand_kind v)) k)) (suits.typed right w e')
        (subst (λ k. Takes (kind_at code to) (binary_operation_kind operator k (kind_at code right))) (suits.typed left v e) fits))
        (λ x is. on_at _ (put_next to x is goes))))
    does (instruction.Builtin to function first None) fits named goes =
        known_safe _ _ on after _ _ _ (λ v e.
        of_one_safe _ _ on after function v _ (kind_at code to) (subst (λ k. Takes (kind_at code to) (of_one_kind function k)) (suits.typed first v e) fits)
        (λ x is. on_at _ (put_next to x is goes)))
    does (instruction.Builtin to function first (Some second)) fits named goes =
        known_safe _ _ on after _ _ _ (λ v e.
        known_safe _ _ on after _ _ _ (λ w e'.
        of_two_safe _ _ on after function v w _ (kind_at code to)
        (subst (λ k. Takes (kind_at code to) (of_two_kind function (Some (operand_kind v)) k)) (suits.typed second w e')
        (subst (λ k. Takes (kind_at code to) (of_two_kind function k (kind_at code second))) (suits.typed first v e) fits))
        (λ x is. on_at _ (put_next to x is goes))))
    does (instruction.Dimensions to) fits named goes = on_at _ (put_next to _ (takes_is _ _ fits) goes)
    does (instruction.Query to function dimension) fits named goes =
        known_safe _ _ on after _ _ _ (λ d e.
        on_at _ (put_next to _ (number_takes Ulong d _ (subst (λ k. Takes (kind_at code to) (number_kind Ulong k)) (suits.typed dimension d e) fits)) goes))
    does (instruction.Argument to index kind) fits named goes =
        on_at _ (set_next to _ named.writes.0 (λ w e. takes_is _ _ fits.0 ∙ content_is given.buffers index kind (argument_at given.arguments index) w e) goes)
    does (instruction.Local to object element) fits named goes = on_at _ (put_next to _ (takes_is _ _ fits.0) goes)
    does (instruction.UnsetArray array count) fits named goes = on_at _ (array_next array (replicate count None) named.arrays.0 (subst (λ n. n ≤ slice_index code.arrays array) (sym (length-replicate count None)) (room_is code.arrays array count fits)) goes)
    does (instruction.PrivateLoad to array index element name) fits named goes =
        known_safe _ _ on after _ _ _ (λ i e.
        read_safe _ _ on after name element _ i _ (subst (λ k. IsTrue (is_integer k)) (suits.typed index i e) fits.1)
        (λ x kind. on_at _ (put_next to x (takes_is _ _ fits.0 ∙ ap Some (sym kind)) goes)))
    does (instruction.PrivateStore array index value element name) fits named goes =
        known_safe _ _ on after _ _ _ (λ i e.
        known_safe _ _ on after _ _ _ (λ v e'.
        write_safe _ _ on after name element _ i v _ (subst (λ k. IsTrue (is_integer k)) (suits.typed index i e) fits.0)
        (subst (λ k. IsTrue (is_integer k)) (suits.typed value v e') fits.1) (λ xs same. on_at _ (array_next array xs named.arrays.0 (let small = suits.room array in omega (arith, small, same)) goes))))
    does (instruction.MovePointer to from) fits named goes =
        known_safe _ _ on after _ _ _ (λ v e.
        pointing_safe _ _ on after v _ (subst (λ k. IsTrue (is_pointer k)) (suits.typed from v e) fits.1) (λ q is.
        on_at _ (put_next to (Pointed q) (takes_is _ _ fits.0 ∙ suits.typed from v e ∙ ap (λ w. Some (operand_kind w)) is) goes)))
    does (instruction.Offset to pointer index) fits named goes =
        known_safe _ _ on after _ _ _ (λ p e.
        known_safe _ _ on after _ _ _ (λ i e'.
        moved_safe _ _ on after p i _ (kind_at code to)
        (subst (λ k. Takes (kind_at code to) (offset_kind (Some (operand_kind p)) k)) (suits.typed index i e')
        (subst (λ k. Takes (kind_at code to) (offset_kind k (kind_at code index))) (suits.typed pointer p e) fits))
        (λ q is. on_at _ (put_next to _ is goes))))
    does (instruction.Load to pointer) fits named goes =
        known_safe _ _ on after _ _ _ (λ p e.
        let takes = subst (λ k. Takes (kind_at code to) (loaded_kind k)) (suits.typed pointer p e) fits in
        pointing_safe _ _ on after p _ (loaded_pointer p _ takes) (λ q is.
        load_safe _ _ on after q _ (λ x kind.
        after_at _ (put_next to x (takes_is _ _ (subst (λ y. Takes (kind_at code to) (loaded_kind (Some (operand_kind y)))) is takes) ∙ ap Some (sym kind)) goes))))
    does (instruction.Store pointer value) fits named goes =
        known_safe _ _ on after _ _ _ (λ p e.
        known_safe _ _ on after _ _ _ (λ v e'.
        pointing_safe _ _ on after p _ (subst (λ k. IsTrue (is_pointer k)) (suits.typed pointer p e) fits.0) (λ q is.
        store_safe _ _ on after q v _ (subst (λ k. IsTrue (is_integer k)) (suits.typed value v e') fits.1) (after_at _ (onward_next _ (omega arith) goes)))))
    does (instruction.Update function pointer None) fits named goes =
        known_safe _ _ on after _ _ _ (λ p e.
        update_by_one_safe _ _ on after function p _ (subst (λ k. IsTrue (is_atomic k)) (suits.typed pointer p e) fits.1) (after_at _ (onward_next _ (omega arith) goes)))
    does (instruction.Update function pointer (Some value)) fits named goes =
        known_safe _ _ on after _ _ _ (λ p e.
        known_safe _ _ on after _ _ _ (λ v e'.
        update_safe _ _ on after function p v _ (subst (λ k. IsTrue (is_atomic k)) (suits.typed pointer p e) fits.1)
        (subst (λ k. IsTrue (is_integer k)) (suits.typed value v e') fits.2) (after_at _ (onward_next _ (omega arith) goes))))
    does (instruction.Fetch to function pointer operands.Alone) fits named goes =
        known_safe _ _ on after _ _ _ (λ p e.
        fetch_alone_safe _ _ on after function p _ (kind_at code to) (subst (λ k. Takes (kind_at code to) (fetched_kind k)) (suits.typed pointer p e) fits.0)
        (λ x is. after_at _ (put_next to x is goes)))
    does (instruction.Fetch to function pointer (operands.Number value)) fits named goes =
        known_safe _ _ on after _ _ _ (λ p e.
        known_safe _ _ on after _ _ _ (λ v e'.
        fetch_number_safe _ _ on after function p v _ (kind_at code to) (subst (λ k. Takes (kind_at code to) (fetched_kind k)) (suits.typed pointer p e) fits.0)
        (subst (λ k. IsTrue (is_integer k)) (suits.typed value v e') fits.1) (λ x is. after_at _ (put_next to x is goes))))
    does (instruction.Fetch to function pointer (operands.Pair expected value)) fits named goes =
        known_safe _ _ on after _ _ _ (λ p e.
        known_safe _ _ on after _ _ _ (λ c e'.
        known_safe _ _ on after _ _ _ (λ v e''.
        fetch_pair_safe _ _ on after function p c v _ (kind_at code to) (subst (λ k. Takes (kind_at code to) (fetched_kind k)) (suits.typed pointer p e) fits.0)
        (subst (λ k. IsTrue (is_integer k)) (suits.typed expected c e') fits.1.0) (subst (λ k. IsTrue (is_integer k)) (suits.typed value v e'') fits.1.1)
        (λ x is. after_at _ (put_next to x is goes)))))
    does (instruction.Barrier site depth fences) fits named goes = asked _ _ (λ answer. after_at _ (onward_next _ (omega arith) goes.1))
    does (instruction.Enter depth) fits named goes = on_at _ (turns_next depth 0 goes.0 goes.2)
    does (instruction.Turn depth) fits named goes = ticked _ (after_at _ (turns_next depth _ (let within = goes.0 in omega (arith, within)) goes.1))
    does (instruction.Jump by) fits named goes = on_at _ (onward_next _ (omega arith) goes)
    does (instruction.JumpIfZero register by) fits named goes =
        known_safe _ _ on after _ _ _ (λ v e.
        test_safe _ _ on after v _ (subst (λ k. IsTrue (is_integer k)) (suits.typed register v e) fits) sides)
      where
        sides : (b : Bool) → Proceeds ((instruction.JumpIfZero register by) ≡ instruction.End) (IsNext code s) on after (if b then on (passed s) else on (onward s by))
        sides true = on_at _ (onward_next _ (omega arith) goes.0)
        sides false = on_at _ (onward_next _ (omega arith) goes.1)
    does (instruction.Back by) fits named goes = on_at _ (back_next _ (let inside = suits.inside in omega (arith, inside)) goes.1 goes.2)
    does instruction.End fits named goes = ended refl

-- no array has elements at the start
empty_at_start : (count a : ℕ) → entry_at {A = List (Option ℕ)} [] (replicate count []) a ≡ []
empty_at_start zero a = refl
empty_at_start (suc count) zero = refl
empty_at_start (suc count) (suc a) = empty_at_start count a

-- no register has a value at the start
unset_at_start : (count r : ℕ) → entry_at {A = Option Operand} None (replicate count None) r ≡ None
unset_at_start zero r = refl
unset_at_start (suc count) zero = refl
unset_at_start (suc count) (suc r) = unset_at_start count r

-- the names of registers are in the table of names
name_below : (names : ℕ) (registers : List Register) → All (λ register. register.name < names) registers → (r : ℕ) → r < length registers → name_of (slice_get registers r) < names
name_below names [] named r inside = absurd (omega (arith, inside))
name_below names (x ∷ registers) named zero inside = named 0 x inside
name_below names (x ∷ registers) named (suc r) inside = name_below names registers (λ k d h. named (suc k) d (omega (arith, h))) r (omega (arith, inside))

pub never_sticks : (code : Listing) → IsVerified code → NeverSticks code
never_sticks code ok =
    record {
      start = record {
        inside = ok.begins;
        registers = length-replicate (length code.registers) None;
        arrays = length-replicate (length code.arrays) [];
        typed = λ r v e. absurd (none-some v (sym (unset_at_start (length code.registers) r) ∙ e));
        room = λ a. subst (λ xs. length xs ≤ slice_index code.arrays a) (sym (empty_at_start (length code.arrays) a)) (omega arith);
        counted = let outside = ok.outside in omega (arith, outside);
      };
      named = name_below code.names code.registers ok.named;
      next = λ given s suits on after. goes given s suits on after (slice_get code.instructions s.place) refl;
    }
  where
    goes : (given : ItemContext) (s : State) → Suits code s → (on after : State → Continuation) → (o : Option Instruction) → slice_get code.instructions s.place ≡ o
        → (i : Instruction) × (o ≡ Some i) × InTables code i × Proceeds (i ≡ instruction.End) (IsNext code s) on after (act given o on after s)
    goes given s suits on after (Some i) here = let fine = ok.each s.place i here in let named = in_tables code i fine.fits in (i, refl, named, does code s suits given on after i fine.fits named fine.leads)
    goes given s suits on after None here = absurd (none-some _ (sym here ∙ slice_get-get_or code.instructions s.place instruction.End suits.inside))
