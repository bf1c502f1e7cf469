-- Which labels fit code (own).
use Rattle.std.specs.Prelude.{◌≡◌, ℕ, pos, ◌+◌, ◌-◌, ◌^◌, ◌==◌, int_lt, Bool, true, false, not, ◌&&◌, if◌then◌else◌, IsTrue, Option, None, Some, List, slice_get}
use Rattle.std.specs.Option.{MatchOption}
use Rattle.clnum.specs.Integer.{Integer}
use Rattle.clnum.specs.declared.operators.BinaryOperator.{BinaryOperator}
use Rattle.clnum.specs.declared.operators.BinaryOperator.TheVariants as binary_operator
use Rattle.regcode.specs.declared.instruction.FetchOperands.{FetchOperands}
use Rattle.regcode.specs.declared.instruction.FetchOperands.TheVariants as operands
use Rattle.regcode.specs.declared.instruction.Instruction.{Instruction}
use Rattle.regcode.specs.declared.instruction.Instruction.TheVariants as instruction
use Rattle.same_items.specs.Free.{CodeFreedom}
use Rattle.same_items.specs.declared.label.Label.{Label}
use Rattle.same_items.specs.declared.label.Label.TheVariants as label

-- the labels of registers, by their numbers
abbrev pub Labels : Type 0
Labels = ℕ → Label

-- labels with another one of one register
abbrev pub with_label : Labels → ℕ → Label → Labels
with_label labels to l r = if r == to then l else labels r

-- what a label says follows from another: the second says no less
abbrev pub covers : Label → Label → Bool
covers _ label.Unset = true
covers label.Same label.Same = true
covers label.Free label.Same = true
covers label.Divisor label.Divisor = true
covers label.Same label.Divisor = true
covers label.Free label.Divisor = true
covers label.Free label.Free = true
covers label.ToSame label.ToSame = true
covers label.ToFree label.ToFree = true
covers label.ToAny label.ToSame = true
covers label.ToAny label.ToFree = true
covers label.ToAny label.ToAny = true
covers _ _ = false

-- the label of what an object holds, or of a pointer to it, by whether its bytes may differ
abbrev pub number_label : Bool → Label
number_label true = label.Free
number_label false = label.Same

abbrev pub pointer_label : Bool → Label
pointer_label true = label.ToFree
pointer_label false = label.ToSame

-- numbers on which something depends that may not differ: the same in both, or never there
abbrev pub is_same : Label → Bool
is_same label.Unset = true
is_same label.Same = true
is_same _ = false

-- a number's label
abbrev pub is_number : Label → Bool
is_number label.Unset = true
is_number label.Same = true
is_number label.Free = true
is_number _ = false

-- a pointer's label
abbrev pub is_pointer : Label → Bool
is_pointer label.Unset = true
is_pointer label.ToSame = true
is_pointer label.ToFree = true
is_pointer label.ToAny = true
is_pointer _ = false

-- of two numbers, each that is unset, the same, or free
abbrev pub joined : Label → Label → Label
joined label.Free _ = label.Free
joined _ label.Free = label.Free
joined _ _ = label.Same

-- the label of what is loaded by a pointer
abbrev pub loaded : Label → Label
loaded label.ToSame = label.Same
loaded label.Unset = label.Unset
loaded _ = label.Free

-- a number may be kept where numbers may differ, or not
abbrev pub may_keep : (free : Bool) → Label → Bool
may_keep free label.Unset = true
may_keep free label.Same = true
may_keep true label.Free = true
may_keep _ _ = false

-- a number of one label may be put where a pointer of another leads
abbrev pub may_put : Label → Label → Bool
may_put label.Unset _ = true
may_put _ label.Unset = true
may_put label.ToSame label.Same = true
may_put label.ToFree label.Same = true
may_put label.ToAny label.Same = true
may_put label.ToFree label.Free = true
may_put _ _ = false

-- the same, by a store
abbrev pub may_store : (uniform : Bool) → Label → Label → Bool
may_store uniform label.ToFree label.Free = not uniform
may_store uniform pointer value = may_put pointer value

-- a division may have a fault, by its numbers
abbrev pub is_division : BinaryOperator → Bool
is_division binary_operator.Divide = true
is_division binary_operator.Remainder = true
is_division _ = false

-- a label without what it says of divisions
abbrev pub plain : Label → Label
plain label.Divisor = label.Same
plain l = l

-- a positive number that each type of 32 bits has
abbrev pub is_divisor : Integer → Bool
is_divisor v = int_lt (pos 0) v.number && int_lt v.number (pos (2 ^ 31))

-- the label of a constant
abbrev pub constant_label : Integer → Label
constant_label v = if is_divisor v then label.Divisor else label.Same

-- the label of an operator's value, or None where the operator may not be done so
abbrev pub plain_binary : BinaryOperator → Label → Label → Option Label
plain_binary operator label.Unset right = Some label.Unset
plain_binary operator left label.Unset = Some label.Unset
plain_binary operator label.Divisor right = None
plain_binary operator left label.Divisor = None
plain_binary operator label.Same label.Same = Some label.Same
plain_binary operator label.Same label.Free = if is_division operator then None else Some label.Free
plain_binary operator label.Free label.Same = if is_division operator then None else Some label.Free
plain_binary operator label.Free label.Free = if is_division operator then None else Some label.Free
plain_binary operator label.Free right = None
plain_binary operator left label.Free = None
plain_binary operator label.Same right = Some right
plain_binary operator left label.Same = Some left
plain_binary operator left right = Some label.Unset

-- the same, where no division by the right operand fails
abbrev pub divided_label : BinaryOperator → Label → Option Label
divided_label operator label.Free = Some label.Free
divided_label operator left = plain_binary operator left label.Same

-- the same for all labels
abbrev pub binary_label : BinaryOperator → Label → Label → Option Label
binary_label operator left label.Divisor = divided_label operator (plain left)
binary_label operator left right = plain_binary operator (plain left) right

-- the label of a pointer that is moved by a number, or None where it may not be moved so
abbrev pub moved_label : Label → Label → Option Label
moved_label label.Unset index = Some label.Unset
moved_label pointer label.Unset = Some label.Unset
moved_label label.ToSame label.Same = Some label.ToSame
moved_label label.ToFree label.Same = Some label.ToFree
moved_label label.ToAny label.Same = Some label.ToAny
moved_label _ _ = None

-- what an atomic operation is given may be put where its pointer leads
abbrev pub may_fetch : Labels → Label → FetchOperands → Bool
may_fetch labels pointer operands.Alone = is_pointer pointer
may_fetch labels pointer (operands.Number value) = may_put pointer (plain (labels value))
may_fetch labels pointer (operands.Pair expected value) = may_put pointer (plain (labels expected)) && may_put pointer (plain (labels value))

-- labels at a place cover others
abbrev pub Covers : Labels → Labels → Type 0
Covers labels others = (r : ℕ) → IsTrue (covers (labels r) (others r))

-- Labels at each place fit an instruction at one of them: what it needs to be the same in both runs is, and the labels
-- at each place to which it leads cover those that it leaves.
abbrev pub Flows : CodeFreedom → (ℕ → Labels) → ℕ → Instruction → Type 0
Flows w at place (instruction.Constant to value) = Covers (at (place + 1)) (with_label (at place) to (constant_label value))
Flows w at place (instruction.Unset to) = Covers (at (place + 1)) (with_label (at place) to label.Unset)
Flows w at place (instruction.Move to from name) = Covers (at (place + 1)) (with_label (at place) to (at place from))
Flows w at place (instruction.AssignConversion to from kind) = Covers (at (place + 1)) (with_label (at place) to (plain (at place from)))
Flows w at place (instruction.Convert to from kind) = IsTrue (is_number (plain (at place from))) × Covers (at (place + 1)) (with_label (at place) to (plain (at place from)))
Flows w at place (instruction.UsualConversion to from other) = IsTrue (is_number (plain (at place from))) × Covers (at (place + 1)) (with_label (at place) to (plain (at place from)))
Flows w at place (instruction.Unary to operator operand) = IsTrue (is_number (plain (at place operand))) × Covers (at (place + 1)) (with_label (at place) to (plain (at place operand)))
Flows w at place (instruction.Binary to operator left right) =
    MatchOption (binary_label operator (at place left) (at place right)) ⊥ (λ l. Covers (at (place + 1)) (with_label (at place) to l))
Flows w at place (instruction.Builtin to function first None) = IsTrue (is_number (plain (at place first))) × Covers (at (place + 1)) (with_label (at place) to (plain (at place first)))
Flows w at place (instruction.Builtin to function first (Some second)) =
    IsTrue (is_number (plain (at place first))) × IsTrue (is_number (plain (at place second))) × Covers (at (place + 1)) (with_label (at place) to (joined (plain (at place first)) (plain (at place second))))
Flows w at place (instruction.Dimensions to) = Covers (at (place + 1)) (with_label (at place) to label.Same)
Flows w at place (instruction.Query to function dimension) = IsTrue (is_same (plain (at place dimension))) × Covers (at (place + 1)) (with_label (at place) to label.Same)
Flows w at place (instruction.Argument to index kind) = Covers (at (place + 1)) (with_label (at place) to (w.parameters index kind))
Flows w at place (instruction.Local to number element) = Covers (at (place + 1)) (with_label (at place) to (pointer_label (w.bytes.locals number)))
Flows w at place (instruction.UnsetArray array count) = Covers (at (place + 1)) (at place)
Flows w at place (instruction.PrivateLoad to array index element name) =
    IsTrue (is_same (plain (at place index))) × Covers (at (place + 1)) (with_label (at place) to (number_label (w.arrays array)))
Flows w at place (instruction.PrivateStore array index value element name) =
    IsTrue (is_same (plain (at place index))) × IsTrue (may_keep (w.arrays array) (plain (at place value))) × Covers (at (place + 1)) (at place)
Flows w at place (instruction.MovePointer to from) = IsTrue (is_pointer (plain (at place from))) × Covers (at (place + 1)) (with_label (at place) to (plain (at place from)))
Flows w at place (instruction.Offset to pointer index) =
    MatchOption (moved_label (plain (at place pointer)) (plain (at place index))) ⊥ (λ l. Covers (at (place + 1)) (with_label (at place) to l))
Flows w at place (instruction.Load to pointer) = IsTrue (is_pointer (plain (at place pointer))) × Covers (at (place + 1)) (with_label (at place) to (loaded (plain (at place pointer))))
Flows w at place (instruction.Store pointer value) = IsTrue (may_store w.bytes.uniform (plain (at place pointer)) (plain (at place value))) × Covers (at (place + 1)) (at place)
Flows w at place (instruction.Update function pointer None) = IsTrue (is_pointer (plain (at place pointer))) × Covers (at (place + 1)) (at place)
Flows w at place (instruction.Update function pointer (Some value)) = IsTrue (may_put (plain (at place pointer)) (plain (at place value))) × Covers (at (place + 1)) (at place)
Flows w at place (instruction.Fetch to function pointer given) =
    IsTrue (may_fetch (at place) (plain (at place pointer)) given) × Covers (at (place + 1)) (with_label (at place) to (loaded (plain (at place pointer))))
Flows w at place (instruction.Barrier site depth fences) = Covers (at (place + 1)) (at place)
Flows w at place (instruction.Enter depth) = Covers (at (place + 1)) (at place)
Flows w at place (instruction.Turn depth) = Covers (at (place + 1)) (at place)
Flows w at place (instruction.Jump by) = Covers (at (place + 1 + by)) (at place)
Flows w at place (instruction.JumpIfZero register by) = IsTrue (is_same (plain (at place register))) × Covers (at (place + 1)) (at place) × Covers (at (place + 1 + by)) (at place)
Flows w at place (instruction.Back by) = Covers (at (place - by)) (at place)
Flows w at place instruction.End = Unit {0}

-- labels at each place fit code
abbrev pub AreLabels : CodeFreedom → List Instruction → (ℕ → Labels) → Type 0
AreLabels w code at = (place : ℕ) (i : Instruction) → slice_get code place ≡ Some i → Flows w at place i
