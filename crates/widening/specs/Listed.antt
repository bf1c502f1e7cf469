-- Labels of registers at the places to which jumps lead, as a program lists them, the labels at all other places, which
-- follow from these, and what may differ, as a program lists that (own).
use Rattle.std.specs.Prelude.{◌≡◌, ◌+◌, ◌-◌, ℕ, zero, suc, Bool, true, false, ◌&&◌, Option, None, Some, List, slice_get, slice_index_or}
use Rattle.std.specs.Option.{MatchOption}
use Rattle.same_items.specs.Free.{CodeFreedom}
use Rattle.regcode.specs.declared.instruction.Instruction.{Instruction}
use Rattle.regcode.specs.declared.instruction.Instruction.TheVariants as instruction
use Rattle.same_items.specs.Flow.{Labels, Covers, with_label, number_label, pointer_label, is_same, is_number, is_pointer, joined, loaded, may_keep, may_put, may_store, may_fetch, plain, constant_label, binary_label, moved_label}
use Rattle.same_items.specs.declared.label.Label.{Label}
use Rattle.same_items.specs.declared.label.Label.TheVariants as label
use Rattle.widening.specs.Widened.{freedom_of}
use Rattle.widening.specs.declared.checker.Checked.{Checked}
use Rattle.widening.specs.declared.step.Step.{Step}
use Rattle.widening.specs.declared.step.Step.TheVariants as step

-- the labels of a row; registers past its end are unset
abbrev pub labels_of : List Label → Labels
labels_of row r = slice_index_or row r label.Unset

-- the row of a place, if it has one
abbrev pub row_or : Option (Option (List Label)) → Option (List Label)
row_or None = None
row_or (Some row) = row

abbrev pub row_at : List (Option (List Label)) → ℕ → Option (List Label)
row_at rows place = row_or (slice_get rows place)

-- what may differ
abbrev pub free_of : Checked → CodeFreedom
free_of checked =
    let free = checked.free.now in
    freedom_of checked.names.now checked.arguments.now checked.uniform free.buffers.items free.locals.items free.arrays.items free.arguments.items

-- ---- what an instruction does to labels

-- a register gets another label, if all fits
abbrev pub put_if : Bool → ℕ → Label → Step
put_if true to l = step.Puts to l
put_if false to l = step.Wrong

-- a register gets a label, if there is one
abbrev pub put_found : ℕ → Option Label → Step
put_found to (Some l) = step.Puts to l
put_found to None = step.Wrong

-- labels stay as they are, if all fits
abbrev pub keep_if : Bool → Step
keep_if true = step.Keeps
keep_if false = step.Wrong

-- what an instruction does to the labels at its place
abbrev pub step_of : CodeFreedom → Labels → Instruction → Step
step_of w labels (instruction.Constant to value) = step.Puts to (constant_label value)
step_of w labels (instruction.Unset to) = step.Puts to label.Unset
step_of w labels (instruction.Move to from name) = step.Puts to (labels from)
step_of w labels (instruction.AssignConversion to from kind) = step.Puts to (plain (labels from))
step_of w labels (instruction.Convert to from kind) = put_if (is_number (plain (labels from))) to (plain (labels from))
step_of w labels (instruction.UsualConversion to from other) = put_if (is_number (plain (labels from))) to (plain (labels from))
step_of w labels (instruction.Unary to operator operand) = put_if (is_number (plain (labels operand))) to (plain (labels operand))
step_of w labels (instruction.Binary to operator left right) = put_found to (binary_label operator (labels left) (labels right))
step_of w labels (instruction.Builtin to function first None) = put_if (is_number (plain (labels first))) to (plain (labels first))
step_of w labels (instruction.Builtin to function first (Some second)) =
    put_if (is_number (plain (labels first)) && is_number (plain (labels second))) to (joined (plain (labels first)) (plain (labels second)))
step_of w labels (instruction.Dimensions to) = step.Puts to label.Same
step_of w labels (instruction.Query to function dimension) = put_if (is_same (plain (labels dimension))) to label.Same
step_of w labels (instruction.Argument to index kind) = step.Puts to (w.parameters index kind)
step_of w labels (instruction.Local to number element) = step.Puts to (pointer_label (w.bytes.locals number))
step_of w labels (instruction.UnsetArray array count) = step.Keeps
step_of w labels (instruction.PrivateLoad to array index element name) = put_if (is_same (plain (labels index))) to (number_label (w.arrays array))
step_of w labels (instruction.PrivateStore array index value element name) = keep_if (is_same (plain (labels index)) && may_keep (w.arrays array) (plain (labels value)))
step_of w labels (instruction.MovePointer to from) = put_if (is_pointer (plain (labels from))) to (plain (labels from))
step_of w labels (instruction.Offset to pointer index) = put_found to (moved_label (plain (labels pointer)) (plain (labels index)))
step_of w labels (instruction.Load to pointer) = put_if (is_pointer (plain (labels pointer))) to (loaded (plain (labels pointer)))
step_of w labels (instruction.Store pointer value) = keep_if (may_store w.bytes.uniform (plain (labels pointer)) (plain (labels value)))
step_of w labels (instruction.Update function pointer None) = keep_if (is_pointer (plain (labels pointer)))
step_of w labels (instruction.Update function pointer (Some value)) = keep_if (may_put (plain (labels pointer)) (plain (labels value)))
step_of w labels (instruction.Fetch to function pointer given) = put_if (may_fetch labels (plain (labels pointer)) given) to (loaded (plain (labels pointer)))
step_of w labels (instruction.Barrier site depth fences) = step.Keeps
step_of w labels (instruction.Enter depth) = step.Keeps
step_of w labels (instruction.Turn depth) = step.Keeps
step_of w labels (instruction.Jump by) = step.Ends
step_of w labels (instruction.JumpIfZero register by) = keep_if (is_same (plain (labels register)))
step_of w labels (instruction.Back by) = step.Ends
step_of w labels instruction.End = step.Ends

-- labels fit an instruction that does this to them
abbrev pub Goes : Step → Type 0
Goes step.Wrong = ⊥
Goes _ = Unit {0}

-- all registers are unset
abbrev pub no_labels : Labels
no_labels r = label.Unset

-- the labels that a step leaves: none where nothing goes on
abbrev pub left_by : Labels → Step → Labels
left_by labels step.Wrong = labels
left_by labels step.Ends = no_labels
left_by labels step.Keeps = labels
left_by labels (step.Puts to l) = with_label labels to l

-- labels fit, and become others
abbrev pub Takes : Step → Labels → Labels → Type 0
Takes s before labels = Goes s × (labels ≡ left_by before s)

-- ---- where it leads

-- the place to which an instruction at a place jumps
abbrev pub target : ℕ → Instruction → Option ℕ
target place (instruction.Jump by) = Some (place + 1 + by)
target place (instruction.JumpIfZero register by) = Some (place + 1 + by)
target place (instruction.Back by) = Some (place - by)
target place _ = None

-- labels that lead to a place where its row covers them, if it has one
abbrev pub IsCovered : Option (List Label) → Labels → Type 0
IsCovered None labels = ⊥
IsCovered (Some row) labels = Covers (labels_of row) labels

abbrev pub Leads : List (Option (List Label)) → Labels → ℕ → Instruction → Type 0
Leads rows labels place i = MatchOption (target place i) (Unit {0}) (λ next. IsCovered (row_at rows next) labels)

-- the labels at a place with such a row to which others lead from the place before
abbrev pub arrived : Option (List Label) → Labels → Labels
arrived None labels = labels
arrived (Some row) labels = labels_of row

abbrev pub Arrives : Option (List Label) → Labels → Labels → Type 0
Arrives row before labels = (labels ≡ arrived row before) × Covers labels before

-- ---- labels at each place

abbrev pub left_at : CodeFreedom → Labels → Option Instruction → Labels
left_at w labels None = labels
left_at w labels (Some i) = left_by labels (step_of w labels i)

-- the labels at a place: those of its row, or those that the instruction before it leaves
abbrev pub labels_at : CodeFreedom → List Instruction → List (Option (List Label)) → ℕ → Labels
labels_at w code rows zero = arrived (row_at rows zero) no_labels
labels_at w code rows (suc place) = arrived (row_at rows (suc place)) (left_at w (labels_at w code rows place) (slice_get code place))

-- labels at a place fit an instruction there and those to which it jumps, and become the next place's
pub record Passes (checked : Checked) (place : ℕ) (before : Labels) (i : Instruction) (labels : Labels) : Type 0 where
  pub goes : Goes (step_of (free_of checked) before i)
  pub leads : Leads checked.rows.now before place i
  pub arrives : Arrives (row_at checked.rows.now (place + 1)) (left_by before (step_of (free_of checked) before i)) labels
