-- Labels that are carried through code: where each step fits, and what they lead to covers them, they fit the code.
use Rattle.std.proofs.Common.{◌≡◌, ℕ, zero, suc, ◌+◌, Bool, true, false, IsTrue, ◌&&◌, Option, None, Some, List, slice_get, refl, ap, sym, ◌∙◌, subst, add-one}
use Rattle.std.proofs.lemmas.Bool.{and_parts}
use Rattle.std.specs.Option.{MatchOption}
use Rattle.clmodel.proofs.Steps.{some_inj}
use Rattle.regcode.specs.declared.instruction.Instruction.{Instruction}
use Rattle.regcode.specs.declared.instruction.Instruction.TheVariants as instruction
use Rattle.same_items.specs.Free.{CodeFreedom}
use Rattle.same_items.specs.Flow.{Labels, Covers, Flows, with_label, number_label, pointer_label, is_same, is_number, is_pointer, joined, loaded, may_keep, may_put, may_store, may_fetch, plain, binary_label, moved_label}
use Rattle.same_items.specs.declared.label.Label.{Label}
use Rattle.widening.specs.Listed.{labels_of, row_at, put_if, put_found, keep_if, step_of, Goes, left_by, target, IsCovered, Leads, arrived, Arrives, left_at, no_labels, labels_at}
use Rattle.widening.proofs.Covering.{covers_self}

-- ---- one instruction

put_fits : (labels next : Labels) (b : Bool) (to : ℕ) (l : Label) → Goes (put_if b to l) → Covers next (left_by labels (put_if b to l)) → IsTrue b × Covers next (with_label labels to l)
put_fits labels next true to l goes covers = (refl, covers)
put_fits labels next false to l goes covers = absurd goes

found_fits : (labels next : Labels) (to : ℕ) (found : Option Label) → Goes (put_found to found) → Covers next (left_by labels (put_found to found))
    → MatchOption found ⊥ (λ l. Covers next (with_label labels to l))
found_fits labels next to None goes covers = absurd goes
found_fits labels next to (Some l) goes covers = covers

keep_fits : (labels next : Labels) (b : Bool) → Goes (keep_if b) → Covers next (left_by labels (keep_if b)) → IsTrue b × Covers next labels
keep_fits labels next true goes covers = (refl, covers)
keep_fits labels next false goes covers = absurd goes

-- labels fit an instruction that goes on to labels that cover what it leaves
pub fits_here : (w : CodeFreedom) (at : ℕ → Labels) (place : ℕ) (i : Instruction) → Goes (step_of w (at place) i) → Covers (at (place + 1)) (left_by (at place) (step_of w (at place) i))
    → MatchOption (target place i) (Unit {0}) (λ next. Covers (at next) (at place)) → Flows w at place i
fits_here w at place (instruction.Constant to value) goes covers leads = covers
fits_here w at place (instruction.Unset to) goes covers leads = covers
fits_here w at place (instruction.Move to from name) goes covers leads = covers
fits_here w at place (instruction.AssignConversion to from kind) goes covers leads = covers
fits_here w at place (instruction.Convert to from kind) goes covers leads = put_fits (at place) (at (place + 1)) (is_number (plain (at place from))) to (plain (at place from)) goes covers
fits_here w at place (instruction.UsualConversion to from other) goes covers leads = put_fits (at place) (at (place + 1)) (is_number (plain (at place from))) to (plain (at place from)) goes covers
fits_here w at place (instruction.Unary to operator operand) goes covers leads = put_fits (at place) (at (place + 1)) (is_number (plain (at place operand))) to (plain (at place operand)) goes covers
fits_here w at place (instruction.Binary to operator left right) goes covers leads = found_fits (at place) (at (place + 1)) to (binary_label operator (at place left) (at place right)) goes covers
fits_here w at place (instruction.Builtin to function first None) goes covers leads = put_fits (at place) (at (place + 1)) (is_number (plain (at place first))) to (plain (at place first)) goes covers
fits_here w at place (instruction.Builtin to function first (Some second)) goes covers leads =
    let all = put_fits (at place) (at (place + 1)) (is_number (plain (at place first)) && is_number (plain (at place second))) to (joined (plain (at place first)) (plain (at place second))) goes covers in
    let parts = and_parts (is_number (plain (at place first))) (is_number (plain (at place second))) all.0 in
    (parts.0, parts.1, all.1)
fits_here w at place (instruction.Dimensions to) goes covers leads = covers
fits_here w at place (instruction.Query to function dimension) goes covers leads = put_fits (at place) (at (place + 1)) (is_same (plain (at place dimension))) to _ goes covers
fits_here w at place (instruction.Argument to index kind) goes covers leads = covers
fits_here w at place (instruction.Local to number element) goes covers leads = covers
fits_here w at place (instruction.UnsetArray array count) goes covers leads = covers
fits_here w at place (instruction.PrivateLoad to array index element name) goes covers leads = put_fits (at place) (at (place + 1)) (is_same (plain (at place index))) to (number_label (w.arrays array)) goes covers
fits_here w at place (instruction.PrivateStore array index value element name) goes covers leads =
    let all = keep_fits (at place) (at (place + 1)) (is_same (plain (at place index)) && may_keep (w.arrays array) (plain (at place value))) goes covers in
    let parts = and_parts (is_same (plain (at place index))) (may_keep (w.arrays array) (plain (at place value))) all.0 in
    (parts.0, parts.1, all.1)
fits_here w at place (instruction.MovePointer to from) goes covers leads = put_fits (at place) (at (place + 1)) (is_pointer (plain (at place from))) to (plain (at place from)) goes covers
fits_here w at place (instruction.Offset to pointer index) goes covers leads = found_fits (at place) (at (place + 1)) to (moved_label (plain (at place pointer)) (plain (at place index))) goes covers
fits_here w at place (instruction.Load to pointer) goes covers leads = put_fits (at place) (at (place + 1)) (is_pointer (plain (at place pointer))) to (loaded (plain (at place pointer))) goes covers
fits_here w at place (instruction.Store pointer value) goes covers leads = keep_fits (at place) (at (place + 1)) (may_store w.bytes.uniform (plain (at place pointer)) (plain (at place value))) goes covers
fits_here w at place (instruction.Update function pointer None) goes covers leads = keep_fits (at place) (at (place + 1)) (is_pointer (plain (at place pointer))) goes covers
fits_here w at place (instruction.Update function pointer (Some value)) goes covers leads = keep_fits (at place) (at (place + 1)) (may_put (plain (at place pointer)) (plain (at place value))) goes covers
fits_here w at place (instruction.Fetch to function pointer given) goes covers leads =
    put_fits (at place) (at (place + 1)) (may_fetch (at place) (plain (at place pointer)) given) to (loaded (plain (at place pointer))) goes covers
fits_here w at place (instruction.Barrier site depth fences) goes covers leads = covers
fits_here w at place (instruction.Enter depth) goes covers leads = covers
fits_here w at place (instruction.Turn depth) goes covers leads = covers
fits_here w at place (instruction.Jump by) goes covers leads = leads
fits_here w at place (instruction.JumpIfZero register by) goes covers leads =
    let here = keep_fits (at place) (at (place + 1)) (is_same (plain (at place register))) goes covers in
    (here.0, here.1, leads)
fits_here w at place (instruction.Back by) goes covers leads = leads
fits_here w at place instruction.End goes covers leads = tt

-- ---- code

module _ (w : CodeFreedom) (code : List Instruction) (rows : List (Option (List Label))) where
  -- the labels at a place
  abbrev at : ℕ → Labels
  at = labels_at w code rows

  -- a place that has a row has its labels
  at_row : (place : ℕ) (row : List Label) → row_at rows place ≡ Some row → at place ≡ labels_of row
  at_row zero row is = ap (λ z. arrived z no_labels) is
  at_row (suc place) row is = ap (λ z. arrived z (left_at w (at place) (slice_get code place))) is

  -- what leads to a row leads to the labels there
  led : (next : ℕ) (labels : Labels) (row : Option (List Label)) → row_at rows next ≡ row → IsCovered row labels → Covers (at next) labels
  led next labels None is covered = absurd covered
  led next labels (Some row) is covered = subst (λ z. Covers z labels) (sym (at_row next row is)) covered

  all_led : (place : ℕ) (i : Instruction) → Leads rows (at place) place i → MatchOption (target place i) (Unit {0}) (λ next. Covers (at next) (at place))
  all_led place i leads = go (target place i) leads
    where
      go : (next : Option ℕ) → MatchOption next (Unit {0}) (λ next. IsCovered (row_at rows next) (at place)) → MatchOption next (Unit {0}) (λ next. Covers (at next) (at place))
      go None h = tt
      go (Some next) h = led next (at place) (row_at rows next) refl h

  -- the labels at the first place
  pub first_at : (before labels : Labels) → before ≡ no_labels → Arrives (row_at rows 0) before labels → labels ≡ at 0
  first_at before labels unset arrives = arrives.0 ∙ ap (λ z. arrived (row_at rows 0) z) unset

  -- the labels at the next place, and that those at a place fit its instruction
  pub next_at : (place : ℕ) (i : Instruction) (labels : Labels) → slice_get code place ≡ Some i
      → Arrives (row_at rows (place + 1)) (left_by (at place) (step_of w (at place) i)) labels → labels ≡ at (place + 1)
  next_at place i labels here arrives = arrives.0 ∙ is (place + 1) (add-one place)
    where
      is : (next : ℕ) → next ≡ suc place → arrived (row_at rows next) (left_by (at place) (step_of w (at place) i)) ≡ at next
      is next e =
          subst (λ z. arrived (row_at rows z) (left_by (at place) (step_of w (at place) i)) ≡ at z) (sym e)
          (ap (λ z. arrived (row_at rows (suc place)) (left_at w (at place) z)) (sym here))

  pub flows_at : (place : ℕ) (i : Instruction) (labels : Labels) → slice_get code place ≡ Some i → Goes (step_of w (at place) i) → Leads rows (at place) place i
      → Arrives (row_at rows (place + 1)) (left_by (at place) (step_of w (at place) i)) labels → (j : Instruction) → slice_get code place ≡ Some j → Flows w at place j
  flows_at place i labels here goes leads arrives j there =
      subst (Flows w at place) (some_inj i j (sym here ∙ there))
      (fits_here w at place i goes (subst (λ z. Covers z (left_by (at place) (step_of w (at place) i))) (next_at place i labels here arrives) arrives.1) (all_led place i leads))
