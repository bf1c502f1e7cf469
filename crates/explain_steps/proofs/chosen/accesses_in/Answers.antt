use Rattle.std.proofs.Common.{◌≡◌, ◌+◌, ◌<◌, ◌≤◌, ℕ, List, cond, count_by, get_or, length, sym, ap, ◌∙◌, arith}
use Rattle.std.proofs.lemmas.List.{take_all}
use Rattle.std.proofs.lemmas.Option.{get_or_from_slice_get}
use Rattle.fault_play.specs.PlayedOut.{is_access}
use Rattle.fault_play.specs.declared.marks.Mark.{Mark}
use Rattle.explain_steps.proofs.Events.{count_next, one_at_most}
use Rattle.explain_steps.proofs.chosen.accesses_in.Goals as goal

pub loop-number-preserved : goal.loop-number-preserved
loop-number-preserved c =
    let xs = c.args.marks.now in
    let i = c.loop-number.number in
    let mark = c.mark_at-mark.result.now in
    let here : mark ≡ get_or xs i mark = sym (get_or_from_slice_get xs i mark mark c.mark_at-mark.ensures) in
    let within : i < length xs = c.loop-number-test.true in
    let one : cond (is_access mark.event) 1 0 ≤ 1 = one_at_most (is_access mark.event) in
    let next : c.with_event-accesses.result ≡ c.loop-number.accesses + cond (is_access mark.event) 1 0 =
    c.with_event-accesses.ensures (omega (arith, c.loop-number.invariant.few, within)) in
    record {
      counted = next ∙ ap (λ (n : ℕ). n + cond (is_access mark.event) 1 0) c.loop-number.invariant.counted ∙ sym (count_next xs i mark within here);
      few = omega (arith, next, one, c.loop-number.invariant.few);
    }

pub returns : goal.returns
returns c =
    c.loop-number.invariant.counted
    ∙ ap (λ (l : List Mark). count_by (λ mark. is_access mark.event) l) (take_all c.loop-number.number c.args.marks.now (omega (arith, c.loop-number-test.false)))
