use Rattle.std.proofs.Common.{◌≡◌, ◌+◌, ◌-◌, ℕ, suc, length, arith, sym, ap, ◌∙◌}
use Rattle.hint_rules.specs.Callee.{callee_before, closed_with}
use Rattle.hint_rules.specs.Marks.{mark_at}
use Rattle.hint_rules.specs.Near.{nth_last}
use Rattle.hint_rules.proofs.Calling.{goes_on, found_at, nothing_left}
use Rattle.hint_rules.proofs.near.callee.Goals as goal

pub returns-then-begins_arguments : goal.returns-then-begins_arguments
returns-then-begins_arguments c =
    let is : length c.args.tokens.now - c.loop-back.back ≡ suc (length c.args.tokens.now - 1 - c.loop-back.back) = omega arith in
    let found = found_at c.args.tokens.now c.loop-back.closed _ _ c.mark_at-mark.result is (c.mark_at-mark.ensures ∙ ap mark_at c.nth.ensures)
    (sym c.begins_arguments.ensures ∙ c.if-begins_arguments.true) in
    c.nth_last.ensures ∙ ap (λ front. nth_last front 0) c.split_at.ensures.front ∙ sym found ∙ c.loop-back.invariant

pub loop-back-preserved : goal.loop-back-preserved
loop-back-preserved c =
    let is : length c.args.tokens.now - c.loop-back.back ≡ suc (length c.args.tokens.now - 1 - c.loop-back.back) = omega arith in
    let same : length c.args.tokens.now - (c.loop-back.back + 1) ≡ length c.args.tokens.now - 1 - c.loop-back.back = omega arith in
    let step = goes_on c.args.tokens.now c.loop-back.closed _ _ c.mark_at-mark.result is (c.mark_at-mark.ensures ∙ ap mark_at c.nth.ensures)
    (sym c.begins_arguments.ensures ∙ c.if-begins_arguments.false) in
    ap (λ closed. callee_before c.args.tokens.now closed (length c.args.tokens.now - (c.loop-back.back + 1))) c.closed_with-closed.ensures
    ∙ ap (λ n. callee_before c.args.tokens.now (closed_with c.loop-back.closed c.mark_at-mark.result) n) same ∙ sym step ∙ c.loop-back.invariant

pub returns : goal.returns
returns c =
    let none : length c.args.tokens.now - c.loop-back.back ≡ 0 = omega arith in
    sym (nothing_left c.args.tokens.now c.loop-back.closed _ none) ∙ c.loop-back.invariant
