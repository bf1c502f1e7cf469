use Rattle.explain_reasons.proofs.Passing.{left_not, left_same, not_known}
use Rattle.explain_reasons.proofs.reasons.same_left.Goals as goal

pub returns-in-Some-Some : goal.returns-in-Some-Some
returns-in-Some-Some c =
    left_same c.args.marks.now c.args.pair c.left_by.result c.left_by-2.result c.in-Some-Some.left c.in-Some-Some.other c.in-Some-Some.is-0 c.in-Some-Some.is-1 c.left_by.ensures.some
    c.left_by-2.ensures.some c.left_by.ensures.all c.left_by-2.ensures.all

pub returns-in_default : goal.returns-in_default
returns-in_default c =
    left_not c.args.marks.now c.args.pair (λ h. not_known c.args.marks.now c.args.pair.second c.left_by-2.result c.in_default.is-1 c.left_by-2.ensures.all h.0 h.2)

pub returns-in_default-2 : goal.returns-in_default-2
returns-in_default-2 c =
    left_not c.args.marks.now c.args.pair (λ h. not_known c.args.marks.now c.args.pair.first c.left_by.result c.in_default.is-0 c.left_by.ensures.all h.0 h.1)
