use Rattle.fault_play.proofs.Marking.{divides}
use Rattle.fault_play.proofs.marks.dividend_of.Goals as goal

pub returns-clause-divides : goal.returns-clause-divides
returns-clause-divides g c = λ l r s at.
    divides {D = g.row.D.Denot} g.D.Described.launch g.D.Runnable.started l r c.action.new.self s c.args.item c.in_ok-action.field-0 c.dividend.result
    (c.action.ensures.same l r s at) (c.in_ok-action.ensures.value l r s at) c.in_ok-action.ensures.asked c.in_ok-action.ensures.stands c.dividend.ensures
