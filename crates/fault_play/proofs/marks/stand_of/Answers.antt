use Rattle.fault_play.proofs.Marking.{acts_from}
use Rattle.fault_play.proofs.marks.stand_of.Goals as goal

pub returns-clause-acts : goal.returns-clause-acts
returns-clause-acts g c = λ l r s at.
    acts_from {D = g.row.D.Denot} g.D.Described.launch g.D.Runnable.started l r c.action.new.self s c.args.item c.in_ok-action.field-0 c.stand.result
    (c.action.ensures.same l r s at) (c.in_ok-action.ensures.value l r s at) c.in_ok-action.ensures.asked c.in_ok-action.ensures.stands c.stand.ensures
