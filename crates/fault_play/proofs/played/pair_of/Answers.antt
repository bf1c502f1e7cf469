use Rattle.std.proofs.Common.{sym, subst, ◌∙◌}
use Rattle.std.proofs.lemmas.Bool.{false≢true}
use Rattle.std.specs.Bool.{Decides}
use Rattle.std.specs.Option.{is_some}
use Rattle.std.proofs.lemmas.Result.{IfOk-weaker}
use Rattle.clmodel.specs.Law.{Shows}
use Rattle.replay.specs.Spots.{Finds, IsPairOf}
use Rattle.fault_play.proofs.Pairing.{none_of}
use Rattle.fault_play.proofs.played.pair_of.Goals as goal

pub returns-in-Some-clause-pair : goal.returns-in-Some-clause-pair
returns-in-Some-clause-pair g c =
    IfOk-weaker c.find_conflict.result _ _
    (λ found h. subst (λ f. Finds found (IsPairOf (g.D.Described.launch c.args.launch.now) f c.args.log.now)) (sym c.in-Some.ensures) h)
    c.find_conflict.ensures.pair

pub returns-in-Some-clause-shown : goal.returns-in-Some-clause-shown
returns-in-Some-clause-shown g c =
    IfOk-weaker c.find_conflict.result _ _
    (λ found h. λ s tells order. subst (λ f. Decides (is_some found) (Shows (g.D.Described.launch c.args.launch.now) s f)) (sym c.in-Some.ensures) (h s order))
    c.find_conflict.ensures.shown

pub returns-in-None-clause-pair : goal.returns-in-None-clause-pair
returns-in-None-clause-pair g c = λ pair h. none_of (g.D.Described.launch c.args.launch.now) c.args.fault.now c.args.log.now pair c.in-None.ensures h

pub returns-in-None-clause-shown : goal.returns-in-None-clause-shown
returns-in-None-clause-shown g c = λ s tells order. absurd (false≢true (sym c.in-None.ensures ∙ tells))
