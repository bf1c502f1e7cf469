use Rattle.std.proofs.Common.{subst}
use Rattle.std.proofs.lemmas.Result.{IfOk-weaker}
use Rattle.device.specs.Machine.{Machine}
use Rattle.wide_faults.specs.Faults.{TellsFaults}
use Rattle.wide_faults.proofs.faults.faults_of.Goals as goal

pub returns : goal.returns
returns c =
    IfOk-weaker c.told_faults.result _ _
    (λ text tells. subst (λ (m : Machine). TellsFaults c.args.all c.args.told.places.now 0 m c.args.commands.now text.items) c.new-device.ensures tells) c.told_faults.ensures
