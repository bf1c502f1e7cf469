use Rattle.std.proofs.Common.{Bool, true, sym, subst}
use Rattle.std.proofs.lemmas.Result.{IfOk-weaker}
use Rattle.device.specs.Machine.{machine_of}
use Rattle.exploring.specs.Commands.{IsMannerOf}
use Rattle.exploring.proofs.manners.launch_manner.Goals as goal

pub returns : goal.returns
returns g c =
    let m = machine_of c.args.device.now in
    IfOk-weaker c.explored.result _ _
    (λ how is.
    subst (λ (wanted : Bool). IsMannerOf m c.args.kernel.now c.args.range.now wanted c.args.orders how) (sym c.if-not-wanted.false)
    (subst (λ (orders : Bool). IsMannerOf m c.args.kernel.now c.args.range.now true orders how) (sym c.if-not-orders.false) is)) c.explored.ensures
