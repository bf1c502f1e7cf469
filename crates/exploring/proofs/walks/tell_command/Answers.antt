use Rattle.std.proofs.lemmas.Result.{err_from_is_err_and}
use Rattle.device.specs.Machine.{machine_of}
use Rattle.exploring.proofs.Telling.{told_one, untold_one}
use Rattle.exploring.proofs.walks.tell_command.Goals as goal

pub returns-clause-told : goal.returns-clause-told
returns-clause-told g c =
    told_one c.args.options.now.launch c.args.spot (machine_of c.args.device.now) c.args.command (machine_of c.apply-reply.new.self) c.args.end c.is_launch-launch.result c.in_ok-how.how c.apply-reply.result _ _
    c.is_launch-launch.ensures c.in_ok-how.ensures c.apply-reply.ensures _ c.with_told.ensures c.in_ok-tell.ensures

pub returns-in_err-tell-clause-failed : goal.returns-in_err-tell-clause-failed
returns-in_err-tell-clause-failed g c =
    let p = err_from_is_err_and c.from_residual-in_err-tell.result c.from_residual-in_err-tell.ensures.1 in
    rw (p.1, p.2)
    (untold_one c.args.options.now.launch c.args.spot (machine_of c.args.device.now) c.args.command (machine_of c.apply-reply.new.self) c.args.end c.is_launch-launch.result c.in_ok-how.how c.apply-reply.result _ _
    c.is_launch-launch.ensures c.in_ok-how.ensures c.apply-reply.ensures c.in_err-tell.ensures)
