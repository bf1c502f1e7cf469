use Rattle.std.proofs.lemmas.Result.{err_from_is_err_and}
use Rattle.device.specs.Machine.{machine_of}
use Rattle.explaining.proofs.Faulting.{faults, leads_there}
use Rattle.explaining.proofs.Walking.{unexplained}
use Rattle.explaining.proofs.Writing.{tells_faulted}
use Rattle.explaining.proofs.ends.fault_text.Goals as goal

pub explain_case-requires-clause-known : goal.explain_case-requires-clause-known
explain_case-requires-clause-known c is =
    let r = c.requires.replied in
    leads_there (machine_of c.args.device.now) c.args.performed.now.commands.now c.args.case.ticket r.command c.args.case.fault c.args.case.schedule r.at
    (faults r.before (machine_of c.args.device.now) r.command c.args.case.fault c.args.case.schedule r.replied)

pub returns-clause-tells : goal.returns-clause-tells
returns-clause-tells c =
    tells_faulted c.args.performed.now.options c.args.performed.now.given.name.now c.args.performed.now.told c.args.performed.now.commands.now c.args.performed.now.done.now (machine_of c.args.device.now) c.args.case.ticket c.args.case.fault c.args.case.schedule
    c.in_ok-told.told c.in_ok-answer.answer c.requires.replied c.in_ok-told.ensures.told c.in_ok-told.ensures.whole c.in_ok-answer.ensures.text

pub returns-in_err-told-clause-failed : goal.returns-in_err-told-clause-failed
returns-in_err-told-clause-failed c =
    let p = err_from_is_err_and c.from_residual.result c.from_residual.ensures.1 in
    rw (p.1, p.2)
    (unexplained c.args.performed.now.given.script.now c.args.performed.now.commands.now (machine_of c.args.device.now) c.args.case _ c.requires.replied c.in_err-told.ensures.failed)
