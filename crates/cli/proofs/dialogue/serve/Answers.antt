use Rattle.std.proofs.lemmas.Result.{err_from_is_err_and}
use Rattle.cli.proofs.Servings.{not_opened, serves_new}
use Rattle.cli.proofs.dialogue.serve.Goals as goal

pub returns-in_err-server-clause-failed : goal.returns-in_err-server-clause-failed
returns-in_err-server-clause-failed g c =
    let p = err_from_is_err_and c.from_residual.result c.from_residual.ensures.1 in
    rw (p.1, p.2) (not_opened _ _ c.in_err-server.ensures.failed)

pub returns-clause-served : goal.returns-clause-served
returns-clause-served g c = c.take_turns.ensures.served _ _ (serves_new _ c.new-device.ensures c.in_ok-server.ensures.opened)

pub returns-clause-failed : goal.returns-clause-failed
returns-clause-failed g c = c.take_turns.ensures.failed _ _ (serves_new _ c.new-device.ensures c.in_ok-server.ensures.opened)
