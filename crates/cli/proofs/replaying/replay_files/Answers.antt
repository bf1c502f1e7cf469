use Rattle.std.proofs.lemmas.Result.{err_from_is_err_and}
use Rattle.cli.proofs.Replays.{unreplayed}
use Rattle.cli.proofs.replaying.replay_files.Goals as goal

pub returns-in_err-yes-clause-failed : goal.returns-in_err-yes-clause-failed
returns-in_err-yes-clause-failed g c =
    let p = err_from_is_err_and c.from_residual-in_err-yes.result c.from_residual-in_err-yes.ensures.1 in
    rw (p.1, p.2) (unreplayed c.args.configuration _ _ _ _ _ _ c.in_ok-commands.ensures.read c.in_ok-task.ensures.read c.in_err-yes.ensures.failed)

pub returns-in_err-tell-clause-failed : goal.returns-in_err-tell-clause-failed
returns-in_err-tell-clause-failed g c =
    let p = err_from_is_err_and c.from_residual-in_err-tell.result c.from_residual-in_err-tell.ensures.1 in
    rw (p.1, p.2) (record {
      yes = c.in_ok-yes.yes;
      judged = record {
        commands = c.in_ok-commands.commands.items;
        ticket = c.in_ok-task.task.ticket;
        fault = c.in_ok-task.task.fault;
        runs = c.in_ok-task.task.schedule;
        script = c.in_ok-commands.ensures.read;
        file = c.in_ok-task.ensures.read;
        judges = c.in_ok-yes.ensures.judged;
      };
      stopped = c.in_err-tell.ensures.line;
    })
