use Rattle.std.proofs.lemmas.Result.{err_from_is_err_and}
use Rattle.cli.proofs.dialogue.take_turns.Goals as goal

pub loop-init : goal.loop-init
loop-init g c = record { line = c.requires; serves = λ start configuration serves. serves }

pub loop-preserved : goal.loop-preserved
loop-preserved g c =
    let line = c.in_ok-next.ensures.line in
    record {
      line = rw c.in-Some-2.is at line;
      serves = λ start configuration serves. let next = c.in_ok-next.ensures.turned start configuration (c.loop.invariant.serves start configuration serves) in rw c.in-Some-2.is at next;
    }

pub returns-in-None-2-clause-served : goal.returns-in-None-2-clause-served
returns-in-None-2-clause-served g c start configuration serves = let next = c.in_ok-next.ensures.turned start configuration (c.loop.invariant.serves start configuration serves) in rw c.in-None-2.is at next

pub returns-in_err-next-clause-failed : goal.returns-in_err-next-clause-failed
returns-in_err-next-clause-failed g c start configuration serves =
    let p = err_from_is_err_and c.from_residual.result c.from_residual.ensures.1 in
    rw (p.1, p.2) (c.in_err-next.ensures.failed start configuration (c.loop.invariant.serves start configuration serves))
