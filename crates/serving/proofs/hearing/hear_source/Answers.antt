use Rattle.std.proofs.Common.{rules, arith}
use Rattle.std.proofs.lemmas.Result.{err_from_is_err_and}
use Rattle.serving.proofs.Sources.{source_none, source_fails, source_more_by, source_cut_by}
use Rattle.serving.proofs.hearing.hear_source.Goals as goal

pub loop-init : goal.loop-init
loop-init g c = source_none _ _

pub returns-in_err-hear_line-clause-failed : goal.returns-in_err-hear_line-clause-failed
returns-in_err-hear_line-clause-failed g c =
    let p = err_from_is_err_and c.from_residual.result c.from_residual.ensures.1 in
    rw (p.1, p.2) (source_fails _ c.loop.invariant c.in_err-hear_line.ensures.failed)

pub loop-preserved : goal.loop-preserved
loop-preserved g c = source_more_by _ (search rules) c.loop.invariant c.in_ok-hear_line.ensures.heard

pub returns-then-not-branch-clause-heard : goal.returns-then-not-branch-clause-heard
returns-then-not-branch-clause-heard g c = source_cut_by c.args.count _ c.if-not-branch.true (omega (arith, c.loop-test.true)) c.loop.invariant c.in_ok-hear_line.ensures.heard
