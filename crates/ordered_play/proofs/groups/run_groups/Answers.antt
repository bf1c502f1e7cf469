use Rattle.std.proofs.Common.{◌+◌, subst, arith}
use Rattle.ordered_play.proofs.Going.{there_is}
use Rattle.ordered_play.specs.Watched.{IsWatched}
use Rattle.ordered_play.specs.Groups.{ReachedOrReports}
use Rattle.ordered_play.proofs.groups.run_groups.Goals as goal

pub run_group-requires-clause-there : goal.run_group-requires-clause-there
run_group-requires-clause-there g c =
    let l = g.D.Described.launch c.args.launch.now in
    there_is l c.args.groups c.loop-group.group c.requires.runnable c.requires.counted (omega (arith, c.loop-group-test.true))

pub loop-group-preserved : goal.loop-group-preserved
loop-group-preserved g c =
    let l = g.D.Described.launch c.args.launch.now in
    let fits = IsWatched {D = g.row.D.Denot} g.D.Described.launch g.D.Runnable.started l (g.D.Runnable.started c.args.launch.now) c.run_group.new.watched in
    subst (λ z. ReachedOrReports l (c.loop-group.group + 1) fits c.run_group.new.runs z) c.in-None.is c.in_ok-run_group.ensures

pub returns-in-Some : goal.returns-in-Some
returns-in-Some g c =
    let l = g.D.Described.launch c.args.launch.now in
    let fits = IsWatched {D = g.row.D.Denot} g.D.Described.launch g.D.Runnable.started l (g.D.Runnable.started c.args.launch.now) c.run_group.new.watched in
    subst (λ z. ReachedOrReports l (c.loop-group.group + 1) fits c.run_group.new.runs z) c.in-Some.is c.in_ok-run_group.ensures
