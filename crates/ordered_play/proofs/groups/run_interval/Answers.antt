use Rattle.std.proofs.Common.{◌≡◌, ◌+◌, subst, arith}
use Rattle.ordered_play.specs.Watched.{IsWatched}
use Rattle.ordered_play.specs.Groups.{Gathers, GathersOrReports}
use Rattle.ordered_play.proofs.Going.{begins_group}
use Rattle.ordered_play.proofs.groups.run_interval.Goals as goal

pub run_item-requires-clause-inside : goal.run_item-requires-clause-inside
run_item-requires-clause-inside g c = omega (arith, c.loop-k-test.true, c.group_size-k-end.ensures.value)

pub run_item-requires-clause-gathers : goal.run_item-requires-clause-gathers
run_item-requires-clause-gathers g c = c.loop-k.invariant.gathers

pub loop-k-init : goal.loop-k-init
loop-k-init g c =
    record {
      grows = omega arith;
      gathers = begins_group (g.D.Described.launch c.args.launch.now) c.args.group (IsWatched {D = g.row.D.Denot} g.D.Described.launch g.D.Runnable.started (g.D.Described.launch c.args.launch.now) (g.D.Runnable.started c.args.launch.now) c.args.watched.now) c.args.runs.now c.requires.reached;
    }

pub loop-k-preserved : goal.loop-k-preserved
loop-k-preserved g c =
    let l = g.D.Described.launch c.args.launch.now in
    let fits = IsWatched {D = g.row.D.Denot} g.D.Described.launch g.D.Runnable.started l (g.D.Runnable.started c.args.launch.now) c.run_item.new.watched in
    record {
      grows = omega (arith, c.loop-k.invariant.grows, c.run_item.ensures.grows);
      gathers = subst (λ z. GathersOrReports l c.args.group fits c.run_item.new.runs (c.loop-k.k + 1) c.run_item.new.leading z) c.in-None.is c.in_ok-run_item.ensures.ran;
    }

pub returns-in-Some-clause-ran : goal.returns-in-Some-clause-ran
returns-in-Some-clause-ran g c =
    let l = g.D.Described.launch c.args.launch.now in
    let fits = IsWatched {D = g.row.D.Denot} g.D.Described.launch g.D.Runnable.started l (g.D.Runnable.started c.args.launch.now) c.run_item.new.watched in
    (c.run_item.new.leading, subst (λ z. GathersOrReports l c.args.group fits c.run_item.new.runs (c.loop-k.k + 1) c.run_item.new.leading z) c.in-Some.is c.in_ok-run_item.ensures.ran)

pub returns-clause-ran : goal.returns-clause-ran
returns-clause-ran g c =
    let l = g.D.Described.launch c.args.launch.now in
    let fits = IsWatched {D = g.row.D.Denot} g.D.Described.launch g.D.Runnable.started l (g.D.Runnable.started c.args.launch.now) c.loop-k.watched in
    let all : c.loop-k.k ≡ l.group_size = omega (arith, c.loop-k-test.false, c.loop-k.auto.k-end, c.group_size-k-end.ensures.value) in
    (c.loop-k.leading, subst (λ n. Gathers l c.args.group fits c.loop-k.runs n c.loop-k.leading) all c.loop-k.invariant.gathers)
