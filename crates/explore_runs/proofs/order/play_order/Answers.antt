use Rattle.std.proofs.Common.{◌*◌, ◌∙◌, ap, sym, subst, arith}
use Rattle.clmodel.specs.Law.{Reaches}
use Rattle.ordered_play.specs.Watched.{IsWatched}
use Rattle.explore_runs.proofs.Going.{begins, goes_on, shown}
use Rattle.explore_runs.proofs.order.play_order.Goals as goal

pub overflow_mul-items : goal.overflow_mul-items
overflow_mul-items g c =
    let e = ap (λ n. c.args.groups * n) c.group_size-size.ensures.value in
    omega (arith, e, c.requires.counted, c.requires.runnable.numbered)

pub play_turns-requires-clause-counted : goal.play_turns-requires-clause-counted
play_turns-requires-clause-counted g c = ap (λ n. c.args.groups * n) c.group_size-size.ensures.value ∙ c.requires.counted

pub play_turns-requires-clause-led : goal.play_turns-requires-clause-led
play_turns-requires-clause-led g c =
    let l = g.D.Described.launch c.args.launch.now in
    let r = g.D.Runnable.started c.args.launch.now in
    begins l (IsWatched {D = g.row.D.Denot} g.D.Described.launch g.D.Runnable.started l r c.in_ok-watched.watched) _ c.new-runs.ensures c.in_ok-watched.ensures

pub returns-in-Some : goal.returns-in-Some
returns-in-Some g c =
    let l = g.D.Described.launch c.args.launch.now in
    let r = g.D.Runnable.started c.args.launch.now in
    let fits = IsWatched {D = g.row.D.Denot} g.D.Described.launch g.D.Runnable.started l r c.play_turns.new.watched in
    let w = shown l fits c.play_turns.new.runs c.in_ok-report.report c.in-Some.fault c.in-Some.is c.in_ok-report.ensures in
    (subst (λ es. Reaches l es c.in-Some.fault) (sym c.into_schedule.ensures.events) w.0, w.1, c.into_schedule.ensures.merged)

pub end_of-requires-clause-counted : goal.end_of-requires-clause-counted
end_of-requires-clause-counted g c = ap (λ n. c.args.groups * n) c.group_size-size.ensures.value ∙ c.requires.counted

pub end_of-requires-clause-led : goal.end_of-requires-clause-led
end_of-requires-clause-led g c =
    let l = g.D.Described.launch c.args.launch.now in
    let r = g.D.Runnable.started c.args.launch.now in
    let fits = IsWatched {D = g.row.D.Denot} g.D.Described.launch g.D.Runnable.started l r c.play_turns.new.watched in
    goes_on l fits c.play_turns.new.runs c.in_ok-report.report c.in-None.is c.in_ok-report.ensures
