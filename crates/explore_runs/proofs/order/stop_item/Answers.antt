use Rattle.std.proofs.Common.{◌≡◌, false, IfSome, subst}
use Rattle.clmodel.specs.Law.{Shows}
use Rattle.ordered_runs.specs.Ordered.{is_order}
use Rattle.ordered_play.specs.Watched.{IsWatched}
use Rattle.explore_runs.proofs.Going.{stays}
use Rattle.explore_runs.proofs.order.stop_item.Goals as goal

pub returns-in-Some-clause-ran : goal.returns-in-Some-clause-ran
returns-in-Some-clause-ran g c =
    let l = g.D.Described.launch c.args.launch.now in
    let led = c.requires.led.0 in
    let w = subst (λ z. IfSome z (λ f. Shows l led.state f × (is_order f ≡ false))) c.in-Some.is (c.in_ok-report.ensures.shows led.state led.holds c.requires.inside c.requires.led.1) in
    ((led.state, led.leads, w.0), w.1)

pub returns-then-not-is_gathered-clause-ran : goal.returns-then-not-is_gathered-clause-ran
returns-then-not-is_gathered-clause-ran g c =
    let l = g.D.Described.launch c.args.launch.now in
    let r = g.D.Runnable.started c.args.launch.now in
    let fits = IsWatched {D = g.row.D.Denot} g.D.Described.launch g.D.Runnable.started l r c.args.watched.now in
    let new = IsWatched {D = g.row.D.Denot} g.D.Described.launch g.D.Runnable.started l r c.compare.new.watched in
    stays l fits new c.args.runs.now c.requires.led.0 (λ at. c.compare.ensures.same c.requires.led.0.state at)

pub release-requires-clause-led : goal.release-requires-clause-led
release-requires-clause-led g c =
    let l = g.D.Described.launch c.args.launch.now in
    let r = g.D.Runnable.started c.args.launch.now in
    let fits = IsWatched {D = g.row.D.Denot} g.D.Described.launch g.D.Runnable.started l r c.args.watched.now in
    let new = IsWatched {D = g.row.D.Denot} g.D.Described.launch g.D.Runnable.started l r c.compare.new.watched in
    stays l fits new c.args.runs.now c.requires.led.0 (λ at. c.compare.ensures.same c.requires.led.0.state at)
