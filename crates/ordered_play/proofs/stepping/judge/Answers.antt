use Rattle.std.proofs.Common.{ap, sym, ◌∙◌}
use Rattle.std.specs.Prelude.{reverse}
use Rattle.std.proofs.lemmas.List.{reverse-reverse}
use Rattle.ordered_runs.specs.Ordered.{newest_race}
use Rattle.ordered_play.proofs.stepping.judge.Goals as goal

pub newest_race-requires : goal.newest_race-requires
newest_race-requires g c = λ x earlier e.
    let l = g.D.Described.launch c.args.launch.now in
    let r = g.D.Runnable.started c.args.launch.now in
    let w = c.requires.at in
    w.2 x earlier (sym (ap reverse (c.log.ensures l r w.0 w.1.at) ∙ reverse-reverse w.0.log) ∙ e)

pub returns-in_ok-conflict_fault-in-Some : goal.returns-in_ok-conflict_fault-in-Some
returns-in_ok-conflict_fault-in-Some g c = λ s at.
    let l = g.D.Described.launch c.args.launch.now in
    let r = g.D.Runnable.started c.args.launch.now in
    let log = ap reverse (c.log.ensures l r s at.at) ∙ reverse-reverse s.log in
    (c.in-Some.race, ap (newest_race l) (sym log) ∙ sym c.newest_race.ensures ∙ c.in-Some.is, sym c.in_ok-conflict_fault-in-Some.ensures)

pub returns-in-None : goal.returns-in-None
returns-in-None g c = λ s at.
    let l = g.D.Described.launch c.args.launch.now in
    let r = g.D.Runnable.started c.args.launch.now in
    let log = ap reverse (c.log.ensures l r s at.at) ∙ reverse-reverse s.log in
    ap (newest_race l) (sym log) ∙ sym c.newest_race.ensures ∙ c.in-None.is

pub returns-then-quiet : goal.returns-then-quiet
returns-then-quiet g c = λ s at. c.requires.calm s at c.if-quiet.true
