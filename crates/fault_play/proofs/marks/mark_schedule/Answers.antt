use Rattle.std.proofs.Common.{◌≤◌, true, length, take, ap, arith}
use Rattle.std.proofs.lemmas.List.{take_all}
use Rattle.clmodel.specs.Outcome.{events_of}
use Rattle.replay.specs.States.{IsAt}
use Rattle.fault_play.proofs.Marking.{none_marked, run_marked, run_unmarked, marked_as, marked_state}
use Rattle.fault_play.proofs.marks.mark_schedule.Goals as goal

pub loop-run-init : goal.loop-run-init
loop-run-init g c = λ l r s at. none_marked l r c.args.group_size s c.args.marks.now.items (IsAt {D = g.row.D.Denot} g.D.Described.launch g.D.Runnable.started l r c.args.player.now) at

pub mark_run-requires : goal.mark_run-requires
mark_run-requires g c =
    let l = c.requires.0 in
    let r = c.requires.1 in
    let p =
    marked_state l r c.args.group_size c.requires.2 (events_of (take c.loop-run.run-index c.args.runs.now)) c.args.marks.now.items c.loop-run.marks.items
    (IsAt {D = g.row.D.Denot} g.D.Described.launch g.D.Runnable.started l r c.loop-run.player) (c.loop-run.invariant l r c.requires.2 c.requires.3) in
    (l, r, p.0, p.1)

pub returns-then-not-branch : goal.returns-then-not-branch
returns-then-not-branch g c = λ l r s at.
    run_unmarked l r c.args.group_size s c.args.runs.now c.loop-run.run-index _ c.args.marks.now.items c.loop-run.marks.items c.mark_run.new.marks.items
    (IsAt {D = g.row.D.Denot} g.D.Described.launch g.D.Runnable.started l r c.loop-run.player) (IsAt {D = g.row.D.Denot} g.D.Described.launch g.D.Runnable.started l r c.mark_run.new.player)
    (IsAt {D = g.row.D.Denot} g.D.Described.launch g.D.Runnable.started l r c.mark_run.new.player) c.in_ok-mark_run.field-0 c.if-not-branch.true (omega (arith, c.loop-run-test.true))
    (c.loop-run.invariant l r s at) (λ t h. c.in_ok-mark_run.ensures l r t h)

pub loop-run-preserved : goal.loop-run-preserved
loop-run-preserved g c = λ l r s at.
    run_marked l r c.args.group_size s c.args.runs.now c.loop-run.run-index _ c.args.marks.now.items c.loop-run.marks.items c.mark_run.new.marks.items
    (IsAt {D = g.row.D.Denot} g.D.Described.launch g.D.Runnable.started l r c.loop-run.player) (IsAt {D = g.row.D.Denot} g.D.Described.launch g.D.Runnable.started l r c.mark_run.new.player) c.in_ok-mark_run.field-0 c.if-not-branch.false
    (omega (arith, c.loop-run-test.true)) (c.loop-run.invariant l r s at) (λ t h. c.in_ok-mark_run.ensures l r t h)

pub returns : goal.returns
returns g c = λ l r s at.
    let past : length c.args.runs.now ≤ c.loop-run.run-index = omega (arith, c.loop-run-test.false) in
    marked_as l r c.args.group_size s (events_of (take c.loop-run.run-index c.args.runs.now)) (events_of c.args.runs.now) c.args.marks.now.items c.loop-run.marks.items
    (IsAt {D = g.row.D.Denot} g.D.Described.launch g.D.Runnable.started l r c.loop-run.player) true (ap events_of (take_all c.loop-run.run-index c.args.runs.now past)) (c.loop-run.invariant l r s at)
