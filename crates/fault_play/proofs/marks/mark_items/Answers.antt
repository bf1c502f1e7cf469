use Rattle.std.proofs.Common.{◌≡◌, true, ap, replicate, arith}
use Rattle.clmodel.specs.declared.schedule.Event.TheVariants as event
use Rattle.replay.specs.States.{IsAt}
use Rattle.fault_play.proofs.Marking.{none_marked, item_marked, item_unmarked, marked_as, marked_state}
use Rattle.fault_play.proofs.marks.mark_items.Goals as goal

pub loop-init : goal.loop-init
loop-init g c = λ l r s at. none_marked l r c.args.group_size s c.args.marks.now.items (IsAt {D = g.row.D.Denot} g.D.Described.launch g.D.Runnable.started l r c.args.player.now) at

pub mark_event-requires : goal.mark_event-requires
mark_event-requires g c =
    let l = c.requires.0 in
    let r = c.requires.1 in
    let p =
    marked_state l r c.args.group_size c.requires.2 (replicate c.loop.counter (event.Item c.args.item)) c.args.marks.now.items c.loop.marks.items
    (IsAt {D = g.row.D.Denot} g.D.Described.launch g.D.Runnable.started l r c.loop.player) (c.loop.invariant l r c.requires.2 c.requires.3) in
    (l, r, p.0, p.1)

pub returns-then-not-branch : goal.returns-then-not-branch
returns-then-not-branch g c = λ l r s at.
    item_unmarked l r c.args.group_size s (event.Item c.args.item) c.loop.counter c.args.count c.args.marks.now.items c.loop.marks.items c.mark_event.new.marks.items
    (IsAt {D = g.row.D.Denot} g.D.Described.launch g.D.Runnable.started l r c.loop.player) (IsAt {D = g.row.D.Denot} g.D.Described.launch g.D.Runnable.started l r c.mark_event.new.player)
    (IsAt {D = g.row.D.Denot} g.D.Described.launch g.D.Runnable.started l r c.mark_event.new.player) c.in_ok-mark_event.field-0 c.if-not-branch.true c.loop-test.true (c.loop.invariant l r s at)
    (λ t h. c.in_ok-mark_event.ensures l r t h)

pub loop-preserved : goal.loop-preserved
loop-preserved g c = λ l r s at.
    item_marked l r c.args.group_size s (event.Item c.args.item) c.loop.counter c.args.marks.now.items c.loop.marks.items c.mark_event.new.marks.items
    (IsAt {D = g.row.D.Denot} g.D.Described.launch g.D.Runnable.started l r c.loop.player) (IsAt {D = g.row.D.Denot} g.D.Described.launch g.D.Runnable.started l r c.mark_event.new.player) c.in_ok-mark_event.field-0 c.if-not-branch.false
    (c.loop.invariant l r s at) (λ t h. c.in_ok-mark_event.ensures l r t h)

pub returns : goal.returns
returns g c = λ l r s at.
    let ends : c.loop.counter ≡ c.args.count = omega (arith, c.loop-test.false, c.loop.auto.counter-end) in
    marked_as l r c.args.group_size s (replicate c.loop.counter (event.Item c.args.item)) (replicate c.args.count (event.Item c.args.item)) c.args.marks.now.items c.loop.marks.items
    (IsAt {D = g.row.D.Denot} g.D.Described.launch g.D.Runnable.started l r c.loop.player) true (ap (λ n. replicate n (event.Item c.args.item)) ends) (c.loop.invariant l r s at)
