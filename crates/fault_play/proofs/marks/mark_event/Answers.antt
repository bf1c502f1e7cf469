use Rattle.std.proofs.lemmas.Option.{IfSome_then}
use Rattle.replay.specs.States.{IsAt}
use Rattle.fault_play.specs.declared.marks.Mark.{Mark}
use Rattle.fault_play.proofs.Counted.{counted}
use Rattle.fault_play.proofs.Marking.{one_marked, one_never, played_state}
use Rattle.fault_play.proofs.marks.mark_event.Goals as goal

pub number_at-found-requires : goal.number_at-found-requires
number_at-found-requires g c =
    let l = c.requires.0 in
    let r = c.requires.1 in
    let s = c.requires.2 in
    let before = c.stand_before.ensures.same l r s c.requires.3 in
    (l, r, s, c.access_before.ensures.same l r s before, IfSome_then c.in_ok-access.access (c.in_ok-access.ensures.about l r s before) (λ access h. h.1.inside))

pub play-requires : goal.play-requires
play-requires g c =
    let l = c.requires.0 in
    let r = c.requires.1 in
    let s = c.requires.2 in
    (l, r, s, c.access_before.ensures.same l r s (c.stand_before.ensures.same l r s c.requires.3))

pub number_at-left-requires : goal.number_at-left-requires
number_at-left-requires g c =
    let l = c.requires.0 in
    let r = c.requires.1 in
    let s = c.requires.2 in
    let before = c.stand_before.ensures.same l r s c.requires.3 in
    let p =
    played_state l s c.args.event (IsAt {D = g.row.D.Denot} g.D.Described.launch g.D.Runnable.started l r c.play.new.self) c.in_ok-play.field-0 c.if-not-branch.false
    (c.in_ok-play.ensures.played l r s (c.access_before.ensures.same l r s before)) in
    (l, r, p.0, p.1, IfSome_then c.in_ok-access.access (c.in_ok-access.ensures.about l r s before) (λ access h. h.1.inside))

pub returns-then-not-branch : goal.returns-then-not-branch
returns-then-not-branch g c = λ l r s at.
    one_never l r c.args.group_size s c.args.event c.args.marks.now.items (IsAt {D = g.row.D.Denot} g.D.Described.launch g.D.Runnable.started l r c.play.new.self)
    (IsAt {D = g.row.D.Denot} g.D.Described.launch g.D.Runnable.started l r c.play.new.self) c.in_ok-play.field-0 c.if-not-branch.true
    (c.in_ok-play.ensures.played l r s (c.access_before.ensures.same l r s (c.stand_before.ensures.same l r s at)))

pub returns : goal.returns
returns g c = λ l r s at.
    let mark : Mark = record { event = c.args.event; stand = c.in_ok-stand.stand; found = c.number_at-found.result; left = c.number_at-left.result } in
    let before = c.stand_before.ensures.same l r s at in
    let ready = c.access_before.ensures.same l r s before in
    one_marked l r c.args.group_size s mark c.args.marks.now.items c.push.new.self.items
    (IsAt {D = g.row.D.Denot} g.D.Described.launch g.D.Runnable.started l r c.play.new.self) (IsAt {D = g.row.D.Denot} g.D.Described.launch g.D.Runnable.started l r c.play.new.self) c.in_ok-play.field-0
    c.if-not-branch.false (c.in_ok-stand.ensures.acts l r s at) (c.in_ok-play.ensures.played l r s ready)
    (λ t goes h. (
      counted l s t mark c.in_ok-access.access (c.in_ok-access.ensures.about l r s before) goes
          (IfSome_then mark.found c.number_at-found.ensures (λ x has. has l r s ready)) (IfSome_then mark.left c.number_at-left.ensures (λ x has. has l r t h)),
      h,
    ))
    c.in_ok-push.ensures.items
