use Rattle.std.proofs.Common.{◌≡◌, ◌*◌, ◌≤◌, ℕ, IfOk, ap, arith, inr, sym, ◌∙◌, subst}
use Rattle.clmodel.specs.Launch.{Launch}
use Rattle.clmodel.specs.Run.{State}
use Rattle.item_step.specs.Running.{Running}
use Rattle.replay.specs.States.{IsAt}
use Rattle.fault_play.specs.Marks.{ActsFrom, item_of}
use Rattle.fault_play.proofs.marks.stand_before.Goals as goal

pub returns-in-Item-clause-acts : goal.returns-in-Item-clause-acts
returns-in-Item-clause-acts g c =
    let item : c.in-Item.item ≡ item_of c.args.group_size c.args.event = ap (item_of c.args.group_size) (sym c.in-Item.is) in
    subst
    (λ i. IfOk c.stand_of.result (λ stand. (launch : Launch) (started : ℕ → Running) (state : State) → IsAt {D = g.row.D.Denot} g.D.Described.launch g.D.Runnable.started launch started c.args.player.now state → ActsFrom launch started state i stand))
    item c.stand_of.ensures.acts

pub returns-in-Some-clause-acts : goal.returns-in-Some-clause-acts
returns-in-Some-clause-acts g c =
    let item : c.in-Some.first ≡ item_of c.args.group_size c.args.event = c.in-Some.ensures.1 ∙ ap (item_of c.args.group_size) (sym c.in-Release.is) in
    subst
    (λ i. IfOk c.stand_of-in-Some.result (λ stand. (launch : Launch) (started : ℕ → Running) (state : State) → IsAt {D = g.row.D.Denot} g.D.Described.launch g.D.Runnable.started launch started c.args.player.now state → ActsFrom launch started state i stand))
    item c.stand_of-in-Some.ensures.acts

pub returns-in-None-clause-acts : goal.returns-in-None-clause-acts
returns-in-None-clause-acts g c = λ l r s at.
    let past : l.items ≤ c.in-Release.group * c.args.group_size = omega (arith, at.runnable.numbered, c.in-None.ensures) in
    inr (subst (λ i. l.items ≤ i) (ap (item_of c.args.group_size) (sym c.in-Release.is)) past)
