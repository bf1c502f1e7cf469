use Rattle.std.proofs.Common.{◌≡◌, ℕ, ◌<◌, [], length, get_or, refl, ap, ◌∙◌, subst, arith}
use Rattle.std.specs.Vec.{with_item}
use Rattle.std.proofs.lemmas.Option.{slice_get_read}
use Rattle.clmodel.specs.Launch.{Launch}
use Rattle.clmodel.specs.Run.{State}
use Rattle.item_step.specs.Running.{Running}
use Rattle.launches.specs.Items.{acts_of, IsAsked, Stands}
use Rattle.launches.specs.declared.slot.Slot.{Slot}
use Rattle.replay.specs.Items.{IsAlike}
use Rattle.replay.specs.States.{IsAt}
use Rattle.replay.specs.declared.player.Player.{Player}
use Rattle.replay.proofs.Playing.{asked, action_as}
use Rattle.replay.proofs.Walks.{at_set}
use Rattle.replay.proofs.player.Player.action.Goals as goal

-- a player one of whose items was asked is at the same state
still_at :
    {D : Type 0} (launch_of : D → Launch) (started_of : D → ℕ → Running) (l : Launch) (r : ℕ → Running) (p : Player D) (s : State) (k : ℕ) (i j : Slot)
    → k < length p.items.items → i ≡ get_or p.items.items k i → IsAlike (launch_of p.launch.now) (started_of p.launch.now) k i j → IsAt launch_of started_of l r p s
    → IsAt launch_of started_of l r (record p { items = with_item p.items k j }) s
still_at launch_of started_of l r p s k i j inside is same at =
    record {
      plays = at.plays;
      begins = at.begins;
      runnable = at.runnable;
      tells = asked l r p.items.items p.buffers.items p.groups.items p.log.items s k i j (slice_get_read p.items.items (length p.items.items) k i refl inside is)
          (subst (λ z. IsAlike l z k i j) at.begins (subst (λ z. IsAlike z (started_of p.launch.now) k i j) at.plays same)) at.tells;
    }

pub returns-in_err-action-clause-same : goal.returns-in_err-action-clause-same
returns-in_err-action-clause-same g c = λ l r s at.
    still_at {D = g.row.D.Denot} g.D.Described.launch g.D.Runnable.started l r c.args.self.now s c.args.item c.index_mut.result.now c.next.new.self
    (omega (arith, c.if-item-len.false, c.len.ensures)) c.index_mut.ensures.value (record { acts = c.next.ensures.same; runs = c.next.ensures.runs }) at

pub returns-clause-same : goal.returns-clause-same
returns-clause-same g c = λ l r s at.
    still_at {D = g.row.D.Denot} g.D.Described.launch g.D.Runnable.started l r c.args.self.now s c.args.item c.index_mut.result.now c.next.new.self
    (omega (arith, c.if-item-len.false, c.len.ensures)) c.index_mut.ensures.value (record { acts = c.next.ensures.same; runs = c.next.ensures.runs }) at

pub returns-clause-value : goal.returns-clause-value
returns-clause-value g c = λ l r s at.
    let p = c.args.self.now in
    let i = c.index_mut.result.now in
    let k = c.args.item in
    let inside : k < length p.items.items = omega (arith, c.if-item-len.false, c.len.ensures) in (
      subst (λ w. k < w) at.tells.many inside,
      action_as l r p.items.items p.buffers.items p.groups.items p.log.items s k i c.in_ok-action.action
          (slice_get_read p.items.items (length p.items.items) k i refl inside c.index_mut.ensures.value)
          (c.in_ok-action.ensures.action ∙ ap (λ z. acts_of z k i []) at.plays) at.tells,
    )

pub returns-clause-asked : goal.returns-clause-asked
returns-clause-asked g c = at_set IsAsked c.args.self.now.items.items c.args.item c.next.new.self c.in_ok-action.ensures.asked

pub returns-clause-stands : goal.returns-clause-stands
returns-clause-stands g c = at_set (λ (i : Slot). Stands i c.in_ok-action.action) c.args.self.now.items.items c.args.item c.next.new.self c.in_ok-action.ensures.stands
