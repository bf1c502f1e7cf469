use Rattle.std.proofs.Common.{rules, arith, sym, ap, ◌∙◌, subst, ◌≡◌, ℕ, ◌+◌, length}
use Rattle.std.specs.Box.{box_value}
use Rattle.host_queue.specs.History.{Begins}
use Rattle.host_queue.specs.Clients.{AgreeAt}
use Rattle.host_queue.proofs.Comings.{leaves, learns, looks}
use Rattle.host_queue.proofs.Clients.{driver_looked, serves}
use Rattle.host_queue.proofs.queue.Driver.dismiss.Given.{Over}
use Rattle.host_queue.proofs.queue.Driver.dismiss.Goals as goal
use Rattle.host_queue.proofs.queue.Driver.dismiss.Goals.{After-load}

-- the look shows the driver no more than it knows
same : (g : Over) (c : After-load g) → c.load.new.seat.me.0.known ≡ c.join_seat.new.seat.me.0.known
same g c = let d = c.args.self.now.driver.driving in let dr : c.join_seat.new.seat.me.0.driving ≡ c.args.self.now.seat.me.0.driving = ap (λ m. m.0.driving) c.join_seat.ensures.2 in c.load.ensures.2.2.own_known (omega arith)

pub split_seat-note-requires : goal.split_seat-note-requires
split_seat-note-requires g c = let k = c.args.client.client.ready in let share = k.share in let words = c.args.queue.now.sized.1 in (search rules, omega arith, leaves g.D.Machine.step box_value _ _ _ k.idle (λ none. absurd (omega arith)))

pub join_seat-requires : goal.join_seat-requires
join_seat-requires g c = let words = c.args.queue.now.sized.1 in (search rules, search rules, search rules, omega arith, learns g.D.Machine.step box_value _ _ _ _ _ c.args.self.now.driver.idle)

pub load-requires : goal.load-requires
load-requires g c = let words = c.args.queue.now.sized.1 in (search rules, omega arith, looks g.D.Machine.step box_value _ _ _ _ (ap (λ m. m.0.stage) c.join_seat.ensures.2 ∙ c.args.self.now.driver.idle))

pub invariant_of-self : goal.invariant_of-self
invariant_of-self g c = let k = c.args.self.now.driver in let j = ap (λ m. m.0) c.join_seat.ensures.2 in let o = ap (λ m. m.0) c.split_seat-note.ensures.4 in let e = same g (goal.at.invariant_of-self g c).After-load in
    let sh : c.split_seat-note.result.me.0.share ≡ c.args.client.seat.me.0.share = ap (λ z. z.share) o in let one = c.args.client.client.ready.share in record {
      driver = driver_looked g.D.Machine.step c.args.self.now.seat.me.0 c.split_seat-note.result.me.0 c.join_seat.new.seat.me.0 c.load.new.seat.me.0 c.args.self.now.machine c.load.new.seat.me.0.known c.load.result k (λ h. absurd (omega arith)) j e c.load.ensures.2.0;
      counted = c.args.self.now.counted ∙ sym (ap length (e ∙ ap (λ z. z.known) j));
      short = c.args.self.now.short;
    }

pub returns-clause-client : goal.returns-clause-client
returns-clause-client g c = let j = ap (λ m. m.0) c.join_seat.ensures.2 in let o = ap (λ m. m.0) c.split_seat-note.ensures.4 in let look = c.load.ensures.2 in let e = same g (goal.at.returns-clause-client g c).After-load ∙ ap (λ z. z.known) j in (
  subst (λ z. Begins z c.load.new.seat.me.0.known) (ap (λ z. z.heard_known) j ∙ ap (λ z. z.heard_known) o) look.2.heard,
  serves c.args.client.seat.me.0.tickets c.args.client.next c.load.new.seat.me.0.known c.args.client.above
      (let long : length c.load.new.seat.me.0.known ≡ length c.args.self.now.seat.me.0.known = ap length e in let reached = c.requires.answered in omega arith)
      (subst (λ z. AgreeAt z c.load.new.seat.me.0.known) (ap (λ z. z.heard_tickets) j ∙ ap (λ z. z.heard_tickets) o) look.2.heard_own),
)

pub returns-clause-counts : goal.returns-clause-counts
returns-clause-counts g c = let j = ap (λ m. m.0) c.join_seat.ensures.2 in let o = ap (λ m. m.0) c.split_seat-note.ensures.4 in let look = c.load.ensures.2 in let a = c.args.client.client.ready in (
  ap (λ z. z.share) look.0 ∙ (ap (λ z. z.share) j ∙ ap (λ (n : ℕ). c.args.self.now.seat.me.0.share + n) (ap (λ z. z.share) o ∙ a.share)),
  ap (λ z. z.count) look.0 ∙ (ap (λ z. z.count) j ∙ ap (λ (n : ℕ). c.args.self.now.seat.me.0.count + n) (ap (λ z. z.count) o ∙ a.count)),
)

pub returns-clause-known : goal.returns-clause-known
returns-clause-known g c = same g (goal.at.returns-clause-known g c).After-load ∙ ap (λ m. m.0.known) c.join_seat.ensures.2

pub returns-clause-same : goal.returns-clause-same
returns-clause-same g c = let j = ap (λ m. m.0) c.join_seat.ensures.2 in let look = c.load.ensures.2 in
    (ap (λ z. z.start) look.0 ∙ ap (λ z. z.start) j, ap (λ z. z.admitted) look.0 ∙ ap (λ z. z.admitted) j)
