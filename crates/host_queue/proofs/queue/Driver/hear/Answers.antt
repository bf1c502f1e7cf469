use Rattle.std.proofs.Common.{rules, arith, sym, refl, ap, ◌∙◌, subst, ◌≡◌, ◌+◌, length}
use Rattle.std.specs.Box.{box_value}
use Rattle.host_queue.specs.Clients.{AllBelow, IsDriver}
use Rattle.host_queue.specs.Notes.{told}
use Rattle.host_queue.proofs.Comings.{leaves, learns, looks}
use Rattle.host_queue.proofs.Clients.{driver_looked, driver_gone, client_back, all_heard}
use Rattle.host_queue.proofs.queue.Driver.hear.Given.{Over}
use Rattle.host_queue.proofs.queue.Driver.hear.Goals as goal
use Rattle.host_queue.proofs.queue.Driver.hear.Goals.{After-load}

-- the look shows the driver no more than it knows
same : (g : Over) (c : After-load g) → c.load.new.seat.me.0.known ≡ c.join_seat.new.seat.me.0.known
same g c = let d = c.args.self.now.driver.driving in let dr : c.join_seat.new.seat.me.0.driving ≡ c.args.self.now.seat.me.0.driving = ap (λ m. m.0.driving) c.join_seat.ensures.2 in c.load.ensures.2.2.own_known (omega arith)

-- the seat after the look is a driver's
drives : (g : Over) (c : After-load g) → IsDriver g.D.Machine.step c.load.new.seat.me.0 c.args.self.now.machine
drives g c = let one = c.args.client.now.client.ready.share in let sh : c.split_seat-note.result.me.0.share ≡ c.args.client.now.seat.me.0.share = ap (λ m. m.0.share) c.split_seat-note.ensures.4 in
    driver_looked g.D.Machine.step c.args.self.now.seat.me.0 c.split_seat-note.result.me.0 c.join_seat.new.seat.me.0 c.load.new.seat.me.0 c.args.self.now.machine c.load.new.seat.me.0.known c.load.result
    c.args.self.now.driver (λ h. absurd (omega arith)) (ap (λ m. m.0) c.join_seat.ensures.2) (same g c) c.load.ensures.2.0

pub split_seat-note-requires : goal.split_seat-note-requires
split_seat-note-requires g c = let k = c.args.client.now.client.ready in let share = k.share in let words = c.args.queue.now.sized.1 in (search rules, omega arith, leaves g.D.Machine.step box_value _ _ _ k.idle (λ none. absurd (omega arith)))

pub join_seat-requires : goal.join_seat-requires
join_seat-requires g c = let words = c.args.queue.now.sized.1 in (search rules, search rules, search rules, omega arith, learns g.D.Machine.step box_value _ _ _ _ _ c.args.self.now.driver.idle)

pub load-requires : goal.load-requires
load-requires g c = let words = c.args.queue.now.sized.1 in (search rules, omega arith, looks g.D.Machine.step box_value _ _ _ _ (ap (λ m. m.0.stage) c.join_seat.ensures.2 ∙ c.args.self.now.driver.idle))

pub split_seat-back-requires : goal.split_seat-back-requires
split_seat-back-requires g c = let k = drives g (goal.at.split_seat-back-requires g c).After-load in let words = c.args.queue.now.sized.1 in (search rules, omega arith, leaves g.D.Machine.step box_value _ _ _ k.idle k.left)

pub invariant_of-self : goal.invariant_of-self
invariant_of-self g c = let h = (goal.at.invariant_of-self g c).After-load in let b = ap (λ m. m.0) c.split_seat-back.ensures.2 in record {
  driver = driver_gone g.D.Machine.step c.load.new.seat.me.0 c.split_seat-back.new.seat.me.0 c.args.self.now.machine (drives g h) b;
  counted = c.args.self.now.counted ∙ sym (ap length (ap (λ z. z.known) b ∙ (same g h ∙ ap (λ m. m.0.known) c.join_seat.ensures.2)));
  short = c.args.self.now.short;
}

pub join_seat-requires-2 : goal.join_seat-requires-2
join_seat-requires-2 g c = let words = c.args.queue.now.sized.1 in let n = ap (λ m. m.0) c.split_seat-note.ensures.2 in
    (search rules, search rules, search rules, omega arith, learns g.D.Machine.step box_value _ _ _ _ _ (ap (λ z. z.stage) n ∙ c.args.client.now.client.ready.idle))

pub invariant_of-client : goal.invariant_of-client
invariant_of-client g c = let v = c.args.client.now.client.ready in let mine = v.share in let all = v.count in let none = c.args.self.now.driver.left c.requires.alone.1 in let zero_share = c.requires.alone.1 in
    let j = ap (λ m. m.0) c.join_seat.ensures.2 in let o = ap (λ m. m.0) c.split_seat-note.ensures.4 in let look = c.load.ensures.2 in let back = ap (λ m. m.0) c.split_seat-back.ensures.4 in
    let e = ap (λ m. m.0) c.join_seat-2.ensures.2 ∙ ap (λ m. told m.0 c.split_seat-back.result.me.0) c.split_seat-note.ensures.2 in
    let sh : c.split_seat-back.result.me.0.share ≡ c.args.self.now.seat.me.0.share + c.split_seat-note.result.me.0.share = ap (λ z. z.share) back ∙ (ap (λ z. z.share) look.0 ∙ ap (λ z. z.share) j) in
    let ct : c.split_seat-back.result.me.0.count ≡ c.args.self.now.seat.me.0.count + c.split_seat-note.result.me.0.count = ap (λ z. z.count) back ∙ (ap (λ z. z.count) look.0 ∙ ap (λ z. z.count) j) in
    let sh' : c.split_seat-note.result.me.0.share ≡ c.args.client.now.seat.me.0.share = ap (λ z. z.share) o in let ct' : c.split_seat-note.result.me.0.count ≡ c.args.client.now.seat.me.0.count = ap (λ z. z.count) o in record {
      client = client_back g.D.Machine.step c.args.client.now.seat.me.0 c.split_seat-back.result.me.0 c.join_seat-2.new.seat.me.0 c.args.client.now.client (omega arith) (omega arith) e;
      above = subst (λ l. AllBelow l c.args.client.now.next) (sym (ap (λ z. z.tickets) e)) c.args.client.now.above;
      room = λ h. let room = c.args.client.now.room h in let same_credit : c.join_seat-2.new.seat.me.0.credit ≡ c.args.client.now.seat.me.0.credit = ap (λ z. z.credit) e in omega arith;
      past = λ h. let past = c.args.client.now.past h in let same_floor : c.join_seat-2.new.seat.me.0.floor ≡ c.args.client.now.seat.me.0.floor = ap (λ z. z.floor) e in omega arith;
    }

pub returns-clause-heard : goal.returns-clause-heard
returns-clause-heard g c = ap (λ m. m.0.heard_tickets) c.split_seat-back.ensures.2 ∙ (ap (λ z. z.heard_tickets) c.load.ensures.2.0 ∙ (ap (λ m. m.0.heard_tickets) c.join_seat.ensures.2 ∙ ap (λ m. m.0.heard_tickets) c.split_seat-note.ensures.4))

pub returns-clause-drawn : goal.returns-clause-drawn
returns-clause-drawn g c = let v = c.args.client.now.client.ready in let mine = v.share in let all = v.count in let d = c.args.self.now.driver.driving in let none = c.args.self.now.driver.left c.requires.alone.1 in
    let zero_share = c.requires.alone.1 in let one_in = c.requires.alone.0 in let j = ap (λ m. m.0) c.join_seat.ensures.2 in let o = ap (λ m. m.0) c.split_seat-note.ensures.4 in
    let dr : c.join_seat.new.seat.me.0.driving ≡ c.args.self.now.seat.me.0.driving = ap (λ z. z.driving) j in let ad : c.join_seat.new.seat.me.0.admitted ≡ c.args.self.now.seat.me.0.admitted = ap (λ z. z.admitted) j in
    let sum : c.join_seat.new.seat.me.0.share ≡ c.args.self.now.seat.me.0.share + c.split_seat-note.result.me.0.share = ap (λ z. z.share) j in let sh : c.split_seat-note.result.me.0.share ≡ c.args.client.now.seat.me.0.share = ap (λ z. z.share) o in
    let ct : c.join_seat.new.seat.me.0.count ≡ c.args.self.now.seat.me.0.count + c.split_seat-note.result.me.0.count = ap (λ z. z.count) j in let ct' : c.split_seat-note.result.me.0.count ≡ c.args.client.now.seat.me.0.count = ap (λ z. z.count) o in
    let f : c.join_seat.new.seat.me.0.heard_floor ≡ c.args.client.now.seat.me.0.floor = ap (λ z. z.heard_floor) j ∙ ap (λ z. z.heard_floor) o in
    let look = c.load.ensures.2 in let is = look.3 (omega arith) (omega arith) in let low = look.2.floors.1 in
    all_heard c.load.result c.join_seat.new.seat.me.0.count (length c.args.client.now.seat.me.0.tickets) c.args.client.now.seat.me.0.floor c.args.queue.now.table.shared.table_id.slots c.args.queue.now.sized.0 is.0 is.1 (omega arith) (omega arith)

pub returns-clause-same : goal.returns-clause-same
returns-clause-same g c = let b = ap (λ m. m.0) c.split_seat-back.ensures.2 in let look = c.load.ensures.2 in let j = ap (λ m. m.0) c.join_seat.ensures.2 in (
  refl,
  ap (λ z. z.known) b ∙ (same g (goal.at.returns-clause-same g c).After-load ∙ ap (λ z. z.known) j),
  ap (λ z. z.start) b ∙ (ap (λ z. z.start) look.0 ∙ ap (λ z. z.start) j),
  ap (λ z. z.admitted) b ∙ (ap (λ z. z.admitted) look.0 ∙ ap (λ z. z.admitted) j),
  ap (λ z. z.share) b ∙ sym c.requires.alone.1,
)

pub returns-clause-client : goal.returns-clause-client
returns-clause-client g c = let n = ap (λ m. m.0) c.split_seat-note.ensures.2 in let w = ap (λ m. m.0) c.join_seat-2.ensures.2 in let e = w ∙ ap (λ z. told z c.split_seat-back.result.me.0) n in
    (ap (λ z. z.tickets) e, ap (λ z. z.collected) e, ap (λ z. z.known) e, ap (λ z. z.floor) e, ap (λ z. z.start) e, ap (λ z. z.name) e)
