use Rattle.std.proofs.Common.{rules, arith, sym, ap, ◌∙◌, subst, ◌≡◌}
use Rattle.std.specs.Box.{box_value}
use lib.ListN.{get_elem?}
use Rattle.host_queue.specs.History.{Begins}
use Rattle.host_queue.specs.Clients.{AllBelow}
use Rattle.host_queue.proofs.Comings.{tells, learns, looks}
use Rattle.host_queue.proofs.Clients.{client_knows, ready_told, note_is, fits_told}
use Rattle.host_queue.proofs.queue.Client.learn_from.Goals as goal

pub split_seat-note-requires : goal.split_seat-note-requires
split_seat-note-requires g c = let k = c.args.other.now.client.ready in let words = c.args.queue.now.sized.1 in let share = k.share in (search rules, omega arith, tells g.D.Machine.step box_value _ _ _ k.idle (λ none. absurd (omega arith)))

pub join_seat-requires : goal.join_seat-requires
join_seat-requires g c = let words = c.args.queue.now.sized.1 in (search rules, search rules, search rules, omega arith, learns g.D.Machine.step box_value _ _ _ _ _ c.args.self.now.client.ready.idle)

pub load-requires : goal.load-requires
load-requires g c = let words = c.args.queue.now.sized.1 in (search rules, omega arith, looks g.D.Machine.step box_value _ _ _ _ (ap (λ m. m.0.stage) c.join_seat.ensures.2 ∙ c.args.self.now.client.ready.idle))

pub invariant_of-self : goal.invariant_of-self
invariant_of-self g c = let j = ap (λ m. m.0) c.join_seat.ensures.2 in let o = ap (λ m. m.0) c.split_seat-note.ensures.4 in let look = c.load.ensures.2 in
    let ready = ready_told g.D.Machine.step c.args.self.now.seat.me.0 c.split_seat-note.result.me.0 c.join_seat.new.seat.me.0 c.args.self.now.client.ready (note_is c.args.other.now.seat.me.0 c.split_seat-note.result.me.0 o) j in record {
      client = client_knows g.D.Machine.step c.join_seat.new.seat.me.0 c.load.new.seat.me.0 c.join_seat.new.seat.me.0.collected c.load.result ready look.2.fits look.2.floors.0 ready.collected look.0;
      past = λ h. let past = c.args.self.now.past h in let f : c.load.new.seat.me.0.floor ≡ c.load.result = ap (λ z. z.floor) look.0 in let a : c.join_seat.new.seat.me.0.floor ≡ c.args.self.now.seat.me.0.floor = ap (λ z. z.floor) j in let fl = look.2.floors.0 in omega arith;
      room = λ h. let room = c.args.self.now.room h in let same : c.load.new.seat.me.0.credit ≡ c.args.self.now.seat.me.0.credit = ap (λ z. z.credit) look.0 ∙ ap (λ z. z.credit) j in omega arith;
      above = subst (λ l. AllBelow l c.args.self.now.next) (sym (ap (λ z. z.tickets) look.0 ∙ ap (λ z. z.tickets) j)) c.args.self.now.above;
    }

pub returns-clause-known : goal.returns-clause-known
returns-clause-known g c = let j = ap (λ m. m.0) c.join_seat.ensures.2 in let o = ap (λ m. m.0) c.split_seat-note.ensures.4 in let look = c.load.ensures.2 in (
  fits_told g.D.Machine.step c.args.self.now.seat.me.0 c.split_seat-note.result.me.0 c.join_seat.new.seat.me.0 c.load.new.seat.me.0 j look.2.fits,
  subst (λ z. Begins z c.load.new.seat.me.0.known) (ap (λ z. z.heard_known) j ∙ ap (λ z. z.heard_known) o) look.2.heard,
)

pub returns-clause-floor : goal.returns-clause-floor
returns-clause-floor g c = let j = ap (λ m. m.0) c.join_seat.ensures.2 in let o = ap (λ m. m.0) c.split_seat-note.ensures.4 in let look = c.load.ensures.2 in
    let f : c.load.new.seat.me.0.floor ≡ c.load.result = ap (λ z. z.floor) look.0 in let a : c.join_seat.new.seat.me.0.floor ≡ c.args.self.now.seat.me.0.floor = ap (λ z. z.floor) j in
    let b : c.join_seat.new.seat.me.0.heard_floor ≡ c.args.other.now.seat.me.0.floor = ap (λ z. z.heard_floor) j ∙ ap (λ z. z.heard_floor) o in let fl = look.2.floors in (omega arith, omega arith)

pub returns-clause-apart : goal.returns-clause-apart
returns-clause-apart g c = let j = ap (λ m. m.0) c.join_seat.ensures.2 in let o = ap (λ m. m.0) c.split_seat-note.ensures.4 in let look = c.load.ensures.2 in
    let hn = ap (λ z. z.heard_name) j ∙ ap (λ z. z.heard_name) o in let ht = ap (λ z. z.heard_tickets) j ∙ ap (λ z. z.heard_tickets) o in λ ne a b t u at bt.
    look.2.apart (λ same. ne (sym (ap (λ z. z.name) j) ∙ (sym same ∙ hn))) a b t u (ap (λ l. get_elem? l a) ht ∙ at) (ap (λ z. get_elem? z.tickets b) j ∙ bt)

pub returns-clause-same : goal.returns-clause-same
returns-clause-same g c = let j = ap (λ m. m.0) c.join_seat.ensures.2 in let look = c.load.ensures.2 in
    (ap (λ z. z.tickets) look.0 ∙ ap (λ z. z.tickets) j, ap (λ z. z.collected) look.0 ∙ ap (λ z. z.collected) j, ap (λ z. z.start) look.0 ∙ ap (λ z. z.start) j, ap (λ z. z.name) look.0 ∙ ap (λ z. z.name) j)
