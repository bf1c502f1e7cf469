use Rattle.std.proofs.Common.{rules, arith, sym, refl, ap, ◌∙◌, subst, ◌≡◌, ◌∷◌, Some, le_refl}
use Rattle.std.specs.Box.{box_value}
use Rattle.std.specs.Option.{IsSome}
use lib.ListN.{get_elem?}
use Rattle.atomic_table.specs.Table.{rest}
use Rattle.host_queue.specs.History.{Begins}
use Rattle.host_queue.specs.Views.{Has}
use Rattle.host_queue.specs.Clients.{AllBelow}
use Rattle.host_queue.proofs.Keeps.{collects}
use Rattle.host_queue.proofs.Comings.{tells, learns}
use Rattle.host_queue.proofs.Basics.{some_same}
use Rattle.host_queue.proofs.Clients.{client_knows, had_more, stay_open_but, gathered_is, fits_is, same_head, note_is, told_hit, ready_told, fits_told}
use Rattle.host_queue.proofs.queue.Client.poll_known.Given.{Over}
use Rattle.host_queue.proofs.queue.Client.poll_known.Goals as goal
use Rattle.host_queue.proofs.queue.Client.poll_known.Goals.{After-compare_exchange, After-exchange}

-- the ticket was answered
hit : (g : Over) (c : After-compare_exchange g) → c.compare_exchange.result ≡ 3
hit g c = let told = c.compare_exchange.ensures.2 c.args.ticket.number refl in
    told_hit c.join_seat.new.seat.me.0.heard_known c.args.answered.now.seat.me.0.known c.compare_exchange.new.seat.me.0.known c.args.ticket.number c.args.answered.now.count c.compare_exchange.result
    (ap (λ m. m.0.heard_known) c.join_seat.ensures.2 ∙ ap (λ m. m.0.heard_known) c.split_seat-note.ensures.4) c.args.answered.now.counted c.requires.below told.1 (λ ne. (told.3 ne).2)

-- the seat after the call
after : (g : Over) (c : After-exchange g) → c.compare_exchange.result ≡ 3
    → c.exchange.new.seat.me.0 ≡ record c.join_seat.new.seat.me.0 { collected = c.args.ticket.number ∷ c.join_seat.new.seat.me.0.collected; known = c.exchange.new.seat.me.0.known }
after g c is = gathered_is g.D.Machine.step c.join_seat.new.seat.me.0 c.compare_exchange.new.seat.me.0 c.exchange.new.seat.me.0 (c.args.ticket.number ∷ c.join_seat.new.seat.me.0.collected)
    ((c.compare_exchange.ensures.2 c.args.ticket.number refl).2 is).2 (ap (λ m. m.0) c.exchange.ensures.3)

pub split_seat-note-requires : goal.split_seat-note-requires
split_seat-note-requires g c = let note = c.args.answered.now.note in let words = c.args.queue.now.sized.1 in (search rules, omega arith, tells g.D.Machine.step box_value _ _ _ note.idle (λ _. note.count))

pub join_seat-requires : goal.join_seat-requires
join_seat-requires g c = let words = c.args.queue.now.sized.1 in (search rules, search rules, search rules, omega arith, learns g.D.Machine.step box_value _ _ _ _ _ c.args.self.now.client.ready.idle)

pub compare_exchange-requires : goal.compare_exchange-requires
compare_exchange-requires g c = let own = c.requires.own in let low = (c.args.self.now.client.ready.below own.0 own.1 own.2).1 in let is = own.3 in let words = c.args.queue.now.sized.1 in let e = ap (λ m. m.0) c.join_seat.ensures.2 in
    (search rules, omega arith, collects g.D.Machine.step box_value _ _ _ _ c.args.ticket.number own.0 own.1 (ap (λ v. v.stage) e ∙ c.args.self.now.client.ready.idle) (ap (λ v. get_elem? v.tickets own.0) e ∙ own.2) own.3 (λ h. own.4 (subst (λ v. Has v.collected c.args.ticket.number) e h)))

pub exchange-requires : goal.exchange-requires
exchange-requires g c = let is = hit g (goal.at.exchange-requires g c).After-compare_exchange in let got = (c.compare_exchange.ensures.2 c.args.ticket.number refl).2 is in let words = c.args.queue.now.sized.0 in
    (search rules, (Some got.0, got.3 ∙ ap (λ cs. (c.args.ticket.number, Some got.0) ∷ rest cs) (sym got.3)))

pub invariant_of-self : goal.invariant_of-self
invariant_of-self g c = let h = goal.at.invariant_of-self g c in let e = after g h.After-exchange (hit g h.After-compare_exchange) in
    let j = ap (λ m. m.0) c.join_seat.ensures.2 in let o = ap (λ m. m.0) c.split_seat-note.ensures.4 in
    let ready = ready_told g.D.Machine.step c.args.self.now.seat.me.0 c.split_seat-note.result.me.0 c.join_seat.new.seat.me.0 c.args.self.now.client.ready (note_is c.args.answered.now.seat.me.0 c.split_seat-note.result.me.0 o) j in record {
      client = client_knows g.D.Machine.step c.join_seat.new.seat.me.0 c.exchange.new.seat.me.0 (c.args.ticket.number ∷ c.join_seat.new.seat.me.0.collected) c.join_seat.new.seat.me.0.floor ready
          (fits_is g.D.Machine.step c.join_seat.new.seat.me.0 c.compare_exchange.new.seat.me.0 c.exchange.new.seat.me.0 (c.compare_exchange.ensures.2 c.args.ticket.number refl).0 (ap (λ m. m.0) c.exchange.ensures.3)) (le_refl _)
          (had_more g.D.Machine.step c.join_seat.new.seat.me.0 c.args.ticket.number c.requires.own.0 c.requires.own.1 ready (ap (λ v. get_elem? v.tickets c.requires.own.0) j ∙ c.requires.own.2) c.requires.own.3) e;
      past = λ h. let past = c.args.self.now.past h in let same : c.exchange.new.seat.me.0.floor ≡ c.args.self.now.seat.me.0.floor = ap (λ z. z.floor) e ∙ ap (λ z. z.floor) j in omega arith;
      room = λ h. let room = c.args.self.now.room h in let same : c.exchange.new.seat.me.0.credit ≡ c.args.self.now.seat.me.0.credit = ap (λ z. z.credit) e ∙ ap (λ z. z.credit) j in omega arith;
      above = subst (λ l. AllBelow l c.args.self.now.next) (sym (ap (λ z. z.tickets) e ∙ ap (λ z. z.tickets) j)) c.args.self.now.above;
    }

pub unwrap-requires : goal.unwrap-requires
unwrap-requires g c = let got = (c.compare_exchange.ensures.2 c.args.ticket.number refl).2 (hit g (goal.at.unwrap-requires g c).After-compare_exchange) in
    let is = same_head _ _ _ _ _ _ _ c.exchange.ensures.2 got.3 in subst IsSome (sym is) refl

pub returns-clause-ok : goal.returns-clause-ok
returns-clause-ok g c = let got = (c.compare_exchange.ensures.2 c.args.ticket.number refl).2 (hit g (goal.at.returns-clause-ok g c).After-compare_exchange) in
    let is = some_same _ _ (sym c.unwrap.ensures ∙ same_head _ _ _ _ _ _ _ c.exchange.ensures.2 got.3) in
    (got.1, ap (λ m. get_elem? m.0.known c.args.ticket.number) c.exchange.ensures.3 ∙ got.4, ap box_value is ∙ got.5)

pub returns-clause-collected : goal.returns-clause-collected
returns-clause-collected g c = let h = goal.at.returns-clause-collected g c in let e = after g h.After-exchange (hit g h.After-compare_exchange) in
    ap (λ z. z.collected) e ∙ ap (λ m. c.args.ticket.number ∷ m.0.collected) c.join_seat.ensures.2

pub returns-clause-same : goal.returns-clause-same
returns-clause-same g c = let h = goal.at.returns-clause-same g c in let e = after g h.After-exchange (hit g h.After-compare_exchange) in let j = ap (λ m. m.0) c.join_seat.ensures.2 in
    (ap (λ z. z.tickets) e ∙ ap (λ z. z.tickets) j, ap (λ z. z.floor) e ∙ ap (λ z. z.floor) j, ap (λ z. z.start) e ∙ ap (λ z. z.start) j, ap (λ z. z.name) e ∙ ap (λ z. z.name) j)

pub returns-clause-known : goal.returns-clause-known
returns-clause-known g c = let told = c.compare_exchange.ensures.2 c.args.ticket.number refl in let now = ap (λ m. m.0) c.exchange.ensures.3 in let j = ap (λ m. m.0) c.join_seat.ensures.2 in let o = ap (λ m. m.0) c.split_seat-note.ensures.4 in (
  fits_told g.D.Machine.step c.args.self.now.seat.me.0 c.split_seat-note.result.me.0 c.join_seat.new.seat.me.0 c.exchange.new.seat.me.0 j
      (fits_is g.D.Machine.step c.join_seat.new.seat.me.0 c.compare_exchange.new.seat.me.0 c.exchange.new.seat.me.0 told.0 now),
  subst (λ z. Begins z c.exchange.new.seat.me.0.known) (ap (λ z. z.heard_known) j ∙ ap (λ z. z.heard_known) o) (subst (λ z. Begins c.join_seat.new.seat.me.0.heard_known z.known) (sym now) told.1),
)

pub returns-clause-others : goal.returns-clause-others
returns-clause-others g c = let h = goal.at.returns-clause-others g c in let e = after g h.After-exchange (hit g h.After-compare_exchange) in let j = ap (λ m. m.0) c.join_seat.ensures.2 in
    stay_open_but c.args.self.now.seat c.exchange.new.seat c.args.ticket.number (ap (λ z. z.tickets) e ∙ ap (λ z. z.tickets) j) (ap (λ z. z.collected) e ∙ ap (λ z. c.args.ticket.number ∷ z.collected) j)
