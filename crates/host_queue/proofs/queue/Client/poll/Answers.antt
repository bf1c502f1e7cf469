use Rattle.std.proofs.Common.{rules, arith, sym, refl, ap, ◌∙◌, subst, ◌≡◌, ◌∷◌, Some, le_refl}
use Rattle.std.specs.Box.{box_value}
use Rattle.std.specs.Option.{IsSome}
use lib.ListN.{get_elem?}
use Rattle.atomic_table.specs.Table.{rest}
use Rattle.host_queue.specs.Clients.{AllBelow}
use Rattle.host_queue.proofs.Keeps.{collects}
use Rattle.host_queue.proofs.Basics.{some_same}
use Rattle.host_queue.proofs.Clients.{client_knows, had_more, gathered_is, fits_is, same_head, stay_open, stay_open_but}
use Rattle.host_queue.proofs.queue.Client.poll.Goals as goal

pub compare_exchange-requires : goal.compare_exchange-requires
compare_exchange-requires g c = let own = c.requires.own in let low = (c.args.self.now.client.ready.below own.0 own.1 own.2).1 in let is = own.3 in let words = c.args.queue.now.sized.1 in
    (search rules, omega arith, collects g.D.Machine.step box_value _ _ _ _ c.args.ticket.number own.0 own.1 c.args.self.now.client.ready.idle own.2 own.3 own.4)

pub invariant_of-self : goal.invariant_of-self
invariant_of-self g c = let told = c.compare_exchange.ensures.2 c.args.ticket.number refl in let miss = told.3 (search rules) in record {
  client = client_knows g.D.Machine.step c.args.self.now.seat.me.0 c.compare_exchange.new.seat.me.0 c.args.self.now.seat.me.0.collected c.args.self.now.seat.me.0.floor c.args.self.now.client.ready told.0 (le_refl _) c.args.self.now.client.ready.collected miss.0;
  past = λ h. let past = c.args.self.now.past h in let same : c.compare_exchange.new.seat.me.0.floor ≡ c.args.self.now.seat.me.0.floor = ap (λ z. z.floor) miss.0 in omega arith;
  room = λ h. let room = c.args.self.now.room h in let same : c.compare_exchange.new.seat.me.0.credit ≡ c.args.self.now.seat.me.0.credit = ap (λ z. z.credit) miss.0 in omega arith;
  above = subst (λ l. AllBelow l c.args.self.now.next) (sym (ap (λ z. z.tickets) miss.0)) c.args.self.now.above;
}

pub returns-then-compare_exchange-ne3-clause-known : goal.returns-then-compare_exchange-ne3-clause-known
returns-then-compare_exchange-ne3-clause-known g c = (c.compare_exchange.ensures.2 c.args.ticket.number refl).0

pub returns-then-compare_exchange-ne3-clause-err : goal.returns-then-compare_exchange-ne3-clause-err
returns-then-compare_exchange-ne3-clause-err g c = let miss = (c.compare_exchange.ensures.2 c.args.ticket.number refl).3 (search rules) in (refl, miss.2, ap (λ z. z.collected) miss.0, stay_open c.args.self.now.seat c.compare_exchange.new.seat (ap (λ z. z.tickets) miss.0) (ap (λ z. z.collected) miss.0))

pub returns-then-compare_exchange-ne3-clause-others : goal.returns-then-compare_exchange-ne3-clause-others
returns-then-compare_exchange-ne3-clause-others g c = let miss = (c.compare_exchange.ensures.2 c.args.ticket.number refl).3 (search rules) in
    λ m other. stay_open c.args.self.now.seat c.compare_exchange.new.seat (ap (λ z. z.tickets) miss.0) (ap (λ z. z.collected) miss.0) m

pub returns-then-compare_exchange-ne3-clause-same : goal.returns-then-compare_exchange-ne3-clause-same
returns-then-compare_exchange-ne3-clause-same g c = let miss = (c.compare_exchange.ensures.2 c.args.ticket.number refl).3 (search rules) in
    (ap (λ z. z.tickets) miss.0, ap (λ z. z.floor) miss.0, ap (λ z. z.start) miss.0, ap (λ z. z.name) miss.0)

pub exchange-requires : goal.exchange-requires
exchange-requires g c = let hit = (c.compare_exchange.ensures.2 c.args.ticket.number refl).2 (search rules) in let words = c.args.queue.now.sized.0 in
    (search rules, (Some hit.0, hit.3 ∙ ap (λ cs. (c.args.ticket.number, Some hit.0) ∷ rest cs) (sym hit.3)))

pub invariant_of-self-2 : goal.invariant_of-self-2
invariant_of-self-2 g c = let told = c.compare_exchange.ensures.2 c.args.ticket.number refl in let hit = told.2 (search rules) in let now = ap (λ m. m.0) c.exchange.ensures.3 in let v = c.args.self.now.seat.me.0 in
    let e = gathered_is g.D.Machine.step c.args.self.now.seat.me.0 c.compare_exchange.new.seat.me.0 c.exchange.new.seat.me.0 (c.args.ticket.number ∷ c.args.self.now.seat.me.0.collected) hit.2 now in record {
      client = client_knows g.D.Machine.step c.args.self.now.seat.me.0 c.exchange.new.seat.me.0 (c.args.ticket.number ∷ c.args.self.now.seat.me.0.collected) c.args.self.now.seat.me.0.floor c.args.self.now.client.ready
          (fits_is g.D.Machine.step c.args.self.now.seat.me.0 c.compare_exchange.new.seat.me.0 c.exchange.new.seat.me.0 told.0 now) (le_refl _)
          (had_more g.D.Machine.step c.args.self.now.seat.me.0 c.args.ticket.number c.requires.own.0 c.requires.own.1 c.args.self.now.client.ready c.requires.own.2 c.requires.own.3) e;
      past = λ h. let past = c.args.self.now.past h in let same : c.exchange.new.seat.me.0.floor ≡ c.args.self.now.seat.me.0.floor = ap (λ z. z.floor) e in omega arith;
      room = λ h. let room = c.args.self.now.room h in let same : c.exchange.new.seat.me.0.credit ≡ c.args.self.now.seat.me.0.credit = ap (λ z. z.credit) e in omega arith;
      above = subst (λ l. AllBelow l c.args.self.now.next) (sym (ap (λ z. z.tickets) e)) c.args.self.now.above;
    }

pub unwrap-requires : goal.unwrap-requires
unwrap-requires g c = let hit = (c.compare_exchange.ensures.2 c.args.ticket.number refl).2 (search rules) in let got = same_head _ _ _ _ _ _ _ c.exchange.ensures.2 hit.3 in subst IsSome (sym got) refl

pub returns-clause-known : goal.returns-clause-known
returns-clause-known g c = let told = c.compare_exchange.ensures.2 c.args.ticket.number refl in
    fits_is g.D.Machine.step c.args.self.now.seat.me.0 c.compare_exchange.new.seat.me.0 c.exchange.new.seat.me.0 told.0 (ap (λ m. m.0) c.exchange.ensures.3)

pub returns-clause-ok : goal.returns-clause-ok
returns-clause-ok g c = let hit = (c.compare_exchange.ensures.2 c.args.ticket.number refl).2 (search rules) in let now = ap (λ m. m.0) c.exchange.ensures.3 in
    let got = same_head _ _ _ _ _ _ _ c.exchange.ensures.2 hit.3 in let is = some_same _ _ (sym c.unwrap.ensures ∙ got) in
    (hit.1, ap (λ z. get_elem? z.known c.args.ticket.number) now ∙ hit.4, ap box_value is ∙ hit.5)

pub returns-clause-collected : goal.returns-clause-collected
returns-clause-collected g c = let hit = (c.compare_exchange.ensures.2 c.args.ticket.number refl).2 (search rules) in let now = ap (λ m. m.0) c.exchange.ensures.3 in
    ap (λ z. z.collected) now ∙ ap (λ z. z.collected) hit.2

pub returns-clause-same : goal.returns-clause-same
returns-clause-same g c = let hit = (c.compare_exchange.ensures.2 c.args.ticket.number refl).2 (search rules) in let now = ap (λ m. m.0) c.exchange.ensures.3 in
    (ap (λ z. z.tickets) now ∙ ap (λ z. z.tickets) hit.2, ap (λ z. z.floor) now ∙ ap (λ z. z.floor) hit.2, ap (λ z. z.start) now ∙ ap (λ z. z.start) hit.2, ap (λ z. z.name) now ∙ ap (λ z. z.name) hit.2)

pub returns-clause-others : goal.returns-clause-others
returns-clause-others g c = let hit = (c.compare_exchange.ensures.2 c.args.ticket.number refl).2 (search rules) in let now = ap (λ m. m.0) c.exchange.ensures.3 in
    stay_open_but c.args.self.now.seat c.exchange.new.seat c.args.ticket.number (ap (λ z. z.tickets) now ∙ ap (λ z. z.tickets) hit.2) (ap (λ z. z.collected) now ∙ ap (λ z. z.collected) hit.2)
