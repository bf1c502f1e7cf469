use Rattle.std.proofs.Common.{rules, arith, sym, ap, ◌∙◌, subst, ◌≡◌, ℕ, ◌+◌, ◌≤◌}
use Rattle.std.specs.Box.{box_value}
use Rattle.host_queue.specs.Clients.{AllBelow}
use Rattle.host_queue.proofs.Keeps.{draws, places}
use Rattle.host_queue.proofs.Clients.{client_full, client_placed, placed_view, placed_is, all_below, opened, stay_open, stay_open_more}
use Rattle.host_queue.proofs.queue.Client.submit.Given.{Over}
use Rattle.host_queue.proofs.queue.Client.submit.Goals as goal
use Rattle.host_queue.proofs.queue.Client.submit.Goals.{After-compare_exchange-self}

-- the seat after a draw and a placing
after : (g : Over) (c : After-compare_exchange-self g) → c.compare_exchange-self.new.seat.me.0 ≡ placed_view g.D.Machine.step c.args.self.now.seat.me.0 c.fetch_add-drawn.result c.requires.asked.0
after g c = let drew = (c.fetch_add-drawn.ensures.2.0 (search rules)).0 in let now = c.exchange.ensures.3 in let n : ℕ = c.fetch_add-drawn.result in
    placed_is g.D.Machine.step c.args.self.now.seat.me.0 c.fetch_add-drawn.new.seat.me.0 c.exchange.new.seat.me.0 c.compare_exchange-self.new.seat.me.0 n c.requires.asked.0 drew (ap (λ m. m.0) now)
    (c.compare_exchange-self.ensures.2 n c.args.request c.requires.asked.0 _ (ap (λ m. m.0.stage) now ∙ ap (λ v. v.stage) drew) (ap (λ m. m.1) now) c.requires.asked.1).0

pub fetch_add-drawn-requires : goal.fetch_add-drawn-requires
fetch_add-drawn-requires g c = let k = c.args.self.now.client.ready in let part = k.part in let share = k.share in let room = c.args.self.now.room c.if-self.false in
    (search rules, search rules, draws g.D.Machine.step box_value _ _ _ _ k.idle (omega arith) room (omega arith))

pub invariant_of-self : goal.invariant_of-self
invariant_of-self g c = let drew = c.fetch_add-drawn.ensures.2.1 (search rules) in record {
  client = client_full g.D.Machine.step _ _ (c.fetch_add-drawn.result + 1) c.args.self.now.client (let low = drew.2 in omega arith) drew.0;
  past = λ _. (let f : c.fetch_add-drawn.new.seat.me.0.floor ≡ c.fetch_add-drawn.result + 1 = ap (λ v. v.floor) drew.0 in let full : 4096 ≤ c.fetch_add-drawn.result = search rules in omega arith);
  room = λ h. cc;
  above = subst (λ l. AllBelow l c.args.self.now.next) (sym (ap (λ z. z.tickets) drew.0)) c.args.self.now.above;
}

pub compare_exchange-self-requires : goal.compare_exchange-self-requires
compare_exchange-self-requires g c = let drew = c.fetch_add-drawn.ensures.2.0 (search rules) in let now = c.exchange.ensures.3 in
    (search rules, search rules, places g.D.Machine.step box_value _ _ _ _ _ c.args.request c.requires.asked.0 _ (ap (λ m. m.0.driving) now ∙ (ap (λ v. v.driving) drew.0 ∙ c.args.self.now.client.ready.driving)) (ap (λ m. m.0.stage) now ∙ ap (λ v. v.stage) drew.0) (ap (λ m. m.1) now) c.requires.asked.1)

pub invariant_of-self-2 : goal.invariant_of-self-2
invariant_of-self-2 g c = let e = after g (goal.at.invariant_of-self-2 g c).After-compare_exchange-self in let drew = c.fetch_add-drawn.ensures.2.0 (search rules) in let n : ℕ = c.fetch_add-drawn.result in
    let f : c.compare_exchange-self.new.seat.me.0.floor ≡ n + 1 = ap (λ v. v.floor) e in
    let client = client_placed g.D.Machine.step c.args.self.now.seat.me.0 c.compare_exchange-self.new.seat.me.0 n c.requires.asked.0 c.args.self.now.client drew.2 drew.3 (search rules) e in record {
      client = client;
      room = λ h. let room = c.args.self.now.room h in let same : c.compare_exchange-self.new.seat.me.0.credit ≡ c.args.self.now.seat.me.0.credit = ap (λ v. v.credit) e in omega arith;
      past = λ h. let past = c.args.self.now.past h in let low = drew.2 in omega arith;
      above = all_below c.compare_exchange-self.new.seat.me.0 (n + 1) client.ready (omega arith);
    }

pub returns-clause-ticket : goal.returns-clause-ticket
returns-clause-ticket g c = let e = after g (goal.at.returns-clause-ticket g c).After-compare_exchange-self in (c.requires.asked.0, c.requires.asked.1, ap (λ v. v.tickets) e)

pub returns-clause-same : goal.returns-clause-same
returns-clause-same g c = let e = after g (goal.at.returns-clause-same g c).After-compare_exchange-self in (ap (λ v. v.known) e, ap (λ v. v.collected) e, ap (λ v. v.start) e, ap (λ v. v.name) e)

pub returns-clause-rises : goal.returns-clause-rises
returns-clause-rises g c = let drew = c.fetch_add-drawn.ensures.2.0 (search rules) in all_below c.args.self.now.seat.me.0 c.fetch_add-drawn.result c.args.self.now.client.ready drew.2

pub returns-clause-open : goal.returns-clause-open
returns-clause-open g c = let e = after g (goal.at.returns-clause-open g c).After-compare_exchange-self in
    opened c.args.self.now.seat c.compare_exchange-self.new.seat c.fetch_add-drawn.result c.requires.asked.0 c.args.self.now.client.ready (c.fetch_add-drawn.ensures.2.0 (search rules)).2 (ap (λ v. v.tickets) e) (ap (λ v. v.collected) e)

pub returns-clause-others : goal.returns-clause-others
returns-clause-others g c = let e = after g (goal.at.returns-clause-others g c).After-compare_exchange-self in
    stay_open_more c.args.self.now.seat c.compare_exchange-self.new.seat c.fetch_add-drawn.result c.requires.asked.0 (ap (λ v. v.tickets) e) (ap (λ v. v.collected) e)

pub returns-clause-floor : goal.returns-clause-floor
returns-clause-floor g c = let e = after g (goal.at.returns-clause-floor g c).After-compare_exchange-self in
    let f : c.compare_exchange-self.new.seat.me.0.floor ≡ c.fetch_add-drawn.result + 1 = ap (λ v. v.floor) e in let low = (c.fetch_add-drawn.ensures.2.0 (search rules)).2 in omega arith

pub returns-clause-next : goal.returns-clause-next
returns-clause-next g c = ap (λ v. v.floor) (after g (goal.at.returns-clause-next g c).After-compare_exchange-self)

pub returns-then-drawn-clause-others : goal.returns-then-drawn-clause-others
returns-then-drawn-clause-others g c = let drew = c.fetch_add-drawn.ensures.2.1 (search rules) in
    stay_open c.args.self.now.seat c.fetch_add-drawn.new.seat (ap (λ z. z.tickets) drew.0) (ap (λ z. z.collected) drew.0)
