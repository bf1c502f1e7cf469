use Rattle.std.proofs.Common.{arith, rules, sym, refl, ap, ◌∙◌, subst, ◌≡◌, ℕ, ◌+◌, length, [], ◌∷◌, length-append}
use mathlib.Core.Logic.{dite}
use mathlib.Core.Option.{some-injective}
use native.Mathlib.Decide.{ℕ_discrete}
use lib.ListN.{get_elem?}
use Rattle.atomic_table.proofs.Lists.{at_last, at_longer}
use Rattle.host_queue.specs.History.{Begins}
use Rattle.host_queue.specs.Clients.{Serves}
use Rattle.host_queue.proofs.Basics.{at_inside, begins_refl, begins_trans, total_last}
use Rattle.host_queue.proofs.Clients.{serves_more}
use Rattle.host_queue.proofs.queue.Driver.part_from_all.Goals as goal

pub loop-client-init : goal.loop-client-init
loop-client-init g c = record {
  one = c.requires.one.0;
  known = begins_refl c.args.self.now.seat.me.0.known;
  start = refl;
  admitted = refl;
  share = refl;
  drawn = refl;
  rest = λ i x e. e;
  done = λ k x at le. absurd (let h = at_inside c.args.clients.items k x at in omega arith);
}

pub part_from-requires : goal.part_from-requires
part_from-requires g c = let l = c.loop-client.invariant in let n = length c.pop.new.self.items in let at = ap (λ z. get_elem? z n) c.in-Some.ensures.items ∙ at_last c.pop.new.self.items c.in-Some.client n refl in
    record { one = (l.one, c.requires.one.1 n c.in-Some.client (l.rest n c.in-Some.client at)) }

pub loop-client-preserved : goal.loop-client-preserved
loop-client-preserved g c = let l = c.loop-client.invariant in let n : ℕ = length c.pop.new.self.items in let items = c.in-Some.ensures.items in
    let at_n = ap (λ z. get_elem? z n) items ∙ at_last c.pop.new.self.items c.in-Some.client n refl in let full = l.rest n c.in-Some.client at_n in let p = c.part_from.ensures in
    let long : length c.loop-client.clients.items ≡ n + 1 = ap length items ∙ length-append c.pop.new.self.items (c.in-Some.client ∷ []) in
    let all = total_last c.loop-client.clients.items c.pop.new.self.items c.in-Some.client (λ y. length y.seat.me.0.tickets) items in
    let share = l.share in let drawn = l.drawn in let sh = p.counts.0 in let dr = p.counts.1 in record {
      one = p.one ∙ l.one;
      known = begins_trans c.args.self.now.seat.me.0.known c.loop-client.self.seat.me.0.known c.part_from.new.self.seat.me.0.known l.known p.known;
      start = p.same.0 ∙ l.start;
      admitted = p.same.1 ∙ l.admitted;
      share = omega arith;
      drawn = omega arith;
      rest = λ i x e. l.rest i x (ap (λ z. get_elem? z i) items ∙ at_longer c.pop.new.self.items (c.in-Some.client ∷ []) i x e);
      done = λ k x at le. dite (ℕ_discrete k n)
          (λ q. let is = some-injective c.in-Some.client x (sym full ∙ (ap (λ z. get_elem? c.args.clients.items z) (sym q) ∙ at)) in (
            subst (λ z. Begins z c.part_from.new.self.seat.me.0.known) (ap (λ y. y.seat.me.0.known) is) p.client.0,
            subst (λ z. Serves z c.part_from.new.self.seat.me.0.known) (ap (λ y. y.seat.me.0.tickets) is) p.client.1,
          ))
          (λ q. let d = l.done k x at (omega arith) in (
            begins_trans x.seat.me.0.known c.loop-client.self.seat.me.0.known c.part_from.new.self.seat.me.0.known d.0 p.known,
            serves_more x.seat.me.0.tickets c.loop-client.self.seat.me.0.known c.part_from.new.self.seat.me.0.known p.known d.1,
          ));
    }

pub returns-clause-clients : goal.returns-clause-clients
returns-clause-clients g c = λ k x at. c.loop-client.invariant.done k x at (let none : length c.loop-client.clients.items ≡ 0 = first_of (search rules, cc, omega arith) in omega arith)
