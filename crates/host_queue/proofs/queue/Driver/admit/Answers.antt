use Rattle.std.proofs.Common.{rules, arith, sym, ap, ◌∙◌, ◌≡◌, length}
use Rattle.std.specs.Box.{box_value}
use mathlib.Core.Option.{some-ne-none}
use lib.ListN.{get_elem?}
use Rattle.host_queue.proofs.Comings.{admits}
use Rattle.host_queue.proofs.Clients.{driver_host, client_guest}
use Rattle.host_queue.proofs.queue.Driver.admit.Goals as goal

pub split_seat-seat-requires : goal.split_seat-seat-requires
split_seat-seat-requires g c = let k = c.args.self.now.driver in let d = k.driving in let words = c.args.queue.now.sized.1 in (search rules, (first_of (omega arith, search rules)), admits g.D.Machine.step box_value _ _ _ k.idle (omega arith) c.requires.room)

pub invariant_of-self : goal.invariant_of-self
invariant_of-self g c = let e = ap (λ m. m.0) c.split_seat-seat.ensures.2 in record {
  driver = driver_host g.D.Machine.step c.args.self.now.seat.me.0 c.split_seat-seat.new.seat.me.0 c.args.self.now.machine c.args.self.now.driver e;
  counted = c.args.self.now.counted ∙ sym (ap (λ z. length z.known) e);
  short = c.args.self.now.short;
}

pub invariant_of-result : goal.invariant_of-result
invariant_of-result g c = let e = ap (λ m. m.0) c.split_seat-seat.ensures.4 in record {
  client = client_guest g.D.Machine.step c.args.self.now.seat.me.0 c.split_seat-seat.result.me.0 e;
  past = λ h. cc;
  room = λ _. let one : c.split_seat-seat.result.me.0.credit ≡ 1 = ap (λ z. z.credit) e in omega arith;
  above = λ i t at. absurd (some-ne-none t (sym (sym (ap (λ z. get_elem? z.tickets i) e) ∙ at)));
}
