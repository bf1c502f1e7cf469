use Rattle.std.proofs.Common.{arith, sym, ap, ◌∙◌, subst, ◌≤◌}
use Rattle.host_queue.proofs.Clients.{one_history, all_below, stay_open}
use Rattle.host_queue.proofs.queue.Client.agree.Goals as goal

pub returns-clause-history : goal.returns-clause-history
returns-clause-history g c = one_history _ _ c.learn_from.new.self.seat.me.0.known c.learn_from.ensures.known.0.goes_on c.learn_from.ensures.known.1

pub returns-clause-above : goal.returns-clause-above
returns-clause-above g c = let one = c.learn_from.ensures.floor in let two = c.learn_from-2.ensures.floor in let other = c.learn_from.ensures.other in let me = c.learn_from-2.ensures.other in (
  all_below c.args.other.now.seat.me.0 _ c.args.other.now.client.ready (subst (λ v. c.args.other.now.seat.me.0.floor ≤ v.floor) (sym me) one.1),
  all_below c.args.self.now.seat.me.0 _ c.args.self.now.client.ready (let a = one.0 in let b = two.1 in omega arith),
)

pub returns-clause-open : goal.returns-clause-open
returns-clause-open g c = let one = c.learn_from.ensures in let two = c.learn_from-2.ensures in (
  stay_open c.args.self.now.seat c.learn_from-2.new.other.seat (ap (λ z. z.tickets) two.other ∙ one.same.0) (ap (λ z. z.collected) two.other ∙ one.same.1),
  stay_open c.args.other.now.seat c.learn_from-2.new.self.seat (two.same.0 ∙ ap (λ z. z.tickets) one.other) (two.same.1 ∙ ap (λ z. z.collected) one.other),
)
