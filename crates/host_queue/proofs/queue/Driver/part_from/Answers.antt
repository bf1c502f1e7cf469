use Rattle.std.proofs.Common.{sym, ap, ◌∙◌, subst, ℕ, ◌+◌, length}
use Rattle.host_queue.specs.History.{Begins}
use Rattle.host_queue.proofs.queue.Driver.part_from.Goals as goal

pub returns-clause-counts : goal.returns-clause-counts
returns-clause-counts g c = let same = c.drive_to.ensures.same in let left = c.dismiss.ensures.counts in
    (left.0 ∙ ap (λ (n : ℕ). n + 1) same.2, left.1 ∙ ap (λ (n : ℕ). n + length c.args.client.seat.me.0.tickets) same.3)

pub returns-clause-known : goal.returns-clause-known
returns-clause-known g c = subst (λ z. Begins c.args.self.now.seat.me.0.known z) (sym c.dismiss.ensures.known) c.drive_to.ensures.known

pub returns-clause-same : goal.returns-clause-same
returns-clause-same g c = let same = c.drive_to.ensures.same in let left = c.dismiss.ensures.same in (left.0 ∙ same.0, left.1 ∙ same.1)
