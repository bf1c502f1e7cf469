use Rattle.std.proofs.Common.{sym, subst}
use Rattle.host_queue.specs.Clients.{IsOpen}
use Rattle.refused_calls.proofs.tickets.polled_twice.Goals as goal

pub driven-requires-clause-own : goal.driven-requires-clause-own
driven-requires-clause-own g c = let err = c.in-Err.ensures.err in
    subst (λ t. IsOpen c.poll.new.self.seat t.number) (sym err.0) (err.3 c.args.ticket.number c.requires.own)
