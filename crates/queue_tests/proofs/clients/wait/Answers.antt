use Rattle.std.proofs.Common.{◌≡◌, ◌∙◌, sym, subst}
use Rattle.host_queue.specs.Clients.{IsOpen}
use Rattle.queue_tests.proofs.clients.wait.Goals as goal

pub loop-preserved : goal.loop-preserved
loop-preserved g c = let err = c.in-Err.ensures.err in record {
  one = c.in-Err.ensures.one ∙ c.loop.invariant.one;
  own = subst (λ t. IsOpen c.poll.new.self.seat t.number) (sym err.0) (err.3 c.loop.ticket.number c.loop.invariant.own);
}
