use Rattle.queue_tests.proofs.many.sums.Goals as goal

pub serve-requires-clause-clients : goal.serve-requires-clause-clients
serve-requires-clause-clients g c = λ l w k x at. (c.in_ok-queue.ensures.clients.1 k x at).0
