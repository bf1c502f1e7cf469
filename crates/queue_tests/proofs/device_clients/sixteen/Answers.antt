use Rattle.queue_tests.proofs.device_clients.sixteen.Goals as goal

pub numbered_clients-requires : goal.numbered_clients-requires
numbered_clients-requires g c = record { one = λ k x at. (c.in_ok-queue.ensures.clients.1 k x at).0 }
