use Rattle.std.proofs.Common.{refl, ap, ◌∙◌, length, [], ◌∷◌}
use lib.ListN.{get_elem?}
use Rattle.atomic_table.proofs.Lists.{at_last, at_longer}
use Rattle.queue_tests.proofs.clients.numbered_clients.Goals as goal

pub numbered_client-requires : goal.numbered_client-requires
numbered_client-requires g c = let n = length c.pop.new.self.items in
    record { one = c.loop-client.invariant n c.in-Some.client (ap (λ z. get_elem? z n) c.in-Some.ensures.items ∙ at_last c.pop.new.self.items c.in-Some.client n refl) }

pub loop-client-preserved : goal.loop-client-preserved
loop-client-preserved g c = λ k x at. c.loop-client.invariant k x (ap (λ z. get_elem? z k) c.in-Some.ensures.items ∙ at_longer c.pop.new.self.items (c.in-Some.client ∷ []) k x at)
