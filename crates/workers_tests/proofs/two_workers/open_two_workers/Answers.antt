use Rattle.std.proofs.Common.{refl, ap, ◌∙◌, length, ◌++◌}
use Rattle.std.specs.Option.{option_to_list}
use lib.ListN.{get_elem?}
use Rattle.atomic_table.proofs.Lists.{at_last}
use Rattle.workers_tests.proofs.two_workers.open_two_workers.Goals as goal

pub returns : goal.returns
returns c = let rest = c.pop.new.self.items in let items = c.pop.ensures.items ∙ ap (λ o. rest ++ option_to_list o) c.unwrap-client.ensures in let opened = c.in_ok-queue.ensures in
    let guest = opened.clients.1 (length rest) c.unwrap-client.result (ap (λ l. get_elem? l (length rest)) items ∙ at_last rest c.unwrap-client.result (length rest) refl) in (guest.0, opened.driver.0)
