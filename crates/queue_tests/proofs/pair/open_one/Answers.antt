use Rattle.std.proofs.Common.{refl, sym, ap, ◌∙◌, length, ◌++◌}
use Rattle.std.specs.Option.{option_to_list}
use mathlib.Core.Option.{some-ne-none}
use lib.ListN.{get_elem?}
use Rattle.atomic_table.proofs.Lists.{at_last}
use Rattle.queue_tests.proofs.pair.open_one.Goals as goal

pub returns-clause-one : goal.returns-clause-one
returns-clause-one g c = let rest = c.pop.new.self.items in let items = c.pop.ensures.items ∙ ap (λ o. rest ++ option_to_list o) c.unwrap-client.ensures in let opened = c.in_ok-queue.ensures in
    let guest = opened.clients.1 (length rest) c.unwrap-client.result (ap (λ l. get_elem? l (length rest)) items ∙ at_last rest c.unwrap-client.result (length rest) refl) in (guest.0, opened.driver.0)

pub returns-clause-only : goal.returns-clause-only
returns-clause-only g c = let rest = c.pop.new.self.items in let items = c.pop.ensures.items ∙ ap (λ o. rest ++ option_to_list o) c.unwrap-client.ensures in let opened = c.in_ok-queue.ensures in
    let guest = (opened.clients.1 (length rest) c.unwrap-client.result (ap (λ l. get_elem? l (length rest)) items ∙ at_last rest c.unwrap-client.result (length rest) refl)).1 in record {
      admitted = opened.driver.2.admitted;
      share = opened.driver.2.share;
      answered = ap length guest.2 ∙ sym (ap length opened.driver.2.known);
      known = λ i x e. absurd (some-ne-none x (sym e ∙ ap (λ l. get_elem? l i) opened.driver.2.known));
    }
