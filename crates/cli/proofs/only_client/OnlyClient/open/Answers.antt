use Rattle.std.proofs.Common.{◌≡◌, List, [], ◌∷◌, refl, sym, ap, ◌∙◌, length, ◌++◌}
use Rattle.std.specs.Option.{option_to_list}
use mathlib.Core.Option.{some, some-ne-none}
use lib.ListN.{get_elem?}
use Rattle.cli.proofs.only_client.OnlyClient.open.Goals as goal

at_last : {A : Type 0} (xs : List A) (x : A) → get_elem? (xs ++ x ∷ []) (length xs) ≡ some x
at_last [] x = refl
at_last (y ∷ ys) x = at_last ys x

pub invariant_of-result-clause-one : goal.invariant_of-result-clause-one
invariant_of-result-clause-one c = let rest = c.pop.new.self.items in let items = c.pop.ensures.items ∙ ap (λ o. rest ++ option_to_list o) c.unwrap-client.ensures in let opened = c.in_ok-queue.ensures in
    let guest = opened.clients.1 (length rest) c.unwrap-client.result (ap (λ l. get_elem? l (length rest)) items ∙ at_last rest c.unwrap-client.result) in (guest.0, opened.driver.0)

pub invariant_of-result-clause-only : goal.invariant_of-result-clause-only
invariant_of-result-clause-only c = let rest = c.pop.new.self.items in let items = c.pop.ensures.items ∙ ap (λ o. rest ++ option_to_list o) c.unwrap-client.ensures in let opened = c.in_ok-queue.ensures in
    let guest = (opened.clients.1 (length rest) c.unwrap-client.result (ap (λ l. get_elem? l (length rest)) items ∙ at_last rest c.unwrap-client.result)).1 in record {
      admitted = opened.driver.2.admitted;
      share = opened.driver.2.share;
      answered = ap length guest.2 ∙ sym (ap length opened.driver.2.known);
      known = λ i x e. absurd (some-ne-none x (sym e ∙ ap (λ l. get_elem? l i) opened.driver.2.known));
    }
