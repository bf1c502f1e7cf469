use Rattle.std.proofs.Common.{refl, ap, arith, ◌∙◌, ◌≡◌, ◌+◌, length, [], ◌∷◌, ◌++◌, length-append}
use Rattle.std.specs.Option.{option_to_list}
use lib.ListN.{get_elem?}
use Rattle.atomic_table.proofs.Lists.{at_last, at_longer}
use Rattle.queue_tests.proofs.pair.open_two.Goals as goal

pub invariant_of-result-clause-one : goal.invariant_of-result-clause-one
invariant_of-result-clause-one g c = let one = c.pop.new.self.items in let none = c.pop-2.new.self.items in let opened = c.in_ok-queue.ensures in let second = c.unwrap-second.result in let first = c.unwrap-first.result in
    let both = c.pop.ensures.items ∙ ap (λ o. one ++ option_to_list o) c.unwrap-second.ensures in let items = c.pop-2.ensures.items ∙ ap (λ o. none ++ option_to_list o) c.unwrap-first.ensures in
    let at_first = ap (λ l. get_elem? l (length none)) items ∙ at_last none first (length none) refl in (
      (opened.clients.1 (length none) first (ap (λ l. get_elem? l (length none)) both ∙ at_longer one (second ∷ []) (length none) first at_first)).0,
      (opened.clients.1 (length one) second (ap (λ l. get_elem? l (length one)) both ∙ at_last one second (length one) refl)).0,
      opened.driver.0,
    )

pub invariant_of-result-clause-two : goal.invariant_of-result-clause-two
invariant_of-result-clause-two g c = let one = c.pop.new.self.items in let none = c.pop-2.new.self.items in let opened = c.in_ok-queue.ensures in let second = c.unwrap-second.result in let first = c.unwrap-first.result in
    let both = c.pop.ensures.items ∙ ap (λ o. one ++ option_to_list o) c.unwrap-second.ensures in let items = c.pop-2.ensures.items ∙ ap (λ o. none ++ option_to_list o) c.unwrap-first.ensures in
    let at_first = ap (λ l. get_elem? l (length none)) items ∙ at_last none first (length none) refl in
    let a : first.seat.me.0.name ≡ length none = (opened.clients.1 (length none) first (ap (λ l. get_elem? l (length none)) both ∙ at_longer one (second ∷ []) (length none) first at_first)).1.0 in
    let b : second.seat.me.0.name ≡ length one = (opened.clients.1 (length one) second (ap (λ l. get_elem? l (length one)) both ∙ at_last one second (length one) refl)).1.0 in
    let more : length one ≡ length none + 1 = ap length items ∙ length-append none (first ∷ []) in λ same. omega arith
