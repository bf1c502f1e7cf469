use Rattle.std.proofs.Common.{◌≡◌, ◌+◌, ◌++◌, ◌∷◌, [], Some, length, sym, ap, ap₂, ◌∙◌, subst}
use Rattle.std.specs.Prelude.{All}
use Rattle.std.specs.HashMap.{get}
use Rattle.std.proofs.lemmas.List.Elements.{All-push}
use Rattle.access_list.specs.Log.{IsPlaced}
use Rattle.access_list.specs.declared.log.Entry.{Entry}
use Rattle.page_log.specs.Pages.{page_of, same_page, newest_of, IsIndexed, IsOnOnePage}
use Rattle.page_log.proofs.Walks.{indexed}
use Rattle.page_log.proofs.list.PagedList.push.Goals as goal

pub invariant_of-self-2 : goal.invariant_of-self-2
invariant_of-self-2 c =
    let l = c.args.self.now in
    let log = l.entries.items in
    let x = c.args.entry in
    let n = c.insert.new.self in
    let made : c.push_reserved-2.new.self.items ≡ log ++ x ∷ [] = c.push_reserved-2.ensures.items ∙ ap (λ xs. xs ++ x ∷ []) c.reserve.ensures.items in
    let links : c.push_reserved.new.self.items ≡ l.older.items ++ newest_of l.newest (page_of x.access) ∷ [] =
    c.push_reserved.ensures.items
    ∙ ap₂ (λ xs o. xs ++ o ∷ []) c.reserve-2.ensures.items (c.link-older.ensures ∙ ap (newest_of l.newest) c.page_of-page.ensures) in
    let put : get same_page n c.page_of-page.result ≡ Some (c.len.result + 1) = c.in_ok-insert.ensures.updates.1 in
    let own : get same_page n (page_of x.access) ≡ Some (length log + 1) =
    ap (get same_page n) (sym c.page_of-page.ensures) ∙ put ∙ ap (λ k. Some (k + 1)) (c.len.ensures ∙ c.reserve.ensures.len ∙ l.entries.ok.0) in
    record {
      placed = subst (All IsPlaced) (sym made) (All-push IsPlaced log x l.placed c.requires);
      indexed = subst (λ xs. IsIndexed xs n c.push_reserved.new.self.items) (sym made)
          (subst (IsIndexed (log ++ x ∷ []) n) (sym links)
          (indexed log x l.newest n l.older.items l.indexed own
          (λ q f. c.in_ok-insert.ensures.updates.2 q (ap (λ p. same_page p q) c.page_of-page.ensures ∙ f))));
      single = λ e. subst (All (λ (y : Entry). IsOnOnePage y.access)) (sym made)
          (All-push (λ (y : Entry). IsOnOnePage y.access) log x (l.single (c.is_linked-linked.ensures.on_one_page e)) (c.is_linked-linked.ensures.own e));
    }
