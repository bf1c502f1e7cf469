use Rattle.std.proofs.Common.{◌≡◌, ◌+◌, ◌<◌, ◌∷◌, [], ◌++◌, List, get_or, length, take, string_bytes, sym, ap, ◌∙◌, subst, arith}
use Rattle.std.proofs.lemmas.List.{take_more}
use Rattle.explanation.specs.declared.told.NamedItem.{NamedItem}
use Rattle.explain_text.specs.Texts.{AreItems}
use Rattle.explain_text.proofs.Rendering.{one_item_more}
use Rattle.explain_text.proofs.items.items_text.Goals as goal

pub loop-place-preserved : goal.loop-place-preserved
loop-place-preserved c =
    let script = c.args.source.now in
    let xs = c.args.whole.now.items.items in
    let i = c.loop-place.place in
    let r = c.item-item.result in
    let below : i < length xs = omega (arith, c.loop-place-test.true, ap length c.as_slice-item-items.ensures.value) in
    let here : get_or xs i r ≡ r = ap (λ l. get_or l i r) (sym c.as_slice-item-items.ensures.value) ∙ sym c.item-item.is in
    let more : take (i + 1) xs ≡ take i xs ++ r ∷ [] = take_more xs i r below ∙ ap (λ x. take i xs ++ x ∷ []) here in
    subst (λ (l : List NamedItem). AreItems script l (string_bytes c.push_item.new.out)) (sym more)
    (one_item_more script (take i xs) r (string_bytes c.loop-place.out) c.in_ok-push_item.ensures.0 (string_bytes c.push_item.new.out) c.loop-place.invariant c.in_ok-push_item.ensures.1
    c.in_ok-push_item.ensures.2)
