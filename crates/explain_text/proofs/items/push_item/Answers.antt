use Rattle.std.proofs.Common.{string_bytes, refl, ◌∙◌}
use Rattle.explain_text.proofs.Rendering.{item_added}
use Rattle.explain_text.proofs.items.push_item.Goals as goal

pub returns : goal.returns
returns c =
    item_added c.args.source.now c.args.source.now c.args.item.now c.word_of-word.result.now c.as_str.result.now c.as_str-2.result.now
    (string_bytes c.in_ok-deed.deed) c.as_str-3.result.now (string_bytes c.in_ok-spot.spot) c.as_str-4.result.now (string_bytes c.in_ok-last.last) (string_bytes c.args.out.now)
    (string_bytes c.push_first_line.new.out) (string_bytes c.push_both.new.out) c.word_of-word.ensures c.in_ok-deed.ensures c.as_str-2.ensures.value refl
    (c.as_str.ensures.value ∙ c.in_ok-ids.ensures) c.as_str-3.ensures.value c.as_str-4.ensures.value c.in_ok-spot.ensures c.in_ok-last.ensures c.in_ok-push_first_line.ensures
    c.in_ok-push_both.ensures
