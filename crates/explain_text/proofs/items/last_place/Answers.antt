use Rattle.std.proofs.Common.{◌++◌, ap, codes, string_bytes, ◌∙◌}
use Rattle.explain_text.proofs.items.last_place.Goals as goal

pub returns : goal.returns
returns c = (
  string_bytes c.in_ok-place.place,
  c.in_ok-place.ensures,
  c.in_ok-push_both.ensures ∙ ap (λ x. x ++ (codes "    its last access:\n" ++ c.as_str.result.now)) c.new-out.ensures.bytes ∙ ap (λ p. codes "    its last access:\n" ++ p) c.as_str.ensures.value,
)
