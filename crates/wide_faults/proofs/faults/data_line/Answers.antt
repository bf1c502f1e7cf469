use Rattle.std.proofs.Common.{◌≡◌, [], ◌∷◌, ◌++◌, codes, ap, ◌∙◌, append_assoc}
use Rattle.wide_faults.proofs.faults.data_line.Goals as goal

pub returns : goal.returns
returns c =
    let head = c.args.head.now in
    let words = codes "in the data" in
    let more = c.in_ok-push_in_line.ensures in
    let first : c.extend_from_slice.new.self.items ≡ head = c.in_ok-extend_from_slice.ensures.items ∙ (ap (λ t. t ++ c.as_bytes.result.now) c.new-out.ensures.items ∙ c.as_bytes.ensures.value) in (
      more.0,
      more.1,
      c.in_ok-push.ensures.items
          ∙ (ap (λ t. t ++ 10 ∷ []) (more.2 ∙ ap (λ t. t ++ more.0) (c.in_ok-extend_from_slice-2.ensures.items ∙ ap (λ t. t ++ words) first))
          ∙ (append_assoc (head ++ words) more.0 (10 ∷ []) ∙ append_assoc head words (more.0 ++ 10 ∷ []))),
    )
