use Rattle.std.proofs.Common.{◌≡◌, [], ◌∷◌, ◌++◌, codes, ap, ◌∙◌, append_assoc}
use Rattle.wide_faults.specs.Faults.{names_text}
use Rattle.wide_faults.proofs.faults.kernel_line.Goals as goal

pub returns : goal.returns
returns c =
    let head = c.args.head.now in
    let words = codes "in the kernel: the same fault by the same schedule" in
    let names = names_text c.args.names.now in
    let more = c.in_ok-push_in_line.ensures in
    let first : c.extend_from_slice.new.self.items ≡ head = c.in_ok-extend_from_slice.ensures.items ∙ (ap (λ t. t ++ c.as_bytes.result.now) c.new-out.ensures.items ∙ c.as_bytes.ensures.value) in (
      more.0,
      more.1,
      c.in_ok-push.ensures.items
          ∙ (ap (λ t. t ++ 10 ∷ []) (more.2 ∙ ap (λ t. t ++ more.0) (c.in_ok-push_names.ensures ∙ ap (λ t. t ++ names) (c.in_ok-extend_from_slice-2.ensures.items ∙ ap (λ t. t ++ words) first)))
          ∙ (append_assoc ((head ++ words) ++ names) more.0 (10 ∷ []) ∙ (append_assoc (head ++ words) names (more.0 ++ 10 ∷ []) ∙ append_assoc head words (names ++ (more.0 ++ 10 ∷ []))))),
    )
