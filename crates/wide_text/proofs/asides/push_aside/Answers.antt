use Rattle.std.proofs.Common.{[], ◌∷◌, ◌++◌, codes, ap, ◌∙◌, append_assoc}
use Rattle.wide_text.proofs.asides.push_aside.Goals as goal

pub returns : goal.returns
returns c =
    let old = c.args.out.now.items in
    let line = c.in_ok-push_in_line.ensures in (
      line.0,
      line.1,
      c.in_ok-push.ensures.items
          ∙ (ap (λ t. t ++ 10 ∷ []) (line.2 ∙ ap (λ t. t ++ line.0) c.in_ok-extend_from_slice.ensures.items)
          ∙ (append_assoc (old ++ codes "  ") line.0 (10 ∷ []) ∙ append_assoc old (codes "  ") (line.0 ++ 10 ∷ []))),
    )
