use Rattle.std.proofs.Common.{◌≡◌, [], ◌∷◌, ◌++◌, ap, ◌∙◌, append_assoc}
use Rattle.wide_text.specs.Told.{whole_text}
use Rattle.wide_text.proofs.text.text_of.Goals as goal

pub returns : goal.returns
returns c =
    let report = c.args.report.now in
    let told = c.in_ok-out.out.items in
    let whole = whole_text report.clean report.free.items report.reads.items in
    let last : c.as_bytes.result.now ≡ whole = c.as_bytes.ensures.value
    ∙ (c.in_ok-last.ensures
    ∙ (ap (λ f. whole_text report.clean f c.as_slice-reads.result.now) c.as_slice-free.ensures.value ∙ ap (λ r. whole_text report.clean report.free.items r) c.as_slice-reads.ensures.value)) in (
      told,
      c.in_ok-out.ensures,
      c.in_ok-push.ensures.items ∙ (ap (λ t. t ++ 10 ∷ []) (c.in_ok-extend_from_slice.ensures.items ∙ ap (λ t. told ++ t) last) ∙ append_assoc told whole (10 ∷ [])),
    )
