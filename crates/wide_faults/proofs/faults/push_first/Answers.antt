use Rattle.std.proofs.Common.{◌++◌, codes, ap, ◌∙◌, append_assoc}
use Rattle.wide_faults.proofs.faults.push_first.Goals as goal

pub returns : goal.returns
returns c =
    let old = c.args.out.now.items in
    let words = codes " for all bytes of " in
    c.in_ok-extend_from_slice-2.ensures.items
    ∙ (ap (λ t. t ++ c.as_slice.result.now) c.in_ok-extend_from_slice.ensures.items ∙ (ap (λ t. (old ++ words) ++ t) c.as_slice.ensures ∙ append_assoc old words c.args.name.now))
