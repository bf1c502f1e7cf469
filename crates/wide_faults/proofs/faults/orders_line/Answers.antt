use Rattle.std.proofs.Common.{◌≡◌, ◌++◌, codes, ap, ◌∙◌}
use Rattle.wide_faults.proofs.faults.orders_line.Goals as goal

pub returns : goal.returns
returns c =
    let head = c.args.head.now in
    let words = codes "in the data or in the kernel: of a launch with orders nothing is said for other data\n" in
    let first : c.extend_from_slice.new.self.items ≡ head = c.in_ok-extend_from_slice.ensures.items ∙ (ap (λ t. t ++ c.as_bytes.result.now) c.new-out.ensures.items ∙ c.as_bytes.ensures.value) in
    c.in_ok-extend_from_slice-2.ensures.items ∙ ap (λ t. t ++ words) first
