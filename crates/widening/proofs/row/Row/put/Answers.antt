use Rattle.std.proofs.Common.{◌≡◌, slice_set, subst, arith}
use Rattle.same_items.specs.Flow.{with_label}
use Rattle.widening.specs.Listed.{labels_of}
use Rattle.widening.proofs.Covering.{put_row}
use Rattle.widening.proofs.row.Row.put.Goals as goal

pub returns-then-place-len : goal.returns-then-place-len
returns-then-place-len c =
    λ _. subst (λ z. labels_of (slice_set c.self.inside.labels.items c.args.register c.args.label) ≡ with_label (labels_of z) c.args.register c.args.label) c.self.view_is
    (put_row c.self.inside.labels.items c.args.register c.args.label (let less = c.if-place-len.true in omega (arith, less)))
