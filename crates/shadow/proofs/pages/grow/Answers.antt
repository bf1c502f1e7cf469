use Rattle.std.proofs.Common.{◌∙◌, ap}
use Rattle.shadow.specs.Seen.{row_of}
use Rattle.shadow.proofs.Cells.{pushed}
use Rattle.shadow.proofs.pages.grow.Goals as goal

pub loop-alloc-preserved : goal.loop-alloc-preserved
loop-alloc-preserved c page =
    ap (λ z. row_of z page) c.in_ok-push.ensures.items ∙ pushed c.loop-alloc.pages.items c.new.result c.new.ensures.items page ∙ c.loop-alloc.invariant page
