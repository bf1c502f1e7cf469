use Rattle.std.proofs.Common.{Bool, ◌+◌, ◌∙◌, sym, ap}
use Rattle.clmodel.specs.Cells.{byte_of}
use Rattle.shadow.specs.Seen.{half_start}
use Rattle.shadow.proofs.Halves.{high_half, low_half}
use Rattle.shadow.proofs.words.half.Goals as goal

pub returns-then-high : goal.returns-then-high
returns-then-high c k h = high_half c.args.value k h ∙ ap (λ (b : Bool). byte_of (half_start b + k) c.args.value) (sym c.if-high.true)

pub returns-else-high : goal.returns-else-high
returns-else-high c k h = low_half c.args.value k h ∙ ap (λ (b : Bool). byte_of (half_start b + k) c.args.value) (sym c.if-high.false)
