use Rattle.std.proofs.Common.{sym, ap, ◌∙◌}
use Rattle.std.specs.Prelude.{cond}
use Rattle.clmodel.specs.Typing.Context.{meaning, fenced}
use Rattle.cltypes_scope.proofs.Fenced.{fence_stands}
use Rattle.cltypes_scope.proofs.names.meaning_among.Goals as goal

pub returns-then-is_fence : goal.returns-then-is_fence
returns-then-is_fence c =
    let here = c.args.names.context.now in
    sym (ap (λ b. meaning (cond b (fenced here) here) c.args.name) c.if-names.true ∙ fence_stands here c.args.name (sym c.is_fence.ensures ∙ c.if-is_fence.true))
