use Rattle.std.proofs.Common.{◌+◌, sym, subst}
use Rattle.std.proofs.Math.Logic.{∥∥₁_map}
use Rattle.group_log.specs.SummarizesByte.{AllStand}
use Rattle.group_log.proofs.Taking.{all_begun}
use Rattle.group_log.proofs.side.Side.begin.Goals as goal

pub invariant_of-self : goal.invariant_of-self
invariant_of-self c =
    let side = c.args.self.now in
    record {
      stands = λ e.
          ∥∥₁_map (side.stands e)
          (λ s. subst (λ l. AllStand side.uniform (side.interval + 1) l side.traces side.home) (sym c.clear.ensures) (all_begun side.uniform side.interval side.kept.items side.traces side.home s));
    }
