use Rattle.std.proofs.Common.{None, refl}
use Rattle.group_log.proofs.Taking.{all_none, none_take}
use Rattle.group_log.proofs.side.Side.forget.Goals as goal

pub invariant_of-self : goal.invariant_of-self
invariant_of-self c = record { stands = λ _. ∣ all_none c.args.self.now.uniform 0 c.clear.new.self.items c.clear-2.new.self None refl c.clear.ensures c.clear-2.ensures ∣₁ }

pub returns-clause-takes : goal.returns-clause-takes
returns-clause-takes c log _ = none_take c.clear-2.new.self log c.clear-2.ensures
