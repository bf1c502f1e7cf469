use Rattle.std.proofs.Common.{None, refl}
use Rattle.group_log.proofs.Taking.{all_none, none_take}
use Rattle.group_log.proofs.side.Side.new.Goals as goal

pub invariant_of-result : goal.invariant_of-result
invariant_of-result c = record { stands = λ _. ∣ all_none c.args.uniform 0 c.new.result.items c.new-2.result None refl c.new.ensures c.new-2.ensures ∣₁ }

pub returns-clause-takes : goal.returns-clause-takes
returns-clause-takes c log _ = none_take c.new-2.result log c.new-2.ensures
