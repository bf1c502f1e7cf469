use Rattle.std.proofs.Common.{◌≡◌, ◌-◌, ◌^◌, min, take}
use Rattle.item_step.specs.Objects.{all_sizes}
use Rattle.item_step.proofs.Declarations.{declared_in}
use Rattle.item_step.proofs.local_objects.declared_bytes.Given as goal

abbrev pub invariant-loop-statement : goal.invariant-loop-statement
invariant-loop-statement l = l.bytes ≡ min (all_sizes (declared_in (take l.statement-index l.body))) (2 ^ 64 - 1)
