use Rattle.std.proofs.Common.{◌≡◌, ◌-◌, ◌^◌, min, take}
use Rattle.clmodel.specs.Setup.{parameter_objects}
use Rattle.item_step.specs.Objects.{all_sizes}
use Rattle.item_step.proofs.local_objects.parameter_bytes.Given as goal

abbrev pub invariant-loop-place : goal.invariant-loop-place
invariant-loop-place l = l.bytes ≡ min (all_sizes (parameter_objects (take l.place l.parameters) l.arguments)) (2 ^ 64 - 1)
