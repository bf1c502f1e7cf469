use Rattle.std.proofs.Common.{◌≡◌, map, take}
use Rattle.clmodel.specs.Setup.{parameter_objects}
use Rattle.item_step.proofs.local_objects.parameter_objects.Given as goal

abbrev pub invariant-loop-place : goal.invariant-loop-place
invariant-loop-place l =
    (l.names.items ≡ map (λ o. o.name) (parameter_objects (take l.place l.parameters) l.arguments))
    × (l.sizes.items ≡ map (λ o. o.size) (parameter_objects (take l.place l.parameters) l.arguments))
