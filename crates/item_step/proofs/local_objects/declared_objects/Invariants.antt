use Rattle.std.proofs.Common.{◌≡◌, map, take}
use Rattle.item_step.proofs.Declarations.{declared_in}
use Rattle.item_step.proofs.local_objects.declared_objects.Given as goal

abbrev pub invariant-loop-statement : goal.invariant-loop-statement
invariant-loop-statement l =
    (l.names.items ≡ map (λ o. o.name) (declared_in (take l.statement-index l.body)))
    × (l.sizes.items ≡ map (λ o. o.size) (declared_in (take l.statement-index l.body)))
