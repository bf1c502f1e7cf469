use Rattle.std.proofs.Common.{◌≡◌, None, replicate}
use Rattle.workers_draw.proofs.gather.places.Given as goal

abbrev pub invariant-loop : goal.invariant-loop
invariant-loop g l = l.places.items ≡ replicate l.counter None
