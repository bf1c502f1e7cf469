use Rattle.std.proofs.Common.{◌≡◌, ◌++◌, map, replicate, None, drop}
use Rattle.launches.proofs.objects.local_objects.Given as goal

abbrev pub invariant-loop-i : goal.invariant-loop-i
invariant-loop-i l = l.locals.items ++ map (λ size. replicate size None) (drop l.i l.sizes) ≡ map (λ size. replicate size None) l.sizes
