use Rattle.std.proofs.Common.{◌≡◌, ◌++◌}
use Rattle.std.specs.Vec.Iter.{into_iter_items}
use Rattle.workers.specs.Results.{all_results}
use Rattle.workers.proofs.units.one_after_another.Given as goal

abbrev pub invariant-loop-unit : goal.invariant-loop-unit
invariant-loop-unit l = all_results l.fn.units.items ≡ l.all.items ++ all_results (into_iter_items l.unit-iterator)
