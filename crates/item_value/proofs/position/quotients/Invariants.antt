use Rattle.std.proofs.Common.{◌≡◌, ◌++◌, drop}
use Rattle.clmodel.specs.Setup.{quotients}
use Rattle.item_value.proofs.position.quotients.Given as goal

abbrev pub invariant-loop-i : goal.invariant-loop-i
invariant-loop-i l = quotients l.numbers l.divisors ≡ l.counts.items ++ quotients (drop l.i l.numbers) (drop l.i l.divisors)
