use Rattle.std.proofs.Common.{◌≡◌, ◌+◌, drop}
use Rattle.clmodel.specs.Setup.{place_of}
use Rattle.item_value.proofs.parameters.place.Given as goal

abbrev pub invariant-loop-i : goal.invariant-loop-i
invariant-loop-i l = place_of l.names l.name ≡ l.i + place_of (drop l.i l.names) l.name
