use Rattle.std.proofs.Common.{◌≡◌, length, take}
use Rattle.cltypes.specs.Limits.{IsSummary}
use Rattle.lower_code.specs.Helpers.{functions_of, BarriersKnown, BarriersCounted, LengthsKnown, LengthsCounted}
use Rattle.lower.proofs.known_functions.known_of_all.Given as goal

abbrev pub invariant-loop-i : goal.invariant-loop-i
invariant-loop-i l = record {
  count : length l.known.items ≡ l.i;
  barriers : BarriersKnown l.functions l.known.items;
  counted : BarriersCounted l.functions l.known.items;
  lengths : LengthsKnown l.functions l.known.items;
  measured : LengthsCounted l.functions l.known.items;
  sizes : IsSummary l.sizes (functions_of (take l.i l.functions));
}
