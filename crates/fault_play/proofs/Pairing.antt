-- A fault that is no conflict has no pair of accesses.
use Rattle.std.proofs.Common.{◌≡◌, false, List, sym}
use Rattle.std.proofs.lemmas.Bool.{false≢true}
use Rattle.clmodel.specs.Launch.{Launch}
use Rattle.clmodel.specs.declared.access.Access.{Access}
use Rattle.clmodel.specs.declared.fault.Fault.{Fault}
use Rattle.clmodel.specs.declared.fault.Fault.TheVariants as fault
use Rattle.replay.specs.Spots.{IsPairOf, is_conflict}
use Rattle.replay.specs.declared.conflicts.Pair.{Pair}

pub none_of : (l : Launch) (f : Fault) (log : List Access) (pair : Pair) → is_conflict f ≡ false → IsPairOf l f log pair → ⊥
none_of l (fault.Conflict clash item kind other other_kind place byte) log pair e h = false≢true (sym e)
none_of l (fault.Divergence item stop other other_stop) log pair e h = h
none_of l (fault.Bounds item kind place element) log pair e h = h
none_of l (fault.PrivateBounds item array element) log pair e h = h
none_of l (fault.Unset item kind place byte) log pair e h = h
none_of l (fault.UnsetVariable item variable) log pair e h = h
none_of l (fault.UnsetElement item array element) log pair e h = h
none_of l (fault.DivideByZero item) log pair e h = h
none_of l (fault.DivideOverflow item) log pair e h = h
none_of l (fault.Budget item) log pair e h = h
