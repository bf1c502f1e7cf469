-- What is known of an access before it is kept (own).
use Rattle.std.specs.Prelude.{◌≡◌, ℕ, ◌<◌, ◌^◌, true, Some, List, unwrap_or, MatchOption}
use Rattle.clmodel.specs.declared.access.Access.{Access}
use Rattle.group_traces.specs.Traces.{untouched}
use Rattle.group_traces.specs.Cells.{at_key, key_of, IsOwn, IsNear}
use Rattle.access_list.specs.Keys.{object_number}
use Rattle.group_log.specs.SummarizesByte.{region_at, AllTake}
use Rattle.group_log.specs.declared.side.Glance.{Glance}
use Rattle.group_log.specs.declared.side.Side.{Side}

-- what is kept of the bytes of buffers, where it tells of all accesses, tells which tell other groups nothing new
-- (6.5.2, own)
abbrev pub TakesOf : Side → List Access → Type 0
TakesOf side log = side.whole ≡ true → AllTake side.traces log

-- where the bytes of an access are looked at, they are near, and its cell stands where it is said to (own)
abbrev pub IsSeen : Side → Access → Glance → ℕ → Type 0
IsSeen side x g number =
    (number ≡ object_number x.region) × (number < 2 ^ 32) × IsNear x × (x.region ≡ region_at (unwrap_or side.home x.region) number)
    × MatchOption g.look.place ((b : ℕ) → at_key side.traces (key_of number x.first) b ≡ untouched) (IsOwn side.traces (key_of number x.first))

abbrev pub IsKnown : Side → Access → Glance → Type 0
IsKnown side x g = (number : ℕ) → g.number ≡ Some number → IsSeen side x g number
