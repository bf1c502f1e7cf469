-- Searches for the race of an access (OpenCL 1.2, 3.3.1; own in the order of the search).
use Rattle.std.specs.Prelude.{ℕ, zero, suc, Option, None, List, [], ◌∷◌}
use Rattle.std.specs.Option.{option_map}
use Rattle.clmodel.specs.Cells.{byte_count}
use Rattle.clmodel.specs.Launch.{Launch}
use Rattle.clmodel.specs.Run.{or_else}
use Rattle.clmodel.specs.declared.access.Access.{Access}
use Rattle.clmodel.specs.declared.access.Conflict as conflict_type
use Rattle.ordered_runs.specs.Ordered.{race}

-- how an earlier access races with a later one on a byte, if they do (3.3.1)
abbrev pub race_between : Launch → Access → Access → ℕ → Option conflict_type.Conflict
race_between launch y x byte = option_map (λ clash. record { earlier = y; later = x; byte = byte; clash = clash }) (race launch y x byte)

-- the race of an access on a byte with the earliest that has one, of a log that has the oldest first (3.3.1, own)
abbrev pub race_on : Launch → Access → ℕ → List Access → Option conflict_type.Conflict
race_on launch x byte [] = None
race_on launch x byte (y ∷ log) = or_else (race_between launch y x byte) (race_on launch x byte log)

-- the same on the lowest of `count` bytes (own)
abbrev pub race_from : Launch → Access → List Access → ℕ → ℕ → Option conflict_type.Conflict
race_from launch x log byte zero = None
race_from launch x log byte (suc count) = or_else (race_on launch x byte log) (race_from launch x log (suc byte) count)

-- the race of an access with a log: on its lowest byte that has one, there with the earliest access (own)
unfoldable pub race_with : Launch → Access → List Access → Option conflict_type.Conflict
race_with launch x log = race_from launch x log x.first (byte_count x.width)
