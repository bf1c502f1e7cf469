use Rattle.std.proofs.Common.{◌≡◌, map, take}
use Rattle.clsim.specs.OwnLines.{lines_at, lines_of}
use Rattle.clsim.proofs.own_lines.own_places.Given as goal

abbrev pub invariant-loop-place : goal.invariant-loop-place
invariant-loop-place l = map lines_at l.places.items ≡ map lines_of (take l.place-index l.written)
