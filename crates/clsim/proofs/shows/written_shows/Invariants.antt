use Rattle.std.proofs.Common.{◌≡◌, map, take}
use Rattle.clsim.specs.Shows.{shown_of}
use Rattle.clsim.proofs.shows.written_shows.Given as goal

abbrev pub invariant-loop-place : goal.invariant-loop-place
invariant-loop-place l = l.shows.items ≡ map (λ place. shown_of l.style place.line place.kind) (take l.place-index l.places)
