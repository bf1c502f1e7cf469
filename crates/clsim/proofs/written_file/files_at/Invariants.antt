use Rattle.std.proofs.Common.{◌≡◌, map, take}
use Rattle.std.specs.Option.{is_some}
use Rattle.clsim.proofs.written_file.files_at.Given as goal

abbrev pub invariant-loop-place : goal.invariant-loop-place
invariant-loop-place l = map is_some l.files.items ≡ map (λ place. is_some place.file) (take l.place-index l.places)
