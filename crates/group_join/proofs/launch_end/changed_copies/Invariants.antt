use Rattle.std.proofs.Common.{◌≡◌, map, take}
use Rattle.spaces.specs.Buffers.{bytes_in}
use Rattle.spaces.specs.Changes.{all_with_changes}
use Rattle.group_join.proofs.launch_end.changed_copies.Given as goal

abbrev pub invariant-loop-place : goal.invariant-loop-place
invariant-loop-place l = l.copies.items ≡ all_with_changes (take l.place (map (bytes_in l.buffers) l.names)) (take l.place l.changes)
