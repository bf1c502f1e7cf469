use Rattle.std.proofs.Common.{◌≡◌, map, take}
use Rattle.spaces.specs.Buffers.{bytes_in}
use Rattle.group_join.proofs.joined_groups.rows_of.Given as goal

abbrev pub invariant-loop-i : goal.invariant-loop-i
invariant-loop-i l = map (λ row. row.now) l.rows.items ≡ map (bytes_in l.buffers) (take l.i l.names)
