use Rattle.std.proofs.Common.{◌≡◌, Some, map, take}
use Rattle.spaces.specs.Buffers.{bytes_in}
use Rattle.replay.proofs.buffers.copies.Given as goal

abbrev pub invariant-loop-name : goal.invariant-loop-name
invariant-loop-name l = l.copies.items ≡ map (λ name. map Some (bytes_in l.buffers name)) (take l.name-index l.names)
