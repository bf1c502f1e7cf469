use Rattle.std.proofs.Common.{◌≡◌, ◌*◌}
use Rattle.spaces.specs.Buffers.{with_bytes, repeated}
use Rattle.spaces.proofs.buffers.fill.Given as goal

abbrev pub invariant-loop-i : goal.invariant-loop-i
invariant-loop-i l = l.buffer ≡ with_bytes l.fn.buffer l.offset (repeated l.pattern (l.i * 256))
