use Rattle.std.proofs.Common.{◌≡◌, ℕ, ◌<◌, ◌%◌, length, get_or}
use Rattle.spaces.proofs.buffers.block_of.Given as goal

abbrev pub invariant-loop-byte : goal.invariant-loop-byte
invariant-loop-byte l = (length l.block ≡ 256) × ((k : ℕ) → k < l.byte → get_or l.block k 0 ≡ get_or l.pattern (k % length l.pattern) 0)
