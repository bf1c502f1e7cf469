use Rattle.std.proofs.Common.{◌≡◌, ℕ, ◌%◌, ◌<◌, ◌≤◌, true}
use Rattle.shadow.specs.Seen.{mark_of}
use Rattle.group_traces.specs.Cells.{word_trace}
use Rattle.group_traces.specs.Traces.{passes, tells, takes}
use Rattle.group_traces.proofs.cell.TracedWord.bytes_sight.Given as goal

abbrev pub invariant-loop-byte : goal.invariant-loop-byte
invariant-loop-byte l =
    (l.sight.clear ≡ true → (b : ℕ) → l.first ≤ b → b < l.byte → passes l.uniform (word_trace l.apart l.key l.n l.self (b % 4)) l.x.interval (mark_of l.x b) ≡ true)
    × (l.sight.told ≡ true → (b : ℕ) → l.first ≤ b → b < l.byte → tells (word_trace l.apart l.key l.n l.self (b % 4)) l.x.interval (mark_of l.x b) ≡ true)
    × (l.sight.taken ≡ true → (b : ℕ) → l.first ≤ b → b < l.byte → takes (word_trace l.apart l.key l.n l.self (b % 4)) (mark_of l.x b) ≡ true)
