use Rattle.std.proofs.Common.{◌≡◌, ◌≢◌, ◌≤◌, All, length, drop, vec_len}
use Rattle.std.specs.Io.{StartsWith}
use Rattle.std.specs.Io.KnownBytes.{Consumes}
use Rattle.byte_io.proofs.lines.read_line.Given as goal

abbrev pub invariant-loop : goal.invariant-loop
invariant-loop g l = (l.start ≡ vec_len l.initial.line) × (l.start ≤ vec_len l.line) × StartsWith l.line.items l.initial.line.items
    × All (λ x. x ≢ 10) (drop (length l.initial.line.items) l.line.items)
    × Consumes (g.R.Read.remaining l.initial.reader) (g.R.Read.remaining l.reader) (drop (length l.initial.line.items) l.line.items)
