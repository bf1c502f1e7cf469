use Rattle.std.proofs.Common.{◌≡◌, ◌-◌}
use Rattle.group_traces.specs.Traces.{single_byte}
use Rattle.group_traces.proofs.Parts.{AreWith}
use Rattle.group_traces.proofs.single.Singles.with.Given as goal

abbrev pub invariant-loop-byte : goal.invariant-loop-byte
invariant-loop-byte l =
    (l.singles.who.interval ≡ l.initial.singles.who.interval) × (l.singles.how.kind ≡ l.initial.singles.how.kind) × AreWith l.x l.first (l.byte - l.first) (single_byte l.initial.singles) (single_byte l.singles)
