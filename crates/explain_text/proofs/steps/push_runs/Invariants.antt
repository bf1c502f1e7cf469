use Rattle.std.proofs.Common.{◌≤◌, length, ◌-◌, string_bytes}
use Rattle.explain_text.specs.Texts.{AddsShown}
use Rattle.explain_text.proofs.steps.push_runs.Given as goal

abbrev pub invariant-loop-from : goal.invariant-loop-from
invariant-loop-from l = record { within : l.from ≤ length l.steps; shown : AddsShown l.steps 0 l.from (string_bytes l.fn.out) (string_bytes l.out) }

abbrev pub decreases-loop-from : goal.decreases-loop-from
decreases-loop-from l = length l.steps - l.from
