use Rattle.std.proofs.Common.{◌≡◌, ◌+◌, length, take}
use Rattle.group_log.proofs.rounds.add_steps.Given as goal

abbrev pub invariant-loop-k : goal.invariant-loop-k
invariant-loop-k l = (length l.steps.items ≡ length l.fn.steps.items + l.k) × (take (length l.fn.steps.items) l.steps.items ≡ l.fn.steps.items)
