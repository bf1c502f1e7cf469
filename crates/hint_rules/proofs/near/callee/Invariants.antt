use Rattle.std.proofs.Common.{◌≡◌, ◌-◌, length}
use Rattle.hint_rules.specs.Callee.{callee_before, callee}
use Rattle.hint_rules.proofs.near.callee.Given as goal

abbrev pub invariant-loop-back : goal.invariant-loop-back
invariant-loop-back l = callee_before l.tokens l.closed (length l.tokens - l.back) ≡ callee l.tokens
