use Rattle.std.proofs.Common.{◌≡◌, drop}
use Rattle.hint_rules.specs.Seen.{seen_behind, seen_of}
use Rattle.hint_rules.proofs.seen.seen_of.Given as goal

abbrev pub invariant-loop-token : goal.invariant-loop-token
invariant-loop-token l = seen_behind l.known (drop l.token-index l.tokens) ≡ seen_of l.tokens
