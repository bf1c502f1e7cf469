use Rattle.std.proofs.Common.{◌≡◌, ◌+◌, count_by, take}
use Rattle.fault_play.specs.PlayedOut.{is_access}
use Rattle.fault_play.proofs.played.event_of.Given as goal

abbrev pub invariant-loop-number : goal.invariant-loop-number
invariant-loop-number l = l.left + count_by (λ mark. is_access mark.event) (take l.number l.marks) ≡ l.access
