use Rattle.std.specs.HashMap.{get}
use Rattle.std.proofs.Common.{ℕ}
use Rattle.replay.specs.Spots.{Finds, IsOther, partner_at, same_spot}
use Rattle.replay.specs.declared.conflicts.ObjectInterval.{ObjectInterval}
use Rattle.replay.proofs.conflicts.firsts_of.Given as goal

abbrev pub invariant-loop-number : goal.invariant-loop-number
invariant-loop-number l =
    (spot : ObjectInterval) (left : ℕ)
    → Finds (partner_at l.rule.uniform (get same_spot l.firsts spot) left) (IsOther l.partner.item l.partner.kind l.place.location.now l.place.byte l.rule l.log l.number spot left)
