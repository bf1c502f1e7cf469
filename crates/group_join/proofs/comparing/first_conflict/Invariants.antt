use Rattle.std.proofs.Common.{List}
use Rattle.clmodel.specs.declared.access.Access.{Access}
use Rattle.shadow.specs.Seen.{IsFootprint}
use Rattle.group_join.specs.Meetings.{AreOthers, MissUpTo}
use Rattle.group_join.proofs.comparing.first_conflict.Given as goal

abbrev pub invariant-loop-place : goal.invariant-loop-place
invariant-loop-place g l =
    (kept : List Access) → IsFootprint l.footprint kept → AreOthers (g.L.GroupAccesses.listed l.log) kept → MissUpTo l.uniform (g.L.GroupAccesses.listed l.log) kept l.place
