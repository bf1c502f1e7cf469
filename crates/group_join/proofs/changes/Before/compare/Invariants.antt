use Rattle.std.proofs.Common.{List, take, map}
use Rattle.clmodel.specs.declared.access.Access.{Access}
use Rattle.clmodel.specs.declared.access.Region.TheVariants as region
use Rattle.joining.specs.Memory.{wrote}
use Rattle.shadow.specs.Seen.{IsFootprint}
use Rattle.spaces.specs.Changes.{all_with_changes}
use Rattle.group_join.specs.Changes.{value_of, AreUpdates}
use Rattle.group_join.specs.Meetings.{AreOthers, MissUpTo}
use Rattle.group_join.proofs.changes.Before.compare.Given as goal

abbrev pub invariant-loop-place : goal.invariant-loop-place
invariant-loop-place g l =
    record {
      miss : (kept : List Access) → IsFootprint l.self.footprint.now kept → AreOthers (g.L.GroupAccesses.listed l.log) kept → MissUpTo l.uniform (g.L.GroupAccesses.listed l.log) kept l.place;
      updates : (kept : List Access) → IsFootprint l.self.footprint.now kept
          → AreUpdates (value_of (map (λ row. row.now) l.self.first.now) (all_with_changes (map (λ row. row.now) l.self.first.now) l.self.lower.now) (λ n b. wrote kept (region.Buffer n) b) (map (λ space. space.bytes) l.self.own.now)) (map (λ space. space.bytes) l.self.own.now)
          0 (take l.place (g.L.GroupAccesses.listed l.log)) l.updates.items;
    }
