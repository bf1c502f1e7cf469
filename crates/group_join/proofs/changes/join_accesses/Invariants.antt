use Rattle.std.proofs.Common.{◌≡◌, true, ℕ, ◌≤◌, List, ◌++◌, length, take, drop, map}
use Rattle.clmodel.specs.declared.access.Access.{Access}
use Rattle.group_run.specs.Logs.{accesses_of}
use Rattle.shadow.specs.Seen.{IsFootprint}
use Rattle.spaces.specs.Changes.{all_with_changes}
use Rattle.group_join.specs.Changes.{AreChanged, AreUpdates, AllWroteBytes, changes_of}
use Rattle.group_join.proofs.changes.join_accesses.Given as goal

-- the changes so far are made, the updates from the next on are those of the later accesses, and the accesses so far
-- are added
abbrev pub invariant-loop-place : goal.invariant-loop-place
invariant-loop-place g l =
    record {
      order : l.next ≤ l.place;
      many : length l.changes ≡ length l.initial.changes;
      changed : (value : ℕ → Access → ℕ → ℕ) → AllWroteBytes (map (λ space. space.bytes) l.own) (g.L.GroupAccesses.listed l.log)
          → AreUpdates value (map (λ space. space.bytes) l.own) 0 (g.L.GroupAccesses.listed l.log) l.updates
          → AreChanged (all_with_changes (map (λ row. row.now) l.first) l.initial.changes) (all_with_changes (map (λ row. row.now) l.first) l.changes) (changes_of value (take l.place (g.L.GroupAccesses.listed l.log)))
          × AreUpdates value (map (λ space. space.bytes) l.own) l.place (drop l.place (g.L.GroupAccesses.listed l.log)) (drop l.next l.updates);
      marked : l.further ≡ true → (kept : List Access) → IsFootprint l.initial.footprint kept → IsFootprint l.footprint (accesses_of (take l.place (g.L.GroupAccesses.listed l.log)) ++ kept);
    }
