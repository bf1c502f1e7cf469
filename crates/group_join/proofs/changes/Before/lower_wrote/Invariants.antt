use Rattle.std.proofs.Common.{◌≡◌, ℕ, ◌<◌, ◌≤◌, List}
use Rattle.clmodel.specs.declared.access.Access.{Access}
use Rattle.clmodel.specs.declared.access.Region.TheVariants as region
use Rattle.joining.specs.Memory.{wrote}
use Rattle.shadow.specs.Seen.{IsFootprint}
use Rattle.group_join.proofs.changes.Before.lower_wrote.Given as goal

abbrev pub invariant-loop-byte : goal.invariant-loop-byte
invariant-loop-byte l =
    (log : List Access) → IsFootprint l.self.footprint.now log → (byte : ℕ) → l.x.first ≤ byte → byte < l.byte → wrote log (region.Buffer l.number) byte ≡ l.wrote
