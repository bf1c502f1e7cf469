use Rattle.std.proofs.Common.{◌≡◌, ◌+◌, ◌-◌}
use Rattle.clmodel.specs.Cells.{byte_count}
use Rattle.access_list.specs.Log.{hit_from}
use Rattle.group_log.proofs.progressions.Progressions.hit.Given as goal

abbrev pub invariant-loop-byte : goal.invariant-loop-byte
invariant-loop-byte l =
    hit_from l.rule l.x l.self.items l.x.access.first (byte_count l.x.access.width)
    ≡ hit_from l.rule l.x l.self.items l.byte (l.x.access.first + byte_count l.x.access.width - l.byte)
