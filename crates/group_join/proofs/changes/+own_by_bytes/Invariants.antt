use Rattle.group_join.proofs.changes.+own_by_bytes.Given as goal

abbrev pub decreases-own_by_bytes : goal.decreases-own_by_bytes
decreases-own_by_bytes l = l.count
