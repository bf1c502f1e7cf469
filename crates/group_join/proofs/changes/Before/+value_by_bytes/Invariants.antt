use Rattle.group_join.proofs.changes.Before.+value_by_bytes.Given as goal

abbrev pub decreases-value_by_bytes : goal.decreases-value_by_bytes
decreases-value_by_bytes l = l.count
