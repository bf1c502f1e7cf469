use Rattle.std.proofs.Common.{◌≡◌, drop}
use Rattle.spaces.specs.Changes.{table_with_changes}
use Rattle.spaces.proofs.changes.Table+Bytes.write_all_changes.Given as goal

-- the table so far with the changes that are left is that with all changes
abbrev pub invariant-loop-place : goal.invariant-loop-place
invariant-loop-place l = table_with_changes l.self (drop l.place l.names) (drop l.place l.changes) ≡ table_with_changes l.fn.self l.names l.changes
