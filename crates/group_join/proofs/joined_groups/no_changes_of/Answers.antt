use Rattle.std.proofs.Common.{ℕ, List, map, arith}
use denote.Bor.{Bor}
use Rattle.std.proofs.lemmas.List.{length-map}
use Rattle.group_join.proofs.Zipped.{nothing_changed}
use Rattle.group_join.proofs.joined_groups.no_changes_of.Goals as goal

pub returns : goal.returns
returns c =
    let now = λ (row : Bor (List ℕ)). row.now in
    nothing_changed (map now c.args.rows.now) c.loop.changes.items (omega (arith, length-map c.args.rows.now now, c.loop.invariant.many, c.loop-test.false, c.loop.auto.counter-end)) c.loop.invariant.none
