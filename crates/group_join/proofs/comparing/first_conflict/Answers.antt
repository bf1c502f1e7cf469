use Rattle.std.proofs.Common.{◌≡◌, None, Some, sym, ◌∙◌, arith}
use Rattle.std.specs.Prelude.{slice_get}
use Rattle.shadow.specs.Seen.{met_at}
use Rattle.group_join.proofs.Entries.{entry_at, miss_at, miss_more, first_at}
use Rattle.group_join.proofs.comparing.first_conflict.Goals as goal
use Rattle.group_join.proofs.comparing.first_conflict.Goals.{then-not-is_clear+in_default, else-not-is_clear}

pub loop-place-preserved : goal.loop-place-preserved
loop-place-preserved g c = λ kept h others.
    let entries = (g.L.GroupAccesses.listed c.args.log.now) in
    let last = g.L.GroupAccesses.has_last c.args.log.now in
    let i = c.loop-place.place in
    let x = c.get-entry.result in
    let at : slice_get entries i ≡ Some x = entry_at entries i x (omega (arith, c.loop-place-test.true, c.len-count.ensures)) c.get-entry.ensures.value in
    let none : met_at c.args.uniform x.access.region x.access kept ≡ None =
    elim c.if-not-is_clear.branch [
      | then-not-is_clear+in_default w ↦ miss_at c.args.uniform last entries kept i x (sym (w.conflict_at.ensures kept h (others i x at)) ∙ w.in_default.is)
      | else-not-is_clear w ↦ c.is_clear.ensures w.if-not-is_clear.false kept h (others i x at)
    ]
    in
    miss_more c.args.uniform entries kept i x at none (c.loop-place.invariant kept h others)

pub returns-in-Some : goal.returns-in-Some
returns-in-Some g c = λ kept h others.
    let entries = (g.L.GroupAccesses.listed c.args.log.now) in
    let last = g.L.GroupAccesses.has_last c.args.log.now in
    let i = c.loop-place.place in
    let x = c.get-entry.result in
    let at : slice_get entries i ≡ Some x = entry_at entries i x (omega (arith, c.loop-place-test.true, c.len-count.ensures)) c.get-entry.ensures.value in
    first_at c.args.uniform last entries kept i x c.in-Some.met at (c.loop-place.invariant kept h others) (sym (c.conflict_at.ensures kept h (others i x at)) ∙ c.in-Some.is)

pub returns : goal.returns
returns g c = λ kept h others. λ k e b q. c.loop-place.invariant kept h others k e (omega (arith, b, c.loop-place-test.false, c.len-count.ensures)) q
