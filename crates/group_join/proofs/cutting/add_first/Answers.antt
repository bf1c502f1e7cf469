use Rattle.std.proofs.Common.{◌+◌, ◌-◌, subst, sym, inl, inr, arith}
use Rattle.std.proofs.lemmas.Option.{slice_get-get_or}
use Rattle.group_join.proofs.Merged.{AddsPart, part_none, part_step, part_end}
use Rattle.group_join.proofs.cutting.add_first.Goals as goal

pub loop-run-init : goal.loop-run-init
loop-run-init c = part_none c.args.runs.now.items c.args.more.now c.args.count c.requires

pub loop-run-preserved : goal.loop-run-preserved
loop-run-preserved c =
    let first = c.first_of-first.result.0 in
    let taken = c.first_of-first.result.1 in
    subst (λ z. AddsPart c.args.runs.now.items z c.args.more.now (c.loop-run.run-index + 1) (c.loop-run.left - taken) c.args.count) (sym c.in_ok-push.ensures.items)
    (part_step c.args.runs.now.items c.loop-run.runs.items c.args.more.now c.loop-run.run-index c.loop-run.left c.args.count _ first taken
    (slice_get-get_or c.args.more.now c.loop-run.run-index _ c.loop-run-test.true) (omega (arith, c.if-left-eq0.false)) c.loop-run.invariant c.first_of-first.ensures)

pub returns-then-left-eq0 : goal.returns-then-left-eq0
returns-then-left-eq0 c =
    part_end c.args.runs.now.items c.loop-run.runs.items c.args.more.now c.loop-run.run-index c.loop-run.left c.args.count (inl c.if-left-eq0.true) c.loop-run.invariant

pub returns : goal.returns
returns c =
    part_end c.args.runs.now.items c.loop-run.runs.items c.args.more.now c.loop-run.run-index c.loop-run.left c.args.count (inr c.loop-run-test.false) c.loop-run.invariant
