use Rattle.std.proofs.Common.{◌≡◌, ◌<◌, length, refl, arith}
use Rattle.std.proofs.lemmas.List.{length-set}
use Rattle.std.proofs.lemmas.Option.{slice_get_read}
use Rattle.clmodel.specs.declared.action.Answer.TheVariants.{Done}
use Rattle.group_run.proofs.Items.{answers_more, answers_all}
use Rattle.group_run.specs.Items.{acts_at}
use Rattle.group_run.proofs.group.answer_all.Goals as goal

pub loop-k-preserved : goal.loop-k-preserved
loop-k-preserved g c =
    let xs = c.loop-k.items.items in
    let k = c.loop-k.k in
    let x = c.index_mut.result.now in
    let inside : k < length xs = omega (arith, c.loop-k-test.true, c.len-k-end.ensures, c.loop-k.invariant.many) in
    answers_more (acts_at (g.D.Described.launch c.args.launch.now) c.args.first) Done c.args.items.now.items xs k x c.answer_item.new.slot (length-set xs k c.answer_item.new.slot)
    (slice_get_read xs (length xs) k x refl inside c.index_mut.ensures.value) c.in_ok-answer_item.ensures c.loop-k.invariant

pub returns-clause-answered : goal.returns-clause-answered
returns-clause-answered g c =
    let all : c.loop-k.k ≡ length c.args.items.now.items = omega (arith, c.loop-k-test.false, c.loop-k.auto.k-end, c.len-k-end.ensures) in
    answers_all (acts_at (g.D.Described.launch c.args.launch.now) c.args.first) Done c.args.items.now.items c.loop-k.items.items c.loop-k.k all c.loop-k.invariant
