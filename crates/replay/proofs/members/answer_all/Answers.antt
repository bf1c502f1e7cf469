use Rattle.std.proofs.Common.{◌≡◌, ◌<◌, length, refl, arith, subst}
use Rattle.std.proofs.lemmas.Option.{slice_get_read}
use Rattle.clmodel.specs.declared.action.Answer.TheVariants.{Done}
use Rattle.replay.specs.Items.{AreAnswered}
use Rattle.replay.proofs.Playing.{no_launch}
use Rattle.replay.proofs.Walks.{answered_none, answered_more, asked_still}
use Rattle.replay.proofs.members.answer_all.Goals as goal

pub loop-item-init : goal.loop-item-init
loop-item-init c = λ l. answered_none l c.args.first Done c.args.items.now.items

pub index_mut-requires : goal.index_mut-requires
index_mut-requires c = let many = (c.loop-item.invariant no_launch).many in omega (arith, c.loop-item-test.true, many, c.requires.inside)

pub answer-requires : goal.answer-requires
answer-requires c =
    let xs = c.loop-item.items.items in
    let k = c.loop-item.item in
    let many = (c.loop-item.invariant no_launch).many in
    let inside : k < length xs = omega (arith, c.loop-item-test.true, many, c.requires.inside) in
    let there = slice_get_read xs (length xs) k c.index_mut.result.now refl inside c.index_mut.ensures.value in
    asked_still no_launch c.args.first c.args.end Done c.args.items.now.items xs k c.index_mut.result.now c.loop-item.auto.item c.loop-item-test.true there c.requires.asked (c.loop-item.invariant no_launch)

pub loop-item-preserved : goal.loop-item-preserved
loop-item-preserved c =
    let xs = c.loop-item.items.items in
    let k = c.loop-item.item in
    let x = c.index_mut.result.now in
    let many = (c.loop-item.invariant no_launch).many in
    let inside : k < length xs = omega (arith, c.loop-item-test.true, many, c.requires.inside) in
    let there = slice_get_read xs (length xs) k x refl inside c.index_mut.ensures.value in
    λ l. answered_more l c.args.first Done c.args.items.now.items xs k x c.answer.new.slot c.loop-item.auto.item there
    (record { acts = c.answer.ensures.answered l k; runs = c.answer.ensures.runs }) (c.loop-item.invariant l)

pub returns : goal.returns
returns c = λ l.
    let e : c.loop-item.item ≡ c.args.end = omega (arith, c.loop-item-test.false, c.loop-item.auto.item-end, c.requires.order) in
    subst (λ z. AreAnswered l c.args.first z Done c.args.items.now.items c.loop-item.items.items) e (c.loop-item.invariant l)
