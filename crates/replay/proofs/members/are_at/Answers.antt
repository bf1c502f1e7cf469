use Rattle.std.proofs.lemmas.Bool.{false≢true}
use Rattle.replay.proofs.Walks.{there_still, alike_next, asked_all, asked_more, at_more, at_not}
use Rattle.replay.proofs.members.are_at.Goals as goal

pub returns-in_err-is_at-clause-same : goal.returns-in_err-is_at-clause-same
returns-in_err-is_at-clause-same g c =
    alike_next (g.D.Described.launch c.args.launch.now) (g.D.Runnable.started c.args.launch.now) _ _ _ _ _ _ c.loop-item-test.true c.requires c.index_mut.ensures.value
    (record { acts = c.is_at.ensures.same; runs = c.is_at.ensures.runs }) c.loop-item.invariant.alike

pub returns-then-not-branch-clause-same : goal.returns-then-not-branch-clause-same
returns-then-not-branch-clause-same g c =
    alike_next (g.D.Described.launch c.args.launch.now) (g.D.Runnable.started c.args.launch.now) _ _ _ _ _ _ c.loop-item-test.true c.requires c.index_mut.ensures.value
    (record { acts = c.is_at.ensures.same; runs = c.is_at.ensures.runs }) c.loop-item.invariant.alike

pub returns-then-not-branch-clause-value : goal.returns-then-not-branch-clause-value
returns-then-not-branch-clause-value g c =
    let l = g.D.Described.launch c.args.launch.now in
    let r = g.D.Runnable.started c.args.launch.now in
    let there = there_still l r _ _ _ _ _ c.loop-item-test.true c.requires c.index_mut.ensures.value c.loop-item.invariant.alike in
    at_not l r _ _ _ _ _ _ _ _ c.loop-item.auto.item c.loop-item-test.true there c.in_ok-is_at.ensures.value c.if-not-branch.true c.loop-item.invariant.alike

pub returns-then-not-branch-clause-asked : goal.returns-then-not-branch-clause-asked
returns-then-not-branch-clause-asked g c = λ yes. absurd (false≢true yes)

pub returns-clause-asked : goal.returns-clause-asked
returns-clause-asked g c = λ yes. asked_all _ _ _ _ c.loop-item-test.false c.loop-item.invariant.asked

pub loop-item-preserved : goal.loop-item-preserved
loop-item-preserved g c =
    let l = g.D.Described.launch c.args.launch.now in
    let r = g.D.Runnable.started c.args.launch.now in
    let there = there_still l r _ _ _ _ _ c.loop-item-test.true c.requires c.index_mut.ensures.value c.loop-item.invariant.alike in
    record {
      alike = alike_next l r _ _ _ _ _ _ c.loop-item-test.true c.requires c.index_mut.ensures.value (record { acts = c.is_at.ensures.same; runs = c.is_at.ensures.runs })
          c.loop-item.invariant.alike;
      asked = asked_more _ _ _ _ c.in_ok-is_at.ensures.asked c.loop-item.invariant.asked;
      at = at_more l r _ _ _ _ _ _ _ there c.in_ok-is_at.ensures.value c.if-not-branch.false c.loop-item.invariant.alike c.loop-item.invariant.at;
    }
