use Rattle.std.proofs.Common.{rules, to_z, of_z, w64, ◌≡◌, ◌∙◌, ap, sym, subst, arith}
use Rattle.std.proofs.lemmas.Result.{IfOk-weaker}
use Rattle.clmodel.specs.Run.{stop_of}
use Rattle.clmodel.specs.declared.action.Action.TheVariants as action
use Rattle.replay.specs.States.{ActsNext}
use Rattle.ordered_play.specs.Stepping.{CannotGo}
use Rattle.ordered_play.proofs.Accesses.{failed}
use Rattle.ordered_play.proofs.stepping.step_item.Goals as goal

pub access_item-requires : goal.access_item-requires
access_item-requires g c =
    let l = g.D.Described.launch c.args.launch.now in
    let r = g.D.Runnable.started c.args.launch.now in
    let s = c.requires.0 in
    let back : to_z w64 (of_z w64 c.in-Some-Access.element) ≡ c.in-Some-Access.element = search rules in
    let next = subst (ActsNext l s c.args.item) c.in-Some-Access.is (c.in_ok-object.ensures.value l r s c.requires.1) in
    (s, c.action.ensures.same l r s c.requires.1, c.requires.2, next.1 ∙ c.in-Some-Access.field-0-is ∙ ap (λ z. action.Access c.in-Some-Access.object z c.in-Some-Access.operation) (sym back))

pub returns-in-Some-Access : goal.returns-in-Some-Access
returns-in-Some-Access g c =
    let l = g.D.Described.launch c.args.launch.now in
    let r = g.D.Runnable.started c.args.launch.now in
    let back : to_z w64 (of_z w64 c.in-Some-Access.element) ≡ c.in-Some-Access.element = search rules in
    IfOk-weaker c.access_item.result _ _
    (λ x h. λ s at.
    let next = subst (ActsNext l s c.args.item) c.in-Some-Access.is (c.in_ok-object.ensures.value l r s at) in
    h s (c.action.ensures.same l r s at) (next.1 ∙ c.in-Some-Access.field-0-is ∙ ap (λ z. action.Access c.in-Some-Access.object z c.in-Some-Access.operation) (sym back)))
    c.access_item.ensures

pub returns-in-Some-Barrier : goal.returns-in-Some-Barrier
returns-in-Some-Barrier g c = λ s at.
    let l = g.D.Described.launch c.args.launch.now in
    let r = g.D.Runnable.started c.args.launch.now in
    let next = subst (ActsNext l s c.args.item) c.in-Some-Barrier.is (c.in_ok-object.ensures.value l r s at) in
    (ap stop_of (next.1 ∙ c.in-Some-Barrier.field-0-is), c.action.ensures.same l r s at)

pub returns-in-Some-End : goal.returns-in-Some-End
returns-in-Some-End g c = λ s at.
    let l = g.D.Described.launch c.args.launch.now in
    let r = g.D.Runnable.started c.args.launch.now in
    let next = subst (ActsNext l s c.args.item) c.in-Some-End.is (c.in_ok-object.ensures.value l r s at) in
    (ap stop_of (next.1 ∙ c.in-Some-End.field-0-is), c.action.ensures.same l r s at)

pub returns-in_ok-fault_of-in-Some-Fault : goal.returns-in_ok-fault_of-in-Some-Fault
returns-in_ok-fault_of-in-Some-Fault g c = λ s at.
    let l = g.D.Described.launch c.args.launch.now in
    let r = g.D.Runnable.started c.args.launch.now in
    let next = subst (ActsNext l s c.args.item) c.in-Some-Fault.is (c.in_ok-object.ensures.value l r s at) in
    (subst (CannotGo l s c.args.item) (sym c.in_ok-fault_of-in-Some-Fault.ensures) (failed l s c.args.item c.in-Some-Fault.cause next.0 (next.1 ∙ c.in-Some-Fault.field-0-is)), c.action.ensures.same l r s at)

pub unreachable-requires : goal.unreachable-requires
unreachable-requires g c =
    let l = g.D.Described.launch c.args.launch.now in
    let r = g.D.Runnable.started c.args.launch.now in
    let past = subst (ActsNext l c.requires.0 c.args.item) c.in-None.is (c.in_ok-object.ensures.value l r c.requires.0 c.requires.1) in
    omega (arith, past, c.requires.2)
