use Rattle.std.proofs.Common.{None, ◌∙◌, pos}
use Rattle.clnum.specs.Operations.{wrapped}
use Rattle.clmodel.specs.Next as next
use Rattle.regcode.specs.Machine.{passed}
use Rattle.register_values.proofs.LeadingLaws.{leads_ok, leads_passed}
use Rattle.item_step.proofs.AskingLaws.{update_asks}
use Rattle.item_step.proofs.asking.update_by_one.Goals as goal

pub returns : goal.returns
returns c on after =
    let s = c.args.machine.now.state in
    leads_ok _ _ _ _ c.in_ok-pointer.was (c.pointer_in.ensures (λ q. next.update c.args.function q (wrapped q.element (pos 1)) (after (passed s))))
    ∙ update_asks s c.args.function c.args.pointer None c.in_ok-pointer.pointer _ _ _ after c.update_of-operation.ensures c.wrapped-one.ensures

pub returns-in_err-pointer : goal.returns-in_err-pointer
returns-in_err-pointer c on after =
    let s = c.args.machine.now.state in
    leads_passed _ _ _ _ _ _ c.in_err-pointer.was c.from_residual.ensures.1 (c.pointer_in.ensures (λ q. next.update c.args.function q (wrapped q.element (pos 1)) (after (passed s))))
