use Rattle.std.proofs.Common.{Some, ◌∙◌}
use Rattle.clnum.specs.Integer.{converted}
use Rattle.clmodel.specs.Next as next
use Rattle.regcode.specs.Machine.{passed}
use Rattle.register_values.proofs.LeadingLaws.{leads_ok, leads_passed}
use Rattle.item_step.proofs.AskingLaws.{update_asks}
use Rattle.item_step.proofs.asking.update.Goals as goal

pub returns : goal.returns
returns c on after =
    let s = c.args.machine.now.state in
    leads_ok _ _ _ _ c.in_ok-pair.was (c.pointer_and_number.ensures (λ q n. next.update c.args.function q (converted n q.element) (after (passed s))))
    ∙ update_asks s c.args.function c.args.pointer (Some c.args.value) c.in_ok-pair.pair.0 _ _ _ after c.update_of.ensures c.convert-amount.ensures

pub returns-in_err-pair : goal.returns-in_err-pair
returns-in_err-pair c on after =
    let s = c.args.machine.now.state in
    leads_passed _ _ _ _ _ _ c.in_err-pair.was c.from_residual.ensures.1 (c.pointer_and_number.ensures (λ q n. next.update c.args.function q (converted n q.element) (after (passed s))))
