use Rattle.std.proofs.Common.{Some, pos, ◌∙◌}
use Rattle.clnum.specs.Integer.{converted}
use Rattle.clnum.specs.Operations.{wrapped}
use Rattle.clmodel.specs.Next as next
use Rattle.clmodel.specs.declared.operand.Operand.{Operand}
use Rattle.regcode.specs.Machine.{with_put}
use Rattle.regcode.specs.declared.instruction.FetchOperands.TheVariants as operands
use Rattle.register_values.proofs.LeadingLaws.{leads_ok, leads_passed}
use Rattle.item_step.proofs.AskingLaws.{fetch_asks}
use Rattle.item_step.proofs.asking.fetch.Goals as goal

pub returns : goal.returns
returns c to on after =
    let s = c.args.machine.now.state in
    leads_ok _ _ _ _ c.in_ok-pair.was (c.pointer_and_number.ensures (λ q n. next.fetch_number c.args.function q (wrapped q.element (pos 0)) (converted n q.element) (λ (v : Operand). after (with_put s to (Some v)))))
    ∙ fetch_asks s to c.args.function c.args.pointer (operands.Number c.args.value) c.in_ok-pair.pair.0 _ _ _ _ _ after c.fetch_of.ensures c.wrapped-none.ensures c.convert-amount.ensures

pub returns-in_err-pair : goal.returns-in_err-pair
returns-in_err-pair c to on after =
    let s = c.args.machine.now.state in
    leads_passed _ _ _ _ _ _ c.in_err-pair.was c.from_residual.ensures.1 (c.pointer_and_number.ensures (λ q n. next.fetch_number c.args.function q (wrapped q.element (pos 0)) (converted n q.element) (λ (v : Operand). after (with_put s to (Some v)))))
