use Rattle.std.proofs.Common.{Some, ◌∙◌}
use Rattle.clnum.specs.Integer.{converted}
use Rattle.clmodel.specs.Next as next
use Rattle.clmodel.specs.declared.operand.Operand.{Operand}
use Rattle.regcode.specs.Machine.{with_put}
use Rattle.regcode.specs.declared.instruction.FetchOperands.TheVariants as operands
use Rattle.register_values.proofs.LeadingLaws.{leads_ok, leads_passed}
use Rattle.item_step.proofs.AskingLaws.{fetch_asks}
use Rattle.item_step.proofs.asking.fetch_if_equal.Goals as goal

pub returns : goal.returns
returns c to on after =
    let s = c.args.machine.now.state in
    leads_ok _ _ _ _ c.in_ok-three.was (c.compared.ensures (λ q m n. next.fetch_number c.args.function q (converted m q.element) (converted n q.element) (λ (v : Operand). after (with_put s to (Some v)))))
    ∙ fetch_asks s to c.args.function c.args.registers.pointer (operands.Pair c.args.registers.expected c.args.registers.value) c.in_ok-three.three.0 _ _ _ _ _ after c.fetch_of.ensures c.convert-wanted.ensures c.convert-amount.ensures

pub returns-in_err-three : goal.returns-in_err-three
returns-in_err-three c to on after =
    let s = c.args.machine.now.state in
    leads_passed _ _ _ _ _ _ c.in_err-three.was c.from_residual.ensures.1 (c.compared.ensures (λ q m n. next.fetch_number c.args.function q (converted m q.element) (converted n q.element) (λ (v : Operand). after (with_put s to (Some v)))))
