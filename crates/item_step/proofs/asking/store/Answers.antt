use Rattle.std.proofs.Common.{◌∙◌}
use Rattle.clmodel.specs.Next as next
use Rattle.clmodel.specs.declared.operand.Operand.TheVariants.{Integral}
use Rattle.regcode.specs.Machine.{passed}
use Rattle.register_values.proofs.LeadingLaws.{leads_ok, leads_passed}
use Rattle.item_step.proofs.AskingLaws.{stores_number, store_asks}
use Rattle.item_step.proofs.asking.store.Goals as goal

pub returns : goal.returns
returns c on after =
    let s = c.args.machine.now.state in
    stores_number c.args.machine.now.given s c.args.pointer c.args.value on after
    ∙ leads_ok _ _ _ _ c.in_ok-pair.was (c.pointer_and_number.ensures (λ q n. next.store q (Integral n) (after (passed s))))
    ∙ store_asks s c.args.pointer c.args.value c.in_ok-pair.pair.0 c.in_ok-pair.pair.1 _ after c.store_of.ensures

pub returns-in_err-pair : goal.returns-in_err-pair
returns-in_err-pair c on after =
    let s = c.args.machine.now.state in
    rw (stores_number c.args.machine.now.given s c.args.pointer c.args.value on after)
    (leads_passed _ _ _ _ _ _ c.in_err-pair.was c.from_residual.ensures.1 (c.pointer_and_number.ensures (λ q n. next.store q (Integral n) (after (passed s)))))
