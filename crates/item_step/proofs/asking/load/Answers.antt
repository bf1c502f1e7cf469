use Rattle.std.proofs.Common.{◌∙◌}
use Rattle.register_values.proofs.LeadingLaws.{leads_ok, leads_passed}
use Rattle.item_step.proofs.AskingLaws.{load_asks}
use Rattle.item_step.proofs.asking.load.Goals as goal

pub returns : goal.returns
returns c to on after = leads_ok _ _ _ _ c.in_ok-pointer.was (c.pointer_in.ensures _) ∙ load_asks c.args.machine.now.state to c.args.pointer c.in_ok-pointer.pointer _ after c.load_of-operation.ensures

pub returns-in_err-pointer : goal.returns-in_err-pointer
returns-in_err-pointer c to on after = leads_passed _ _ _ _ _ _ c.in_err-pointer.was c.from_residual.ensures.1 (c.pointer_in.ensures _)
