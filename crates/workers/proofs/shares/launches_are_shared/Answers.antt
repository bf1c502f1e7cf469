use denote.Param.Send.{sendable, IsSync}
use denote.Param.SendFields.{declared_sync}
use Rattle.clmodel.specs.contracts.setup.Argument as Argument
use Rattle.clmodel.specs.contracts.setup.Range as Range
use Rattle.item_step.specs.contracts.launch.Launch as Launch
use Rattle.item_step.specs.contracts.local_objects.LocalObjects as LocalObjects
use Rattle.item_step.specs.contracts.setup.Setup as Setup
use Rattle.regcode.specs.contracts.code.Code as Code
use Rattle.std.specs.contracts.option.Option as Option
use Rattle.workers.proofs.shares.launches_are_shared.Goals as goal

pub returns : goal.returns
returns c ℓ =
    let tree = c.trees_are_shared.ensures in
    let range : IsSync Range.the_row = record { shared = c.is_shared.ensures.shared } in
    let argument : IsSync (Option.the_row Argument.the_row) = record { shared = c.is_shared-2.ensures.shared } in
    let code : IsSync Code.the_row = record { shared = c.is_shared-3.ensures.shared } in
    let setup = declared_sync (Setup.the_type ℓ) (search (sendable, tree), (search sendable, (search (sendable, range), (search (sendable, argument), (search sendable, tt))))) in
    let objects = declared_sync LocalObjects.the_type (record { shared = c.is_shared-6.ensures.shared }, (record { shared = c.is_shared-5.ensures.shared }, tt)) in
    declared_sync (Launch.the_type ℓ) (setup, (search (sendable, code), (record { shared = c.is_shared-7.ensures.shared }, (search sendable, (record { shared = c.is_shared-4.ensures.shared }, (record { shared = c.is_shared-6.ensures.shared }, (record { shared = c.is_shared-5.ensures.shared }, (objects, tt))))))))
