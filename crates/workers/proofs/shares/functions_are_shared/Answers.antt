use denote.Param.Send.{sendable}
use denote.Param.SendFields.{declared_sync}
use Rattle.clmodel.specs.contracts.tree.Function as Function
use Rattle.workers.proofs.shares.functions_are_shared.Goals as goal

pub returns : goal.returns
returns c =
    declared_sync Function.the_type
    (search sendable, (record { shared = c.is_shared.ensures.shared }, (search sendable, (search sendable, (record { shared = c.is_shared-2.ensures.shared }, (search sendable, (record { shared = c.is_shared-3.ensures.shared }, tt)))))))
