use Rattle.std.proofs.Crossing.{Vec-sync}
use denote.Param.SendFields.{declared_sync}
use Rattle.clmodel.specs.contracts.tree.Tree as Tree
use Rattle.workers.proofs.shares.trees_are_shared.Goals as goal

pub returns : goal.returns
returns c = declared_sync Tree.the_type (record { shared = (Vec-sync _ c.functions_are_shared.ensures).shared }, (record { shared = c.is_shared.ensures.shared }, tt))
