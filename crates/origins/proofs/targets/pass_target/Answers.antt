use Rattle.std.proofs.Common.{ap}
use Rattle.clmodel.specs.Tree.{tree_target}
use Rattle.origins.proofs.Walking.{nothing}
use Rattle.origins.proofs.Settling.{settle, no_target_is, array_target_is, unknown_target_is, plain_target_is, pointed_is}
use Rattle.origins.proofs.targets.pass_target.Goals as goal

pub returns-in-Variable : goal.returns-in-Variable
returns-in-Variable c inside = settle inside _ _ _ _ (no_target_is c.args.names.now (tree_target c.args.target.now) c.in-Variable.at c.in-Variable.name (ap tree_target c.in-Variable.is)) (nothing inside c.args.left)

pub returns-in-Array : goal.returns-in-Array
returns-in-Array c inside =
    settle inside _ _ _ _ (array_target_is c.args.names.now (tree_target c.args.target.now) c.in-Element.at c.in-Element.name c.deref.result.now c.in-Element.index.value c.deref.ensures (ap tree_target c.in-Element.is) c.in-Array.ensures)
    (c.pass_expression.ensures inside)

pub returns-in-Unknown : goal.returns-in-Unknown
returns-in-Unknown c inside =
    settle inside _ _ _ _ (unknown_target_is c.args.names.now (tree_target c.args.target.now) c.in-Element.at c.in-Element.name c.deref-in-Unknown.result.now c.in-Element.index.value c.deref-in-Unknown.ensures (ap tree_target c.in-Element.is) c.in-Unknown.ensures)
    (c.pass_address.ensures inside)

pub returns-in-Plain : goal.returns-in-Plain
returns-in-Plain c inside =
    settle inside _ _ _ _ (plain_target_is c.args.names.now (tree_target c.args.target.now) c.in-Element.at c.in-Element.name c.deref-in-Plain.result.now c.in-Element.index.value c.deref-in-Plain.ensures (ap tree_target c.in-Element.is) c.in-Plain.ensures)
    (c.pass_address-in-Plain.ensures inside)

pub returns-in-Dereference : goal.returns-in-Dereference
returns-in-Dereference c inside =
    settle inside _ _ _ _ (pointed_is c.args.names.now (tree_target c.args.target.now) c.in-Dereference.at c.deref-in-Dereference.result.now c.in-Dereference.pointer.value c.deref-in-Dereference.ensures (ap tree_target c.in-Dereference.is))
    (c.then_own.ensures inside _ _ (c.pass_expression-in-Dereference.ensures inside))
