use Rattle.std.proofs.Common.{ap}
use Rattle.clmodel.specs.Tree.{tree_target, term}
use Rattle.origins.specs.Origins.{node_of}
use Rattle.origins.proofs.Settling.{settle, fetched_is, fetched_element_is, fetched_pointed_is}
use Rattle.origins.proofs.targets.pass_fetch.Goals as goal

pub returns-in-Variable : goal.returns-in-Variable
returns-in-Variable c inside =
    settle inside _ _ _ _ (fetched_is c.args.names.now (tree_target c.args.target.now) c.in-Variable.at c.in-Variable.name c.meaning_of.result (node_of c.args.node) c.meaning_of.ensures (ap tree_target c.in-Variable.is)) (c.pass_variable.ensures inside)

pub returns-in-Element : goal.returns-in-Element
returns-in-Element c inside =
    settle inside _ _ _ _ (fetched_element_is c.args.names.now (tree_target c.args.target.now) c.in-Element.at c.in-Element.name (term c.in-Element.index.value) (node_of c.args.node) (ap tree_target c.in-Element.is)) (c.pass_own.ensures inside)

pub returns-in-Dereference : goal.returns-in-Dereference
returns-in-Dereference c inside =
    settle inside _ _ _ _ (fetched_pointed_is c.args.names.now (tree_target c.args.target.now) c.in-Dereference.at (term c.in-Dereference.pointer.value) (node_of c.args.node) (ap tree_target c.in-Dereference.is)) (c.pass_own-in-Dereference.ensures inside)
