use Rattle.std.proofs.Common.{sym, ap, ◌∙◌, subst}
use Rattle.clmodel.specs.Tree as tree
use Rattle.clmodel.specs.Tree.{term, terms}
use Rattle.clmodel.specs.Typing.Least.{first}
use Rattle.clmodel.specs.Typing.Faults.{value_faults}
use Rattle.cltypes_scope.specs.Answers.{Checks}
use Rattle.cltypes_scope.specs.Views.{operand_of}
use Rattle.clmodel.proofs.Trees.{call_view}
use Rattle.cltypes_scope.proofs.values.check_value.Goals as goal

pub returns-in-Call : goal.returns-in-Call
returns-in-Call c =
    let e = c.in-Call in
    let x = c.args.context.now in
    let is = ap term e.is ∙ call_view e.at e.name e.arguments ∙ ap (λ z. tree.Call e.at e.name (terms z)) (sym c.deref.ensures.value) in
    subst (λ z. Checks c.check_call.result (first (value_faults x z)) (operand_of x z)) (sym is) c.check_call.ensures
