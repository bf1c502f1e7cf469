use Rattle.std.proofs.Common.{ap, sym, ◌∙◌, arith}
use Rattle.clmodel.specs.Tree.{stmt}
use Rattle.lower_expr.specs.Scope.{Scope}
use Rattle.lower_code.specs.Variables.{scope_after, scope_after_all}
use Rattle.lower_code.proofs.Trees.{row_more, elements_there}
use Rattle.lower_code.proofs.variables.declare_all.Goals as goal

pub loop-i-preserved : goal.loop-i-preserved
loop-i-preserved c =
    c.in_ok-declare.ensures.declared
    ∙ ap (λ (s : Scope). scope_after s (stmt c.index-statements-i.result)) c.loop-i.invariant
    ∙ ap (λ ss. scope_after_all c.args.scope.now ss) (sym (row_more c.args.statements.now c.loop-i.i c.index-statements-i.result c.loop-i-test.true c.index-statements-i.is))

pub declare-requires : goal.declare-requires
declare-requires c =
    let most = elements_there c.args.statements.now c.loop-i.i c.index-statements-i.result c.loop-i-test.true c.index-statements-i.is in
    let few = c.requires in
    omega (arith, most, few)
