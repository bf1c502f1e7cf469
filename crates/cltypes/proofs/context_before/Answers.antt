use Rattle.std.proofs.Common.{rules, ◌≡◌}
use Rattle.cltypes_scope.specs.Names.{with_function}
use Rattle.cltypes.proofs.Texts.{known_more}
use Rattle.cltypes.proofs.context_before.Goals as goal

pub loop-function-preserved : goal.loop-function-preserved
loop-function-preserved c =
    let added : c.add_function.new.self ≡ with_function c.loop-function.context c.function-item.result.name = search (rules, c.in_ok-add_function.ensures) in
    known_more c.args.limits c.loop-function.context c.add_function.new.self c.args.functions.now c.loop-function.function-index c.function-item.result
    c.loop-function-test.true c.function-item.is c.loop-function.invariant added
