use Rattle.cltypes_scope.proofs.Arguments.{flags_more}
use Rattle.cltypes_scope.proofs.flags.all_flags_fault.Goals as goal

pub loop-argument-preserved : goal.loop-argument-preserved
loop-argument-preserved c =
    flags_more c.args.arguments.now c.loop-argument.argument-index c.argument-item.result c.loop-argument.least c.flag_fault.result c.lesser-least.result
    c.loop-argument-test.true c.argument-item.is c.loop-argument.invariant c.flag_fault.ensures c.lesser-least.ensures
