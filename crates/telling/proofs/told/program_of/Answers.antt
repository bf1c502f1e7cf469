use Rattle.std.proofs.Common.{arith}
use Rattle.telling.proofs.Placing.{placed}
use Rattle.telling.proofs.told.program_of.Goals as goal

pub source_of-requires : goal.source_of-requires
source_of-requires c = omega (arith, c.requires)

pub returns-in-Some : goal.returns-in-Some
returns-in-Some c =
    placed c.args.launched.now.script c.args.launched.now.commands.now c.args.launched.now.done.now c.args.kernel.now c.in-Some.program
    c.in-Some.ensures.source c.in-Some.ensures.line
