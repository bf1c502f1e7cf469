-- With a function, the program may end.
use Rattle.std.proofs.Common.{◌≡◌, false, length, arith}
use Rattle.std.specs.Bool.{◌==◌}
use Rattle.clsyntax.proofs.Lists.{program_ends}
use Rattle.clsyntax.proofs.parser.whole.Goals as goal

pub returns-else-is_empty : goal.returns-else-is_empty
returns-else-is_empty c =
    let some : (length c.args.functions.items == 0) ≡ false = grind arith in
    rw c.in-Empty.is (program_ends c.args.functions.items c.args.length some)
