use Rattle.std.proofs.Common.{length, arith}
use Rattle.code_tables.proofs.Counted.{array_within, lengths_end}
use Rattle.code_tables.proofs.tables.lengths_of.Goals as goal

pub raise-requires : goal.raise-requires
raise-requires c =
    array_within c.args.code.now c.loop-instruction.instruction-index c.instruction-item.result (length c.loop-instruction.lengths.items)
    c.loop-instruction-test.true c.instruction-item.is c.loop-instruction.invariant.0

pub returns : goal.returns
returns c =
    let all = c.loop-instruction-test.false in
    lengths_end c.args.code.now c.loop-instruction.instruction-index c.loop-instruction.lengths.items (omega (arith, all)) c.loop-instruction.invariant.0 c.loop-instruction.invariant.1
