use Rattle.std.proofs.Common.{length, arith}
use Rattle.code_tables.proofs.Counted.{registers_within, names_end}
use Rattle.code_tables.proofs.tables.register_names.Goals as goal

pub rename-requires : goal.rename-requires
rename-requires c =
    registers_within c.args.code.now c.loop-instruction.instruction-index c.instruction-item.result (length c.loop-instruction.names.items)
    c.loop-instruction-test.true c.instruction-item.is c.loop-instruction.invariant.0

pub returns : goal.returns
returns c =
    let all = c.loop-instruction-test.false in
    names_end c.args.code.now c.loop-instruction.instruction-index c.loop-instruction.names.items (omega (arith, all)) c.loop-instruction.invariant.0 c.loop-instruction.invariant.1
