use Rattle.std.proofs.Common.{◌≡◌, None, arith}
use Rattle.std.proofs.lemmas.Grind.{common_steps}
use Rattle.clmodel.specs.Cells.{cells_of, byte_count, number}
use Rattle.group_join.proofs.Numbers.{not_loaded}
use Rattle.group_join.proofs.changes.number_in.Goals as goal

pub returns-in-Err-clause-value : goal.returns-in-Err-clause-value
returns-in-Err-clause-value c =
    let z : number (cells_of c.in-Some.space.now.bytes) c.args.at (byte_count c.args.width) ≡ None
    = not_loaded c.in-Some.space.now.bytes c.args.at c.args.width c.in-Err.field-0 c.in-Err.ensures in
    grind (arith, common_steps, z)
