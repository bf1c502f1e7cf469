use Rattle.std.proofs.Common.{◌≡◌, ◌*◌, ◌++◌, take, drop}
use Rattle.simfile.specs.Fields.{bytes_of}
use Rattle.simfile.proofs.fields.read_pairs.Given as goal

abbrev pub invariant-loop-index : goal.invariant-loop-index
invariant-loop-index l = take l.index l.bytes ++ bytes_of (drop (2 * l.index) l.digits) ≡ bytes_of l.digits
