use Rattle.std.proofs.Common.{◌≡◌, ◌*◌, true, take}
use Rattle.std.specs.List.{list_all}
use Rattle.simfile.specs.Fields.{is_hex_digit}
use Rattle.simfile.proofs.fields.hex_blocks.Given as goal

abbrev pub invariant-loop-index : goal.invariant-loop-index
invariant-loop-index l = list_all is_hex_digit (take (128 * l.index) l.bytes) ≡ true
