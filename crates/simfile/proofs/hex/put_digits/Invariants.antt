use Rattle.std.proofs.Common.{◌≡◌, ◌*◌, take}
use Rattle.std.specs.List.{flat_map}
use Rattle.simfile.specs.Fields.{byte_text}
use Rattle.simfile.proofs.hex.put_digits.Given as goal

abbrev pub invariant-loop-index : goal.invariant-loop-index
invariant-loop-index l = take (2 * l.index) l.text ≡ flat_map byte_text (take l.index l.bytes)
