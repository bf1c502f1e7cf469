use Rattle.std.proofs.Common.{◌≡◌, map, take, string_bytes}
use Rattle.explanation.specs.Lines.{told_byte}
use Rattle.explanation.proofs.lines.ascii_line.Given as goal

abbrev pub invariant-loop-byte : goal.invariant-loop-byte
invariant-loop-byte l = string_bytes l.text ≡ map told_byte (take l.byte-index l.line)
