use Rattle.std.proofs.Common.{◌≡◌, ◌-◌, length}
use Rattle.script_lines.proofs.Steps.{behind}
use Rattle.script_lines.specs.Reading.{bytes_at}
use Rattle.script_lines.proofs.numbers.bytes_at.Given as goal

abbrev pub invariant-loop : goal.invariant-loop
invariant-loop l = behind l.bytes.items (bytes_at l.kind (length l.text - l.counter) l.rest) ≡ bytes_at l.kind (length l.text) l.text
