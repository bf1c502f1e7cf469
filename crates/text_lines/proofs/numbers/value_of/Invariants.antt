use Rattle.std.proofs.Common.{◌≡◌, ◌<◌, drop}
use Rattle.text_lines.specs.Texts.{value_of, value_behind}
use Rattle.text_lines.proofs.numbers.value_of.Given as goal

abbrev pub invariant-loop-digit : goal.invariant-loop-digit
invariant-loop-digit l = record { small : l.value < 18446744073709551616; same : value_behind l.value (drop l.digit-index l.digits) ≡ value_of l.digits }
