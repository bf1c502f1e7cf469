use Rattle.std.proofs.Common.{◌≡◌, ◌-◌, ◌^◌, min, take}
use Rattle.clsyntax_lex.specs.Numbers as numbers
use Rattle.clsyntax_lex.proofs.numbers.value_of.Given as goal

abbrev pub invariant-loop-byte : goal.invariant-loop-byte
invariant-loop-byte l = l.value ≡ min (numbers.value_of l.radix (take l.byte-index l.digits)) (2 ^ 128 - 1)
