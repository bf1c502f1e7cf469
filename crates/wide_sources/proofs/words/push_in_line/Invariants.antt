use Rattle.std.proofs.Common.{◌≡◌, ◌++◌, ℕ, List}
use Rattle.wide_sources.specs.Words.{IsOneLine}
use Rattle.wide_sources.proofs.words.push_in_line.Given as goal

abbrev pub invariant-loop-byte : goal.invariant-loop-byte
invariant-loop-byte l = (line : List ℕ) × IsOneLine line × (l.out.items ≡ l.fn.out.items ++ line)
