use Rattle.std.proofs.Common.{ℕ, ◌%◌, ◌<◌, ◌≤◌}
use Rattle.access_list.specs.Cells.{Passes}
use Rattle.access_list.specs.Recent.{in_word}
use Rattle.access_list.proofs.word.ListedWord.bytes_pass.Given as goal

abbrev pub invariant-loop-byte : goal.invariant-loop-byte
invariant-loop-byte l = (byte : ℕ) → l.first ≤ byte → byte < l.byte → Passes l.uniform (in_word l.apart l.self (byte % 4)) l.x byte
