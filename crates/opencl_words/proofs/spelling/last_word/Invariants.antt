use Rattle.std.proofs.Common.{◌≡◌, drop}
use Rattle.std.specs.Prelude.{fold}
use Rattle.opencl_words.specs.Spelling.{with_byte, last_word}
use Rattle.opencl_words.proofs.spelling.last_word.Given as goal

abbrev pub invariant-loop-byte : goal.invariant-loop-byte
invariant-loop-byte l = fold with_byte l.word (drop l.byte-index l.bytes) ≡ last_word l.bytes
