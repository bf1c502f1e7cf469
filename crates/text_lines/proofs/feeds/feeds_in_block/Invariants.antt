use Rattle.std.proofs.Common.{◌≡◌, ◌==◌, ◌≤◌, take}
use Rattle.std.specs.List.{count_by}
use Rattle.text_lines.proofs.feeds.feeds_in_block.Given as goal

abbrev pub invariant-loop-byte : goal.invariant-loop-byte
invariant-loop-byte l = record { value : l.count ≡ count_by (λ byte. byte == 10) (take l.byte-index l.block); within : l.count ≤ l.byte-index }
