use Rattle.std.proofs.Common.{◌≡◌, ◌==◌, ◌*◌, ◌≤◌, take}
use Rattle.std.specs.List.{count_by}
use Rattle.text_lines.proofs.feeds.feeds_in_blocks.Given as goal

abbrev pub invariant-loop-index : goal.invariant-loop-index
invariant-loop-index l = record { value : l.count ≡ count_by (λ byte. byte == 10) (take (128 * l.index) l.bytes); within : l.count ≤ 128 * l.index }
