use Rattle.std.proofs.Common.{◌≡◌, ℕ, List, Bor, get_or, length, map, sym, arith}
use Rattle.std.proofs.lemmas.List.{length-map, get_or_default, get_or-map}
use Rattle.group_join.proofs.Zipped.{no_row, word_at, word_past}
use Rattle.group_join.proofs.changes.Before.lower_word.Goals as goal

pub returns-then-place-count : goal.returns-then-place-count
returns-then-place-count c =
    let before = c.args.self.now in
    let now = λ (row : Bor (List ℕ)). row.now in
    let rows = map now before.first.now in
    let many : length rows ≡ length before.first.now = length-map before.first.now now in
    let n = c.args.number in
    let row = (get_or before.first.now n no_row).now in
    let one = get_or before.lower.now n c.index-self-place.result in
    word_at rows before.lower.now n c.args.at row one c.changed_word.result (omega arith) (omega arith)
    (sym (get_or-map now before.first.now n no_row row (omega arith))) (get_or_default before.lower.now n c.index-self-place.result one (omega arith))
    c.changed_word.ensures

pub returns-else-place-count : goal.returns-else-place-count
returns-else-place-count c =
    let before = c.args.self.now in
    let now = λ (row : Bor (List ℕ)). row.now in
    let many : length (map now before.first.now) ≡ length before.first.now = length-map before.first.now now in
    word_past (map now before.first.now) before.lower.now c.args.number c.args.at (λ a b. omega arith)
