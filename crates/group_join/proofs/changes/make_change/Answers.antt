use Rattle.std.proofs.Common.{◌≡◌, ℕ, List, Bor, get_or, length, map, sym, arith}
use Rattle.std.proofs.lemmas.List.{length-map, get_or_default, get_or-map}
use Rattle.group_join.proofs.Zipped.{no_row, on_put, nothing_put}
use Rattle.group_join.proofs.changes.make_change.Goals as goal

pub returns-then-number-count-clause-changed : goal.returns-then-number-count-clause-changed
returns-then-number-count-clause-changed c =
    let first = c.args.first.now in
    let changes = c.args.changes.now in
    let now = λ (row : Bor (List ℕ)). row.now in
    let rows = map now first in
    let many : length rows ≡ length first = length-map first now in
    let n = c.args.change.buffer in
    let row = (get_or first n no_row).now in
    let one = get_or changes n c.index-changes-number.result in
    on_put c.put.result rows changes c.args.change row one c.put.new.self (omega arith) (omega arith)
    (sym (get_or-map now first n no_row row (omega arith))) (get_or_default changes n c.index-changes-number.result one (omega arith)) c.put.ensures.put

pub returns-else-number-count-clause-changed : goal.returns-else-number-count-clause-changed
returns-else-number-count-clause-changed c =
    let first = c.args.first.now in
    let now = λ (row : Bor (List ℕ)). row.now in
    let many : length (map now first) ≡ length first = length-map first now in
    nothing_put (map now first) c.args.changes.now c.args.change (λ a b. omega arith)
