use Rattle.std.proofs.Common.{◌≡◌, ◌+◌, ◌/◌, ◌%◌, ◌<◌, ◌≤◌, nat_lt, Some, ap, ◌∙◌, arith, ltb-true, ltb-false}
use Rattle.std.specs.HashMap.{get}
use Rattle.std.proofs.lemmas.Result.{on_ok_weaker}
use Rattle.clmodel.proofs.Steps.{decided}
use Rattle.access_list.specs.Keys.{cell_key, same_cell}
use Rattle.access_list.specs.Recent.{Describes}
use Rattle.access_list.specs.declared.recent.Recent.{Recent}
use Rattle.access_list.proofs.Indexed.{words_kept}
use Rattle.access_list.proofs.Words.{same_word, next_word, at_byte}
use Rattle.access_list.proofs.cells.Cells.mark_part.Goals as goal

pub returns-then-here-count-clause-added : goal.returns-then-here-count-clause-added
returns-then-here-count-clause-added c byte lo hi =
    let cells = c.mark_word.new.self in
    let x = c.args.x.now in
    let first = c.args.first in
    let start = c.in_ok-start.start in
    let one : first % 4 + c.args.count ≤ 4 = omega (arith, c.if-here-count.true, c.min-here.ensures) in
    let there : get same_cell cells.starts (cell_key x.region first) ≡ Some start = ap (λ m. get same_cell m (cell_key x.region first)) c.mark_word.ensures.kept.starts ∙ c.in_ok-start.ensures.there in
    at_byte (λ (r : Recent). Describes r x byte) cells.starts cells.words.items cells.apart.items x.region first c.args.count byte start (start + first % 8 / 4) c.requires.one_cell lo hi there
    (ap (λ n. start + n) (same_word first c.args.count byte one lo hi))
    (c.in_ok-mark_word.ensures.added byte lo (omega (arith, c.if-here-count.true, hi)))

pub returns-clause-kept : goal.returns-clause-kept
returns-clause-kept c key k y byte b d =
    words_kept c.mark_word-2.ensures.kept key k y byte b (words_kept c.mark_word.ensures.kept key k y byte b (c.start.ensures.same key k y byte b d))

pub returns-clause-added : goal.returns-clause-added
returns-clause-added c =
    on_ok_weaker c.mark_word-2.result
    (λ next byte lo hi.
    let last = c.mark_word-2 in
    let cells = last.new.self in
    let x = c.args.x.now in
    let first = c.args.first in
    let here = c.min-here.result in
    let start = c.in_ok-start.start in
    let one : first % 4 + here ≤ 4 = omega (arith, c.min-here.ensures) in
    let rest : 4 ≤ first % 4 + here = omega (arith, c.min-here.ensures, c.if-here-count.false) in
    let end : here ≤ c.args.count = omega (arith, c.min-here.ensures) in
    let there : get same_cell cells.starts (cell_key x.region first) ≡ Some start =
    ap (λ m. get same_cell m (cell_key x.region first)) (last.ensures.kept.starts ∙ c.mark_word.ensures.kept.starts) ∙ c.in_ok-start.ensures.there in
    decided (nat_lt byte (first + here))
    (λ t.
    let below : byte < first + here = ltb-true byte (first + here) t in
    at_byte (λ (r : Recent). Describes r x byte) cells.starts cells.words.items cells.apart.items x.region first c.args.count byte start (start + first % 8 / 4) c.requires.one_cell lo hi there
    (ap (λ n. start + n) (same_word first here byte one lo below))
    (last.ensures.kept.kept (start + first % 8 / 4) (byte % 4) x byte (omega arith) (c.in_ok-mark_word.ensures.added byte lo below)))
    (λ t.
    let above : first + here ≤ byte = ltb-false byte (first + here) t in
    at_byte (λ (r : Recent). Describes r x byte) cells.starts cells.words.items cells.apart.items x.region first c.args.count byte start (start + 1) c.requires.one_cell lo hi there
    (ap (λ n. start + n) (next_word first here c.args.count byte c.requires.one_cell rest above hi))
    (next byte above (omega (arith, hi, end)))))
    c.mark_word-2.ensures.added
