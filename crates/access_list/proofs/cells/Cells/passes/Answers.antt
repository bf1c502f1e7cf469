use Rattle.std.proofs.Common.{◌≡◌, ◌+◌, ◌/◌, ◌%◌, ◌<◌, ◌≤◌, nat_lt, Some, List, length, sym, ap, ◌∙◌, subst, arith, eqb-true, ltb-true, ltb-false}
use Rattle.std.specs.HashMap.{get}
use Rattle.clmodel.proofs.Steps.{decided}
use Rattle.access_list.specs.Cells.{Passes}
use Rattle.access_list.specs.Keys.{cell_key, same_cell}
use Rattle.access_list.specs.Recent.{IsInside, in_word}
use Rattle.access_list.specs.declared.recent.Recent.{Recent}
use Rattle.access_list.proofs.Words.{read_inside, read_place, same_word, next_word, at_byte}
use Rattle.access_list.proofs.cells.Cells.passes.Goals as goal

pub passes-requires-clause-inside : goal.passes-requires-clause-inside
passes-requires-clause-inside c =
    let cells = c.args.self.now in
    let there : get same_cell cells.starts (cell_key c.args.x.now.region c.args.first) ≡ Some c.in-Some.start = sym c.requires.found ∙ c.in-Some.is in
    subst (λ l. IsInside l c.index-word.result.now) (sym c.deref.ensures.value)
    (read_inside cells.words.items cells.apart.items (c.in-Some.start + c.args.first % 8 / 4) c.index-word.result.now
    (omega (arith, cells.inside (cell_key c.args.x.now.region c.args.first) c.in-Some.start there)) c.index-word.ensures cells.bytes_inside)

pub passes-requires-else-here-count-clause-inside : goal.passes-requires-else-here-count-clause-inside
passes-requires-else-here-count-clause-inside c =
    let cells = c.args.self.now in
    let there : get same_cell cells.starts (cell_key c.args.x.now.region c.args.first) ≡ Some c.in-Some.start = sym c.requires.found ∙ c.in-Some.is in
    subst (λ l. IsInside l c.index-next.result.now) (sym c.deref-else-here-count.ensures.value)
    (read_inside cells.words.items cells.apart.items (c.in-Some.start + 1) c.index-next.result.now
    (omega (arith, cells.inside (cell_key c.args.x.now.region c.args.first) c.in-Some.start there)) c.index-next.ensures cells.bytes_inside)

pub returns-then-here-count : goal.returns-then-here-count
returns-then-here-count c h byte lo hi =
    let cells = c.args.self.now in
    let x = c.args.x.now in
    let first = c.args.first in
    let start = c.in-Some.start in
    let place = start + first % 8 / 4 in
    let w = c.index-word.result.now in
    let here : c.min-here.result ≡ c.args.count = eqb-true c.min-here.result c.args.count h in
    let there : get same_cell cells.starts (cell_key x.region first) ≡ Some start = sym c.requires.found ∙ c.in-Some.is in
    let one : first % 4 + c.args.count ≤ 4 = omega (arith, here, c.min-here.ensures) in
    at_byte (λ (r : Recent). Passes c.args.uniform r x byte) cells.starts cells.words.items cells.apart.items x.region first c.args.count byte start place c.requires.one_cell lo hi there
    (ap (λ n. start + n) (same_word first c.args.count byte one lo hi))
    (subst (λ (r : Recent). Passes c.args.uniform r x byte)
    (read_place cells.words.items cells.apart.items place (byte % 4) w (omega (arith, cells.inside (cell_key x.region first) start there)) c.index-word.ensures)
    (subst (λ (l : List Recent). Passes c.args.uniform (in_word l w (byte % 4)) x byte) c.deref.ensures.value
    (c.passes.ensures c.if-passes.true byte lo (omega (arith, here, hi)))))

pub returns-else-here-count : goal.returns-else-here-count
returns-else-here-count c h byte lo hi =
    let cells = c.args.self.now in
    let x = c.args.x.now in
    let first = c.args.first in
    let start = c.in-Some.start in
    let here = c.min-here.result in
    let there : get same_cell cells.starts (cell_key x.region first) ≡ Some start = sym c.requires.found ∙ c.in-Some.is in
    let one : first % 4 + here ≤ 4 = omega (arith, c.min-here.ensures) in
    let rest : 4 ≤ first % 4 + here = omega (arith, c.min-here.ensures, c.if-here-count.false) in
    let end : here ≤ c.args.count = omega (arith, c.min-here.ensures) in
    let room : start + 2 ≤ length cells.words.items = cells.inside (cell_key x.region first) start there in
    decided (nat_lt byte (first + here))
    (λ t.
    let below : byte < first + here = ltb-true byte (first + here) t in
    let place = start + first % 8 / 4 in
    at_byte (λ (r : Recent). Passes c.args.uniform r x byte) cells.starts cells.words.items cells.apart.items x.region first c.args.count byte start place c.requires.one_cell lo hi there
    (ap (λ n. start + n) (same_word first here byte one lo below))
    (subst (λ (r : Recent). Passes c.args.uniform r x byte)
    (read_place cells.words.items cells.apart.items place (byte % 4) c.index-word.result.now (omega (arith, room)) c.index-word.ensures)
    (subst (λ (l : List Recent). Passes c.args.uniform (in_word l c.index-word.result.now (byte % 4)) x byte) c.deref.ensures.value
    (c.passes.ensures c.if-passes.true byte lo below))))
    (λ t.
    let above : first + here ≤ byte = ltb-false byte (first + here) t in
    at_byte (λ (r : Recent). Passes c.args.uniform r x byte) cells.starts cells.words.items cells.apart.items x.region first c.args.count byte start (start + 1) c.requires.one_cell lo hi there
    (ap (λ n. start + n) (next_word first here c.args.count byte c.requires.one_cell rest above hi))
    (subst (λ (r : Recent). Passes c.args.uniform r x byte)
    (read_place cells.words.items cells.apart.items (start + 1) (byte % 4) c.index-next.result.now (omega (arith, room)) c.index-next.ensures)
    (subst (λ (l : List Recent). Passes c.args.uniform (in_word l c.index-next.result.now (byte % 4)) x byte) c.deref-else-here-count.ensures.value
    (c.passes-else-here-count.ensures h byte above (omega (arith, hi, end))))))
