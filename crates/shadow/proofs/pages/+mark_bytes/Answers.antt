use Rattle.std.proofs.Common.{◌+◌, ◌-◌, ◌∙◌, ◌||◌, ◌<◌, ◌≤◌, Bool, refl, sym, ap, arith}
use Rattle.clmodel.proofs.CellLaws.{covers_parts}
use Rattle.shadow.specs.Seen.{mark_of, cell_in}
use Rattle.shadow.proofs.Marking.{same_marks, marked_both}
use Rattle.shadow.proofs.pages.+mark_bytes.Goals as goal

pub returns-then-here : goal.returns-then-here
returns-then-here t c =
    let here = c.mark_byte-here.result in
    let there = c.mark_bytes-there.result in
    let first = c.args.first in
    let mid = c.mark_byte-here.new.apart.items in
    marked_both (cell_in c.args.apart.now.items c.args.pages.now) (cell_in mid c.args.pages.now) (cell_in c.mark_bytes-there.new.apart.items c.args.pages.now) (mark_of c.args.x.now) first (first + 1) 1 (c.args.count - 1) c.args.count here there here refl
    (omega (arith, c.if-count-eq0.false)) (ap (λ (z : Bool). z || there) c.if-here.true ∙ sym c.if-here.true)
    (same_marks (cell_in c.args.apart.now.items c.args.pages.now) (cell_in mid c.args.pages.now) (λ _. c.mark_of.result) (mark_of c.args.x.now) first 1 here
    (λ byte k. let r : (first ≤ byte) × (byte < first + 1) = covers_parts first 1 byte k in c.mark_of.ensures ∙ ap (mark_of c.args.x.now) (omega (arith, r.0, r.1))) c.mark_byte-here.ensures.marked)
    c.mark_bytes-there.ensures

pub returns-else-here : goal.returns-else-here
returns-else-here t c =
    let here = c.mark_byte-here.result in
    let there = c.mark_bytes-there.result in
    let first = c.args.first in
    let mid = c.mark_byte-here.new.apart.items in
    marked_both (cell_in c.args.apart.now.items c.args.pages.now) (cell_in mid c.args.pages.now) (cell_in c.mark_bytes-there.new.apart.items c.args.pages.now) (mark_of c.args.x.now) first (first + 1) 1 (c.args.count - 1) c.args.count here there there refl
    (omega (arith, c.if-count-eq0.false)) (ap (λ (z : Bool). z || there) c.if-here.false)
    (same_marks (cell_in c.args.apart.now.items c.args.pages.now) (cell_in mid c.args.pages.now) (λ _. c.mark_of.result) (mark_of c.args.x.now) first 1 here
    (λ byte k. let r : (first ≤ byte) × (byte < first + 1) = covers_parts first 1 byte k in c.mark_of.ensures ∙ ap (mark_of c.args.x.now) (omega (arith, r.0, r.1))) c.mark_byte-here.ensures.marked)
    c.mark_bytes-there.ensures
