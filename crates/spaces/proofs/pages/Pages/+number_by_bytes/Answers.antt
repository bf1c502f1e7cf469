use Rattle.std.proofs.Common.{◌≡◌, ◌+◌, ◌*◌, ◌-◌, ◌<◌, ◌^◌, suc, sym, ap, subst, arith, rules}
use Rattle.std.specs.Prelude.{Some}
use Rattle.spaces.specs.Overlay.{copies, overlaid_cells}
use Rattle.spaces.proofs.Rows.{joined_fits, joined_below, number_joined}
use Rattle.spaces.proofs.pages.Pages.+number_by_bytes.Goals as goal

pub overflow_mul-result : goal.overflow_mul-result
overflow_mul-result t c =
    let fits : c.byte-low.result + 256 * c.number_by_bytes-high.result < 2 ^ 64 =
    joined_fits c.byte-low.result c.number_by_bytes-high.result (c.args.count - 1) (search rules) c.number_by_bytes-high.ensures.below (omega (arith, c.requires.short, c.if-count-eq0.false)) in
    omega (arith, fits)

pub overflow_add-result : goal.overflow_add-result
overflow_add-result t c =
    let fits : c.byte-low.result + 256 * c.number_by_bytes-high.result < 2 ^ 64 =
    joined_fits c.byte-low.result c.number_by_bytes-high.result (c.args.count - 1) (search rules) c.number_by_bytes-high.ensures.below (omega (arith, c.requires.short, c.if-count-eq0.false)) in
    omega (arith, fits)

pub returns-clause-value : goal.returns-clause-value
returns-clause-value t c =
    number_joined (overlaid_cells c.args.base.now (copies c.args.self.now.table) c.args.self.now.cells.items) c.args.first c.args.count c.byte-low.result c.number_by_bytes-high.result
    (omega (arith, c.if-count-eq0.false)) (ap Some (sym c.byte-low.ensures)) c.number_by_bytes-high.ensures.value

pub returns-clause-below : goal.returns-clause-below
returns-clause-below t c =
    let n : suc (c.args.count - 1) ≡ c.args.count = omega (arith, c.if-count-eq0.false) in
    subst (λ z. c.byte-low.result + 256 * c.number_by_bytes-high.result < 256 ^ z) n
    (joined_below c.byte-low.result c.number_by_bytes-high.result (c.args.count - 1) (search rules) c.number_by_bytes-high.ensures.below)
