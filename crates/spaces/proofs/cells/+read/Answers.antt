use Rattle.std.proofs.Common.{◌≡◌, ◌+◌, ◌*◌, ◌-◌, ◌<◌, ◌^◌, suc, sym, ap, subst, ◌∙◌, arith, rules}
use Rattle.std.specs.Prelude.{map}
use Rattle.std.proofs.lemmas.Result.{err_from_is_err_and}
use Rattle.clmodel.specs.Cells.{cells_of}
use Rattle.spaces.proofs.Rows.{row_at, joined_fits, joined_below, number_joined, unset_here, unset_later}
use Rattle.spaces.proofs.cells.+read.Given.{Over}
use Rattle.spaces.proofs.cells.+read.Goals as goal
use Rattle.spaces.proofs.cells.+read.Goals.{In_ok-high}

pub returns-in_default-clause-unset : goal.returns-in_default-clause-unset
returns-in_default-clause-unset g t c =
    unset_here (cells_of (map g.C.Cell.content c.args.cells.now)) c.args.first c.args.count (omega (arith, c.if-count-eq0.false))
    (row_at g.C.Cell.content c.args.cells.now c.args.first c.index-cells-first.result (omega (arith, c.requires.inside, c.if-count-eq0.false))
    ∙ ap g.C.Cell.content (sym c.index-cells-first.is) ∙ sym c.byte.ensures ∙ c.in_default.is)

pub returns-in_err-high-clause-unset : goal.returns-in_err-high-clause-unset
returns-in_err-high-clause-unset g t c =
    let p = err_from_is_err_and c.from_residual.result c.from_residual.ensures.1 in
    rw (p.1, p.2) (unset_later (cells_of (map g.C.Cell.content c.args.cells.now)) c.args.first c.args.count c.in-Some.low c.in_err-high.field-0.0.byte (omega (arith, c.if-count-eq0.false))
    (row_at g.C.Cell.content c.args.cells.now c.args.first c.index-cells-first.result (omega (arith, c.requires.inside, c.if-count-eq0.false))
    ∙ ap g.C.Cell.content (sym c.index-cells-first.is) ∙ sym c.byte.ensures ∙ c.in-Some.is)
    c.in_err-high.ensures.unset)

fits : (g : Over) (t : _) (c : In_ok-high g t) → c.in-Some.low + 256 * c.in_ok-high.high < 2 ^ 64
fits g t c =
    joined_fits c.in-Some.low c.in_ok-high.high (c.args.count - 1) (search rules) c.in_ok-high.ensures.below
    (omega (arith, c.requires.short, c.if-count-eq0.false))

pub overflow_mul-result : goal.overflow_mul-result
overflow_mul-result g t c = omega (arith, fits g t c)

pub overflow_add-result : goal.overflow_add-result
overflow_add-result g t c = omega (arith, fits g t c)

pub returns-clause-value : goal.returns-clause-value
returns-clause-value g t c =
    number_joined (cells_of (map g.C.Cell.content c.args.cells.now)) c.args.first c.args.count c.in-Some.low c.in_ok-high.high (omega (arith, c.if-count-eq0.false))
    (row_at g.C.Cell.content c.args.cells.now c.args.first c.index-cells-first.result (omega (arith, c.requires.inside, c.if-count-eq0.false))
    ∙ ap g.C.Cell.content (sym c.index-cells-first.is) ∙ sym c.byte.ensures ∙ c.in-Some.is)
    c.in_ok-high.ensures.value

pub returns-clause-below : goal.returns-clause-below
returns-clause-below g t c =
    let n : suc (c.args.count - 1) ≡ c.args.count = omega (arith, c.if-count-eq0.false) in
    subst (λ z. c.in-Some.low + 256 * c.in_ok-high.high < 256 ^ z) n
    (joined_below c.in-Some.low c.in_ok-high.high (c.args.count - 1) (search rules) c.in_ok-high.ensures.below)
