use Rattle.std.proofs.Common.{ap, sym, ◌∙◌}
use Rattle.std.specs.Int.{w128}
use Rattle.std.specs.Prelude.{int_div, FitsSigned}
use Rattle.clnum.proofs.Ranges.{passed}
use Rattle.clnum.specs.Operations.{is_in, remainder_of}
use Rattle.clnum.proofs.Formulas.{back-div, zero_test, divided-out, divided-in, wrap-wrapping_rest}
use Rattle.clnum.proofs.operations.remainder.Goals as goal

pub returns-then-not-is_in : goal.returns-then-not-is_in
returns-then-not-is_in c =
    let e = back-div c.args.x c.args.y c.quotient-quotient.result c.ranges.x c.ranges.y (record { sfits = c.quotient-quotient.type_inv }) c.quotient-quotient.ensures in
    divided-out remainder_of c.args.kind c.args.x c.args.y (zero_test c.args.y c.ranges.y c.if-y-eq0.false)
    (ap (is_in c.args.kind) (sym e) ∙ sym c.is_in.ensures ∙ c.if-not-is_in.true)

pub returns : goal.returns
returns c =
    let q_fits : FitsSigned w128 c.quotient-quotient.result = record { sfits = c.quotient-quotient.type_inv } in
    let e = back-div c.args.x c.args.y c.quotient-quotient.result c.ranges.x c.ranges.y (record { sfits = c.quotient-quotient.type_inv }) c.quotient-quotient.ensures in
    divided-in remainder_of c.args.kind c.args.x c.args.y c.wrapped.result (zero_test c.args.y c.ranges.y c.if-y-eq0.false)
    (ap (is_in c.args.kind) (sym e) ∙ sym c.is_in.ensures ∙ c.if-not-is_in.false)
    (c.wrapped.ensures
    ∙ ap (λ n. record { kind = c.args.kind; number = n })
    (wrap-wrapping_rest c.args.kind c.args.x c.args.y c.quotient-quotient.result (int_div c.args.x c.args.y) c.ranges.x c.ranges.y q_fits
    (sym (passed c.quotient-quotient.result q_fits) ∙ e))
    )
