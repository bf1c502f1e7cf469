use Rattle.std.proofs.Common.{ap, sym, ◌∙◌}
use Rattle.std.specs.Prelude.{int_div}
use Rattle.clnum.specs.Operations.{wrapped, is_in}
use Rattle.clnum.proofs.Formulas.{back-div, zero_test, divided-out, divided-in}
use Rattle.clnum.proofs.operations.divide.Goals as goal

pub returns-then-not-is_in : goal.returns-then-not-is_in
returns-then-not-is_in c =
    let e = back-div c.args.x c.args.y c.quotient-quotient.result c.ranges.x c.ranges.y (record { sfits = c.quotient-quotient.type_inv }) c.quotient-quotient.ensures in
    divided-out int_div c.args.kind c.args.x c.args.y (zero_test c.args.y c.ranges.y c.if-y-eq0.false)
    (ap (is_in c.args.kind) (sym e) ∙ sym c.is_in.ensures ∙ c.if-not-is_in.true)

pub returns : goal.returns
returns c =
    let e = back-div c.args.x c.args.y c.quotient-quotient.result c.ranges.x c.ranges.y (record { sfits = c.quotient-quotient.type_inv }) c.quotient-quotient.ensures in
    divided-in int_div c.args.kind c.args.x c.args.y c.wrapped.result (zero_test c.args.y c.ranges.y c.if-y-eq0.false)
    (ap (is_in c.args.kind) (sym e) ∙ sym c.is_in.ensures ∙ c.if-not-is_in.false)
    (c.wrapped.ensures ∙ ap (wrapped c.args.kind) e)
