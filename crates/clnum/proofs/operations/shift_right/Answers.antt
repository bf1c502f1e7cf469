use Rattle.std.proofs.Common.{◌^◌, pos, ap}
use Rattle.std.specs.Int.{int_div_euclid}
use Rattle.clnum.specs.Integer.{wrap}
use Rattle.clnum.proofs.Formulas.{shift_is, back-shifted_right}
use Rattle.clnum.proofs.operations.shift_right.Goals as goal

pub returns : goal.returns
returns c =
    shift_is (λ x power. int_div_euclid x (pos power)) c.args.value c.args.count c.kind.result c.promoted-kind.result c.number.result _ c.shift_count-count.result c.wrapped.result
    c.kind.ensures c.promoted-kind.ensures c.number.ensures.value c.shift_count-count.ensures.value
    (ap (wrap c.promoted-kind.result) (back-shifted_right c.number.result (2 ^ c.shift_count-count.result) c.number.ensures.within))
    c.wrapped.ensures
