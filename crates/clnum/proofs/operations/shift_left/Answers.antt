use Rattle.std.proofs.Common.{◌*ℤ◌, pos}
use Rattle.clnum.proofs.Formulas.{shift_is, wrap-shifted_left}
use Rattle.clnum.proofs.operations.shift_left.Goals as goal

pub returns : goal.returns
returns c =
    shift_is (λ x power. x *ℤ pos power) c.args.value c.args.count c.kind.result c.promoted-kind.result c.number.result _ c.shift_count-count.result c.wrapped.result
    c.kind.ensures c.promoted-kind.ensures c.number.ensures.value c.shift_count-count.ensures.value
    (wrap-shifted_left c.promoted-kind.result c.number.result c.shift_count-count.result c.number.ensures.within c.shift_count-count.ensures.below)
    c.wrapped.ensures
