use Rattle.std.proofs.Common.{sym, ◌∙◌, subst}
use Rattle.std.specs.Prelude.{ℤ}
use Rattle.clnum.proofs.Ranges.{IsIn-wrap, passed}
use Rattle.clnum.specs.Integer.{IsIn}
use Rattle.clnum.proofs.values.Value.wrapped.Goals as goal

pub invariant_of-result : goal.invariant_of-result
invariant_of-result c =
    let e = c.wrapped_number.ensures in
    subst (λ (z : ℤ). IsIn c.args.kind z) (sym (passed c.wrapped_number.result (record { sfits = c.wrapped_number.type_inv }) ∙ e)) (IsIn-wrap c.args.kind _)
