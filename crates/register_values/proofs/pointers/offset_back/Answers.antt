use Rattle.std.proofs.Common.{◌≡◌, ℤ, ◌-ℤ◌, sym, subst, ap, ap₂, ◌∙◌}
use Rattle.std.proofs.lemmas.Int.{to_z-of_z}
use Rattle.std.specs.Int.{w64}
use Rattle.clnum.specs.Integer.{IsWithin, wrap}
use Rattle.clnum.specs.declared.int_type.IntType.TheVariants.{Long}
use Rattle.clnum.proofs.Ranges.{passed}
use Rattle.clnum.proofs.Formulas.{back, back-sub}
use Rattle.clnum.proofs.Offsets.{offset_within, wrapped_fits}
use Rattle.register_values.proofs.pointers.offset_back.Goals as goal

pub overflow_cast-result : goal.overflow_cast-result
overflow_cast-result c = wrapped_fits c.number-2.result _ (record { sfits = c.number-2.type_inv }) (c.number-2.ensures.value ∙ ap (λ v. v.number) c.wrapped.ensures)

pub returns : goal.returns
returns c =
    let e : c.from.result ≡ c.args.offset = c.from.ensures ∙ to_z-of_z w64 c.args.offset c.ranges.offset in
    let p : IsWithin c.from.result = subst (λ (z : ℤ). IsWithin z) (sym e) (offset_within c.args.offset c.ranges.offset) in
    let wrapped_is = c.number-2.ensures.value ∙ ap (λ v. v.number) c.wrapped.ensures in
    to_z-of_z w64 (back c.number-2.result) (wrapped_fits c.number-2.result _ (record { sfits = c.number-2.type_inv }) wrapped_is)
    ∙ passed c.number-2.result (record { sfits = c.number-2.type_inv })
    ∙ wrapped_is
    ∙ ap (wrap Long) (back-sub c.from.result c.number.result p c.number.ensures.within ∙ ap₂ (λ a b. a -ℤ b) e c.number.ensures.value)
