use Rattle.std.proofs.Common.{◌≡◌, ℤ, ◌+ℤ◌, sym, subst, ap, ap₂, ◌∙◌}
use Rattle.std.proofs.lemmas.Int.{to_z-of_z}
use Rattle.std.specs.Int.{w64}
use Rattle.clnum.specs.Integer.{IsWithin, wrap}
use Rattle.clnum.specs.declared.int_type.IntType.TheVariants.{Long}
use Rattle.clnum.proofs.Ranges.{passed}
use Rattle.clnum.proofs.Formulas.{back, IsIn-within, back-add}
use Rattle.clnum.proofs.Offsets.{offset_within, sum_fits, wrapped_fits}
use Rattle.clnum.proofs.values.Value.added_to.Goals as goal

pub overflow_add-sum : goal.overflow_add-sum
overflow_add-sum c =
    let e : c.from.result ≡ c.args.offset = c.from.ensures ∙ to_z-of_z w64 c.args.offset c.ranges.offset in
    let p : IsWithin c.from.result = subst (λ (z : ℤ). IsWithin z) (sym e) (offset_within c.args.offset c.ranges.offset) in
    sum_fits c.from.result c.self.inside.number p (IsIn-within c.self.inside.kind c.self.inside.number c.self.invariant)

pub overflow_cast-result : goal.overflow_cast-result
overflow_cast-result c = wrapped_fits c.wrapped_number.result _ (record { sfits = c.wrapped_number.type_inv }) c.wrapped_number.ensures

pub returns : goal.returns
returns c =
    let e : c.from.result ≡ c.args.offset = c.from.ensures ∙ to_z-of_z w64 c.args.offset c.ranges.offset in
    let p : IsWithin c.from.result = subst (λ (z : ℤ). IsWithin z) (sym e) (offset_within c.args.offset c.ranges.offset) in
    let q = IsIn-within c.self.inside.kind c.self.inside.number c.self.invariant in
    to_z-of_z w64 (back c.wrapped_number.result) (wrapped_fits c.wrapped_number.result _ (record { sfits = c.wrapped_number.type_inv }) c.wrapped_number.ensures)
    ∙ passed c.wrapped_number.result (record { sfits = c.wrapped_number.type_inv })
    ∙ c.wrapped_number.ensures
    ∙ ap (wrap Long) (back-add c.from.result c.self.inside.number p q ∙ ap₂ (λ a b. a +ℤ b) e (ap (λ v. v.number) c.self.view_is))
