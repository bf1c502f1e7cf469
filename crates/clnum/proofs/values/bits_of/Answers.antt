use Rattle.std.proofs.Common.{inl, inr, refl, ap, ◌∙◌, ◌^◌}
use Rattle.clnum.specs.Integer.{residue}
use Rattle.clnum.proofs.Ranges.{lowest_in, all_in, passed}
use Rattle.clnum.proofs.values.bits_of.Goals as goal

pub returns-in-Char-clause-value : goal.returns-in-Char-clause-value
returns-in-Char-clause-value c =
    let p = c.lowest_bits-lowest.ensures ∙ ap (residue (2 ^ 64)) (passed c.args.number c.ranges.number) in
    elim c.in-Char.is [ inl e ↦ lowest_in _ _ _ _ e p | inr e ↦ lowest_in _ _ _ _ e p ]

pub returns-in-Short-clause-value : goal.returns-in-Short-clause-value
returns-in-Short-clause-value c =
    let p = c.lowest_bits-lowest.ensures ∙ ap (residue (2 ^ 64)) (passed c.args.number c.ranges.number) in
    elim c.in-Short.is [ inl e ↦ lowest_in _ _ _ _ e p | inr e ↦ lowest_in _ _ _ _ e p ]

pub returns-in-Int-clause-value : goal.returns-in-Int-clause-value
returns-in-Int-clause-value c =
    let p = c.lowest_bits-lowest.ensures ∙ ap (residue (2 ^ 64)) (passed c.args.number c.ranges.number) in
    elim c.in-Int.is [ inl e ↦ lowest_in _ _ _ _ e p | inr e ↦ lowest_in _ _ _ _ e p ]

pub returns-in-Long-clause-value : goal.returns-in-Long-clause-value
returns-in-Long-clause-value c =
    let p = c.lowest_bits-lowest.ensures ∙ ap (residue (2 ^ 64)) (passed c.args.number c.ranges.number) in
    elim c.in-Long.is [ inl e ↦ all_in _ _ _ _ e refl p | inr e ↦ all_in _ _ _ _ e refl p ]
