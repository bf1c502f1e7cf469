use Rattle.std.proofs.Common.{refl, inl, inr, lit<}
use Rattle.clnum.proofs.Formulas.{count_in}
use Rattle.clnum.proofs.operations.shift_count.Goals as goal

pub returns-in-Char-clause-value : goal.returns-in-Char-clause-value
returns-in-Char-clause-value c =
    elim c.in-Char.is [
      | inl e ↦ count_in 8 32 _ _ c.args.count.kind _ _ refl (lit< tt) e refl c.to_bits-bits.ensures.value
      | inr e ↦ count_in 8 32 _ _ c.args.count.kind _ _ refl (lit< tt) e refl c.to_bits-bits.ensures.value
    ]

pub returns-in-Short-clause-value : goal.returns-in-Short-clause-value
returns-in-Short-clause-value c =
    elim c.in-Short.is [
      | inl e ↦ count_in 16 16 _ _ c.args.count.kind _ _ refl (lit< tt) e refl c.to_bits-bits.ensures.value
      | inr e ↦ count_in 16 16 _ _ c.args.count.kind _ _ refl (lit< tt) e refl c.to_bits-bits.ensures.value
    ]

pub returns-in-Int-clause-value : goal.returns-in-Int-clause-value
returns-in-Int-clause-value c =
    elim c.in-Int.is [
      | inl e ↦ count_in 32 8 _ _ c.args.count.kind _ _ refl (lit< tt) e refl c.to_bits-bits.ensures.value
      | inr e ↦ count_in 32 8 _ _ c.args.count.kind _ _ refl (lit< tt) e refl c.to_bits-bits.ensures.value
    ]

pub returns-in-Long-clause-value : goal.returns-in-Long-clause-value
returns-in-Long-clause-value c =
    elim c.in-Long.is [
      | inl e ↦ count_in 64 4 _ _ c.args.count.kind _ _ refl (lit< tt) e refl c.to_bits-bits.ensures.value
      | inr e ↦ count_in 64 4 _ _ c.args.count.kind _ _ refl (lit< tt) e refl c.to_bits-bits.ensures.value
    ]
