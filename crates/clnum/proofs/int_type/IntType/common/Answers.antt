use Rattle.std.proofs.Common.{ap, ap₂, ◌∙◌, sym, inl, inr}
use Rattle.clnum.proofs.ConversionLemmas.{later, later_is, later-long, later-uint, later-other}
use Rattle.clnum.proofs.int_type.IntType.common.Goals as goal

pub returns-in-Ulong : goal.returns-in-Ulong
returns-in-Ulong c =
    later_is _ _ _ _ _ c.promoted.ensures c.promoted-right.ensures (ap (λ k. later k c.promoted-right.result) c.in-Ulong.is)

pub returns-in-Ulong-right : goal.returns-in-Ulong-right
returns-in-Ulong-right c =
    later_is _ _ _ _ _ c.promoted.ensures c.promoted-right.ensures
    (ap₂ later c.in-Long.is c.in-Ulong-right.is ∙ sym c.in-Ulong-right.is)

pub returns-in_default-right : goal.returns-in_default-right
returns-in_default-right c =
    later_is _ _ _ _ _ c.promoted.ensures c.promoted-right.ensures
    (ap (λ k. later k c.promoted-right.result) c.in-Long.is ∙ later-long _ c.in_default-right.not-Ulong)

pub returns-in-Ulong-right-2 : goal.returns-in-Ulong-right-2
returns-in-Ulong-right-2 c =
    later_is _ _ _ _ _ c.promoted.ensures c.promoted-right.ensures
    (elim c.in-Ulong-right-2.is [
      | inl e ↦ ap₂ later c.in-Uint.is e ∙ sym e
      | inr e ↦ ap₂ later c.in-Uint.is e ∙ sym e
    ])

pub returns-in_default-right-2 : goal.returns-in_default-right-2
returns-in_default-right-2 c =
    later_is _ _ _ _ _ c.promoted.ensures c.promoted-right.ensures
    (ap (λ k. later k c.promoted-right.result) c.in-Uint.is ∙ later-uint _ c.in_default-right-2.not-Ulong c.in_default-right-2.not-Long)

pub returns-in_default : goal.returns-in_default
returns-in_default c =
    later_is _ _ _ _ _ c.promoted.ensures c.promoted-right.ensures
    (later-other _ _ c.in_default.not-Ulong c.in_default.not-Long c.in_default.not-Uint)
