use Rattle.std.proofs.Common.{sym, subst}
use Rattle.std.specs.Prelude.{ℤ}
use Rattle.clnum.specs.Integer.{IsWithin}
use Rattle.clnum.proofs.Ranges.{passed}
use Rattle.clnum.proofs.Formulas.{IsIn-within, IsWithin-fits}
use Rattle.clnum.proofs.values.Value.number.Goals as goal

pub returns-clause-within : goal.returns-clause-within
returns-clause-within c =
    let h = IsIn-within c.self.inside.kind c.self.inside.number c.self.invariant in
    subst (λ (z : ℤ). IsWithin z) (sym (passed c.self.inside.number (IsWithin-fits c.self.inside.number h))) h
