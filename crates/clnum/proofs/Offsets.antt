-- An offset of 64 bits and a number, added.
use Rattle.std.proofs.Common.{◌≡◌, ℤ, pos, negsuc, ◌+ℤ◌, sym, subst, ap₂, arith}
use Rattle.std.proofs.lemmas.Int.{ints}
use Rattle.std.specs.Prelude.{FitsSigned}
use Rattle.std.specs.Int.{w64, w128}
use Rattle.clnum.specs.Integer.{IsIn, IsWithin, wrap}
use Rattle.clnum.specs.declared.int_type.IntType.TheVariants.{Long}
use Rattle.clnum.proofs.Ranges.{passed, IsIn-wrap}
use Rattle.clnum.proofs.Formulas.{back, IsWithin-fits, fits_between}

pub offset_within : (z : ℤ) → FitsSigned w64 z → IsWithin z
offset_within (pos n) h = record { at_least = omega (arith, ints); below = omega (arith, ints) }
offset_within (negsuc n) h = record { at_least = omega (arith, ints); below = omega (arith, ints) }

pub sum_fits : (x y : ℤ) → IsWithin x → IsWithin y → FitsSigned w128 (back x +ℤ back y)
sum_fits x y p q =
    subst (λ (z : ℤ). FitsSigned w128 z) (sym (ap₂ (λ a b. a +ℤ b) (passed x (IsWithin-fits x p)) (passed y (IsWithin-fits y q))))
    (fits_between (x +ℤ y) (omega (arith, ints)) (omega (arith, ints)))

pub long_fits : (z : ℤ) → IsIn Long z → FitsSigned w64 z
long_fits (pos n) h = let from = h.from in let to = h.to in record { sfits = omega (arith, ints) }
long_fits (negsuc n) h = let from = h.from in let to = h.to in record { sfits = omega (arith, ints) }

-- what is wrapped to a long fits 64 bits
pub wrapped_fits : (r z : ℤ) → FitsSigned w128 r → r ≡ wrap Long z → FitsSigned w64 (back r)
wrapped_fits r z f e =
    subst (λ (x : ℤ). FitsSigned w64 x) (sym (passed r f)) (long_fits r (subst (λ (x : ℤ). IsIn Long x) (sym e) (IsIn-wrap Long z)))
