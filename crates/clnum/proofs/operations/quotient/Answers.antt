use Rattle.std.proofs.Common.{◌≡◌, ℤ, pos, negsuc, ◌≤ℤ◌, ap, sym, ◌∙◌, subst, arith}
use Rattle.std.proofs.lemmas.Int.{ints, to_z-of_z}
use Rattle.std.specs.Int.{w64, w128, cast_signed, cast_unsigned}
use Rattle.std.specs.Prelude.{FitsSigned, int_div}
use Rattle.clnum.proofs.Ranges.{passed}
use Rattle.clnum.proofs.Formulas.{signed_fits, div_fits, nonzero-64, div-64}
use Rattle.clnum.proofs.operations.quotient.Goals as goal
use Rattle.clnum.proofs.operations.quotient.Goals.{else-x-ge0-via-then-x-ge0+else-y-gt0, else-x-ge0-via-else-x-ge0}

pub nonzero_div-x-else-x-ge0 : goal.nonzero_div-x-else-x-ge0
nonzero_div-x-else-x-ge0 c =
    let not_minus_one : c.args.y ≡ negsuc 0 → ⊥ = λ e. c.if-y-eqminus1.false (ap (cast_unsigned w128) e) in
    let negative : pos 0 ≤ℤ c.args.x → c.args.y ≤ℤ pos 0 =
    λ t. elim c.else-x-ge0.branch [
      | else-x-ge0-via-then-x-ge0+else-y-gt0 w ↦ omega (arith, ints)
      | else-x-ge0-via-else-x-ge0 w ↦ omega (arith, ints)
    ] in
    let fits = signed_fits c.args.kind c.args.x c.args.y c.requires.left c.requires.right c.requires.divisor negative in (
      nonzero-64 c.args.y c.ranges.y fits.1 c.requires.divisor,
      subst (λ (z : ℤ). FitsSigned w64 z) (sym (div-64 c.args.x c.args.y c.ranges.x c.ranges.y fits)) (div_fits c.args.x c.args.y fits.0 not_minus_one),
    )

pub returns-else-x-ge0 : goal.returns-else-x-ge0
returns-else-x-ge0 c =
    let not_minus_one : c.args.y ≡ negsuc 0 → ⊥ = λ e. c.if-y-eqminus1.false (ap (cast_unsigned w128) e) in
    let negative : pos 0 ≤ℤ c.args.x → c.args.y ≤ℤ pos 0 =
    λ t. elim c.else-x-ge0.branch [
      | else-x-ge0-via-then-x-ge0+else-y-gt0 w ↦ omega (arith, ints)
      | else-x-ge0-via-else-x-ge0 w ↦ omega (arith, ints)
    ] in
    let fits = signed_fits c.args.kind c.args.x c.args.y c.requires.left c.requires.right c.requires.divisor negative in
    passed c.from-else-x-ge0.result (record { sfits = c.from-else-x-ge0.type_inv })
    ∙ c.from-else-x-ge0.ensures
    ∙ ap (λ z. cast_signed w64 (cast_unsigned w64 z)) (div-64 c.args.x c.args.y c.ranges.x c.ranges.y fits)
    ∙ to_z-of_z w64 (int_div c.args.x c.args.y) (div_fits c.args.x c.args.y fits.0 not_minus_one)
