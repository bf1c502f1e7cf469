use Rattle.std.proofs.Common.{◌≡◌, ◌+◌, ◌-◌, ◌^◌, ◌<◌, ◌≤◌, ap, ◌∙◌, arith, subst, ℕ}
use Rattle.std.specs.Int.Count.{count_leading_zeros}
use Rattle.clnum.specs.Integer.{bits, bits_of}
use Rattle.clnum.proofs.Formulas.{bits_le}
use Rattle.clnum.proofs.Functions.{narrower_zeros}
use Rattle.clnum.proofs.builtins.leading_zeros.Goals as goal

less_zeros : (w n v m : ℕ) → v ≡ w → m ≡ n → count_leading_zeros w n + (64 - w) ≡ count_leading_zeros 64 n → (64 - v ≤ count_leading_zeros 64 m) × (count_leading_zeros 64 m - (64 - v) ≡ count_leading_zeros w n)
less_zeros w n v m p q e =
    let d : count_leading_zeros 64 m ≡ count_leading_zeros 64 n = ap (count_leading_zeros 64) q in
    (omega arith, omega arith)

pub returns : goal.returns
returns c =
    let k = c.args.value.kind in
    let p = less_zeros (bits k) (bits_of k c.args.value.number) c.bits.result c.to_bits.result (c.bits.ensures ∙ ap bits c.kind.ensures) c.to_bits.ensures.value
    (narrower_zeros (bits k) (bits_of k c.args.value.number) (bits_le k) (subst (λ n. n < 2 ^ bits k) c.to_bits.ensures.value c.to_bits.ensures.below)) in
    p.1

pub overflow_sub-result-2 : goal.overflow_sub-result-2
overflow_sub-result-2 c =
    let k = c.args.value.kind in
    let p = less_zeros (bits k) (bits_of k c.args.value.number) c.bits.result c.to_bits.result (c.bits.ensures ∙ ap bits c.kind.ensures) c.to_bits.ensures.value
    (narrower_zeros (bits k) (bits_of k c.args.value.number) (bits_le k) (subst (λ n. n < 2 ^ bits k) c.to_bits.ensures.value c.to_bits.ensures.below)) in
    p.0
