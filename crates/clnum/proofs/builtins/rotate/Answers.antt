use Rattle.std.proofs.Common.{◌≡◌, ◌^◌, ◌<◌, ap, ap₂, ◌∙◌, sym, arith, subst, ℕ, pos}
use Rattle.clnum.specs.Integer.{bits, residue}
use Rattle.clnum.specs.Operations.{wrapped}
use Rattle.clnum.specs.Builtins.{turned}
use Rattle.clnum.proofs.Functions.{rotated, rotated_fits}
use Rattle.clnum.proofs.builtins.rotate.Goals as goal

pub returns : goal.returns
returns c =
    let k = c.args.value.kind in
    let own : c.kind-kind.result ≡ k = c.kind-kind.ensures in
    let width : c.bits.result ≡ bits k = c.bits.ensures ∙ ap bits own in
    let n_below : c.from-bits.result < 2 ^ bits k = subst (λ (n : ℕ). n < 2 ^ bits k) (sym c.from-bits.ensures) c.to_bits.ensures.below in
    let s_below : c.shift_count-count.result < bits k = subst (λ (b : ℕ). c.shift_count-count.result < b) (ap bits own) c.shift_count-count.ensures.below in
    c.wrapped.ensures
    ∙ ap₂ wrapped own (rotated k c.from-bits.result c.shift_count-count.result c.bits.result n_below s_below width)
    ∙ ap₂ (λ n s. wrapped k (pos (turned (bits k) n s))) (c.from-bits.ensures ∙ c.to_bits.ensures.value)
    (c.shift_count-count.ensures.value ∙ ap (λ t. residue (bits t) c.args.count.number) own)

pub overflow_add-turned : goal.overflow_add-turned
overflow_add-turned c =
    let k = c.args.value.kind in
    let own : c.kind-kind.result ≡ k = c.kind-kind.ensures in
    let width : c.bits.result ≡ bits k = c.bits.ensures ∙ ap bits own in
    let n_below : c.from-bits.result < 2 ^ bits k = subst (λ (n : ℕ). n < 2 ^ bits k) (sym c.from-bits.ensures) c.to_bits.ensures.below in
    let s_below : c.shift_count-count.result < bits k = subst (λ (b : ℕ). c.shift_count-count.result < b) (ap bits own) c.shift_count-count.ensures.below in
    let fits = rotated_fits k c.from-bits.result c.shift_count-count.result c.bits.result n_below s_below width in
    omega (arith, fits.sfits)

pub overflow_cast-turned-3 : goal.overflow_cast-turned-3
overflow_cast-turned-3 c =
    let k = c.args.value.kind in
    let own : c.kind-kind.result ≡ k = c.kind-kind.ensures in
    let width : c.bits.result ≡ bits k = c.bits.ensures ∙ ap bits own in
    let n_below : c.from-bits.result < 2 ^ bits k = subst (λ (n : ℕ). n < 2 ^ bits k) (sym c.from-bits.ensures) c.to_bits.ensures.below in
    let s_below : c.shift_count-count.result < bits k = subst (λ (b : ℕ). c.shift_count-count.result < b) (ap bits own) c.shift_count-count.ensures.below in
    rotated_fits k c.from-bits.result c.shift_count-count.result c.bits.result n_below s_below width
