-- Bytes of a number.
use Rattle.std.proofs.Common.{◌≡◌, ℕ, zero, suc, ◌+◌, ◌*◌, ◌/◌, ◌%◌, ◌^◌, ◌<◌, ◌≤◌, refl, sym, ap, ◌∙◌, arith}
use Rattle.std.proofs.lemmas.Grind.{pow_more}
use Rattle.std.proofs.lemmas.Nat.{pow-add}
use Rattle.std.proofs.Math.Nat.{div-eq_of_lt, pow-le-pow_right}
use Rattle.clmodel.specs.Cells.{byte_of}

two_power : (k : ℕ) → 2 ^ (8 * k) ≡ 256 ^ k
two_power zero = refl
two_power (suc k) = ap (λ n. 2 ^ n) {x = 8 * suc k} {y = 8 * k + 8} (omega arith) ∙ pow-add 2 (8 * k) 8 ∙ ap (λ n. n * 256) (two_power k)
    ∙ sym (pow_more 256 k) ∙ ap (λ n. 256 ^ n) {x = k + 1} {y = suc k} (omega arith)

-- a shift by bytes
pub shifted : (k value : ℕ) → value / 2 ^ (8 * k) ≡ value / 256 ^ k
shifted k value = ap (λ n. value / n) (two_power k)

-- a number of 64 bits has eight bytes
none_above : (k value : ℕ) → 8 ≤ k → value < 2 ^ 64 → value / 256 ^ k ≡ 0
none_above k value h v = div-eq_of_lt {n = value} {m = 256 ^ k} (omega (arith, v, pow-le-pow_right {n = 256} (omega arith) {i = 8} {j = k} h))

pub above : (k value : ℕ) → 8 ≤ k → value < 2 ^ 64 → byte_of k value ≡ 0
above k value h v = ap (λ n. n % 256) (none_above k value h v)

pub above_word : (k value : ℕ) → 8 ≤ k → value < 2 ^ 64 → value / 256 ^ k % 2 ^ 32 ≡ 0
above_word k value h v = ap (λ n. n % 2 ^ 32) (none_above k value h v)
