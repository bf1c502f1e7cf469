-- Residues modulo a power of two, of numbers and of what the 128-bit operations leave of them.
use Rattle.std.proofs.Common.{◌≡◌, ℕ, ◌+◌, ◌-◌, ◌*◌, ◌/◌, ◌%◌, ◌^◌, ◌<◌, ℤ, pos, negsuc, sym, ap, ◌∙◌, arith, lit<}
use Rattle.std.proofs.Math.Nat.{mod-lt, mod-eq_of_lt, mod-mod_of_dvd, mul-add-mod_self_left, div-add-mod, dvd-mul_right, div-lt_iff_lt-mul}
use Rattle.std.proofs.lemmas.Int.{SFits-int_wrap, of_z-to_z}
use Rattle.std.specs.Int.{int_wrap, w128, cast_unsigned}
use Rattle.std.specs.Prelude.{FitsSigned}
use Rattle.clnum.specs.Integer.{residue}

-- the residue of a residue by a multiple
pub mod-mod_multiple : (m q n : ℕ) → n % (m * q) % m ≡ n % m
mod-mod_multiple m q n = mod-mod_of_dvd m n (dvd-mul_right m q)

-- k * m more than a number below m
pub mod-above : (m k c : ℕ) → c < m → (m * k + c) % m ≡ c
mod-above m k c below = mul-add-mod_self_left m k c ∙ mod-eq_of_lt below

quotient_below : (m q x : ℕ) → 0 < m → x < m * q → x / m < q
quotient_below m q x positive below = (div-lt_iff_lt-mul positive).1 (omega arith)

-- with x = m * t + s, and q = t + 1 + k
complement_parts : (m q t s k x : ℕ) → s < m → q ≡ t + 1 + k → x ≡ m * t + s → m * q - 1 - x ≡ m * k + (m - 1 - s)
complement_parts m q t s k x below e p =
    let h : m * q ≡ m * t + m + m * k = ap (λ n. m * n) e ∙ omega arith in
    omega arith

-- m * q - 1 less a number below m * q
pub mod-complement : (m q x : ℕ) → 0 < m → x < m * q → (m * q - 1 - x) % m ≡ m - 1 - x % m
mod-complement m q x positive below =
    let t : x / m < q = quotient_below m q x positive below in
    let s : x % m < m = mod-lt x positive in
    let e : q ≡ x / m + 1 + (q - 1 - x / m) = omega arith in
    let p : x ≡ m * (x / m) + x % m = sym (div-add-mod x m) in
    ap (λ n. n % m) (complement_parts m q (x / m) (x % m) (q - 1 - x / m) x s e p)
    ∙ mod-above m (q - 1 - x / m) (m - 1 - x % m) (omega arith)

pub residue-multiple : (m q : ℕ) (z : ℤ) → 0 < m → 0 < m * q → residue (m * q) z % m ≡ residue m z
residue-multiple m q (pos n) positive p = mod-mod_multiple m q n
residue-multiple m q (negsuc n) positive p = mod-complement m q (n % (m * q)) positive (mod-lt n p) ∙ ap (λ x. m - 1 - x) (mod-mod_multiple m q n)

-- the bits that hold a number of 128 bits
pub residue-fits : (z : ℤ) → FitsSigned w128 z → residue (2 ^ 128) z ≡ cast_unsigned w128 z
residue-fits (pos n) h = mod-eq_of_lt (omega (arith, h.sfits))
residue-fits (negsuc n) h = let e : n % 2 ^ 128 ≡ n = mod-eq_of_lt (omega (arith, h.sfits)) in omega arith

-- the low bits of a number of 128 bits
pub low_bits_is : (m q : ℕ) (z : ℤ) → 0 < m → m * q ≡ 2 ^ 128 → FitsSigned w128 z → cast_unsigned w128 z % m ≡ residue m z
low_bits_is m q z positive e h =
    ap (λ x. x % m) (sym (residue-fits z h) ∙ ap (λ x. residue x z) (sym e)) ∙ residue-multiple m q z positive (omega arith)

pub residue-below : (m : ℕ) (z : ℤ) → 0 < m → residue m z < m
residue-below m (pos n) positive = mod-lt n positive
residue-below m (negsuc n) positive = omega arith

-- what 128 bits keep of a number, as bits
bits-int_wrap : (z : ℤ) → cast_unsigned w128 (int_wrap w128 z) ≡ residue (2 ^ 128) z
unfolding int_wrap
bits-int_wrap (pos n) = of_z-to_z w128 (residue (2 ^ 128) (pos n)) (residue-below (2 ^ 128) (pos n) (lit< tt))
bits-int_wrap (negsuc n) = of_z-to_z w128 (residue (2 ^ 128) (negsuc n)) (residue-below (2 ^ 128) (negsuc n) (lit< tt))

-- the low bits of what 128 bits keep of a number
pub residue-int_wrap : (m q : ℕ) (z : ℤ) → 0 < m → m * q ≡ 2 ^ 128 → residue m (int_wrap w128 z) ≡ residue m z
residue-int_wrap m q z positive e =
    sym (low_bits_is m q (int_wrap w128 z) positive e (SFits-int_wrap w128 z))
    ∙ ap (λ x. x % m) (bits-int_wrap z ∙ ap (λ x. residue x z) (sym e))
    ∙ residue-multiple m q z positive (omega arith)
