-- The bytes of a word, and what marks of it say of them.
use Rattle.std.proofs.Common.{◌≡◌, ℕ, zero, suc, ◌+◌, ◌*◌, ◌/◌, ◌%◌, ◌^◌, ◌<◌, ◌≤◌, ◌==◌, false, ◌⊎◌, inl, inr, refl, sym, ap, ◌∙◌, arith}
use Rattle.std.proofs.lemmas.Bool.{cases_eq, ne_eqb}
use Rattle.clmodel.specs.Cells.{byte_of, byte_count}
use Rattle.clmodel.specs.declared.access.Width.{Width}
use Rattle.clmodel.specs.declared.access.Width.TheVariants.{One, Two, Four, Eight}
use Rattle.clmodel.proofs.Bytes.{four_bytes_are}

-- the bytes of the high and the low half of a value
pub high_half : (v k : ℕ) → k < 4 → byte_of k (v / 4294967296) ≡ byte_of (4 + k) v
high_half v zero h = ap (λ z. z % 256) (omega arith)
high_half v (suc zero) h = ap (λ z. z % 256) (omega arith)
high_half v (suc (suc zero)) h = ap (λ z. z % 256) (omega arith)
high_half v (suc (suc (suc zero))) h = ap (λ z. z % 256) (omega arith)
high_half v (suc (suc (suc (suc k)))) h = absurd (omega (arith, h))

pub low_half : (v k : ℕ) → k < 4 → byte_of k (v % 4294967296) ≡ byte_of (0 + k) v
low_half v zero h = omega arith
low_half v (suc zero) h = omega arith
low_half v (suc (suc zero)) h = omega arith
low_half v (suc (suc (suc zero))) h = omega arith
low_half v (suc (suc (suc (suc k)))) h = absurd (omega (arith, h))

-- 0 has the byte 0
pub no_byte : (k : ℕ) → k < 4 → byte_of k 0 ≡ 0
no_byte zero h = refl
no_byte (suc zero) h = refl
no_byte (suc (suc zero)) h = refl
no_byte (suc (suc (suc zero))) h = refl
no_byte (suc (suc (suc (suc k)))) h = absurd (omega (arith, h))

-- two numbers that differ do so in a byte
pub bytes_differ : (a b : ℕ) → a < 2 ^ 32 → b < 2 ^ 32 → (a ≡ b → ⊥) → (k : ℕ) × (k < 4) × ((byte_of k a == byte_of k b) ≡ false)
bytes_differ a b small small_b ne =
    go (cases_eq (byte_of 0 a) (byte_of 0 b)) (cases_eq (byte_of 1 a) (byte_of 1 b)) (cases_eq (byte_of 2 a) (byte_of 2 b)) (cases_eq (byte_of 3 a) (byte_of 3 b))
  where
    go : (byte_of 0 a ≡ byte_of 0 b) ⊎ (byte_of 0 a ≡ byte_of 0 b → ⊥) → (byte_of 1 a ≡ byte_of 1 b) ⊎ (byte_of 1 a ≡ byte_of 1 b → ⊥)
        → (byte_of 2 a ≡ byte_of 2 b) ⊎ (byte_of 2 a ≡ byte_of 2 b → ⊥) → (byte_of 3 a ≡ byte_of 3 b) ⊎ (byte_of 3 a ≡ byte_of 3 b → ⊥)
        → (k : ℕ) × (k < 4) × ((byte_of k a == byte_of k b) ≡ false)
    go (inr h) _ _ _ = (0, omega arith, ne_eqb (byte_of 0 a) (byte_of 0 b) h)
    go _ (inr h) _ _ = (1, omega arith, ne_eqb (byte_of 1 a) (byte_of 1 b) h)
    go _ _ (inr h) _ = (2, omega arith, ne_eqb (byte_of 2 a) (byte_of 2 b) h)
    go _ _ _ (inr h) = (3, omega arith, ne_eqb (byte_of 3 a) (byte_of 3 b) h)
    go (inl d) (inl e) (inl f) (inl g) =
        let p = four_bytes_are a small in
        let q = four_bytes_are b small_b in
        absurd (ne (sym p ∙ ap (λ z. z + 256 * (byte_of 1 a + 256 * (byte_of 2 a + 256 * (byte_of 3 a + 256 * 0)))) d
        ∙ ap (λ z. byte_of 0 b + 256 * (z + 256 * (byte_of 2 a + 256 * (byte_of 3 a + 256 * 0)))) e
        ∙ ap (λ z. byte_of 0 b + 256 * (byte_of 1 b + 256 * (z + 256 * (byte_of 3 a + 256 * 0)))) f
        ∙ ap (λ z. byte_of 0 b + 256 * (byte_of 1 b + 256 * (byte_of 2 b + 256 * (z + 256 * 0)))) g
        ∙ q))

-- an access to more than four bytes is to eight
pub eight_bytes : (w : Width) (count : ℕ) → count ≡ byte_count w → 4 ≤ count → (count ≡ 4 → ⊥) → count ≡ 8
eight_bytes One count e h ne = absurd (omega (arith, e, h))
eight_bytes Two count e h ne = absurd (omega (arith, e, h))
eight_bytes Four count e h ne = absurd (ne e)
eight_bytes Eight count e h ne = e

pub four_bytes : (w : Width) (count : ℕ) → count ≡ byte_count w → 4 ≤ count → (count ≡ 8 → ⊥) → count ≡ 4
four_bytes One count e h ne = absurd (omega (arith, e, h))
four_bytes Two count e h ne = absurd (omega (arith, e, h))
four_bytes Four count e h ne = e
four_bytes Eight count e h ne = absurd (ne e)
