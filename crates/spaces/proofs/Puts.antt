-- Numbers that are put into a row in parts.
use Rattle.std.proofs.Common.{◌≡◌, ℕ, ◌+◌, ◌-◌, ◌/◌, ◌%◌, ◌^◌, ◌<◌, ◌≤◌, ◌⊎◌, List, Some, length, set, sym, ap, ◌∙◌, inl, inr, arith}
use Rattle.std.proofs.Math.Nat.{div-div-eq-div-mul}
use Rattle.std.proofs.lemmas.Bool.{cases_lt}
use Rattle.std.proofs.lemmas.List.{get_or-set_same, get_or-set_other}
use Rattle.std.proofs.lemmas.Nat.{pow-add}
use Rattle.clmodel.specs.Cells.{Cells, byte_of, written}
use Rattle.spaces.proofs.Rows.{written_in, written_out, written_more}
use Rattle.spaces.specs.Overlay.{row_cells}

-- a byte that is set
pub put_byte : (row : List ℕ) (at value : ℕ) → at + 1 ≤ length row → (byte : ℕ) → row_cells (set row at (value % 256)) byte ≡ written (row_cells row) at 1 value byte
put_byte row at value inside byte =
    sym (written_out (row_cells (set row at (value % 256))) (at + 1) 0 (value / 256) byte (λ a b. omega (arith, a, b)))
    ∙ written_more (row_cells row) (row_cells (set row at (value % 256))) at 1 value byte (omega arith)
    (ap Some (get_or-set_same row at (value % 256) 0 (omega (arith, inside))))
    (λ ne. ap Some (get_or-set_other row at byte (value % 256) 0 ne))

-- a byte further up is one of the number without its n lowest bytes
byte_over : (n k m value : ℕ) → m ≡ n + k → byte_of k (value / 256 ^ n) ≡ byte_of m value
byte_over n k m value e =
    ap (λ z. z % 256) (div-div-eq-div-mul value (256 ^ n) (256 ^ k) ∙ ap (λ z. value / z) (sym (pow-add 256 n k))) ∙ ap (λ z. byte_of z value) (sym e)

-- m bytes first, and then the n lowest
pub put_below :
    (c d : Cells) (first n m value byte : ℕ) → d byte ≡ written c (first + n) m (value / 256 ^ n) byte → written d first n value byte ≡ written c first (n + m) value byte
put_below c d first n m value byte high = go (cases_lt byte first) (cases_lt byte (first + n)) (cases_lt byte (first + n + m))
  where
    go : (byte < first) ⊎ (first ≤ byte) → (byte < first + n) ⊎ (first + n ≤ byte) → (byte < first + n + m) ⊎ (first + n + m ≤ byte)
        → written d first n value byte ≡ written c first (n + m) value byte
    go (inl a) b e =
        written_out d first n value byte (λ p q. omega (arith, a, p))
        ∙ high
        ∙ written_out c (first + n) m (value / 256 ^ n) byte (λ p q. omega (arith, a, p))
        ∙ sym (written_out c first (n + m) value byte (λ p q. omega (arith, a, p)))
    go (inr a) (inl b) e = written_in d first n value byte a b ∙ sym (written_in c first (n + m) value byte a (omega (arith, b)))
    go (inr a) (inr b) (inl e) =
        written_out d first n value byte (λ p q. omega (arith, b, q))
        ∙ high
        ∙ written_in c (first + n) m (value / 256 ^ n) byte b e
        ∙ ap Some (byte_over n (byte - (first + n)) (byte - first) value (omega (arith, b)))
        ∙ sym (written_in c first (n + m) value byte a (omega (arith, e)))
    go (inr a) (inr b) (inr e) =
        written_out d first n value byte (λ p q. omega (arith, b, q))
        ∙ high
        ∙ written_out c (first + n) m (value / 256 ^ n) byte (λ p q. omega (arith, q, e))
        ∙ sym (written_out c first (n + m) value byte (λ p q. omega (arith, e, q)))

-- the n lowest bytes first, and then m others
pub put_parts :
    (c d : Cells) (first n m value byte : ℕ) → d byte ≡ written c first n value byte → written d (first + n) m (value / 256 ^ n) byte ≡ written c first (n + m) value byte
put_parts c d first n m value byte low = go (cases_lt byte first) (cases_lt byte (first + n)) (cases_lt byte (first + n + m))
  where
    go : (byte < first) ⊎ (first ≤ byte) → (byte < first + n) ⊎ (first + n ≤ byte) → (byte < first + n + m) ⊎ (first + n + m ≤ byte)
        → written d (first + n) m (value / 256 ^ n) byte ≡ written c first (n + m) value byte
    go (inl a) b e =
        written_out d (first + n) m (value / 256 ^ n) byte (λ p q. omega (arith, a, p))
        ∙ low
        ∙ written_out c first n value byte (λ p q. omega (arith, a, p))
        ∙ sym (written_out c first (n + m) value byte (λ p q. omega (arith, a, p)))
    go (inr a) (inl b) e =
        written_out d (first + n) m (value / 256 ^ n) byte (λ p q. omega (arith, b, p))
        ∙ low
        ∙ written_in c first n value byte a b
        ∙ sym (written_in c first (n + m) value byte a (omega (arith, b)))
    go (inr a) (inr b) (inl e) =
        written_in d (first + n) m (value / 256 ^ n) byte b e
        ∙ ap Some (byte_over n (byte - (first + n)) (byte - first) value (omega (arith, b)))
        ∙ sym (written_in c first (n + m) value byte a (omega (arith, e)))
    go (inr a) (inr b) (inr e) =
        written_out d (first + n) m (value / 256 ^ n) byte (λ p q. omega (arith, q, e))
        ∙ low
        ∙ written_out c first n value byte (λ p q. omega (arith, b, q))
        ∙ sym (written_out c first (n + m) value byte (λ p q. omega (arith, e, q)))
