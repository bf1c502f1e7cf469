-- What `wrap` gives lies in the type's range, and leaves a number of the range as it is.
use Rattle.std.proofs.Common.{◌≡◌, ℕ, ◌-◌, ◌*◌, ◌%◌, ◌^◌, ◌<◌, ◌≤◌, ℤ, pos, negsuc, ◌-ℤ◌, refl, sym, ap, ◌∙◌, arith, lit<, nat_lt, inl, inr, false}
use Rattle.std.proofs.Math.Nat.{mod-eq_of_lt, mod-lt}
use Rattle.std.proofs.lemmas.Int.{ints, to_z-of_z, to_z_pos}
use Rattle.std.proofs.lemmas.Bool.{cases_lt}
use Rattle.std.proofs.lemmas.Bool.Decides.{nat_tests}
use Rattle.std.specs.Prelude.{◌≤ℤ◌, if◌then◌else◌, FitsSigned}
use Rattle.std.specs.Int.{int_wrap, w8, w16, w32, w64, w128, cast_signed, cast_unsigned}
use Rattle.clnum.specs.Integer.{IsIn, bits, residue, wrap, bits_of, read_as}
use Rattle.clnum.specs.declared.int_type.IntType.{IntType}
use Rattle.clnum.specs.declared.int_type.IntType.TheVariants.{Char, Uchar, Short, Ushort, Int, Uint, Long, Ulong}
use Rattle.clnum.proofs.Residues.{residue-below, residue-int_wrap, residue-multiple}

-- a signed reading of n in 2 * h bits
abbrev pub signed : ℕ → ℕ → ℤ
signed h n = if nat_lt n h then pos n else pos n -ℤ pos (2 * h)

pub signed-low : (h n : ℕ) → n < h → signed h n ≡ pos n
signed-low h n below = grind (arith, nat_tests)

pub signed-high : (h n : ℕ) → h ≤ n → signed h n ≡ pos n -ℤ pos (2 * h)
signed-high h n above = grind (arith, nat_tests)

signed_from : (h n : ℕ) → n < 2 * h → (pos 0 -ℤ pos h) ≤ℤ signed h n
signed_from h n below = elim (cases_lt n h) [
  | inl low ↦ rw (signed-low h n low) (omega (arith, ints))
  | inr high ↦ rw (signed-high h n high) (omega (arith, ints))
]

signed_to : (h n : ℕ) → n < 2 * h → signed h n ≤ℤ (pos h -ℤ pos 1)
signed_to h n below = elim (cases_lt n h) [
  | inl low ↦ rw (signed-low h n low) (omega (arith, ints))
  | inr high ↦ rw (signed-high h n high) (omega (arith, ints))
]

negative-back : (h n : ℕ) → n < h → pos (2 * h - 1 - n) -ℤ pos (2 * h) ≡ negsuc n
negative-back h n below = omega (arith, ints)

signed-residue : (h : ℕ) (z : ℤ) → (pos 0 -ℤ pos h) ≤ℤ z → z ≤ℤ (pos h -ℤ pos 1) → signed h (residue (2 * h) z) ≡ z
signed-residue h (pos n) from to =
    let below : n < h = omega (arith, ints) in
    ap (signed h) (mod-eq_of_lt (omega arith)) ∙ signed-low h n below
signed-residue h (negsuc n) from to =
    let below : n < h = omega (arith, ints) in
    let e : n % (2 * h) ≡ n = mod-eq_of_lt (omega arith) in
    ap (λ x. signed h (2 * h - 1 - x)) e ∙ signed-high h (2 * h - 1 - n) (omega arith) ∙ negative-back h n below

unsigned-residue : (m : ℕ) (z : ℤ) → pos 0 ≤ℤ z → z ≤ℤ (pos m -ℤ pos 1) → pos (residue m z) ≡ z
unsigned-residue m (pos n) from to = let below : n < m = omega (arith, ints) in ap (λ x. pos x) (mod-eq_of_lt below)
unsigned-residue m (negsuc n) from to = absurd (omega (arith, ints))

unsigned_to : (m n : ℕ) → n < m → pos n ≤ℤ (pos m -ℤ pos 1)
unsigned_to m n below = omega (arith, ints)

unsigned_from : (n : ℕ) → pos 0 ≤ℤ pos n
unsigned_from n = omega (arith, ints)

signed_in : (h : ℕ) (z : ℤ) → 0 < h → ((pos 0 -ℤ pos h) ≤ℤ signed h (residue (2 * h) z)) × (signed h (residue (2 * h) z) ≤ℤ (pos h -ℤ pos 1))
signed_in h z positive =
    let below : residue (2 * h) z < 2 * h = residue-below (2 * h) z (omega arith) in
    (signed_from h (residue (2 * h) z) below, signed_to h (residue (2 * h) z) below)

-- what `wrap` gives lies in the type's range
pub IsIn-wrap : (kind : IntType) (z : ℤ) → IsIn kind (wrap kind z)
unfolding wrap
IsIn-wrap Char z = let p = signed_in (2 ^ 7) z (lit< tt) in record { from = p.0; to = p.1 }
IsIn-wrap Uchar z = record { from = unsigned_from (residue (2 ^ 8) z); to = unsigned_to (2 ^ 8) (residue (2 ^ 8) z) (residue-below (2 ^ 8) z (lit< tt)) }
IsIn-wrap Short z = let p = signed_in (2 ^ 15) z (lit< tt) in record { from = p.0; to = p.1 }
IsIn-wrap Ushort z = record { from = unsigned_from (residue (2 ^ 16) z); to = unsigned_to (2 ^ 16) (residue (2 ^ 16) z) (residue-below (2 ^ 16) z (lit< tt)) }
IsIn-wrap Int z = let p = signed_in (2 ^ 31) z (lit< tt) in record { from = p.0; to = p.1 }
IsIn-wrap Uint z = record { from = unsigned_from (residue (2 ^ 32) z); to = unsigned_to (2 ^ 32) (residue (2 ^ 32) z) (residue-below (2 ^ 32) z (lit< tt)) }
IsIn-wrap Long z = let p = signed_in (2 ^ 63) z (lit< tt) in record { from = p.0; to = p.1 }
IsIn-wrap Ulong z = record { from = unsigned_from (residue (2 ^ 64) z); to = unsigned_to (2 ^ 64) (residue (2 ^ 64) z) (residue-below (2 ^ 64) z (lit< tt)) }

-- a number of the range stays
pub wrap-in : (kind : IntType) (z : ℤ) → IsIn kind z → wrap kind z ≡ z
unfolding wrap
wrap-in Char z h = signed-residue (2 ^ 7) z h.from h.to
wrap-in Uchar z h = unsigned-residue (2 ^ 8) z h.from h.to
wrap-in Short z h = signed-residue (2 ^ 15) z h.from h.to
wrap-in Ushort z h = unsigned-residue (2 ^ 16) z h.from h.to
wrap-in Int z h = signed-residue (2 ^ 31) z h.from h.to
wrap-in Uint z h = unsigned-residue (2 ^ 32) z h.from h.to
wrap-in Long z h = signed-residue (2 ^ 63) z h.from h.to
wrap-in Ulong z h = unsigned-residue (2 ^ 64) z h.from h.to

-- to keep 128 bits first changes nothing
pub wrap-int_wrap : (kind : IntType) (z : ℤ) → wrap kind (int_wrap w128 z) ≡ wrap kind z
unfolding wrap
wrap-int_wrap Char z = ap (read_as Char) (residue-int_wrap (2 ^ 8) (2 ^ 120) z (lit< tt) refl)
wrap-int_wrap Uchar z = ap (read_as Uchar) (residue-int_wrap (2 ^ 8) (2 ^ 120) z (lit< tt) refl)
wrap-int_wrap Short z = ap (read_as Short) (residue-int_wrap (2 ^ 16) (2 ^ 112) z (lit< tt) refl)
wrap-int_wrap Ushort z = ap (read_as Ushort) (residue-int_wrap (2 ^ 16) (2 ^ 112) z (lit< tt) refl)
wrap-int_wrap Int z = ap (read_as Int) (residue-int_wrap (2 ^ 32) (2 ^ 96) z (lit< tt) refl)
wrap-int_wrap Uint z = ap (read_as Uint) (residue-int_wrap (2 ^ 32) (2 ^ 96) z (lit< tt) refl)
wrap-int_wrap Long z = ap (read_as Long) (residue-int_wrap (2 ^ 64) (2 ^ 64) z (lit< tt) refl)
wrap-int_wrap Ulong z = ap (read_as Ulong) (residue-int_wrap (2 ^ 64) (2 ^ 64) z (lit< tt) refl)

-- the bits of a type among the lowest 64
pub residue-64 : (kind : IntType) (z : ℤ) → residue (2 ^ 64) z % 2 ^ bits kind ≡ bits_of kind z
unfolding bits_of
residue-64 Char z = residue-multiple (2 ^ 8) (2 ^ 56) z (lit< tt) (lit< tt)
residue-64 Uchar z = residue-multiple (2 ^ 8) (2 ^ 56) z (lit< tt) (lit< tt)
residue-64 Short z = residue-multiple (2 ^ 16) (2 ^ 48) z (lit< tt) (lit< tt)
residue-64 Ushort z = residue-multiple (2 ^ 16) (2 ^ 48) z (lit< tt) (lit< tt)
residue-64 Int z = residue-multiple (2 ^ 32) (2 ^ 32) z (lit< tt) (lit< tt)
residue-64 Uint z = residue-multiple (2 ^ 32) (2 ^ 32) z (lit< tt) (lit< tt)
residue-64 Long z = mod-eq_of_lt (residue-below (2 ^ 64) z (lit< tt))
residue-64 Ulong z = mod-eq_of_lt (residue-below (2 ^ 64) z (lit< tt))

pub lowest_in : (kind k : IntType) (z : ℤ) (x : ℕ) → kind ≡ k → x ≡ residue (2 ^ 64) z → x % 2 ^ bits k ≡ bits_of kind z
lowest_in kind k z x e p = ap (λ n. n % 2 ^ bits k) p ∙ ap (λ t. residue (2 ^ 64) z % 2 ^ bits t) (sym e) ∙ residue-64 kind z

-- all 64 bits
pub all_in : (kind k : IntType) (z : ℤ) (x : ℕ) → kind ≡ k → bits k ≡ 64 → x ≡ residue (2 ^ 64) z → x ≡ bits_of kind z
unfolding bits_of
all_in kind k z x e w p = p ∙ ap (λ b. residue (2 ^ b) z) (sym w ∙ ap bits (sym e))

-- the code's reading of n as a signed number
not_below : (h n : ℕ) → h ≤ n → nat_lt n h ≡ false
not_below h n high = grind (arith, nat_tests)

reading-8 : (n : ℕ) → n < 2 ^ 8 → cast_signed w8 n ≡ signed (2 ^ 7) n
reading-8 n below =
    elim (cases_lt n (2 ^ 7)) [
      | inl low ↦ to_z_pos w8 n low ∙ sym (signed-low (2 ^ 7) n low)
      | inr high ↦ rw (not_below (2 ^ 7) n high) (omega (arith, ints))
    ]

reading-16 : (n : ℕ) → n < 2 ^ 16 → cast_signed w16 n ≡ signed (2 ^ 15) n
reading-16 n below =
    elim (cases_lt n (2 ^ 15)) [
      | inl low ↦ to_z_pos w16 n low ∙ sym (signed-low (2 ^ 15) n low)
      | inr high ↦ rw (not_below (2 ^ 15) n high) (omega (arith, ints))
    ]

reading-32 : (n : ℕ) → n < 2 ^ 32 → cast_signed w32 n ≡ signed (2 ^ 31) n
reading-32 n below =
    elim (cases_lt n (2 ^ 31)) [
      | inl low ↦ to_z_pos w32 n low ∙ sym (signed-low (2 ^ 31) n low)
      | inr high ↦ rw (not_below (2 ^ 31) n high) (omega (arith, ints))
    ]

reading-64 : (n : ℕ) → n < 2 ^ 64 → cast_signed w64 n ≡ signed (2 ^ 63) n
reading-64 n below =
    elim (cases_lt n (2 ^ 63)) [
      | inl low ↦ to_z_pos w64 n low ∙ sym (signed-low (2 ^ 63) n low)
      | inr high ↦ rw (not_below (2 ^ 63) n high) (omega (arith, ints))
    ]

-- a number as it is passed on
pub passed : (z : ℤ) → FitsSigned w128 z → cast_signed w128 (cast_unsigned w128 z) ≡ z
passed z h = to_z-of_z w128 z h

-- a number is its type's reading of its lowest bits
pub read_lowest : (kind k : IntType) (z r : ℤ) (x : ℕ) → FitsSigned w128 z → FitsSigned w128 r → kind ≡ k
    → x ≡ residue (2 ^ 64) (cast_signed w128 (cast_unsigned w128 z)) → r ≡ read_as k (x % 2 ^ bits k)
    → cast_signed w128 (cast_unsigned w128 r) ≡ wrap kind z
unfolding wrap bits_of
read_lowest kind k z r x fits fits_r e p q =
    passed r fits_r ∙ q ∙ ap (λ t. read_as t (x % 2 ^ bits t)) (sym e)
    ∙ ap (read_as kind) (lowest_in kind kind z x refl (p ∙ ap (residue (2 ^ 64)) (passed z fits)))

-- the code's reading of the lowest 8, 16, 32 and 64 bits, widened
pub char_reading : (x : ℕ) (s r : ℤ) → FitsSigned w8 s → s ≡ cast_signed w8 (x % 2 ^ 8) → r ≡ cast_signed w8 (cast_unsigned w8 s) → r ≡ read_as Char (x % 2 ^ 8)
char_reading x s r fits p q = q ∙ to_z-of_z w8 s fits ∙ p ∙ reading-8 (x % 2 ^ 8) (mod-lt x (lit< tt))

pub short_reading : (x : ℕ) (s r : ℤ) → FitsSigned w16 s → s ≡ cast_signed w16 (x % 2 ^ 16) → r ≡ cast_signed w16 (cast_unsigned w16 s) → r ≡ read_as Short (x % 2 ^ 16)
short_reading x s r fits p q = q ∙ to_z-of_z w16 s fits ∙ p ∙ reading-16 (x % 2 ^ 16) (mod-lt x (lit< tt))

pub int_reading : (x : ℕ) (s r : ℤ) → FitsSigned w32 s → s ≡ cast_signed w32 (x % 2 ^ 32) → r ≡ cast_signed w32 (cast_unsigned w32 s) → r ≡ read_as Int (x % 2 ^ 32)
int_reading x s r fits p q = q ∙ to_z-of_z w32 s fits ∙ p ∙ reading-32 (x % 2 ^ 32) (mod-lt x (lit< tt))

pub long_reading : (x : ℕ) (s r : ℤ) → x < 2 ^ 64 → FitsSigned w64 s → s ≡ cast_signed w64 x → r ≡ cast_signed w64 (cast_unsigned w64 s) → r ≡ read_as Long (x % 2 ^ 64)
long_reading x s r below fits p q = q ∙ to_z-of_z w64 s fits ∙ p ∙ reading-64 x below ∙ ap (read_as Long) (sym (mod-eq_of_lt below))

pub ulong_reading : (x : ℕ) (r : ℤ) → x < 2 ^ 64 → r ≡ pos x → r ≡ read_as Ulong (x % 2 ^ 64)
ulong_reading x r below q = q ∙ ap (λ n. pos n) (sym (mod-eq_of_lt below))
