-- What the code computes in 128 bits, as the formulas over whole numbers.
use Rattle.std.proofs.Common.{◌≡◌, ℕ, suc, zero, ◌+◌, ◌-◌, ◌*◌, ◌/◌, ◌%◌, ◌^◌, ◌<◌, ◌≤◌, ℤ, pos, negsuc, neg_ℤ, ◌+ℤ◌, ◌-ℤ◌, ◌*ℤ◌, ◌≤ℤ◌, ◌<ℤ◌, refl, sym, ap, ap₂, ◌∙◌, subst, arith, lit<, lit≤, true, false, Bool, inl, inr, Ok, Err}
use Rattle.std.proofs.Math.Nat.{mod-eq_of_lt, mod-lt, div-le_self, div-lt_iff_lt-mul, zero-lt-suc, mul_assoc}
use Rattle.std.proofs.Math.Pow.{pow_mono}
use Rattle.std.proofs.lemmas.Bool.{cases_lt}
use Rattle.std.specs.Int.Signed.{shr_z, mag_shr}
use Rattle.std.proofs.lemmas.Int.{ints, wrapping_mul_is, wrapping_sub_is, int_wrap-sub_right, SFits-int_wrap, to_z-of_z, of_z-to_z}
use Rattle.std.specs.Prelude.{FitsSigned, int_div, Result, eqb, if◌then◌else◌}
use Rattle.std.specs.Ordering.{int_eq}
use Rattle.std.proofs.lemmas.Bool.Decides.{same_from_decides, Decides-eqb, Decides-int_eq, nat_tests}
use Rattle.std.specs.Int.{int_wrap, int_wrapping_mul, int_wrapping_sub, int_div_euclid, w64, w128, cast_signed, cast_unsigned}
use Rattle.clnum.specs.Integer.{Integer, IsIn, IsWithin, bits, residue, wrap, bits_of, converted}
use Rattle.clnum.specs.Conversions.{common, promoted}
use Rattle.clnum.specs.Operations.{wrapped, arithmetic, comparison, bitwise, truth, shift, division, divided, is_in, binary_value}
use Rattle.clnum.specs.declared.operators.ArithFault.{ArithFault}
use Rattle.clnum.specs.declared.operators.ArithFault.TheVariants.{DivideByZero, DivideOverflow}
use Rattle.clnum.specs.declared.operators.BinaryOperator.{BinaryOperator}
use Rattle.clnum.specs.declared.int_type.IntType.{IntType}
use Rattle.clnum.specs.declared.int_type.IntType.TheVariants.{Char, Uchar, Short, Ushort, Int, Uint, Long, Ulong}
use Rattle.clnum.proofs.Residues.{residue-below, residue-multiple}
use Rattle.clnum.proofs.Ranges.{passed, wrap-int_wrap, wrap-in, IsIn-wrap, signed, signed-low, signed-high}

-- a number as it comes back from the code's 128 bits
abbrev pub back : ℤ → ℤ
back z = cast_signed w128 (cast_unsigned w128 z)

pub fits_between : (z : ℤ) → neg_ℤ (pos (2 ^ 127)) ≤ℤ z → z <ℤ pos (2 ^ 127) → FitsSigned w128 z
fits_between (pos n) from to = record { sfits = omega (arith, ints) }
fits_between (negsuc n) from to = record { sfits = omega (arith, ints) }

pub IsWithin-fits : (z : ℤ) → IsWithin z → FitsSigned w128 z
IsWithin-fits (pos n) h = record { sfits = omega (arith, ints) }
IsWithin-fits (negsuc n) h = record { sfits = omega (arith, ints) }

-- each type's numbers lie within these bounds
pub IsIn-within : (kind : IntType) (z : ℤ) → IsIn kind z → IsWithin z
IsIn-within Char z h = let from = h.from in let to = h.to in record { at_least = omega (arith, ints); below = omega (arith, ints) }
IsIn-within Uchar z h = let from = h.from in let to = h.to in record { at_least = omega (arith, ints); below = omega (arith, ints) }
IsIn-within Short z h = let from = h.from in let to = h.to in record { at_least = omega (arith, ints); below = omega (arith, ints) }
IsIn-within Ushort z h = let from = h.from in let to = h.to in record { at_least = omega (arith, ints); below = omega (arith, ints) }
IsIn-within Int z h = let from = h.from in let to = h.to in record { at_least = omega (arith, ints); below = omega (arith, ints) }
IsIn-within Uint z h = let from = h.from in let to = h.to in record { at_least = omega (arith, ints); below = omega (arith, ints) }
IsIn-within Long z h = let from = h.from in let to = h.to in record { at_least = omega (arith, ints); below = omega (arith, ints) }
IsIn-within Ulong z h = let from = h.from in let to = h.to in record { at_least = omega (arith, ints); below = omega (arith, ints) }

pub back-add : (x y : ℤ) → IsWithin x → IsWithin y → back (back x +ℤ back y) ≡ x +ℤ y
back-add x y p q =
    ap₂ (λ a b. back (a +ℤ b)) (passed x (IsWithin-fits x p)) (passed y (IsWithin-fits y q))
    ∙ passed (x +ℤ y) (fits_between (x +ℤ y) (omega (arith, ints)) (omega (arith, ints)))

pub back-sub : (x y : ℤ) → IsWithin x → IsWithin y → back (back x -ℤ back y) ≡ x -ℤ y
back-sub x y p q =
    ap₂ (λ a b. back (a -ℤ b)) (passed x (IsWithin-fits x p)) (passed y (IsWithin-fits y q))
    ∙ passed (x -ℤ y) (fits_between (x -ℤ y) (omega (arith, ints)) (omega (arith, ints)))

pub back-negate : (x : ℤ) → IsWithin x → back (pos 0 -ℤ back x) ≡ pos 0 -ℤ x
back-negate x p =
    ap (λ a. back (pos 0 -ℤ a)) (passed x (IsWithin-fits x p))
    ∙ passed (pos 0 -ℤ x) (fits_between (pos 0 -ℤ x) (omega (arith, ints)) (omega (arith, ints)))

pub back-complement : (x : ℤ) → IsWithin x → back (negsuc 0 -ℤ back x) ≡ negsuc 0 -ℤ x
back-complement x p =
    ap (λ a. back (negsuc 0 -ℤ a)) (passed x (IsWithin-fits x p))
    ∙ passed (negsuc 0 -ℤ x) (fits_between (negsuc 0 -ℤ x) (omega (arith, ints)) (omega (arith, ints)))

-- a formula in the common type, from the operands in it
pub arithmetic_is : (f : ℤ → ℤ → ℤ) (a b : Integer) (kind : IntType) (x y z : ℤ) (r : Integer)
    → kind ≡ common a.kind b.kind → x ≡ wrap kind a.number → y ≡ wrap kind b.number → wrap kind z ≡ wrap kind (f x y)
    → r ≡ wrapped kind z → r ≡ arithmetic f a b
arithmetic_is f a b kind x y z r k p q e h =
    h ∙ ap (λ n. record { kind = kind; number = n }) e
    ∙ ap₂ (λ u v. wrapped kind (f u v)) p q
    ∙ ap (λ t. wrapped t (f (wrap t a.number) (wrap t b.number))) k

pub comparison_is : (test : ℤ → ℤ → Bool) (a b : Integer) (kind : IntType) (x y : ℤ) (t : Bool) (r : Integer)
    → kind ≡ common a.kind b.kind → x ≡ wrap kind a.number → y ≡ wrap kind b.number → t ≡ test x y
    → r ≡ truth t → r ≡ comparison test a b
comparison_is test a b kind x y t r k p q e h =
    h ∙ ap truth (e ∙ ap₂ test p q ∙ ap (λ t. test (wrap t a.number) (wrap t b.number)) k)

-- a value in its own type
pub converted-same : (v : Integer) (kind : IntType) → v.kind ≡ kind → IsIn v.kind v.number → v ≡ converted v kind
unfolding converted
converted-same v kind e h =
    ap (λ n. record { kind = v.kind; number = n }) (sym (wrap-in v.kind v.number h))
    ∙ ap (λ t. record { kind = t; number = wrap t v.number }) e

pub wrapped-converted : (v : Integer) (kind : IntType) (x : ℤ) (r : Integer) → FitsSigned w128 x → x ≡ v.number → r ≡ wrapped kind (back x) → r ≡ converted v kind
unfolding converted
wrapped-converted v kind x r fits p h = h ∙ ap (wrapped kind) (passed x fits ∙ p)

-- what becomes of a number's value as its type changes
pub number-converted : (v c : Integer) (kind : IntType) (x : ℤ) → IsWithin x → c ≡ converted v kind → x ≡ c.number → back x ≡ wrap kind v.number
unfolding converted
number-converted v c kind x fits p q = passed x (IsWithin-fits x fits) ∙ q ∙ ap (λ i. i.number) p

pub in-converted : (v c : Integer) (kind : IntType) (x : ℤ) → IsWithin x → c ≡ converted v kind → x ≡ c.number → IsIn kind (back x)
unfolding converted
in-converted v c kind x fits p q = subst (λ z. IsIn kind z) (sym (number-converted v c kind x fits p q)) (IsIn-wrap kind v.number)

-- a formula in the promoted type
pub promoting_is : (v : Integer) (from kind : IntType) (z n : ℤ) (r : Integer) → from ≡ v.kind → kind ≡ promoted from → z ≡ n → r ≡ wrapped kind z → r ≡ wrapped (promoted v.kind) n
promoting_is v from kind z n r p q e h = h ∙ ap₂ wrapped (q ∙ ap promoted p) e

-- the code's test that two numbers are equal
pub eq_test : (x y : ℤ) → FitsSigned w128 x → FitsSigned w128 y → eqb (cast_unsigned w128 x) (cast_unsigned w128 y) ≡ int_eq x y
eq_test x y p q =
    same_from_decides {P = x ≡ y} _ _ (
      (λ t. sym (passed x p) ∙ ap (cast_signed w128) ((Decides-eqb (cast_unsigned w128 x) (cast_unsigned w128 y)).0 t) ∙ passed y q),
      (λ e. (Decides-eqb (cast_unsigned w128 x) (cast_unsigned w128 y)).1 (ap (cast_unsigned w128) e)),
    )
    (Decides-int_eq x y)

-- an operator that never faults
pub ok_is : (o k : BinaryOperator) (a b r v : Integer) → o ≡ k → r ≡ v → binary_value k a b ≡ Ok v → Ok r ≡ binary_value o a b
ok_is o k a b r v e h d = ap (λ i. Ok i) h ∙ sym d ∙ ap (λ t. binary_value t a b) (sym e)

pub wrap-wrapping_mul : (kind : IntType) (x y : ℤ) → FitsSigned w128 x → FitsSigned w128 y → wrap kind (int_wrapping_mul w128 x y) ≡ wrap kind (x *ℤ y)
wrap-wrapping_mul kind x y p q = ap (wrap kind) (wrapping_mul_is w128 x y p q) ∙ wrap-int_wrap kind (x *ℤ y)

pub division_is : (f : ℤ → ℤ → ℤ) (a b : Integer) (kind : IntType) (x y : ℤ) (r : Result Integer ArithFault)
    → kind ≡ common a.kind b.kind → x ≡ wrap kind a.number → y ≡ wrap kind b.number → IsWithin x → IsWithin y
    → r ≡ divided f kind (back x) (back y) → r ≡ division f a b
division_is f a b kind x y r k p q m n h =
    h ∙ ap₂ (divided f kind) (passed x (IsWithin-fits x m) ∙ p) (passed y (IsWithin-fits y n) ∙ q)
    ∙ ap (λ t. divided f t (wrap t a.number) (wrap t b.number)) k

pub IsIn-back : (kind : IntType) (x : ℤ) → IsWithin x → IsIn kind x → IsIn kind (back x)
IsIn-back kind x h i = subst (λ z. IsIn kind z) (sym (passed x (IsWithin-fits x h))) i

-- the bits of a number of a type are those of each number that wraps to it
bits-signed : (h n : ℕ) → n < 2 * h → residue (2 * h) (signed h n) ≡ n
bits-signed h n below =
    elim (cases_lt n h) [
      | inl low ↦ ap (residue (2 * h)) (signed-low h n low) ∙ mod-eq_of_lt below
      | inr high ↦ ap (residue (2 * h)) (signed-high h n high ∙ high_as h n below) ∙ high_back h n below
    ]
  where
    high_as : (h n : ℕ) → n < 2 * h → pos n -ℤ pos (2 * h) ≡ negsuc (2 * h - 1 - n)
    high_as h n below = omega (arith, ints)

    high_back : (h n : ℕ) → n < 2 * h → residue (2 * h) (negsuc (2 * h - 1 - n)) ≡ n
    high_back h n below =
        let e : (2 * h - 1 - n) % (2 * h) ≡ 2 * h - 1 - n = mod-eq_of_lt (omega arith) in
        omega arith

pub bits_of-wrap : (kind : IntType) (z : ℤ) → bits_of kind (wrap kind z) ≡ bits_of kind z
unfolding bits_of wrap
bits_of-wrap Char z = bits-signed (2 ^ 7) (residue (2 ^ 8) z) (residue-below (2 ^ 8) z (lit< tt))
bits_of-wrap Uchar z = mod-eq_of_lt (residue-below (2 ^ 8) z (lit< tt))
bits_of-wrap Short z = bits-signed (2 ^ 15) (residue (2 ^ 16) z) (residue-below (2 ^ 16) z (lit< tt))
bits_of-wrap Ushort z = mod-eq_of_lt (residue-below (2 ^ 16) z (lit< tt))
bits_of-wrap Int z = bits-signed (2 ^ 31) (residue (2 ^ 32) z) (residue-below (2 ^ 32) z (lit< tt))
bits_of-wrap Uint z = mod-eq_of_lt (residue-below (2 ^ 32) z (lit< tt))
bits_of-wrap Long z = bits-signed (2 ^ 63) (residue (2 ^ 64) z) (residue-below (2 ^ 64) z (lit< tt))
bits_of-wrap Ulong z = mod-eq_of_lt (residue-below (2 ^ 64) z (lit< tt))

pub bitwise_is : (f : ℕ → ℕ → ℕ) (a b : Integer) (kind : IntType) (x y : ℤ) (m n : ℕ) (r : Integer)
    → kind ≡ common a.kind b.kind → x ≡ wrap kind a.number → y ≡ wrap kind b.number → IsWithin x → IsWithin y
    → m ≡ bits_of kind (back x) → n ≡ bits_of kind (back y)
    → r ≡ wrapped kind (pos (f m n)) → r ≡ bitwise f a b
bitwise_is f a b kind x y m n r k p q u v d e h =
    let bits_x : m ≡ bits_of kind a.number = d ∙ ap (bits_of kind) (passed x (IsWithin-fits x u) ∙ p) ∙ bits_of-wrap kind a.number in
    let bits_y : n ≡ bits_of kind b.number = e ∙ ap (bits_of kind) (passed y (IsWithin-fits y v) ∙ q) ∙ bits_of-wrap kind b.number in
    h ∙ ap₂ (λ s t. wrapped kind (pos (f s t))) bits_x bits_y
    ∙ ap (λ t. wrapped t (pos (f (bits_of t a.number) (bits_of t b.number)))) k

-- shifts
pub shift_is : (f : ℤ → ℕ → ℤ) (a b : Integer) (from kind : IntType) (x z : ℤ) (k : ℕ) (r : Integer)
    → from ≡ a.kind → kind ≡ promoted from → x ≡ a.number → k ≡ residue (bits kind) b.number → wrap kind z ≡ wrap kind (f x (2 ^ k))
    → r ≡ wrapped kind z → r ≡ shift f a b
shift_is f a b from kind x z k r d c p q e h =
    h ∙ ap (λ n. record { kind = kind; number = n }) e
    ∙ ap₂ (λ u v. wrapped kind (f u (2 ^ v))) p q
    ∙ ap (λ t. wrapped t (f a.number (2 ^ residue (bits t) b.number))) (c ∙ ap promoted d)

pub bits_le : (kind : IntType) → bits kind ≤ 64
bits_le Char = lit≤ tt
bits_le Uchar = lit≤ tt
bits_le Short = lit≤ tt
bits_le Ushort = lit≤ tt
bits_le Int = lit≤ tt
bits_le Uint = lit≤ tt
bits_le Long = lit≤ tt
bits_le Ulong = lit≤ tt

power_fits : (kind : IntType) (k : ℕ) → k < bits kind → FitsSigned w128 (pos (2 ^ k))
power_fits kind k h =
    let b = bits_le kind in
    let le : 2 ^ k ≤ 2 ^ 64 = pow_mono {i = k} {j = 64} (omega arith) in
    record { sfits = omega arith }

pub wrap-shifted_left : (kind : IntType) (x : ℤ) (k : ℕ) → IsWithin x → k < bits kind
    → wrap kind (int_wrapping_mul w128 x (pos (2 ^ k))) ≡ wrap kind (x *ℤ pos (2 ^ k))
wrap-shifted_left kind x k h b = wrap-wrapping_mul kind x (pos (2 ^ k)) (IsWithin-fits x h) (power_fits kind k b)

shr-div : (x : ℤ) (m : ℕ) → shr_z x m ≡ int_div_euclid x (pos m)
shr-div (pos n) m = refl
shr-div (negsuc n) m = refl

shr-fits : (x : ℤ) (m : ℕ) → FitsSigned w128 x → FitsSigned w128 (shr_z x m)
shr-fits x m h = record { sfits = let le = mag_shr x m in omega (arith, h.sfits) }

pub back-shifted_right : (x : ℤ) (m : ℕ) → IsWithin x → back (shr_z (back x) m) ≡ int_div_euclid x (pos m)
back-shifted_right x m h =
    ap (λ z. back (shr_z z m)) (passed x (IsWithin-fits x h))
    ∙ passed (shr_z x m) (shr-fits x m (IsWithin-fits x h))
    ∙ shr-div x m

-- a count modulo a number that divides 256, from the bits of its own type
modulo_bits : (m q r : ℕ) (z : ℤ) → m * q ≡ 256 → 0 < m → 0 < r → residue (256 * r) z % m ≡ residue m z
modulo_bits m q r z e positive some =
    let same : 256 * r ≡ m * (q * r) = ap (λ n. n * r) (sym e) ∙ mul_assoc m q r in
    ap (λ n. residue n z % m) same ∙ residue-multiple m (q * r) z positive (omega (arith, same, some))

count : (m q : ℕ) (kind : IntType) (z : ℤ) → m * q ≡ 256 → 0 < m → bits_of kind z % m ≡ residue m z
unfolding bits_of
count m q Char z e positive = modulo_bits m q 1 z e positive (lit< tt)
count m q Uchar z e positive = modulo_bits m q 1 z e positive (lit< tt)
count m q Short z e positive = modulo_bits m q (2 ^ 8) z e positive (lit< tt)
count m q Ushort z e positive = modulo_bits m q (2 ^ 8) z e positive (lit< tt)
count m q Int z e positive = modulo_bits m q (2 ^ 24) z e positive (lit< tt)
count m q Uint z e positive = modulo_bits m q (2 ^ 24) z e positive (lit< tt)
count m q Long z e positive = modulo_bits m q (2 ^ 56) z e positive (lit< tt)
count m q Ulong z e positive = modulo_bits m q (2 ^ 56) z e positive (lit< tt)

pub count_in : (m q : ℕ) (kind k own : IntType) (z : ℤ) (x : ℕ) → m * q ≡ 256 → 0 < m → kind ≡ k → bits k ≡ m → x ≡ bits_of own z → x % m ≡ residue (bits kind) z
count_in m q kind k own z x d positive e w p = ap (λ n. n % m) p ∙ count m q own z d positive ∙ ap (λ b. residue b z) (sym w ∙ ap bits (sym e))

-- the code's test that a divisor is zero
pub zero_test : (y : ℤ) → FitsSigned w128 y → (cast_unsigned w128 y ≡ 0 → ⊥) → int_eq y (pos 0) ≡ false
zero_test y h n = sym (eq_test y (pos 0) h (record { sfits = lit< tt })) ∙ not_equal (cast_unsigned w128 y) n
  where
    not_equal : (n : ℕ) → (n ≡ 0 → ⊥) → eqb n 0 ≡ false
    not_equal n h = grind (arith, nat_tests)

-- a division by its two tests
abbrev division_by : (ℤ → ℤ → ℤ) → IntType → ℤ → ℤ → Bool → Bool → Result Integer ArithFault
division_by f kind x y by_zero fits = if by_zero then Err DivideByZero else (if fits then Ok (wrapped kind (f x y)) else Err DivideOverflow)

pub divided-out : (f : ℤ → ℤ → ℤ) (kind : IntType) (x y : ℤ) → int_eq y (pos 0) ≡ false → is_in kind (int_div x y) ≡ false → Err DivideOverflow ≡ divided f kind x y
divided-out f kind x y e p = sym (ap₂ (division_by f kind x y) e p)

pub divided-in : (f : ℤ → ℤ → ℤ) (kind : IntType) (x y : ℤ) (r : Integer) → int_eq y (pos 0) ≡ false → is_in kind (int_div x y) ≡ true
    → r ≡ wrapped kind (f x y) → Ok r ≡ divided f kind x y
divided-in f kind x y r e p h = ap (λ i. Ok i) h ∙ sym (ap₂ (division_by f kind x y) e p)

fits_64_between : (z : ℤ) → neg_ℤ (pos (2 ^ 63)) ≤ℤ z → z <ℤ pos (2 ^ 63) → FitsSigned w64 z
fits_64_between (pos n) from to = record { sfits = omega (arith, ints) }
fits_64_between (negsuc n) from to = record { sfits = omega (arith, ints) }

-- where one of two numbers of a type is negative, both fit 64 bits
pub signed_fits : (kind : IntType) (x y : ℤ) → IsIn kind x → IsIn kind y → (y ≡ pos 0 → ⊥) → (pos 0 ≤ℤ x → y ≤ℤ pos 0) → FitsSigned w64 x × FitsSigned w64 y
signed_fits Char x y p q n h =
    let x_from = p.from in let x_to = p.to in let y_from = q.from in let y_to = q.to in
    (fits_64_between x (omega (arith, ints)) (omega (arith, ints)), fits_64_between y (omega (arith, ints)) (omega (arith, ints)))
signed_fits Uchar x y p q n h = let from = q.from in let to = h p.from in absurd (n (omega (arith, ints)))
signed_fits Short x y p q n h =
    let x_from = p.from in let x_to = p.to in let y_from = q.from in let y_to = q.to in
    (fits_64_between x (omega (arith, ints)) (omega (arith, ints)), fits_64_between y (omega (arith, ints)) (omega (arith, ints)))
signed_fits Ushort x y p q n h = let from = q.from in let to = h p.from in absurd (n (omega (arith, ints)))
signed_fits Int x y p q n h =
    let x_from = p.from in let x_to = p.to in let y_from = q.from in let y_to = q.to in
    (fits_64_between x (omega (arith, ints)) (omega (arith, ints)), fits_64_between y (omega (arith, ints)) (omega (arith, ints)))
signed_fits Uint x y p q n h = let from = q.from in let to = h p.from in absurd (n (omega (arith, ints)))
signed_fits Long x y p q n h =
    let x_from = p.from in let x_to = p.to in let y_from = q.from in let y_to = q.to in
    (fits_64_between x (omega (arith, ints)) (omega (arith, ints)), fits_64_between y (omega (arith, ints)) (omega (arith, ints)))
signed_fits Ulong x y p q n h = let from = q.from in let to = h p.from in absurd (n (omega (arith, ints)))

neg_fits : (r a : ℕ) → r ≤ suc a → a < 2 ^ 63 → FitsSigned w64 (neg_ℤ (pos r))
neg_fits zero a h k = record { sfits = lit< tt }
neg_fits (suc r) a h k = record { sfits = omega arith }

halved_fits : (a b : ℕ) → a < 2 ^ 63 → suc a / suc (suc b) < 2 ^ 63
halved_fits a b h = (div-lt_iff_lt-mul (zero-lt-suc (suc b))).1 (omega arith)

-- a quotient of two numbers of 64 bits fits where the divisor is not -1
pub div_fits : (x y : ℤ) → FitsSigned w64 x → (y ≡ negsuc 0 → ⊥) → FitsSigned w64 (int_div x y)
div_fits (pos a) (pos b) h m = record { sfits = omega (arith, div-le_self a b, h.sfits) }
div_fits (pos a) (negsuc b) h m = neg_fits (a / suc b) a (omega (arith, div-le_self a (suc b))) h.sfits
div_fits (negsuc a) (pos b) h m = neg_fits (suc a / b) a (div-le_self (suc a) b) h.sfits
div_fits (negsuc a) (negsuc zero) h m = absurd (m refl)
div_fits (negsuc a) (negsuc (suc b)) h m = record { sfits = halved_fits a b h.sfits }

-- a number as it comes back from 128 and then 64 bits
pub back-64 : (x : ℤ) → FitsSigned w128 x → FitsSigned w64 x → cast_signed w64 (cast_unsigned w64 (back x)) ≡ x
back-64 x h k = ap (λ z. cast_signed w64 (cast_unsigned w64 z)) (passed x h) ∙ to_z-of_z w64 x k

nonzero : (y : ℤ) → FitsSigned w64 y → (y ≡ pos 0 → ⊥) → 0 < cast_unsigned w64 y
nonzero (pos zero) h n = absurd (n refl)
nonzero (pos (suc k)) h n = omega arith
nonzero (negsuc k) h n = omega (arith, h.sfits)

pub nonzero-64 : (y : ℤ) → FitsSigned w128 y → FitsSigned w64 y → (y ≡ pos 0 → ⊥) → 0 < cast_unsigned w64 (back y)
nonzero-64 y h k n = subst (λ z. 0 < cast_unsigned w64 z) (sym (passed y h)) (nonzero y k n)

pub div-64 : (x y : ℤ) → FitsSigned w128 x → FitsSigned w128 y → FitsSigned w64 x × FitsSigned w64 y
    → int_div (cast_signed w64 (cast_unsigned w64 (back x))) (cast_signed w64 (cast_unsigned w64 (back y))) ≡ int_div x y
div-64 x y p q h = ap₂ int_div (back-64 x p h.0) (back-64 y q h.1)

pub back-div : (x y q : ℤ) → FitsSigned w128 x → FitsSigned w128 y → FitsSigned w128 q → q ≡ int_div (back x) (back y) → back q ≡ int_div x y
back-div x y q p r h e = passed q h ∙ e ∙ ap₂ int_div (passed x p) (passed y r)

-- x less a product, where 128 bits keep what they can of both
pub wrap-wrapping_rest : (kind : IntType) (x y q d : ℤ) → FitsSigned w128 x → FitsSigned w128 y → FitsSigned w128 q → q ≡ d
    → wrap kind (cast_signed w128 ((cast_unsigned w128 x + (2 ^ 128 - cast_unsigned w128 q * cast_unsigned w128 y % 2 ^ 128)) % 2 ^ 128)) ≡ wrap kind (x -ℤ (d *ℤ y))
wrap-wrapping_rest kind x y q d p r h e =
    let m : int_wrapping_mul w128 q y ≡ int_wrap w128 (q *ℤ y) = wrapping_mul_is w128 q y h r in
    ap (λ b. wrap kind (cast_signed w128 ((cast_unsigned w128 x + (2 ^ 128 - b)) % 2 ^ 128)))
    (sym (of_z-to_z w128 (cast_unsigned w128 q * cast_unsigned w128 y % 2 ^ 128) (mod-lt (cast_unsigned w128 q * cast_unsigned w128 y) (lit< tt))))
    ∙ ap (λ z. wrap kind (int_wrapping_sub w128 x z)) m
    ∙ ap (wrap kind) (wrapping_sub_is w128 x (int_wrap w128 (q *ℤ y)) p (SFits-int_wrap w128 (q *ℤ y)) ∙ int_wrap-sub_right w128 x (q *ℤ y))
    ∙ wrap-int_wrap kind (x -ℤ (q *ℤ y))
    ∙ ap (λ z. wrap kind (x -ℤ (z *ℤ y))) e
