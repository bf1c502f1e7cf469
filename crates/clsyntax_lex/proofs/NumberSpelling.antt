-- The bytes of a number in front are a prefix, digits and a whole suffix.
use Rattle.std.proofs.Common.{◌≡◌, ℕ, zero, suc, ◌<◌, ◌≤◌, ◌+◌, ◌⊎◌, inl, inr, Bool, true, false, ◌||◌, ◌&&◌, List, [], ◌∷◌, ◌++◌, length, take, drop, get_or, refl, arith, sym, ◌∙◌, cond, ap, subst, Some, nat_eq, nat_lt, lit≤, length-take}
use Rattle.std.specs.Prelude.{codes, bytes_eq}
use Rattle.std.specs.List.{list_all, AllPass}
use Rattle.std.specs.Char.{is_ascii_digit, is_digit, digit_value}
use Rattle.std.proofs.lemmas.Bool.Decides.{Decides-eqb, nat_tests}
use Rattle.std.proofs.lemmas.Slice.Eq.{slice_eq-Decides}
use Rattle.std.proofs.lemmas.List.{get_or-take, take-append-drop, take-take, drop-take, drop-drop, take_all}
use Rattle.std.proofs.lemmas.List.Elements.{All-append}
use Rattle.std.proofs.lemmas.List.Sums.{prefix_len-le-length}
use borrow.Author.Tests.{ltb-true, lt-ltb, eqb-true, eq-eqb}
use Rattle.clnum.specs.Integer.{Integer}
use Rattle.clsyntax_lex.specs.declared.numbers.Base.{Base}
use Rattle.clsyntax_lex.specs.declared.numbers.Base.TheVariants.{Decimal, Octal, Hexadecimal}
use Rattle.clsyntax_lex.specs.Numbers.{radix, digits_at, base_of, digit_count, value_of, begins_with, suffix, suffix_of, typed}
use Rattle.clsyntax_lex.specs.Pieces.{is_name_part}
use Rattle.clsyntax_lex.specs.Spelling.{IsPrefix, IsFirstDigit, IsNumber}
use Rattle.clsyntax_lex.proofs.PieceLemmas.{prefix_len-AllPass}
use Rattle.clsyntax_lex.proofs.NumberLemmas.{either, first_passes, decimal_digit, suffix_of-fits}
use Rattle.clsyntax_lex.proofs.FitLemmas.{both}

pub same_bytes : (a b : List ℕ) → bytes_eq a b ≡ true → a ≡ b
same_bytes a b = (slice_eq-Decides Decides-eqb a b (bytes_eq a b) refl).0

pub list_all-AllPass : (p : ℕ → Bool) (text : List ℕ) → list_all p text ≡ true → AllPass p text
list_all-AllPass p [] e k d inside = absurd (omega arith)
list_all-AllPass p (b ∷ text) e zero d inside = (both (p b) (list_all p text) e).0
list_all-AllPass p (b ∷ text) e (suc k) d inside = list_all-AllPass p text (both (p b) (list_all p text) e).1 k d (omega arith)

take-sum : (m n : ℕ) (xs : List ℕ) → take (m + n) xs ≡ take m xs ++ take n (drop m xs)
take-sum m n xs =
    sym (take-append-drop m (take (m + n) xs)) ∙ ap (λ a. a ++ drop m (take (m + n) xs)) (take-take m (m + n) xs (omega arith))
    ∙ ap (λ b. take m xs ++ b) (drop-take m n xs)

three_parts : (bytes : List ℕ) (at count len : ℕ) → take (at + count + len) bytes ≡ take at bytes ++ take count (drop at bytes) ++ take len (drop count (drop at bytes))
three_parts bytes at count len =
    take-sum (at + count) len bytes ∙ ap (λ a. a ++ take len (drop (at + count) bytes)) (take-sum at count bytes)
    ∙ ap (λ r. (take at bytes ++ take count (drop at bytes)) ++ take len r) (sym (drop-drop count at bytes))

begins-take : (text bytes : List ℕ) → begins_with text bytes ≡ true → take (length text) bytes ≡ text
begins-take text bytes e = sym (same_bytes text (take (length text) bytes) e)

-- the suffix alone is the same suffix
suffix_of-taken : (bytes : List ℕ) → suffix_of (take (suffix_of bytes).len bytes) ≡ suffix_of bytes
unfolding suffix_of
suffix_of-taken bytes = by_both (begins_with (codes "ul") bytes || begins_with (codes "UL") bytes) refl
  where
    by_long : (b : Bool) → (begins_with (codes "l") bytes || begins_with (codes "L") bytes) ≡ b
        → suffix_of (take (cond b (suffix false true 1) (suffix false false 0)).len bytes) ≡ cond b (suffix false true 1) (suffix false false 0)
    by_long true e = elim (either (begins_with (codes "l") bytes) (begins_with (codes "L") bytes) e) [
      | inl here ↦ subst (λ t. suffix_of t ≡ suffix false true 1) (sym (begins-take (codes "l") bytes here)) refl
      | inr here ↦ subst (λ t. suffix_of t ≡ suffix false true 1) (sym (begins-take (codes "L") bytes here)) refl
    ]
    by_long false e = refl

    by_unsigned : (b : Bool) → (begins_with (codes "u") bytes || begins_with (codes "U") bytes) ≡ b
        → suffix_of (take (cond b (suffix true false 1) (cond (begins_with (codes "l") bytes || begins_with (codes "L") bytes) (suffix false true 1) (suffix false false 0))).len bytes)
        ≡ cond b (suffix true false 1) (cond (begins_with (codes "l") bytes || begins_with (codes "L") bytes) (suffix false true 1) (suffix false false 0))
    by_unsigned true e = elim (either (begins_with (codes "u") bytes) (begins_with (codes "U") bytes) e) [
      | inl here ↦ subst (λ t. suffix_of t ≡ suffix true false 1) (sym (begins-take (codes "u") bytes here)) refl
      | inr here ↦ subst (λ t. suffix_of t ≡ suffix true false 1) (sym (begins-take (codes "U") bytes here)) refl
    ]
    by_unsigned false e = by_long (begins_with (codes "l") bytes || begins_with (codes "L") bytes) refl

    by_both : (b : Bool) → (begins_with (codes "ul") bytes || begins_with (codes "UL") bytes) ≡ b
        → suffix_of (take (cond b (suffix true true 2) (cond (begins_with (codes "u") bytes || begins_with (codes "U") bytes) (suffix true false 1)
        (cond (begins_with (codes "l") bytes || begins_with (codes "L") bytes) (suffix false true 1) (suffix false false 0)))).len bytes)
        ≡ cond b (suffix true true 2) (cond (begins_with (codes "u") bytes || begins_with (codes "U") bytes) (suffix true false 1)
        (cond (begins_with (codes "l") bytes || begins_with (codes "L") bytes) (suffix false true 1) (suffix false false 0)))
    by_both true e = elim (either (begins_with (codes "ul") bytes) (begins_with (codes "UL") bytes) e) [
      | inl here ↦ subst (λ t. suffix_of t ≡ suffix true true 2) (sym (begins-take (codes "ul") bytes here)) refl
      | inr here ↦ subst (λ t. suffix_of t ≡ suffix true true 2) (sym (begins-take (codes "UL") bytes here)) refl
    ]
    by_both false e = by_unsigned (begins_with (codes "u") bytes || begins_with (codes "U") bytes) refl

-- the letters of a suffix are parts of names
either_parts : (a b bytes : List ℕ) → length a ≡ length bytes → length b ≡ length bytes → list_all is_name_part a ≡ true → list_all is_name_part b ≡ true
    → begins_with a bytes || begins_with b bytes ≡ true → AllPass is_name_part bytes
either_parts a b bytes size_a size_b parts_a parts_b e = elim (either (begins_with a bytes) (begins_with b bytes) e) [
  | inl here ↦ subst (AllPass is_name_part) (sym (begins-take a bytes here) ∙ take_all (length a) bytes (omega arith)) (list_all-AllPass is_name_part a parts_a)
  | inr here ↦ subst (AllPass is_name_part) (sym (begins-take b bytes here) ∙ take_all (length b) bytes (omega arith)) (list_all-AllPass is_name_part b parts_b)
]

suffix_parts : (bytes : List ℕ) → (suffix_of bytes).len ≡ length bytes → AllPass is_name_part bytes
unfolding suffix_of
suffix_parts bytes = by_both (begins_with (codes "ul") bytes || begins_with (codes "UL") bytes) refl
  where
    by_long : (b : Bool) → (begins_with (codes "l") bytes || begins_with (codes "L") bytes) ≡ b
        → (cond b (suffix false true 1) (suffix false false 0)).len ≡ length bytes → AllPass is_name_part bytes
    by_long true e size = either_parts (codes "l") (codes "L") bytes size size refl refl e
    by_long false e size = λ k d inside. absurd (omega arith)

    by_unsigned : (b : Bool) → (begins_with (codes "u") bytes || begins_with (codes "U") bytes) ≡ b
        → (cond b (suffix true false 1) (cond (begins_with (codes "l") bytes || begins_with (codes "L") bytes) (suffix false true 1) (suffix false false 0))).len ≡ length bytes → AllPass is_name_part bytes
    by_unsigned true e size = either_parts (codes "u") (codes "U") bytes size size refl refl e
    by_unsigned false e size = by_long (begins_with (codes "l") bytes || begins_with (codes "L") bytes) refl size

    by_both : (b : Bool) → (begins_with (codes "ul") bytes || begins_with (codes "UL") bytes) ≡ b
        → (cond b (suffix true true 2) (cond (begins_with (codes "u") bytes || begins_with (codes "U") bytes) (suffix true false 1)
        (cond (begins_with (codes "l") bytes || begins_with (codes "L") bytes) (suffix false true 1) (suffix false false 0)))).len ≡ length bytes → AllPass is_name_part bytes
    by_both true e size = either_parts (codes "ul") (codes "UL") bytes size size refl refl e
    by_both false e size = by_unsigned (begins_with (codes "u") bytes || begins_with (codes "U") bytes) refl size

value_part : (b : ℕ) → nat_lt (digit_value b) 36 ≡ true → is_name_part b ≡ true
value_part b e = grind (arith, nat_tests)

digit_part : (base : Base) (b : ℕ) → is_digit b (radix base) ≡ true → is_name_part b ≡ true
digit_part base b e = value_part b (lt-ltb (digit_value b) 36 (omega (arith, ltb-true (digit_value b) (radix base) e, small base)))
  where
    small : (base : Base) → radix base ≤ 36
    small Decimal = lit≤ tt
    small Octal = lit≤ tt
    small Hexadecimal = lit≤ tt

prefix_parts : (base : Base) (text : List ℕ) → IsPrefix base text → AllPass is_name_part text
prefix_parts Decimal text is = subst (AllPass is_name_part) (sym is) (list_all-AllPass is_name_part [] refl)
prefix_parts Octal text is = subst (AllPass is_name_part) (sym is) (list_all-AllPass is_name_part [] refl)
prefix_parts Hexadecimal text (inl is) = subst (AllPass is_name_part) (sym is) (list_all-AllPass is_name_part (codes "0x") refl)
prefix_parts Hexadecimal text (inr is) = subst (AllPass is_name_part) (sym is) (list_all-AllPass is_name_part (codes "0X") refl)

-- all bytes of a number are parts of names
pub number_parts : (text : List ℕ) (value : Integer) → IsNumber text value → AllPass is_name_part text
number_parts text value is =
    subst (AllPass is_name_part) (sym is.whole)
    (All-append (λ b. is_name_part b ≡ true) (is.prefix ++ is.digits) is.ending
    (All-append (λ b. is_name_part b ≡ true) is.prefix is.digits (prefix_parts is.base is.prefix is.prefix_is) (λ k d inside. digit_part is.base (get_or is.digits k d) (is.digits_are k d inside)))
    (suffix_parts is.ending is.ending_is))

-- how a number begins
pub record BeginsNumber (base : Base) (bytes : List ℕ) : Type 0 where
  pub prefix_is : IsPrefix base (take (digits_at base) bytes)
  pub some : 0 < digit_count base (drop (digits_at base) bytes)
  pub first_is : IsFirstDigit base (get_or (drop (digits_at base) bytes) 0 0)

some_third : (bytes : List ℕ) → is_digit (get_or bytes 0 0) 16 ≡ true → 0 < length bytes
some_third [] e = cc
some_third (b ∷ bytes) e = omega arith

hexadecimal : (bytes : List ℕ) → nat_eq (get_or bytes 0 0) 48 ≡ true → nat_eq (get_or bytes 1 0) 120 || nat_eq (get_or bytes 1 0) 88 ≡ true → is_digit (get_or bytes 2 0) 16 ≡ true
    → BeginsNumber Hexadecimal bytes
hexadecimal [] is_zero mark third = cc
hexadecimal (a ∷ []) is_zero mark third = cc
hexadecimal (a ∷ b ∷ bytes) is_zero mark third = record {
  prefix_is = by (either (nat_eq b 120) (nat_eq b 88) mark);
  some = first_passes (λ b. is_digit b 16) bytes (some_third bytes third) third;
  first_is = tt;
}
  where
    by : (nat_eq b 120 ≡ true) ⊎ (nat_eq b 88 ≡ true) → IsPrefix Hexadecimal (a ∷ b ∷ [])
    by (inl x) = inl (let ea = eqb-true a 48 is_zero in let eb = eqb-true b 120 x in cc)
    by (inr x) = inr (let ea = eqb-true a 48 is_zero in let eb = eqb-true b 88 x in cc)

pub base_of-BeginsNumber : (bytes : List ℕ) → 0 < length bytes → is_ascii_digit (get_or bytes 0 0) ≡ true → BeginsNumber (base_of bytes) bytes
unfolding base_of
base_of-BeginsNumber bytes nonempty digit = by (nat_eq (get_or bytes 0 0) 48) refl
  where
    octal : nat_eq (get_or bytes 0 0) 48 ≡ true → BeginsNumber Octal bytes
    octal is_zero = record {
      prefix_is = refl;
      some = first_passes (λ b. is_digit b 8) bytes nonempty (ap (λ b. is_digit b 8) (eqb-true (get_or bytes 0 0) 48 is_zero));
      first_is = eqb-true (get_or bytes 0 0) 48 is_zero;
    }

    decimal : nat_eq (get_or bytes 0 0) 48 ≡ false → BeginsNumber Decimal bytes
    decimal other = record {
      prefix_is = refl;
      some = first_passes (λ b. is_digit b 10) bytes nonempty (decimal_digit (get_or bytes 0 0) digit);
      first_is = λ same. let yes_zero = eq-eqb (get_or bytes 0 0) 48 same in cc;
    }

    by_mark : (mark third : Bool) → (nat_eq (get_or bytes 1 0) 120 || nat_eq (get_or bytes 1 0) 88) ≡ mark → is_digit (get_or bytes 2 0) 16 ≡ third → nat_eq (get_or bytes 0 0) 48 ≡ true
        → BeginsNumber (cond (mark && third) Hexadecimal Octal) bytes
    by_mark true true m e z = hexadecimal bytes z m e
    by_mark true false m e z = octal z
    by_mark false third m e z = octal z

    by : (b : Bool) → nat_eq (get_or bytes 0 0) 48 ≡ b
        → BeginsNumber (cond b (cond ((nat_eq (get_or bytes 1 0) 120 || nat_eq (get_or bytes 1 0) 88) && is_digit (get_or bytes 2 0) 16) Hexadecimal Octal) Decimal) bytes
    by true e = by_mark (nat_eq (get_or bytes 1 0) 120 || nat_eq (get_or bytes 1 0) 88) (is_digit (get_or bytes 2 0) 16) refl refl e
    by false e = decimal e

first-take : (xs : List ℕ) (n : ℕ) → 0 < n → get_or (take n xs) 0 0 ≡ get_or xs 0 0
first-take xs n some = get_or-take n xs 0 0 some

-- the bytes of a number that has a value
pub number_text : (base : Base) (bytes : List ℕ) (value : Integer) → BeginsNumber base bytes
    → typed base (suffix_of (drop (digit_count base (drop (digits_at base) bytes)) (drop (digits_at base) bytes))) (value_of (radix base) (take (digit_count base (drop (digits_at base) bytes)) (drop (digits_at base) bytes))) ≡ Some value
    → IsNumber (take (digits_at base + digit_count base (drop (digits_at base) bytes) + (suffix_of (drop (digit_count base (drop (digits_at base) bytes)) (drop (digits_at base) bytes))).len) bytes) value
number_text base bytes value begins e =
    let rest = drop (digits_at base) bytes in
    let count = digit_count base rest in
    let behind = drop count rest in
    record {
      base = base;
      prefix = take (digits_at base) bytes;
      digits = take count rest;
      ending = take (suffix_of behind).len behind;
      whole = three_parts bytes (digits_at base) count (suffix_of behind).len;
      prefix_is = begins.prefix_is;
      nonempty = omega (arith, length-take count rest, begins.some, prefix_len-le-length (λ b. is_digit b (radix base)) rest);
      digits_are = prefix_len-AllPass (λ b. is_digit b (radix base)) rest;
      first_is = subst (IsFirstDigit base) (sym (first-take rest count begins.some)) begins.first_is;
      ending_is = omega (arith, ap (λ s. s.len) (suffix_of-taken behind), length-take (suffix_of behind).len behind, suffix_of-fits behind);
      value_is = ap (λ s. typed base s (value_of (radix base) (take count rest))) (suffix_of-taken behind) ∙ e;
    }
