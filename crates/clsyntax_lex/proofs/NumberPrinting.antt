-- A number in decimal digits with the suffix of its type is read back.
use Rattle.std.proofs.Common.{◌≡◌, ℕ, zero, suc, ◌<◌, ◌≤◌, ◌+◌, ◌*◌, ◌^◌, Bool, true, false, ◌&&◌, List, [], ◌∷◌, ◌++◌, length, take, drop, get_or, refl, arith, sym, ◌∙◌, cond, ap, subst, None, Some, nat_lt, pos, codes, decimal, fold, lit≤, append_assoc, length-append}
use Rattle.std.specs.List.{prefix_len, AllPass, AllByRecursion}
use Rattle.std.specs.Str.Parse.{AllDigits, digits_value, digits_value_after}
use Rattle.std.specs.Char.{is_ascii_digit, is_digit, digit_value}
use Rattle.std.proofs.lemmas.Fmt.{decimal_is_IsNumeral, first_decimal, decimal_digit}
use Rattle.std.proofs.lemmas.Str.Parse.{digit_from_value}
use Rattle.std.proofs.lemmas.Bool.Decides.{nat_tests}
use Rattle.std.proofs.Math.Seq.{take-append_seam, drop-append_seam}
use borrow.Author.Tests.{ltb-true, lt-ltb, ne_eqb}
use Rattle.clnum.specs.Integer.{Integer}
use Rattle.clnum.specs.declared.int_type.IntType.{IntType}
use Rattle.clnum.specs.declared.int_type.IntType.TheVariants as types
use Rattle.clsyntax_lex.specs.declared.token.TokenKind.TheVariants as kinds
use Rattle.clsyntax_lex.specs.declared.numbers.Base.{Base}
use Rattle.clsyntax_lex.specs.declared.numbers.Base.TheVariants.{Decimal}
use Rattle.clsyntax_lex.specs.declared.numbers.Suffix.{Suffix}
use Rattle.clsyntax_lex.specs.declared.pieces.Piece.{Piece}
use Rattle.clsyntax_lex.specs.declared.pieces.Piece.TheVariants.{Bad, Token}
use Rattle.clsyntax_lex.specs.Numbers.{bound, may_have, first_holding, typed, suffix, suffix_of, base_of, digits_at, value_of}
use Rattle.clsyntax_lex.specs.Pieces.{piece_at, number_piece, number_in, number_of_len, is_name_start, is_name_part}
use Rattle.clsyntax_lex.specs.Spelling.{IsNumber}
use Rattle.clsyntax_lex.specs.Printed.{suffix_text}
use Rattle.clsyntax_lex.proofs.FitLemmas.{both}
use Rattle.clsyntax_lex.proofs.WordPrinting.{IsReadBack}
use Rattle.clsyntax_lex.proofs.NamePrinting.{apart, number_front, prefix_len-whole}

-- the types that a number in a source may have
abbrev pub IsNumberType : IntType → Type 0
IsNumberType types.Int = Unit {0}
IsNumberType types.Uint = Unit {0}
IsNumberType types.Long = Unit {0}
IsNumberType types.Ulong = Unit {0}
IsNumberType _ = ⊥

-- a value that a number in a source may have
pub record IsHeld (value : Integer) : Type 0 where
  pub count : ℕ
  pub is : value.number ≡ pos count
  pub below : count < bound value.kind
  pub type : IsNumberType value.kind

first_holding-IsHeld : (base : Base) (s : Suffix) (kinds : List IntType) (n : ℕ) (value : Integer) → AllByRecursion IsNumberType kinds → first_holding base s kinds n ≡ Some value → IsHeld value
first_holding-IsHeld base s [] n value all e = cc
first_holding-IsHeld base s (kind ∷ kinds) n value all e = by (may_have base s kind && nat_lt n (bound kind)) refl e (first_holding-IsHeld base s kinds n value all.1)
  where
    by : (b : Bool) → may_have base s kind && nat_lt n (bound kind) ≡ b → cond b (Some (record { kind = kind; number = pos n })) (first_holding base s kinds n) ≡ Some value
        → (first_holding base s kinds n ≡ Some value → IsHeld value) → IsHeld value
    by true fits e others =
        let same : record { kind = kind; number = pos n } ≡ value = cc in
        let here : IsHeld (record { kind = kind; number = pos n }) = record { count = n; is = refl; below = ltb-true n (bound kind) (both (may_have base s kind) (nat_lt n (bound kind)) fits).1; type = all.0 } in
        subst IsHeld same here
    by false none e others = others e

pub number-IsHeld : (text : List ℕ) (value : Integer) → IsNumber text value → IsHeld value
unfolding typed
number-IsHeld text value is = first_holding-IsHeld is.base (suffix_of is.ending) (types.Int ∷ types.Uint ∷ types.Long ∷ types.Ulong ∷ []) (value_of _ is.digits) value (tt, (tt, (tt, (tt, tt)))) is.value_is

-- decimal digits stand for their number
fold-value_after : (n : ℕ) (digits : List ℕ) → fold (λ n digit. n * 10 + digit_value digit) n digits ≡ digits_value_after 10 n digits
fold-value_after n [] = refl
fold-value_after n (c ∷ digits) = fold-value_after (n * 10 + digit_value c) digits

digits-AllPass : (digits : List ℕ) → AllDigits 10 digits → AllPass (λ b. is_digit b 10) digits
digits-AllPass [] all k d inside = absurd (omega arith)
digits-AllPass (c ∷ digits) all zero d inside = lt-ltb (digit_value c) 10 all.0
digits-AllPass (c ∷ digits) all (suc k) d inside = digits-AllPass digits all.1 k d (omega arith)

first_digit : (b : ℕ) → digit_value b < 10 → is_ascii_digit b ≡ true
first_digit b small = let range = digit_from_value b small in grind (arith, nat_tests, range)

-- the suffix of a type in decimal numbers, and what stands behind the digits
abbrev suffix_for : IntType → Suffix
suffix_for types.Uint = suffix true false 1
suffix_for types.Long = suffix false true 1
suffix_for types.Ulong = suffix true true 2
suffix_for _ = suffix false false 0

record EndsNumber (kind : IntType) (n : ℕ) (behind : List ℕ) : Type 0 where
  ending : List ℕ
  byte : ℕ
  is : suffix_text kind ++ 32 ∷ behind ≡ byte ∷ ending
  stops : is_digit byte 10 ≡ false
  suffix_is : suffix_of (suffix_text kind ++ 32 ∷ behind) ≡ suffix_for kind
  len_is : (suffix_for kind).len ≡ length (suffix_text kind)
  value_is : typed Decimal (suffix_for kind) n ≡ Some (record { kind = kind; number = pos n })

ends_number : (kind : IntType) (n : ℕ) (behind : List ℕ) → IsNumberType kind → n < bound kind → EndsNumber kind n behind
unfolding suffix_of typed
ends_number types.Char n behind is below = absurd is
ends_number types.Uchar n behind is below = absurd is
ends_number types.Short n behind is below = absurd is
ends_number types.Ushort n behind is below = absurd is
ends_number types.Int n behind is below = record {
  ending = behind;
  byte = 32;
  is = refl;
  stops = refl;
  suffix_is = refl;
  len_is = refl;
  value_is = ap (λ b. cond b (Some (record { kind = types.Int; number = pos n })) (first_holding Decimal (suffix false false 0) (types.Uint ∷ types.Long ∷ types.Ulong ∷ []) n)) (lt-ltb n (bound types.Int) below);
}
ends_number types.Uint n behind is below = record {
  ending = 32 ∷ behind;
  byte = 117;
  is = refl;
  stops = refl;
  suffix_is = refl;
  len_is = refl;
  value_is = ap (λ b. cond b (Some (record { kind = types.Uint; number = pos n })) (first_holding Decimal (suffix true false 1) (types.Long ∷ types.Ulong ∷ []) n)) (lt-ltb n (bound types.Uint) below);
}
ends_number types.Long n behind is below = record {
  ending = 32 ∷ behind;
  byte = 108;
  is = refl;
  stops = refl;
  suffix_is = refl;
  len_is = refl;
  value_is = ap (λ b. cond b (Some (record { kind = types.Long; number = pos n })) (first_holding Decimal (suffix false true 1) (types.Ulong ∷ []) n)) (lt-ltb n (bound types.Long) below);
}
ends_number types.Ulong n behind is below = record {
  ending = 108 ∷ 32 ∷ behind;
  byte = 117;
  is = refl;
  stops = refl;
  suffix_is = refl;
  len_is = refl;
  value_is = ap (λ b. cond b (Some (record { kind = types.Ulong; number = pos n })) None) (lt-ltb n (bound types.Ulong) below);
}

bounded : (kind : IntType) → bound kind ≤ 2 ^ 64
bounded types.Char = lit≤ tt
bounded types.Uchar = lit≤ tt
bounded types.Short = lit≤ tt
bounded types.Ushort = lit≤ tt
bounded types.Int = lit≤ tt
bounded types.Uint = lit≤ tt
bounded types.Long = lit≤ tt
bounded types.Ulong = lit≤ tt

get_or-seam : (xs : List ℕ) (b : ℕ) (ys : List ℕ) (d : ℕ) → get_or (xs ++ b ∷ ys) (length xs) d ≡ b
get_or-seam [] b ys d = refl
get_or-seam (x ∷ xs) b ys d = get_or-seam xs b ys d

no_start : (b : ℕ) → is_ascii_digit b ≡ true → is_name_start b ≡ false
no_start b digit = grind (arith, nat_tests)

-- a number that isn't 0 begins with another digit
digits_piece : (kind : IntType) (n : ℕ) (behind digits : List ℕ) → IsNumberType kind → n < bound kind → AllDigits 10 digits → 48 < get_or digits 0 0 → digits_value 10 digits ≡ n
    → piece_at (digits ++ (suffix_text kind ++ 32 ∷ behind)) ≡ Token (kinds.Number (record { kind = kind; number = pos n })) (length (digits ++ suffix_text kind))
unfolding number_piece number_in base_of
digits_piece kind n behind [] is below all first value = absurd (omega arith)
digits_piece kind n behind (c ∷ cs) is below all first value =
    number_front c tail (apart is_ascii_digit c tail digit refl refl refl refl refl) (no_start c digit) digit
    ∙ ap (λ base. number_in base (drop (digits_at base) bytes) bytes) decimal_is
    ∙ ap by_count count_is
    ∙ (λ i. number_of_len bytes (0 + length digits + (suffix_of (dropped i)).len) (typed Decimal (suffix_of (dropped i)) (value_of 10 (taken i))))
    ∙ ap (λ s. number_of_len bytes (0 + length digits + s.len) (typed Decimal s (value_of 10 digits))) ends.suffix_is
    ∙ ap (λ m. number_of_len bytes (0 + length digits + (suffix_for kind).len) (typed Decimal (suffix_for kind) m)) (fold-value_after 0 digits ∙ value)
    ∙ ap (number_of_len bytes (0 + length digits + (suffix_for kind).len)) ends.value_is
    ∙ ap (λ len. ended len (get_or bytes len 0)) len_is
    ∙ ap (ended (length (digits ++ suffix_text kind))) (ap (λ xs. get_or xs (length (digits ++ suffix_text kind)) 0) (sym (append_assoc digits (suffix_text kind) (32 ∷ behind))) ∙ get_or-seam (digits ++ suffix_text kind) 32 behind 0)
  where
    digits : List ℕ
    digits = c ∷ cs

    tail : List ℕ
    tail = cs ++ (suffix_text kind ++ 32 ∷ behind)

    bytes : List ℕ
    bytes = c ∷ (cs ++ (suffix_text kind ++ 32 ∷ behind))

    ends : EndsNumber kind n behind
    ends = ends_number kind n behind is below

    digit : is_ascii_digit c ≡ true
    digit = first_digit c all.0

    decimal_is : base_of bytes ≡ Decimal
    decimal_is = rw (ne_eqb c 48 (λ same. omega (arith, same))) refl

    by_count : ℕ → Piece
    by_count count = number_of_len bytes (0 + count + (suffix_of (drop count bytes)).len) (typed Decimal (suffix_of (drop count bytes)) (value_of 10 (take count bytes)))

    count_is : prefix_len (λ b. is_digit b 10) bytes ≡ length digits
    count_is = ap (λ tail. prefix_len (λ b. is_digit b 10) (digits ++ tail)) ends.is ∙ prefix_len-whole (λ b. is_digit b 10) digits ends.byte ends.ending (digits-AllPass digits all) ends.stops

    dropped : drop (length digits) bytes ≡ suffix_text kind ++ 32 ∷ behind
    dropped = drop-append_seam digits (suffix_text kind ++ 32 ∷ behind)

    taken : take (length digits) bytes ≡ digits
    taken = take-append_seam digits (suffix_text kind ++ 32 ∷ behind)

    ended : ℕ → ℕ → Piece
    ended len b = cond (is_name_part b) (Bad len) (Token (kinds.Number (record { kind = kind; number = pos n })) len)

    len_is : 0 + length digits + (suffix_for kind).len ≡ length (digits ++ suffix_text kind)
    len_is = omega (arith, ends.len_is, length-append digits (suffix_text kind))

zero_piece : (kind : IntType) (behind : List ℕ) → IsNumberType kind
    → piece_at ((codes "0" ++ suffix_text kind) ++ 32 ∷ behind) ≡ Token (kinds.Number (record { kind = kind; number = pos 0 })) (length (codes "0" ++ suffix_text kind))
unfolding piece_at number_piece number_in base_of suffix_of typed
zero_piece types.Char behind is = absurd is
zero_piece types.Uchar behind is = absurd is
zero_piece types.Short behind is = absurd is
zero_piece types.Ushort behind is = absurd is
zero_piece types.Int behind is = refl
zero_piece types.Uint behind is = refl
zero_piece types.Long behind is = refl
zero_piece types.Ulong behind is = refl

written_piece : (kind : IntType) (n : ℕ) (behind : List ℕ) → IsNumberType kind → n < bound kind
    → piece_at ((decimal n ++ suffix_text kind) ++ 32 ∷ behind) ≡ Token (kinds.Number (record { kind = kind; number = pos n })) (length (decimal n ++ suffix_text kind))
written_piece kind zero behind is below =
    subst (λ digits. piece_at ((digits ++ suffix_text kind) ++ 32 ∷ behind) ≡ Token (kinds.Number (record { kind = kind; number = pos 0 })) (length (digits ++ suffix_text kind)))
    (sym (decimal_digit 0 (omega arith))) (zero_piece kind behind is)
written_piece kind (suc n) behind is below =
    let small : suc n < 2 ^ 64 = omega (arith, bounded kind) in
    let numeral = decimal_is_IsNumeral (suc n) small in
    ap piece_at (append_assoc (decimal (suc n)) (suffix_text kind) (32 ∷ behind))
    ∙ digits_piece kind (suc n) behind (decimal (suc n)) is below numeral.0.1 (first_decimal (suc n) (omega arith) small) numeral.1

held_read_back : (names : List (List ℕ)) (kind : IntType) (n : ℕ) → IsNumberType kind → n < bound kind → IsReadBack names (kinds.Number (record { kind = kind; number = pos n }))
held_read_back names kind n is below =
    let small : n < 2 ^ 64 = omega (arith, bounded kind) in
    let numeral = decimal_is_IsNumeral n small in
    record { unnamed = refl; positive = omega (arith, numeral.0.0, length-append (decimal n) (suffix_text kind)); piece = λ behind. written_piece kind n behind is below }

pub number_read_back : (names : List (List ℕ)) (value : Integer) → IsHeld value → IsReadBack names (kinds.Number value)
number_read_back names value held = subst (λ number. IsReadBack names (kinds.Number (record { kind = value.kind; number = number }))) (sym held.is) (held_read_back names value.kind held.count held.type held.below)
