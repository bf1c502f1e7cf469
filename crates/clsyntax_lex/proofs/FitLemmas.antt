-- A piece takes at least one byte, and no more than there are.
use Rattle.std.proofs.Common.{◌≡◌, ℕ, ◌<◌, ◌≤◌, ◌+◌, Bool, true, false, ◌||◌, ◌&&◌, List, [], ◌∷◌, ◌++◌, length, take, drop, get_or, refl, arith, sym, cond, ap, subst, Option, None, Some, nat_eq, nat_lt, length-append, length-drop}
use Rattle.std.specs.Prelude.{find, bytes_eq, codes}
use Rattle.std.specs.List.{prefix_len, starts_with}
use Rattle.std.specs.Option.{option_map}
use Rattle.std.specs.Int.{is_in_range}
use Rattle.std.specs.Char.{is_ascii_digit, is_digit}
use Rattle.std.proofs.lemmas.Bool.Decides.{Decides-eqb}
use Rattle.std.proofs.lemmas.Slice.Eq.{starts_is}
use Rattle.std.proofs.lemmas.List.Sums.{prefix_len-le-length}
use borrow.Author.Tests.{ltb-true}
use Rattle.clnum.specs.Integer.{Integer}
use Rattle.clsyntax_lex.specs.declared.token.TokenKind.{TokenKind}
use Rattle.clsyntax_lex.specs.declared.token.TokenKind.TheVariants.{Number}
use Rattle.clsyntax_lex.specs.declared.token.TokenKind.TheVariants as kinds
use Rattle.clsyntax_lex.specs.declared.pieces.Piece.TheVariants.{Gap, Name, Token, Bad}
use Rattle.clsyntax_lex.specs.Tokens.{IsNumberedBelow}
use Rattle.clsyntax_lex.specs.Words.{Table, reserved_words, symbols}
use Rattle.clsyntax_lex.specs.Pieces.{FitsIn, piece_at, word_piece, number_piece, symbol_piece, word_in, symbol_in, is_space, is_name_start, is_name_part, is_in_line, number_of_len, number_in, line_comment_len, closed_after, block_comment_piece}
use Rattle.clsyntax_lex.specs.Numbers.{radix, digits_at, base_of, digit_count, begins_with}
use Rattle.clsyntax_lex.proofs.NumberLemmas.{first_passes, begins-length, suffix_of-fits, base_of-HasDigits}
use Rattle.clsyntax_lex.specs.declared.numbers.Base.{Base}

pub both : (a b : Bool) → a && b ≡ true → (a ≡ true) × (b ≡ true)
both true true e = (refl, refl)
both true false e = cc
both false b e = cc

-- no name is among the kinds of a table, and each text has a byte
is_nameless : TokenKind → Bool
is_nameless (kinds.Name number) = false
is_nameless _ = true

nameless : (kind : TokenKind) → is_nameless kind ≡ true → IsNumberedBelow 0 kind
unfolding is_nameless
nameless (kinds.Name number) e = cc
nameless _ e = tt

abbrev is_good : Table → Bool
is_good [] = true
is_good (entry ∷ table) = nat_lt 0 (length entry.0) && (is_nameless entry.1 && is_good table)

abbrev NamesNone : Option TokenKind → Type 0
NamesNone None = Unit {0}
NamesNone (Some kind) = IsNumberedBelow 0 kind

word_in-names_none : (table : Table) (text : List ℕ) → is_good table ≡ true → NamesNone (word_in table text)
word_in-names_none [] text good = tt
word_in-names_none (entry ∷ table) text good =
    let rest = (both _ _ good).1 in
    elim (bytes_eq entry.0 text) as (λ b. NamesNone (option_map (λ entry. entry.1) (cond b (Some entry) (find (λ entry. bytes_eq entry.0 text) table)))) [
      | true ↦ nameless entry.1 (both _ _ rest).0
      | false ↦ word_in-names_none table text (both _ _ rest).1
    ]

pub start_is_part : (b : ℕ) → is_name_start b ≡ true → is_name_part b ≡ true
start_is_part b = by (is_in_range 48 57 b) (is_in_range 65 90 b) (is_in_range 97 122 b) (nat_eq b 95)
  where
    by : (digit upper lower underscore : Bool) → (upper || lower) || underscore ≡ true → ((digit || upper) || lower) || underscore ≡ true
    by true upper lower underscore e = refl
    by false upper lower underscore e = e

pub word_piece-FitsIn : (bytes : List ℕ) → 0 < length bytes → is_name_start (get_or bytes 0 0) ≡ true → FitsIn (length bytes) (word_piece bytes)
unfolding is_nameless
word_piece-FitsIn bytes nonempty starts = by (word_in reserved_words (take len bytes)) (word_in-names_none reserved_words (take len bytes) refl)
  where
    len : ℕ
    len = prefix_len is_name_part bytes

    positive : 0 < prefix_len is_name_part bytes
    positive = first_passes is_name_part bytes nonempty (start_is_part (get_or bytes 0 0) starts)

    by : (found : Option TokenKind) → NamesNone found → FitsIn (length bytes) (elim found [ None ↦ Name (prefix_len is_name_part bytes) | Some kind ↦ Token kind (prefix_len is_name_part bytes) ])
    by None none = (positive, prefix_len-le-length is_name_part bytes)
    by (Some kind) none = (positive, prefix_len-le-length is_name_part bytes, none)

number_of_len-FitsIn : (bytes : List ℕ) (len : ℕ) (found : Option Integer) → 0 < len → len ≤ length bytes → FitsIn (length bytes) (number_of_len bytes len found)
number_of_len-FitsIn bytes len None positive within = tt
number_of_len-FitsIn bytes len (Some value) positive within =
    elim (is_name_part (get_or bytes len 0)) as (λ b. FitsIn (length bytes) (cond b (Bad len) (Token (Number value) len))) [
      | true ↦ within
      | false ↦ (positive, within, tt)
    ]

number_in-FitsIn : (base : Base) (rest bytes : List ℕ) → digits_at base + length rest ≤ length bytes → 0 < digits_at base + digit_count base rest → FitsIn (length bytes) (number_in base rest bytes)
unfolding number_in
number_in-FitsIn base rest bytes within some =
    number_of_len-FitsIn bytes _ _ (omega arith)
    (omega (arith, prefix_len-le-length (λ b. is_digit b (radix base)) rest, suffix_of-fits (drop (digit_count base rest) rest), length-drop (digit_count base rest) rest))

pub number_piece-FitsIn : (bytes : List ℕ) → 0 < length bytes → is_ascii_digit (get_or bytes 0 0) ≡ true → FitsIn (length bytes) (number_piece bytes)
unfolding number_piece
number_piece-FitsIn bytes nonempty digit =
    let has = base_of-HasDigits bytes nonempty digit in
    number_in-FitsIn (base_of bytes) (drop (digits_at (base_of bytes)) bytes) bytes (omega (arith, has.within, length-drop (digits_at (base_of bytes)) bytes)) has.some

-- a comment ends in the source
pub closed_after-within : (bytes : List ℕ) (n : ℕ) → closed_after bytes ≡ Some n → n ≤ length bytes
unfolding closed_after
closed_after-within [] n e = cc
closed_after-within (b ∷ bytes) n e = by (begins_with (codes "*/") (b ∷ bytes)) refl e (λ m. closed_after-within bytes m)
  where
    further : (o : Option ℕ) → closed_after bytes ≡ o → option_map (λ n. 1 + n) o ≡ Some n → ((m : ℕ) → closed_after bytes ≡ Some m → m ≤ length bytes) → n ≤ length (b ∷ bytes)
    further None is e within = cc
    further (Some m) is e within = let same : 1 + m ≡ n = cc in omega (arith, within m is)

    by : (here : Bool) → begins_with (codes "*/") (b ∷ bytes) ≡ here → cond here (Some 2) (option_map (λ n. 1 + n) (closed_after bytes)) ≡ Some n
        → ((m : ℕ) → closed_after bytes ≡ Some m → m ≤ length bytes) → n ≤ length (b ∷ bytes)
    by true here e within = let same : 2 ≡ n = cc in omega (arith, begins-length (codes "*/") (b ∷ bytes) here)
    by false none e within = further (closed_after bytes) refl e within

pub block_comment-FitsIn : (bytes : List ℕ) → begins_with (codes "/*") bytes ≡ true → FitsIn (length bytes) (block_comment_piece bytes)
block_comment-FitsIn bytes begins = by (closed_after (drop 2 bytes)) refl
  where
    by : (o : Option ℕ) → closed_after (drop 2 bytes) ≡ o → FitsIn (length bytes) (elim o [ None ↦ Bad 0 | Some n ↦ Gap (2 + n) ])
    by None e = omega arith
    by (Some n) e = (omega arith, omega (arith, closed_after-within (drop 2 bytes) n e, length-drop 2 bytes, begins-length (codes "/*") bytes begins))

pub line_comment-FitsIn : (bytes : List ℕ) → begins_with (codes "//") bytes ≡ true → FitsIn (length bytes) (Gap (line_comment_len bytes))
line_comment-FitsIn bytes begins =
    let same : bytes ≡ codes "//" ++ drop 2 bytes = (starts_is Decides-eqb bytes (codes "//") (begins_with (codes "//") bytes) refl).0 begins in
    let positive : 0 < line_comment_len (codes "//" ++ drop 2 bytes) = omega arith in
    (subst (λ bytes. 0 < line_comment_len bytes) (sym same) positive, prefix_len-le-length is_in_line bytes)

symbol_in-fits : (table : Table) (bytes : List ℕ) → is_good table ≡ true → FitsIn (length bytes) (elim (symbol_in table bytes) [ None ↦ Bad 0 | Some found ↦ Token found.0 found.1 ])
symbol_in-fits [] bytes good = omega arith
symbol_in-fits (entry ∷ table) bytes good = by (starts_with nat_eq bytes entry.0) refl (symbol_in-fits table bytes (both _ _ rest).1)
  where
    rest : is_nameless entry.1 && is_good table ≡ true
    rest = (both (nat_lt 0 (length entry.0)) (is_nameless entry.1 && is_good table) good).1

    by : (b : Bool) → starts_with nat_eq bytes entry.0 ≡ b
        → FitsIn (length bytes) (elim (symbol_in table bytes) [ None ↦ Bad 0 | Some found ↦ Token found.0 found.1 ])
        → FitsIn (length bytes) (elim (option_map {U = TokenKind × ℕ} (λ entry. (entry.1, length entry.0)) (cond b (Some entry) (find (λ entry. starts_with nat_eq bytes entry.0) table))) [ None ↦ Bad 0 | Some found ↦ Token found.0 found.1 ])
    by true e others =
        let same : bytes ≡ entry.0 ++ drop (length entry.0) bytes = (starts_is Decides-eqb bytes entry.0 (starts_with nat_eq bytes entry.0) refl).0 e in
        (ltb-true _ _ (both (nat_lt 0 (length entry.0)) (is_nameless entry.1 && is_good table) good).0, omega (arith, ap length same, length-append entry.0 (drop (length entry.0) bytes)), nameless entry.1 (both (is_nameless entry.1) (is_good table) rest).0)
    by false e others = others

pub symbol_piece-FitsIn : (bytes : List ℕ) → FitsIn (length bytes) (symbol_piece bytes)
unfolding is_nameless
symbol_piece-FitsIn bytes = symbol_in-fits symbols bytes refl

pub piece_at-FitsIn : (bytes : List ℕ) → 0 < length bytes → FitsIn (length bytes) (piece_at bytes)
unfolding piece_at
piece_at-FitsIn bytes nonempty = by_space (is_space (get_or bytes 0 0))
  where
    by_digit : (b : Bool) → is_ascii_digit (get_or bytes 0 0) ≡ b → FitsIn (length bytes) (cond b (number_piece bytes) (symbol_piece bytes))
    by_digit true e = number_piece-FitsIn bytes nonempty e
    by_digit false e = symbol_piece-FitsIn bytes

    by_name : (b : Bool) → is_name_start (get_or bytes 0 0) ≡ b → FitsIn (length bytes) (cond b (word_piece bytes) (cond (is_ascii_digit (get_or bytes 0 0)) (number_piece bytes) (symbol_piece bytes)))
    by_name true e = word_piece-FitsIn bytes nonempty e
    by_name false e = by_digit (is_ascii_digit (get_or bytes 0 0)) refl

    by_block : (b : Bool) → begins_with (codes "/*") bytes ≡ b → FitsIn (length bytes) (cond b (block_comment_piece bytes) (cond (is_name_start (get_or bytes 0 0)) (word_piece bytes) (cond (is_ascii_digit (get_or bytes 0 0)) (number_piece bytes) (symbol_piece bytes))))
    by_block true e = block_comment-FitsIn bytes e
    by_block false e = by_name (is_name_start (get_or bytes 0 0)) refl

    by_line : (b : Bool) → begins_with (codes "//") bytes ≡ b → FitsIn (length bytes) (cond b (Gap (line_comment_len bytes)) (cond (begins_with (codes "/*") bytes) (block_comment_piece bytes) (cond (is_name_start (get_or bytes 0 0)) (word_piece bytes) (cond (is_ascii_digit (get_or bytes 0 0)) (number_piece bytes) (symbol_piece bytes)))))
    by_line true e = line_comment-FitsIn bytes e
    by_line false e = by_block (begins_with (codes "/*") bytes) refl

    by_space : (b : Bool) → FitsIn (length bytes) (cond b (Gap 1) (cond (begins_with (codes "//") bytes) (Gap (line_comment_len bytes)) (cond (begins_with (codes "/*") bytes) (block_comment_piece bytes) (cond (is_name_start (get_or bytes 0 0)) (word_piece bytes) (cond (is_ascii_digit (get_or bytes 0 0)) (number_piece bytes) (symbol_piece bytes))))))
    by_space true = (omega arith, nonempty)
    by_space false = by_line (begins_with (codes "//") bytes) refl
