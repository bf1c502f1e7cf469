-- The bytes of a piece spell its token, and no longer front of the rest does.
use Rattle.std.proofs.Common.{◌≡◌, ℕ, ◌<◌, ◌≤◌, ◌+◌, ◌⊎◌, inl, inr, Bool, true, false, ◌||◌, ◌&&◌, not, List, [], ◌∷◌, length, take, drop, get_or, refl, arith, sym, ◌∙◌, cond, ap, subst, Option, None, Some, nat_eq, length-take}
use Rattle.std.specs.Prelude.{find, bytes_eq, codes}
use Rattle.std.specs.List.{prefix_len, starts_with, list_all, AllPass}
use Rattle.std.specs.Option.{option_map}
use Rattle.std.specs.Int.{is_in_range}
use Rattle.std.specs.Char.{is_ascii_digit}
use Rattle.std.proofs.lemmas.Bool.Decides.{Decides-eqb}
use Rattle.std.proofs.lemmas.Slice.Eq.{slice_eq-Decides}
use Rattle.std.proofs.lemmas.List.{get_or-take, take-take}
use Rattle.std.proofs.lemmas.List.Sums.{prefix_len_stops}
use Rattle.clnum.specs.Integer.{Integer}
use Rattle.clsyntax_lex.specs.declared.token.TokenKind.{TokenKind}
use Rattle.clsyntax_lex.specs.declared.token.TokenKind.TheVariants.{Number}
use Rattle.clsyntax_lex.specs.declared.pieces.Piece.{Piece}
use Rattle.clsyntax_lex.specs.declared.pieces.Piece.TheVariants.{Gap, Name, Token, Bad, TooLarge}
use Rattle.clsyntax_lex.specs.declared.numbers.Base.{Base}
use Rattle.clsyntax_lex.specs.declared.numbers.Suffix.{Suffix}
use Rattle.clsyntax_lex.specs.Words.{Table, reserved_words, symbols}
use Rattle.clsyntax_lex.specs.Numbers.{radix, digits_at, base_of, digit_count, value_of, begins_with, suffix_of, typed}
use Rattle.clsyntax_lex.specs.Pieces.{piece_at, word_piece, number_in, number_piece, number_of_len, symbol_piece, word_in, symbol_in, is_space, is_name_start, is_name_part, line_comment_len, closed_after, block_comment_piece}
use Rattle.clsyntax_lex.specs.Lexing.{Lexeme, Named, Plain}
use Rattle.clsyntax_lex.specs.Spelling.{HasEntry, IsName, Spells, begins_comment, IsLongestToken, IsGap}
use Rattle.clsyntax_lex.proofs.PieceLemmas.{prefix_len-AllPass}
use Rattle.clsyntax_lex.proofs.NumberLemmas.{first_passes}
use Rattle.clsyntax_lex.proofs.FitLemmas.{both, start_is_part}
use Rattle.clsyntax_lex.proofs.NumberSpelling.{same_bytes, list_all-AllPass, number_parts, BeginsNumber, base_of-BeginsNumber, number_text}

bytes_same : (a b : List ℕ) → a ≡ b → bytes_eq a b ≡ true
bytes_same a b = (slice_eq-Decides Decides-eqb a b (bytes_eq a b) refl).1

-- a look-up finds an entry with the text, and finds one where there is one
pub word_in-HasEntry : (table : Table) (text : List ℕ) (kind : TokenKind) → word_in table text ≡ Some kind → HasEntry table text kind
word_in-HasEntry [] text kind e = cc
word_in-HasEntry (entry ∷ table) text kind e = by (bytes_eq entry.0 text) refl (word_in-HasEntry table text kind) e
  where
    by : (b : Bool) → bytes_eq entry.0 text ≡ b → (word_in table text ≡ Some kind → HasEntry table text kind)
        → option_map (λ entry. entry.1) (cond b (Some entry) (find (λ entry. bytes_eq entry.0 text) table)) ≡ Some kind → HasEntry (entry ∷ table) text kind
    by true same others e = inl (same_bytes entry.0 text same, cc)
    by false other others e = inr (others e)

word_in-None : (table : Table) (text : List ℕ) → word_in table text ≡ None → (kind : TokenKind) → HasEntry table text kind → ⊥
word_in-None [] text e kind has = has
word_in-None (entry ∷ table) text e kind has = by (bytes_eq entry.0 text) refl (word_in-None table text) e has
  where
    by : (b : Bool) → bytes_eq entry.0 text ≡ b → (word_in table text ≡ None → (kind : TokenKind) → HasEntry table text kind → ⊥)
        → option_map (λ entry. entry.1) (cond b (Some entry) (find (λ entry. bytes_eq entry.0 text) table)) ≡ None → HasEntry (entry ∷ table) text kind → ⊥
    by true same others e has = cc
    by false other others e (inl here) = let yes = bytes_same entry.0 text here.0 in cc
    by false other others e (inr later) = others e kind later

-- the bytes of words and numbers are parts of names, and a symbol begins with another byte
abbrev IsWordLike : List ℕ → Type 0
IsWordLike text = AllPass is_name_part text ⊎ (is_name_part (get_or text 0 0) ≡ false)

reserved-parts : (table : Table) (text : List ℕ) (kind : TokenKind) → list_all (λ entry. list_all is_name_part entry.0) table ≡ true → HasEntry table text kind → AllPass is_name_part text
reserved-parts [] text kind good has = absurd has
reserved-parts (entry ∷ table) text kind good (inl here) = subst (AllPass is_name_part) here.0 (list_all-AllPass is_name_part entry.0 (both _ _ good).0)
reserved-parts (entry ∷ table) text kind good (inr later) = reserved-parts table text kind (both _ _ good).1 later

symbols-parts : (table : Table) (text : List ℕ) (kind : TokenKind) → list_all (λ entry. not (is_name_part (get_or entry.0 0 0))) table ≡ true → HasEntry table text kind → is_name_part (get_or text 0 0) ≡ false
symbols-parts [] text kind good has = absurd has
symbols-parts (entry ∷ table) text kind good (inl here) = subst (λ text. is_name_part (get_or text 0 0) ≡ false) here.0 (not_true (is_name_part (get_or entry.0 0 0)) (both _ _ good).0)
  where
    not_true : (b : Bool) → not b ≡ true → b ≡ false
    not_true true e = cc
    not_true false e = refl
symbols-parts (entry ∷ table) text kind good (inr later) = symbols-parts table text kind (both _ _ good).1 later

digit_is_part : (b : ℕ) → is_ascii_digit b ≡ true → is_name_part b ≡ true
digit_is_part b e = ap (λ digit. ((digit || is_in_range 65 90 b) || is_in_range 97 122 b) || nat_eq b 95) e

pub spelled-cases : (lexeme : Lexeme) (text : List ℕ) → Spells lexeme text → IsWordLike text
spelled-cases (Named name) text spelled = inl spelled.1.parts
spelled-cases (Plain kind) text (inl number) = inl (number_parts text number.0 number.2)
spelled-cases (Plain kind) text (inr (inl reserved)) = inl (reserved-parts reserved_words text kind refl reserved)
spelled-cases (Plain kind) text (inr (inr symbol)) = inr (symbols-parts symbols text kind refl symbol)

-- behind a byte that is no part of a name no longer word or number goes on
ends_word : (bytes : List ℕ) (len more : ℕ) (lexeme : Lexeme) → 0 < len → len < more → more ≤ length bytes → is_name_part (get_or bytes 0 0) ≡ true → is_name_part (get_or bytes len 0) ≡ false
    → Spells lexeme (take more bytes) → ⊥
ends_word bytes len more lexeme positive longer within begins ends spelled = by (spelled-cases lexeme (take more bytes) spelled)
  where
    by : IsWordLike (take more bytes) → ⊥
    by (inl parts) =
        let yes : is_name_part (get_or bytes len 0) ≡ true = rw get_or-take at (parts len 0 (omega (arith, length-take more bytes))) in cc
    by (inr none) = let some : 0 < more = omega arith in let no : is_name_part (get_or bytes 0 0) ≡ false = rw get_or-take at none in cc

-- what is known of the front of some bytes by its piece
abbrev pub IsPieceOf : List ℕ → Piece → Type 0
IsPieceOf bytes (Gap len) = IsGap bytes len
IsPieceOf bytes (Name len) = IsLongestToken bytes len (Named (take len bytes))
IsPieceOf bytes (Token kind len) = IsLongestToken bytes len (Plain kind)
IsPieceOf bytes (Bad further) = Unit {0}
IsPieceOf bytes TooLarge = Unit {0}

pub word_piece-spelled : (bytes : List ℕ) → 0 < length bytes → is_name_start (get_or bytes 0 0) ≡ true → begins_comment bytes ≡ false → IsPieceOf bytes (word_piece bytes)
word_piece-spelled bytes nonempty starts no_comment = by (word_in reserved_words (take (prefix_len is_name_part bytes) bytes)) refl
  where
    positive : 0 < prefix_len is_name_part bytes
    positive = first_passes is_name_part bytes nonempty (start_is_part (get_or bytes 0 0) starts)

    longest : (more : ℕ) (other : Lexeme) → prefix_len is_name_part bytes < more → more ≤ length bytes → Spells other (take more bytes) → ⊥
    longest more other longer within spelled =
        ends_word bytes (prefix_len is_name_part bytes) more other positive longer within (start_is_part (get_or bytes 0 0) starts) (prefix_len_stops is_name_part bytes 0 (omega arith)) spelled

    name : 0 < prefix_len is_name_part bytes → word_in reserved_words (take (prefix_len is_name_part bytes) bytes) ≡ None → IsName (take (prefix_len is_name_part bytes) bytes)
    name some free = record {
      starts = rw get_or-take starts;
      parts = prefix_len-AllPass is_name_part bytes;
      free = word_in-None reserved_words (take (prefix_len is_name_part bytes) bytes) free;
    }

    by : (found : Option TokenKind) → word_in reserved_words (take (prefix_len is_name_part bytes) bytes) ≡ found
        → IsPieceOf bytes (elim found [ None ↦ Name (prefix_len is_name_part bytes) | Some kind ↦ Token kind (prefix_len is_name_part bytes) ])
    by None e = record { no_comment = no_comment; spelled = (refl, name positive e); longest = longest }
    by (Some kind) e = record { no_comment = no_comment; spelled = inr (inl (word_in-HasEntry reserved_words (take (prefix_len is_name_part bytes) bytes) kind e)); longest = longest }

pub number_piece-spelled : (bytes : List ℕ) → 0 < length bytes → is_ascii_digit (get_or bytes 0 0) ≡ true → begins_comment bytes ≡ false → IsPieceOf bytes (number_piece bytes)
unfolding number_piece number_in
number_piece-spelled bytes nonempty digit no_comment = by (typed base suffix (value_of (radix base) (take count rest))) refl
  where
    base : Base
    base = base_of bytes

    rest : List ℕ
    rest = drop (digits_at (base_of bytes)) bytes

    count : ℕ
    count = digit_count (base_of bytes) (drop (digits_at (base_of bytes)) bytes)

    suffix : Suffix
    suffix = suffix_of (drop count rest)

    begins : BeginsNumber (base_of bytes) bytes
    begins = base_of-BeginsNumber bytes nonempty digit

    behind : (value : Integer) → typed base suffix (value_of (radix base) (take count rest)) ≡ Some value → (b : Bool) → is_name_part (get_or bytes (digits_at base + count + suffix.len) 0) ≡ b
        → IsPieceOf bytes (cond b (Bad (digits_at base + count + suffix.len)) (Token (Number value) (digits_at base + count + suffix.len)))
    behind value e true follows = tt
    behind value e false follows = record {
      no_comment = no_comment;
      spelled = inl (value, refl, number_text base bytes value begins e);
      longest = λ more other longer within spelled. ends_word bytes (digits_at base + count + suffix.len) more other (omega (arith, begins.some)) longer within (digit_is_part (get_or bytes 0 0) digit) follows spelled;
    }

    by : (found : Option Integer) → typed base suffix (value_of (radix base) (take count rest)) ≡ found → IsPieceOf bytes (number_of_len bytes (digits_at base + count + suffix.len) found)
    by None e = tt
    by (Some value) e = behind value e (is_name_part (get_or bytes (digits_at base + count + suffix.len) 0)) refl

-- no text of a table begins a later one
is_ordered : Table → Bool
is_ordered [] = true
is_ordered (entry ∷ table) = list_all (λ later. not (starts_with nat_eq later.0 entry.0)) table && is_ordered table

pub passes : (p : List ℕ × TokenKind → Bool) (table : Table) (text : List ℕ) (kind : TokenKind) → list_all p table ≡ true → HasEntry table text kind → p (text, kind) ≡ true
passes p [] text kind all has = absurd has
passes p (entry ∷ table) text kind all (inl here) = subst (λ text. p (text, kind) ≡ true) here.0 (subst (λ kind. p (entry.0, kind) ≡ true) here.1 (both (p entry) (list_all p table) all).0)
passes p (entry ∷ table) text kind all (inr later) = passes p table text kind (both (p entry) (list_all p table) all).1 later

-- the symbol that is found stands in the table, and no longer one in front does
pub record IsFoundIn (table : Table) (bytes : List ℕ) (found : TokenKind × ℕ) : Type 0 where
  pub has : HasEntry table (take found.1 bytes) found.0
  pub longest : (text : List ℕ) (kind : TokenKind) → HasEntry table text kind → text ≡ take (length text) bytes → found.1 < length text → ⊥

-- a shorter front of the bytes is a front of a longer one
front_of_front : (bytes short long : List ℕ) → short ≡ take (length short) bytes → long ≡ take (length long) bytes → length short < length long → short ≡ take (length short) long
front_of_front bytes short long a b shorter =
    a ∙ sym (take-take (length short) (length long) bytes (omega arith)) ∙ ap (take (length short)) (sym b)

symbol_in-IsFoundIn : (table : Table) (bytes : List ℕ) (found : TokenKind × ℕ) → is_ordered table ≡ true → symbol_in table bytes ≡ Some found → IsFoundIn table bytes found
unfolding is_ordered
symbol_in-IsFoundIn [] bytes found ordered e = cc
symbol_in-IsFoundIn (entry ∷ table) bytes found ordered e =
    by (starts_with nat_eq bytes entry.0) refl (symbol_in-IsFoundIn table bytes found (both _ _ ordered).1) e
  where
    first_found : starts_with nat_eq bytes entry.0 ≡ true → IsFoundIn (entry ∷ table) bytes (entry.1, length entry.0)
    first_found here = record {
      has = inl (same_bytes entry.0 (take (length entry.0) bytes) here, refl);
      longest = λ text kind has front longer. longer_none text kind has front longer;
    }
      where
        longer_none : (text : List ℕ) (kind : TokenKind) → HasEntry (entry ∷ table) text kind → text ≡ take (length text) bytes → length entry.0 < length text → ⊥
        longer_none text kind (inl same) front longer = absurd (omega (arith, ap length same.0))
        longer_none text kind (inr later) front longer =
            let no : not (starts_with nat_eq text entry.0) ≡ true = passes (λ later. not (starts_with nat_eq later.0 entry.0)) table text kind (both _ _ ordered).0 later in
            let yes : starts_with nat_eq text entry.0 ≡ true = bytes_same entry.0 (take (length entry.0) text) (front_of_front bytes entry.0 text (same_bytes entry.0 (take (length entry.0) bytes) here) front longer) in
            cc

    by : (b : Bool) → starts_with nat_eq bytes entry.0 ≡ b → (symbol_in table bytes ≡ Some found → IsFoundIn table bytes found)
        → option_map {U = TokenKind × ℕ} (λ entry. (entry.1, length entry.0)) (cond b (Some entry) (find (λ entry. starts_with nat_eq bytes entry.0) table)) ≡ Some found → IsFoundIn (entry ∷ table) bytes found
    by true here others e = subst (IsFoundIn (entry ∷ table) bytes) (let same : (entry.1, length entry.0) ≡ found = cc in same) (first_found here)
    by false none others e = record {
      has = inr (others e).has;
      longest = λ text kind has front longer. elim has [
        | inl same ↦ (let yes : starts_with nat_eq bytes entry.0 ≡ true = bytes_same entry.0 (take (length entry.0) bytes) (subst (λ t. t ≡ take (length t) bytes) (sym same.0) front) in let no = none in cc)
        | inr later ↦ (others e).longest text kind later front longer
      ];
    }

no_part : (b : ℕ) → is_name_start b ≡ false → is_ascii_digit b ≡ false → is_name_part b ≡ false
no_part b start digit = by (is_in_range 48 57 b) (is_in_range 65 90 b) (is_in_range 97 122 b) (nat_eq b 95) start digit
  where
    by : (d upper lower underscore : Bool) → (upper || lower) || underscore ≡ false → d ≡ false → ((d || upper) || lower) || underscore ≡ false
    by true upper lower underscore s e = cc
    by false upper lower underscore s e = s

pub symbol_piece-spelled : (bytes : List ℕ) → 0 < length bytes → is_name_start (get_or bytes 0 0) ≡ false → is_ascii_digit (get_or bytes 0 0) ≡ false → begins_comment bytes ≡ false → IsPieceOf bytes (symbol_piece bytes)
unfolding is_ordered
symbol_piece-spelled bytes nonempty no_start no_digit no_comment = by (symbol_in symbols bytes) (λ found e. symbol_in-IsFoundIn symbols bytes found refl e) refl
  where
    word_none : (more : ℕ) → 0 < more → more ≤ length bytes → AllPass is_name_part (take more bytes) → ⊥
    word_none more some within parts =
        let yes : is_name_part (get_or bytes 0 0) ≡ true = rw get_or-take at (parts 0 0 (omega (arith, length-take more bytes))) in
        let no = no_part (get_or bytes 0 0) no_start no_digit in cc

    none_longer : (found : TokenKind × ℕ) → IsFoundIn symbols bytes found → (more : ℕ) (other : Lexeme) → found.1 < more → more ≤ length bytes → Spells other (take more bytes) → ⊥
    none_longer found is more (Named name) longer within spelled = word_none more (omega arith) within spelled.1.parts
    none_longer found is more (Plain kind) longer within (inl number) = word_none more (omega arith) within (number_parts (take more bytes) number.0 number.2)
    none_longer found is more (Plain kind) longer within (inr (inl reserved)) = word_none more (omega arith) within (reserved-parts reserved_words (take more bytes) kind refl reserved)
    none_longer found is more (Plain kind) longer within (inr (inr symbol)) =
        let size : length (take more bytes) ≡ more = omega (arith, length-take more bytes) in
        is.longest (take more bytes) kind symbol (ap (λ n. take n bytes) (sym size)) (omega arith)

    by : (o : Option (TokenKind × ℕ)) → ((found : TokenKind × ℕ) → symbol_in symbols bytes ≡ Some found → IsFoundIn symbols bytes found) → symbol_in symbols bytes ≡ o
        → IsPieceOf bytes (elim o [ None ↦ Bad 0 | Some found ↦ Token found.0 found.1 ])
    by None is e = tt
    by (Some found) is e = record { no_comment = no_comment; spelled = inr (inr (is found e).has); longest = none_longer found (is found e) }

block_comment-spelled : (bytes : List ℕ) → begins_with (codes "/*") bytes ≡ true → IsPieceOf bytes (block_comment_piece bytes)
block_comment-spelled bytes begins = by (closed_after (drop 2 bytes)) refl
  where
    by : (o : Option ℕ) → closed_after (drop 2 bytes) ≡ o → IsPieceOf bytes (elim o [ None ↦ Bad 0 | Some n ↦ Gap (2 + n) ])
    by None e = tt
    by (Some n) e = inr (inr (begins, (n, e, refl)))

pub piece_at-spelled : (bytes : List ℕ) → 0 < length bytes → IsPieceOf bytes (piece_at bytes)
unfolding piece_at
piece_at-spelled bytes nonempty = by_space (is_space (get_or bytes 0 0)) refl
  where
    by_digit : (b : Bool) → begins_comment bytes ≡ false → is_name_start (get_or bytes 0 0) ≡ false → is_ascii_digit (get_or bytes 0 0) ≡ b → IsPieceOf bytes (cond b (number_piece bytes) (symbol_piece bytes))
    by_digit true c n e = number_piece-spelled bytes nonempty e c
    by_digit false c n e = symbol_piece-spelled bytes nonempty n e c

    by_name : (b : Bool) → begins_comment bytes ≡ false → is_name_start (get_or bytes 0 0) ≡ b → IsPieceOf bytes (cond b (word_piece bytes) (cond (is_ascii_digit (get_or bytes 0 0)) (number_piece bytes) (symbol_piece bytes)))
    by_name true c e = word_piece-spelled bytes nonempty e c
    by_name false c e = by_digit (is_ascii_digit (get_or bytes 0 0)) c e refl

    by_block : (b : Bool) → begins_with (codes "//") bytes ≡ false → begins_with (codes "/*") bytes ≡ b
        → IsPieceOf bytes (cond b (block_comment_piece bytes) (cond (is_name_start (get_or bytes 0 0)) (word_piece bytes) (cond (is_ascii_digit (get_or bytes 0 0)) (number_piece bytes) (symbol_piece bytes))))
    by_block true l e = block_comment-spelled bytes e
    by_block false l e = by_name (is_name_start (get_or bytes 0 0)) (ap (λ line. line || begins_with (codes "/*") bytes) l ∙ e) refl

    by_line : (b : Bool) → begins_with (codes "//") bytes ≡ b
        → IsPieceOf bytes (cond b (Gap (line_comment_len bytes)) (cond (begins_with (codes "/*") bytes) (block_comment_piece bytes) (cond (is_name_start (get_or bytes 0 0)) (word_piece bytes) (cond (is_ascii_digit (get_or bytes 0 0)) (number_piece bytes) (symbol_piece bytes)))))
    by_line true e = inr (inl (e, refl))
    by_line false e = by_block (begins_with (codes "/*") bytes) e refl

    by_space : (b : Bool) → is_space (get_or bytes 0 0) ≡ b
        → IsPieceOf bytes (cond b (Gap 1) (cond (begins_with (codes "//") bytes) (Gap (line_comment_len bytes)) (cond (begins_with (codes "/*") bytes) (block_comment_piece bytes) (cond (is_name_start (get_or bytes 0 0)) (word_piece bytes) (cond (is_ascii_digit (get_or bytes 0 0)) (number_piece bytes) (symbol_piece bytes))))))
    by_space true e = inl (e, refl)
    by_space false e = by_line (begins_with (codes "//") bytes) refl
