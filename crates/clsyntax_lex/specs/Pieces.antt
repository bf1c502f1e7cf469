-- What one step takes from the front of the rest of a source.
use Rattle.std.specs.Prelude.{bytes_eq, ℕ, ◌+◌, ◌<◌, ◌≤◌, Bool, not, ◌||◌, ◌==◌, nat_eq, List, [], ◌∷◌, length, take, drop, slice_index, codes, find, Option, None, Some, if◌then◌else◌}
use Rattle.std.specs.List.{prefix_len, starts_with}
use Rattle.std.specs.Option.{option_map}
use Rattle.std.specs.Char.{is_ascii_digit, is_ascii_alphabetic, is_ascii_alphanumeric}
use Rattle.clnum.specs.Integer.{Integer}
use Rattle.clsyntax_lex.specs.declared.numbers.Base.{Base}
use Rattle.clsyntax_lex.specs.Numbers.{radix, digits_at, base_of, digit_count, value_of, begins_with, suffix_of, typed}
use Rattle.clsyntax_lex.specs.declared.token.TokenKind.{TokenKind}
use Rattle.clsyntax_lex.specs.declared.token.TokenKind.TheVariants.{Number}
use Rattle.clsyntax_lex.specs.declared.pieces.Piece.{Piece}
use Rattle.clsyntax_lex.specs.declared.pieces.Piece.TheVariants.{Gap, Name, Token, Bad, TooLarge}
use Rattle.clsyntax_lex.specs.Tokens.{IsNumberedBelow}
use Rattle.clsyntax_lex.specs.Words.{Table, reserved_words, symbols}

-- space, tab, line feed and carriage return
abbrev pub is_space : ℕ → Bool
is_space b = b == 32 || b == 9 || b == 10 || b == 13

-- a letter or an underscore, and one of these or a digit (C99 6.4.2.1)
abbrev pub is_name_start : ℕ → Bool
is_name_start b = is_ascii_alphabetic b || b == 95

abbrev pub is_name_part : ℕ → Bool
is_name_part b = is_ascii_alphanumeric b || b == 95

-- what a text is by a table
abbrev pub word_in : Table → List ℕ → Option TokenKind
word_in table text = option_map (λ entry. entry.1) (find (λ entry. bytes_eq entry.0 text) table)

-- the first entry of a table with which the bytes begin: what it is, and how long
abbrev pub symbol_in : Table → List ℕ → Option (TokenKind × ℕ)
symbol_in table bytes = option_map (λ entry. (entry.1, length entry.0)) (find (λ entry. starts_with nat_eq bytes entry.0) table)

-- a name in full length, or a reserved word
abbrev pub word_piece : List ℕ → Piece
word_piece bytes =
    let len = prefix_len is_name_part bytes in
    elim (word_in reserved_words (take len bytes)) [ None ↦ Name len | Some kind ↦ Token kind len ]

-- a number of n bytes, behind which no letter, digit or underscore stands
abbrev pub number_of_len : List ℕ → ℕ → Option Integer → Piece
number_of_len bytes len None = TooLarge
number_of_len bytes len (Some value) = if is_name_part (slice_index bytes len) then Bad len else Token (Number value) len

-- the number at the front of bytes, whose digits begin the rest
unfoldable pub number_in : Base → List ℕ → List ℕ → Piece
number_in base rest bytes =
    let count = digit_count base rest in
    let suffix = suffix_of (drop count rest) in
    number_of_len bytes (digits_at base + count + suffix.len) (typed base suffix (value_of (radix base) (take count rest)))

unfoldable pub number_piece : List ℕ → Piece
number_piece bytes = number_in (base_of bytes) (drop (digits_at (base_of bytes)) bytes) bytes

abbrev pub symbol_piece : List ℕ → Piece
symbol_piece bytes = elim (symbol_in symbols bytes) [ None ↦ Bad 0 | Some found ↦ Token found.0 found.1 ]

-- `//` begins a comment up to the end of the line
abbrev pub is_in_line : ℕ → Bool
is_in_line b = not (b == 10)

abbrev pub line_comment_len : List ℕ → ℕ
line_comment_len bytes = prefix_len is_in_line bytes

-- how far the next `*/` goes, with it
unfoldable pub closed_after : List ℕ → Option ℕ
closed_after [] = None
closed_after (b ∷ bytes) = if begins_with (codes "*/") (b ∷ bytes) then Some 2 else option_map (λ n. 1 + n) (closed_after bytes)

-- `/*` begins a comment up to the next `*/`, and nothing where there is none
abbrev pub block_comment_piece : List ℕ → Piece
block_comment_piece bytes = elim (closed_after (drop 2 bytes)) [ None ↦ Bad 0 | Some n ↦ Gap (2 + n) ]

-- a piece takes at least one byte, and no more than there are; a name is a piece of its own kind
abbrev pub FitsIn : ℕ → Piece → Type 0
FitsIn bytes (Gap len) = (0 < len) × (len ≤ bytes)
FitsIn bytes (Name len) = (0 < len) × (len ≤ bytes)
FitsIn bytes (Token kind len) = (0 < len) × (len ≤ bytes) × IsNumberedBelow 0 kind
FitsIn bytes (Bad further) = further ≤ bytes
FitsIn bytes TooLarge = Unit {0}

-- the piece at the front of bytes, of which there is one
unfoldable pub piece_at : List ℕ → Piece
piece_at bytes =
    let first = slice_index bytes 0 in
    if is_space first then Gap 1
    else (if begins_with (codes "//") bytes then Gap (line_comment_len bytes)
    else (if begins_with (codes "/*") bytes then block_comment_piece bytes
    else (if is_name_start first then word_piece bytes
    else (if is_ascii_digit first then number_piece bytes
    else symbol_piece bytes))))
