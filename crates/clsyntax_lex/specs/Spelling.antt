-- Which bytes spell which token (C99 6.4), and what a source is read as in these words.
use Rattle.std.specs.Prelude.{◌≡◌, ◌≢◌, ℕ, ◌+◌, ◌<◌, ◌≤◌, ◌⊎◌, Bool, ◌||◌, IsTrue, bytes_eq, codes, List, [], ◌∷◌, ◌++◌, length, take, drop, slice_index, map, Some}
use Rattle.std.specs.Bool.{IsFalse}
use Rattle.std.specs.List.{AllPass, IsDistinct, slice_get}
use Rattle.std.specs.Char.{is_digit}
use Rattle.clnum.specs.Integer.{Integer}
use Rattle.clsyntax_lex.specs.declared.token.TokenKind.{TokenKind}
use Rattle.clsyntax_lex.specs.declared.token.TokenKind.TheVariants as kinds
use Rattle.clsyntax_lex.specs.declared.numbers.Base.{Base}
use Rattle.clsyntax_lex.specs.declared.numbers.Base.TheVariants.{Decimal, Octal, Hexadecimal}
use Rattle.clsyntax_lex.specs.Tokens.{Text}
use Rattle.clsyntax_lex.specs.Words.{Table, reserved_words, symbols, built_in_names}
use Rattle.clsyntax_lex.specs.Numbers.{radix, begins_with, suffix_of, value_of, typed}
use Rattle.clsyntax_lex.specs.Pieces.{is_space, is_name_start, is_name_part, line_comment_len, closed_after}
use Rattle.clsyntax_lex.specs.Lexing.{Lexeme, Named, Plain, Placed, placed, token_of, place}

-- a table has this text with this kind
abbrev pub HasEntry : Table → List ℕ → TokenKind → Type 0
HasEntry [] text kind = ⊥
HasEntry (entry ∷ table) text kind = ((entry.0 ≡ text) × (entry.1 ≡ kind)) ⊎ HasEntry table text kind

-- letters, digits and underscores that begin with no digit, and are no reserved word (C99 6.4.2.1)
pub record IsName (text : List ℕ) : Type 0 where
  pub starts : IsTrue (is_name_start (slice_index text 0))
  pub parts : AllPass is_name_part text
  pub free : (kind : TokenKind) → HasEntry reserved_words text kind → ⊥

-- what stands before the digits of a number
abbrev pub IsPrefix : Base → List ℕ → Type 0
IsPrefix Decimal text = text ≡ []
IsPrefix Octal text = text ≡ []
IsPrefix Hexadecimal text = (text ≡ codes "0x") ⊎ (text ≡ codes "0X")

-- a decimal number begins with another digit than `0`, an octal one with `0`
abbrev pub IsFirstDigit : Base → ℕ → Type 0
IsFirstDigit Decimal b = b ≢ 48
IsFirstDigit Octal b = b ≡ 48
IsFirstDigit Hexadecimal b = Unit {0}

-- digits with their prefix and a whole suffix, and the value in the first type that it may have and that holds it (C99
-- 6.4.4.1)
pub record IsNumber (text : List ℕ) (value : Integer) : Type 0 where
  pub base : Base
  pub prefix : List ℕ
  pub digits : List ℕ
  pub ending : List ℕ
  pub whole : text ≡ prefix ++ digits ++ ending
  pub prefix_is : IsPrefix base prefix
  pub nonempty : 0 < length digits
  pub digits_are : AllPass (λ b. is_digit b (radix base)) digits
  pub first_is : IsFirstDigit base (slice_index digits 0)
  pub ending_is : (suffix_of ending).len ≡ length ending
  pub value_is : typed base (suffix_of ending) (value_of (radix base) digits) ≡ Some value

-- the bytes of a token
abbrev pub Spells : Lexeme → List ℕ → Type 0
Spells (Named name) text = (name ≡ text) × IsName text
Spells (Plain kind) text =
    ((value : Integer) × (kind ≡ kinds.Number value) × IsNumber text value) ⊎ HasEntry reserved_words text kind ⊎ HasEntry symbols text kind

-- a comment begins here (C99 6.4.9)
abbrev pub begins_comment : List ℕ → Bool
begins_comment bytes = begins_with (codes "//") bytes || begins_with (codes "/*") bytes

-- n bytes are a token, which no comment is, and no longer front of these bytes is a token
pub record IsLongestToken (bytes : List ℕ) (len : ℕ) (lexeme : Lexeme) : Type 0 where
  pub no_comment : IsFalse (begins_comment bytes)
  pub spelled : Spells lexeme (take len bytes)
  pub longest : (more : ℕ) (other : Lexeme) → len < more → more ≤ length bytes → Spells other (take more bytes) → ⊥

-- n bytes are white space: one byte, or a comment up to the end of its line or the next `*/`
abbrev pub IsGap : List ℕ → ℕ → Type 0
IsGap bytes len =
    (IsTrue (is_space (slice_index bytes 0)) × (len ≡ 1))
    ⊎ (IsTrue (begins_with (codes "//") bytes) × (len ≡ line_comment_len bytes))
    ⊎ (IsTrue (begins_with (codes "/*") bytes) × ((n : ℕ) × (closed_after (drop 2 bytes) ≡ Some n) × (len ≡ 2 + n)))

-- the bytes from an offset on are these lexemes, each as long as can be, with white space round them
pub data Reads : ℕ → List ℕ → List Placed → Type 0 where
  ended : {at : ℕ} → Reads at [] []
  gap : {at len : ℕ} {bytes : List ℕ} {others : List Placed}
      → 0 < len → len ≤ length bytes → IsGap bytes len → Reads (at + len) (drop len bytes) others
      → Reads at bytes others
  token : {at len : ℕ} {bytes : List ℕ} {lexeme : Lexeme} {others : List Placed}
      → 0 < len → len ≤ length bytes → IsLongestToken bytes len lexeme → Reads (at + len) (drop len bytes) others
      → Reads at bytes (placed lexeme at ∷ others)

-- a list of texts has this one, and lexemes have a name with this text
abbrev pub HasText : List (List ℕ) → List ℕ → Type 0
HasText [] text = ⊥
HasText (name ∷ names) text = (name ≡ text) ⊎ HasText names text

abbrev pub HasName : List Placed → List ℕ → Type 0
HasName [] text = ⊥
HasName (p ∷ ps) text = (p.lexeme ≡ Named text) ⊎ HasName ps text

-- The table of names begins with the built-in ones and has no text twice. A name's number is its place there, and
-- behind the built-in names stand those of the source alone.
pub record IsNameTable (names : List (List ℕ)) (lexemes : List Placed) : Type 0 where
  pub begins : (others : List (List ℕ)) × (names ≡ built_in_names ++ others)
  pub distinct : IsDistinct bytes_eq names
  pub numbered : (text : List ℕ) → HasName lexemes text → slice_get names (place names text) ≡ Some text
  pub no_other : (text : List ℕ) → HasText names text → HasText built_in_names text ⊎ HasName lexemes text

-- what a source is read as
pub record IsReading (source : List ℕ) (text : Text) : Type 0 where
  pub lexemes : List Placed
  pub reads : Reads 0 source lexemes
  pub length : text.length ≡ length source
  pub tokens : text.tokens ≡ map (token_of text.names) lexemes
  pub names : IsNameTable text.names lexemes
