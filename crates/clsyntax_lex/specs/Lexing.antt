-- From the bytes of a source to its tokens and names.
use Rattle.std.specs.Prelude.{bytes_eq, ◌≡◌, ◌≢◌, ℕ, zero, suc, ◌+◌, ◌-◌, nat_lt, List, [], ◌∷◌, ◌++◌, length, take, map, Result, Ok, Err, if◌then◌else◌}
use Rattle.std.specs.List.{list_any, position_or_len}
use Rattle.limits.specs.declared.Limits.{Limits}
use Rattle.clsyntax_lex.specs.declared.token.TokenKind.{TokenKind}
use Rattle.clsyntax_lex.specs.declared.token.TokenKind.TheVariants as kinds
use Rattle.clsyntax_lex.specs.declared.token.Token.{Token}
use Rattle.clsyntax_lex.specs.declared.token.SyntaxFault.{SyntaxFault}
use Rattle.clsyntax_lex.specs.declared.token.SyntaxFault.TheVariants.{BadByte, NumberTooLarge, TooLong, OutOfMemory}
use Rattle.clsyntax_lex.specs.declared.pieces.Piece.{Piece}
use Rattle.clsyntax_lex.specs.declared.pieces.Piece.TheVariants as pieces
use Rattle.clsyntax_lex.specs.Tokens.{Text}
use Rattle.clsyntax_lex.specs.Words.{built_in_names}
use Rattle.clsyntax_lex.specs.Pieces.{piece_at}

-- what a token is, a name by its text
pub data Lexeme : Type 0 where
  Named : (text : List ℕ) → Lexeme
  Plain : TokenKind → Lexeme

-- a lexeme and where it begins
pub record Placed : Type 0 where
  pub lexeme : Lexeme
  pub at : ℕ

-- one more lexeme in front, where there is no fault behind it
abbrev pub in_front : Placed → Result (List Placed) SyntaxFault → Result (List Placed) SyntaxFault
in_front first (Ok others) = Ok (first ∷ others)
in_front first (Err fault) = Err fault

abbrev pub placed : Lexeme → ℕ → Placed
placed lexeme at = record { lexeme = lexeme; at = at }

-- the lexemes from a piece on. others: those behind it, where n bytes of the next are still the piece's
abbrev pub with_piece : ℕ → List ℕ → Piece → (ℕ → Result (List Placed) SyntaxFault) → Result (List Placed) SyntaxFault
with_piece at bytes (pieces.Gap len) others = others (len - 1)
with_piece at bytes (pieces.Name len) others = in_front (placed (Named (take len bytes)) at) (others (len - 1))
with_piece at bytes (pieces.Token kind len) others = in_front (placed (Plain kind) at) (others (len - 1))
with_piece at bytes (pieces.Bad further) others = Err (BadByte (at + further))
with_piece at bytes pieces.TooLarge others = Err (NumberTooLarge at)

-- The bytes from an offset on, up to the first fault. skip: how many of them the last piece still takes.
unfoldable pub lexemes_from : (at skip : ℕ) → List ℕ → Result (List Placed) SyntaxFault
lexemes_from at skip [] = Ok []
lexemes_from at (suc skip) (b ∷ bytes) = lexemes_from (suc at) skip bytes
lexemes_from at zero (b ∷ bytes) = with_piece at (b ∷ bytes) (piece_at (b ∷ bytes)) (λ skip. lexemes_from (suc at) skip bytes)

-- the number of a text: its place in the table
abbrev pub place : List (List ℕ) → List ℕ → ℕ
place names text = position_or_len (bytes_eq text) names

-- a table with one more text, unless it is there
abbrev pub with_text : List (List ℕ) → List ℕ → List (List ℕ)
with_text names text = if list_any (bytes_eq text) names then names else names ++ text ∷ []

abbrev pub with_name : List (List ℕ) → Lexeme → List (List ℕ)
with_name names (Named text) = with_text names text
with_name names (Plain kind) = names

-- a table after the names of lexemes: each text once, in the order of their first places
unfoldable pub with_names : List (List ℕ) → List Placed → List (List ℕ)
with_names names [] = names
with_names names (p ∷ ps) = with_names (with_name names p.lexeme) ps

-- a lexeme's token
abbrev pub kind_of : List (List ℕ) → Lexeme → TokenKind
kind_of names (Named text) = kinds.Name (place names text)
kind_of names (Plain kind) = kind

abbrev pub token_of : List (List ℕ) → Placed → Token
token_of names p = record { kind = kind_of names p.lexeme; at = p.at }

-- what a source of n bytes is read as, from tokens and names so far and the lexemes to come
abbrev pub completed : ℕ → List Token → List (List ℕ) → Result (List Placed) SyntaxFault → Result Text SyntaxFault
completed bytes tokens names (Ok ps) =
    let table = with_names names ps in Ok (record { tokens = tokens ++ map (token_of table) ps; length = bytes; names = table })
completed bytes tokens names (Err fault) = Err fault

-- what bytes are read as, however many they are. The table of names begins with the built-in ones.
abbrev pub lexing_at_any_length : List ℕ → Result Text SyntaxFault
lexing_at_any_length bytes = completed (length bytes) [] built_in_names (lexemes_from 0 0 bytes)

-- A source has at most the bytes that the device allows.
unfoldable pub lexing : Limits → List ℕ → Result Text SyntaxFault
lexing limits source = if nat_lt limits.source_bytes (length source) then Err (TooLong limits.source_bytes) else lexing_at_any_length source

-- the bytes, however many, are read as this text, or have this fault
abbrev pub LexesAtAnyLength : List ℕ → Result Text SyntaxFault → Type 0
LexesAtAnyLength bytes result = lexing_at_any_length bytes ≡ result

-- the source is read as this text within the limits of a device, or has this fault
abbrev pub Lexes : Limits → List ℕ → Result Text SyntaxFault → Type 0
Lexes limits source result = lexing limits source ≡ result

-- what a caller learns of an answer: out of memory says nothing of the source
abbrev pub LexesUnlessMemory : Limits → List ℕ → Result Text SyntaxFault → Type 0
LexesUnlessMemory limits source (Ok text) = Lexes limits source (Ok text)
LexesUnlessMemory limits source (Err fault) = fault ≢ OutOfMemory → Lexes limits source (Err fault)
