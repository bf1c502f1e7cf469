-- The bytes that tokens are printed as, and what it means that they are read back.
use Rattle.std.specs.Prelude.{◌≡◌, ℕ, ◌≤◌, List, [], ◌∷◌, ◌++◌, length, map, filter_map, codes, decimal, nat_abs, slice_get, Option, None, Some, Ok}
use Rattle.std.specs.Option.{unwrap_or}
use Rattle.limits.specs.declared.Limits.{Limits}
use Rattle.clnum.specs.declared.int_type.IntType.{IntType}
use Rattle.clnum.specs.declared.int_type.IntType.TheVariants as types
use Rattle.clmodel.specs.declared.tree.AddressSpace.TheVariants as spaces
use Rattle.clsyntax_lex.specs.declared.token.Token.{Token}
use Rattle.clsyntax_lex.specs.declared.token.TokenKind.{TokenKind}
use Rattle.clsyntax_lex.specs.declared.token.TokenKind.TheVariants as kinds
use Rattle.clsyntax_lex.specs.Tokens.{Text}
use Rattle.clsyntax_lex.specs.Lexing.{Lexes, LexesAtAnyLength}
use Rattle.clsyntax_lex.specs.Spelling.{IsNumber}

-- the suffix of a number of a type (C99 6.4.4.1)
abbrev pub suffix_text : IntType → List ℕ
suffix_text types.Uint = codes "u"
suffix_text types.Long = codes "l"
suffix_text types.Ulong = codes "ul"
suffix_text _ = []

-- The text of a token: a name by its number in a table of names, a number in decimal digits, and a word or symbol in
-- its first spelling. The words that stand nowhere in the grammar are alike, and all printed as the first of them.
abbrev pub spelled : List (List ℕ) → TokenKind → List ℕ
spelled names (kinds.Name number) = unwrap_or (slice_get names number) []
spelled names (kinds.Number value) = decimal (nat_abs value.number) ++ suffix_text value.kind
spelled names kinds.Kernel = codes "__kernel"
spelled names (kinds.Space spaces.Global) = codes "__global"
spelled names (kinds.Space spaces.Local) = codes "__local"
spelled names (kinds.Space spaces.Constant) = codes "__constant"
spelled names kinds.Const = codes "const"
spelled names kinds.Void = codes "void"
spelled names (kinds.Type types.Char) = codes "char"
spelled names (kinds.Type types.Uchar) = codes "uchar"
spelled names (kinds.Type types.Short) = codes "short"
spelled names (kinds.Type types.Ushort) = codes "ushort"
spelled names (kinds.Type types.Int) = codes "int"
spelled names (kinds.Type types.Uint) = codes "uint"
spelled names (kinds.Type types.Long) = codes "long"
spelled names (kinds.Type types.Ulong) = codes "ulong"
spelled names kinds.SizeT = codes "size_t"
spelled names kinds.If = codes "if"
spelled names kinds.Else = codes "else"
spelled names kinds.While = codes "while"
spelled names kinds.Do = codes "do"
spelled names kinds.For = codes "for"
spelled names kinds.Break = codes "break"
spelled names kinds.Continue = codes "continue"
spelled names kinds.Return = codes "return"
spelled names kinds.Reserved = codes "float"
spelled names kinds.ShiftLeftAssign = codes "<<="
spelled names kinds.ShiftRightAssign = codes ">>="
spelled names kinds.ShiftLeft = codes "<<"
spelled names kinds.ShiftRight = codes ">>"
spelled names kinds.LessOrEqual = codes "<="
spelled names kinds.GreaterOrEqual = codes ">="
spelled names kinds.Equal = codes "=="
spelled names kinds.NotEqual = codes "!="
spelled names kinds.AndAnd = codes "&&"
spelled names kinds.OrOr = codes "||"
spelled names kinds.PlusAssign = codes "+="
spelled names kinds.MinusAssign = codes "-="
spelled names kinds.StarAssign = codes "*="
spelled names kinds.SlashAssign = codes "/="
spelled names kinds.PercentAssign = codes "%="
spelled names kinds.AndAssign = codes "&="
spelled names kinds.OrAssign = codes "|="
spelled names kinds.CaretAssign = codes "^="
spelled names kinds.PlusPlus = codes "++"
spelled names kinds.MinusMinus = codes "--"
spelled names kinds.Plus = codes "+"
spelled names kinds.Minus = codes "-"
spelled names kinds.Star = codes "*"
spelled names kinds.Slash = codes "/"
spelled names kinds.Percent = codes "%"
spelled names kinds.Less = codes "<"
spelled names kinds.Greater = codes ">"
spelled names kinds.Assign = codes "="
spelled names kinds.And = codes "&"
spelled names kinds.Or = codes "|"
spelled names kinds.Caret = codes "^"
spelled names kinds.Tilde = codes "~"
spelled names kinds.Not = codes "!"
spelled names kinds.Question = codes "?"
spelled names kinds.Colon = codes ":"
spelled names kinds.Semicolon = codes ";"
spelled names kinds.Comma = codes ","
spelled names kinds.OpenRound = codes "("
spelled names kinds.CloseRound = codes ")"
spelled names kinds.OpenSquare = codes "["
spelled names kinds.CloseSquare = codes "]"
spelled names kinds.OpenBrace = codes "{"
spelled names kinds.CloseBrace = codes "}"

-- the bytes of tokens, a space behind each
abbrev pub text_of : List (List ℕ) → List TokenKind → List ℕ
text_of names [] = []
text_of names (kind ∷ others) = spelled names kind ++ 32 ∷ text_of names others

-- the names among tokens, in their order
abbrev pub name_number : TokenKind → Option ℕ
name_number (kinds.Name number) = Some number
name_number _ = None

abbrev pub names_in : List TokenKind → List ℕ
names_in tokens = filter_map name_number tokens

abbrev pub kinds_of : List Token → List TokenKind
kinds_of tokens = map (λ token. token.kind) tokens

-- a number is one that some bytes spell
abbrev pub IsWritable : TokenKind → Type 0
IsWritable (kinds.Number value) = (text : List ℕ) × IsNumber text value
IsWritable _ = Unit {0}

-- bytes, however many, are read as tokens of these kinds with this table of names
pub record ReadsAs (bytes : List ℕ) (tokens : List TokenKind) (names : List (List ℕ)) : Type 0 where
  pub text : Text
  pub read : LexesAtAnyLength bytes (Ok text)
  pub tokens_are : kinds_of text.tokens ≡ tokens
  pub names_are : text.names ≡ names
  -- so they are as a source, unless they are too long for one on a device
  pub lexes : (limits : Limits) → length bytes ≤ limits.source_bytes → Lexes limits bytes (Ok text)
