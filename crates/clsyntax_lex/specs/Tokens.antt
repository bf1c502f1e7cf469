-- What a source is read as.
use Rattle.std.specs.Prelude.{ℕ, ◌<◌, ◌≤◌, List, length, All}
use Rattle.clsyntax_lex.specs.declared.token.TokenKind.{TokenKind}
use Rattle.clsyntax_lex.specs.declared.token.TokenKind.TheVariants as kinds
use Rattle.clsyntax_lex.specs.declared.token.Token.{Token}

-- the tokens, how many bytes the source has, and the texts of its names
pub record Text : Type 0 where
  pub tokens : List Token
  pub length : ℕ
  pub names : List (List ℕ)

-- a name's number is a place in a table of n names
abbrev pub IsNumberedBelow : ℕ → TokenKind → Type 0
IsNumberedBelow count (kinds.Name number) = number < count
IsNumberedBelow count _ = Unit {0}

-- a source has at most 4,194,304 bytes under the limits of any device, and each name in it stands in the table
pub record IsWithinLimits (text : Text) : Type 0 where
  pub short : text.length ≤ 4194304
  pub named : All (λ token. IsNumberedBelow (length text.names) token.kind) text.tokens
