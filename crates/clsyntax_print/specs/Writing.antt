-- How the tokens of a tree are written, one after another.
use Rattle.std.specs.Prelude.{◌≡◌, ℕ, List, [], ◌++◌, Option, None, Some, Result, Ok, Err, Box}
use Rattle.std.specs.declared.alloc.Global.{Global}
use Rattle.clmodel.specs.declared.tree.Statement.{Statement}
use Rattle.clmodel.specs.Tree.{MaybeStmt, Without, With, stmt}
use Rattle.clsyntax_lex.specs.declared.token.TokenKind.{TokenKind}
use Rattle.clsyntax_lex.specs.declared.token.TokenKind.TheVariants as kinds
use Rattle.clsyntax_lex.specs.Printed.{spelled, text_of}
use Rattle.byte_io.specs.Sink.{Sink, Wrote, Stopped}
use Rattle.clsyntax_print.specs.Printing.{Kinds}

-- the text of a word or a symbol
abbrev pub word_text : TokenKind → List ℕ
word_text (kinds.Name x) = []
word_text (kinds.Number v) = []
word_text kind = spelled [] kind

-- The tokens that stand before others were written.
pub record Passed (names : List (List ℕ)) (old new : Sink) (tokens rest : Kinds) : Type 0 where
  pub text : List ℕ
  pub split : text_of names tokens ≡ text ++ text_of names rest
  pub wrote : Wrote old new text

-- The tokens that stand before others were written; or a call failed, and a beginning of the text of all of them was
-- written.
abbrev pub Passes : {A E : Type 0} → List (List ℕ) → Sink → Result A E → Sink → Kinds → Kinds → Type 0
Passes names old (Ok v) new tokens rest = Passed names old new tokens rest
Passes names old (Err e) new tokens rest = Stopped old new (text_of names tokens)

-- a part of a `for` that may be left out
abbrev pub part_of : Option (Box Statement Global) → MaybeStmt
part_of None = Without
part_of (Some s) = With (stmt s.value)
