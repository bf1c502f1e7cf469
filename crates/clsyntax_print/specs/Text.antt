-- The text that a program is printed as, and what texts stand for.
use Rattle.std.specs.Prelude.{◌≡◌, ℕ, ◌≤◌, List, length, Ok}
use Rattle.limits.specs.declared.Limits.{Limits}
use Rattle.clmodel.specs.Tree.{Program}
use Rattle.clsyntax_lex.specs.Tokens.{Text}
use Rattle.clsyntax_lex.specs.Lexing.{LexesAtAnyLength}
use Rattle.clsyntax_lex.specs.Printed.{text_of}
use Rattle.clsyntax_terms.specs.Grammar.{Placed}
use Rattle.clsyntax.specs.Correct.{tokens, IsProgram, IsWithin}
use Rattle.clsyntax.specs.Source.{IsSource}
use Rattle.clsyntax_print.specs.Printing.{plain_funcs, printed}

-- each token of the program, and a space behind it
abbrev pub printed_text : Program → List ℕ
printed_text p = text_of p.names (printed p.functions)

-- The bytes, however many and however deep their tokens are nested, have tokens and names that are the program, offsets
-- aside (own).
pub record StandsFor (bytes : List ℕ) (p : Program) : Type 0 where
  pub text : Text
  pub lexed : LexesAtAnyLength bytes (Ok text)
  pub placed : List Placed
  pub same : tokens placed ≡ text.tokens
  pub again : Program
  pub program : IsProgram placed again.functions
  pub functions : plain_funcs again.functions ≡ plain_funcs p.functions
  pub names_read : again.names ≡ text.names
  pub names : again.names ≡ p.names

-- a tree of the grammar: one that some bytes stand for
abbrev pub IsOfGrammar : Program → Type 0
IsOfGrammar p = (bytes : List ℕ) × StandsFor bytes p

-- The bytes stand for the program, and are a source of it where they are within the limits of length and nesting of a
-- device.
pub record IsReadBack (bytes : List ℕ) (p : Program) : Type 0 where
  pub stands : StandsFor bytes p
  pub source : (limits : Limits) → length bytes ≤ limits.source_bytes → IsWithin limits stands.placed → IsSource limits bytes (Ok stands.again)
