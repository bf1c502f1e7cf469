-- From a source's bytes to its tree.
use Rattle.std.specs.Prelude.{◌≡◌, ℕ, List, Result, Ok, Err}
use Rattle.limits.specs.declared.Limits.{Limits}
use Rattle.clmodel.specs.Tree.{Program}
use Rattle.clsyntax_lex.specs.declared.token.SyntaxFault.{SyntaxFault}
use Rattle.clsyntax_lex.specs.Tokens.{Text}
use Rattle.clsyntax_lex.specs.Lexing.{Lexes}
use Rattle.clsyntax.specs.Correct.{IsReading}

-- what a source stands for on a device: its text's reading, or the fault that keeps it from being a text
pub data IsSource (limits : Limits) (source : List ℕ) : Result Program SyntaxFault → Type 0 where
  read : {text : Text} {result : Result Program SyntaxFault} → Lexes limits source (Ok text) → IsReading limits text result → IsSource limits source result
  refused : {fault : SyntaxFault} → Lexes limits source (Err fault) → IsSource limits source (Err fault)

-- a source stands for one thing on a device
abbrev pub IsOneSource : Type 0
IsOneSource = (limits : Limits) (source : List ℕ) (a b : Result Program SyntaxFault) → IsSource limits source a → IsSource limits source b → a ≡ b
