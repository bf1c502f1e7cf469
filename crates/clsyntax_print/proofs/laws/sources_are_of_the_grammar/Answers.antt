-- By the reading of the source.
use Rattle.std.proofs.Common.{ℕ, List, Ok, refl, sym}
use Rattle.limits.specs.declared.Limits.{Limits}
use Rattle.clmodel.specs.Tree.{Program}
use Rattle.clsyntax.specs.Source.{IsSource, read}
use Rattle.clsyntax_lex.specs.Tokens.{Text}
use Rattle.clsyntax_lex.specs.Lexing.{Lexes, LexesAtAnyLength}
use Rattle.clsyntax_print.specs.Text.{StandsFor}
use Rattle.clsyntax_print.proofs.laws.sources_are_of_the_grammar.Goals as goal

stands : ((limits : Limits) (source : List ℕ) (text : Text) → Lexes limits source (Ok text) → LexesAtAnyLength source (Ok text)) → (limits : Limits) (source : List ℕ) (p : Program) → IsSource limits source (Ok p) → StandsFor source p
stands without_limit limits source p (read {text = text} lexes is) = record {
  text = text;
  lexed = without_limit limits source text lexes;
  placed = is.functions.placed;
  same = sym is.functions.same;
  again = p;
  program = is.functions.program;
  functions = refl;
  names_read = is.names;
  names = refl;
}

pub returns : goal.returns
returns c = stands c.length_changes_nothing.ensures
