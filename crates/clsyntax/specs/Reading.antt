-- Reading a text's tokens by the machine, up to the first fault.
use Rattle.std.specs.Prelude.{ℕ, List, [], ◌∷◌, Option, None, Some, Result, Ok, Err, nat_lt, if◌then◌else◌}
use Rattle.limits.specs.declared.Limits.{Limits}
use Rattle.clmodel.specs.Tree.{Funcs}
use Rattle.clsyntax_lex.specs.declared.token.Token.{Token}
use Rattle.clsyntax_lex.specs.declared.token.SyntaxFault.{SyntaxFault}
use Rattle.clsyntax_lex.specs.declared.token.SyntaxFault.TheVariants.{Unexpected, TooDeep}
use Rattle.clsyntax_terms.specs.Machine.{State, Moved, step, ended}

abbrev pub at_end : Option Funcs → ℕ → Result Funcs SyntaxFault
at_end None length = Err (Unexpected length)
at_end (Some fs) length = Ok fs

-- a move at the token that begins at the offset, and how one goes on, on a device
abbrev pub moved : Limits → Moved → ℕ → (State → Result Funcs SyntaxFault) → Result Funcs SyntaxFault
moved limits None at go_on = Err (Unexpected at)
moved limits (Some x) at go_on = if nat_lt limits.nesting x.0 then Err (TooDeep at) else go_on x.1

-- from a state, in a text of this length
unfoldable pub read_from : Limits → ℕ → List Token → State → Result Funcs SyntaxFault
read_from limits length [] s = at_end (ended s) length
read_from limits length (t ∷ ts) s = moved limits (step s t) t.at (read_from limits length ts)
