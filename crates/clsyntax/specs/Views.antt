-- What the parser holds and answers, as the machine and the reading see it.
use Rattle.std.specs.Prelude.{◌≡◌, ℕ, Bool, true, false, not, List, ◌∷◌, Result, Ok, Err, Box, Vec}
use Rattle.std.specs.declared.alloc.Global.{Global}
use Rattle.clmodel.specs.declared.tree.Function as rust_function
use Rattle.limits.specs.declared.Limits.{Limits}
use Rattle.clmodel.specs.Tree.{stmt, Funcs}
use Rattle.clsyntax_lex.specs.declared.token.SyntaxFault.{SyntaxFault}
use Rattle.clsyntax_terms.specs.Machine as machine
use Rattle.clsyntax_terms.specs.Machine.{Moved}
use Rattle.clsyntax_terms.specs.Views.{opened, funcs_of, state_of}
use Rattle.clsyntax_terms.specs.declared.state.State.{State}
use Rattle.clsyntax.specs.Correct.{UnlessMemory}
use Rattle.clsyntax.specs.Reading.{moved}
use Rattle.clsyntax.specs.declared.control.Settled.{Settled}

abbrev pub settled_of : Settled → machine.Settled
settled_of x = machine.settled (stmt x.statement.value) (opened x.stack)

-- a statement ends the frame in front, which controls it
abbrev pub ends_front : (before_else : Bool) → List machine.Frame → Bool
ends_front b (machine.Otherwise a e s ∷ fs) = true
ends_front b (machine.Turns a e ∷ fs) = true
ends_front b (machine.ForTurns a i c f ∷ fs) = true
ends_front b (machine.Then a n e ∷ fs) = not b
ends_front b _ = false

-- the state after a token at the offset on a device, however one goes on
abbrev pub IsAdvance : Limits → Result (Box State Global) SyntaxFault → Moved → ℕ → Type 0
IsAdvance limits (Ok s) m at = (go_on : machine.State → Result Funcs SyntaxFault) → moved limits m at go_on ≡ go_on (state_of s.value)
IsAdvance limits (Err fault) m at = UnlessMemory fault ((go_on : machine.State → Result Funcs SyntaxFault) → moved limits m at go_on ≡ Err fault)

-- the functions, as reading gives them
abbrev pub IsRead : Result (Vec rust_function.Function Global) SyntaxFault → Result Funcs SyntaxFault → Type 0
IsRead (Ok fs) r = r ≡ Ok (funcs_of fs.items)
IsRead (Err fault) r = UnlessMemory fault (r ≡ Err fault)
