-- Lists of functions that grow at their end, and how they end.
use Rattle.std.proofs.Common.{◌≡◌, ℕ, true, false, List, [], ◌∷◌, ◌++◌, map, length, Some, Ok, refl, ap}
use Rattle.std.specs.Bool.{◌==◌}
use Rattle.clmodel.specs.declared.tree.Statement as rust_statement
use Rattle.clmodel.specs.declared.tree.Function as rust_function
use Rattle.clmodel.specs.Tree.{ThenStmt, stmt, Func, Funcs, NoFunc, ThenFunc, func, then_funcs}
use Rattle.clsyntax_terms.specs.Machine.{Top, InProgram, ended_in}
use Rattle.clsyntax_terms.specs.Views.{stmts_of, funcs_of}
use Rattle.clsyntax.specs.Reading.{at_end}
use Rattle.clmodel.proofs.Kernels.{then_last}
use Rattle.clsyntax_terms.proofs.Lists as lists

pub stmts_then : (ts : List rust_statement.Statement) (t : rust_statement.Statement) → stmts_of (ts ++ t ∷ []) ≡ ThenStmt (stmts_of ts) (stmt t)
stmts_then = lists.stmts_then

pub funcs_then : (gs : List rust_function.Function) (g : rust_function.Function) → funcs_of (gs ++ g ∷ []) ≡ ThenFunc (funcs_of gs) (func g)
funcs_then = then_last NoFunc

some_funcs : (fs : Funcs) (f : Func) (gs : List rust_function.Function) → ended_in Top (InProgram (then_funcs (ThenFunc fs f) (map func gs)) ∷ []) ≡ Some (then_funcs (ThenFunc fs f) (map func gs))
some_funcs fs f [] = refl
some_funcs fs f (g ∷ gs) = some_funcs (ThenFunc fs f) (func g) gs

-- a program with functions may end
pub program_ends : (gs : List rust_function.Function) (n : ℕ) → (length gs == 0) ≡ false → at_end (ended_in Top (InProgram (funcs_of gs) ∷ [])) n ≡ Ok (funcs_of gs)
program_ends [] n h = absurd (let clash : true ≡ false = h in cc)
program_ends (g ∷ gs) n h = ap (λ o. at_end o n) (some_funcs NoFunc (func g) gs)
