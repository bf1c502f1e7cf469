-- Lists of statements and expressions that grow at their end.
use Rattle.std.proofs.Common.{◌≡◌, List, [], ◌∷◌, ◌++◌}
use Rattle.clmodel.specs.declared.tree.Statement.{Statement}
use Rattle.clmodel.specs.declared.tree.Expression.{Expression}
use Rattle.clmodel.specs.Tree.{term, terms, NoTerm, ThenTerm, NoStmt, ThenStmt, stmt}
use Rattle.clmodel.proofs.Trees.{one_term, one_statement}
use Rattle.clsyntax_terms.specs.Views.{stmts_of}

pub stmts_then : (ts : List Statement) (t : Statement) → stmts_of (ts ++ t ∷ []) ≡ ThenStmt (stmts_of ts) (stmt t)
stmts_then = one_statement NoStmt

pub terms_then : (es : List Expression) (e : Expression) → terms (es ++ e ∷ []) ≡ ThenTerm (terms es) (term e)
terms_then = one_term NoTerm
