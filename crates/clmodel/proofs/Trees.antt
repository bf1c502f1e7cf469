-- Calls, blocks and rows of statements as the plain tree has them, and rows up to the next one.
use Rattle.std.proofs.Common.{◌≡◌, ℕ, ◌+◌, ◌<◌, List, [], ◌∷◌, ◌++◌, length, map, take, drop, get_or, Vec, refl, sym, ap, ◌∙◌}
use Prim.Native.Nat.{zero, suc}
use mathlib.Core.Former.{Count}
use Rattle.std.proofs.lemmas.List.{take_more}
use Rattle.std.specs.declared.alloc.Global.{Global}
use Rattle.clmodel.specs.declared.tree.Expression as rust_term
use Rattle.clmodel.specs.declared.tree.Expression.{Expression, items-the_row-Expression, items_hidden-the_row-Expression-0}
use Rattle.clmodel.specs.declared.tree.Expression.TheBlock.{hidden-the_row-Expression-0}
use Rattle.clmodel.specs.declared.tree.Statement as rust
use Rattle.clmodel.specs.declared.tree.Statement.{Statement, items-the_row-Statement, items_hidden-the_row-Statement-0}
use Rattle.clmodel.specs.declared.tree.Statement.TheBlock.{hidden-the_row-Statement-0}
use Rattle.clmodel.specs.Tree as tree
use Rattle.clmodel.specs.Tree.{Term, Terms, NoTerm, ThenTerm, then_all, term, terms, row_terms, Stmts, NoStmt, ThenStmt, then_stmts, stmt, row_stmts}

-- arguments

row_of_terms : (ts : Terms) (m : Count) (row : rust_term.Row_of-Expression m) → row_terms ts row ≡ then_all ts (map term (items-the_row-Expression m row))
row_of_terms ts _ rust_term.end_of-Expression = refl
row_of_terms ts _ (rust_term.more_of-Expression e rest) = row_of_terms (ThenTerm ts (term e)) _ rest

from_arguments : (m : Count) (row : rust_term.Row_of-Expression m) (es : List Expression) → items-the_row-Expression m row ≡ es → row_terms NoTerm row ≡ terms es
from_arguments m row es e = row_of_terms NoTerm m row ∙ ap (λ xs. then_all NoTerm (map term xs)) e

pub call_view : (at name : ℕ) (v : Vec Expression Global) → term (rust_term.Call at name v) ≡ tree.Call at name (terms v.items)
call_view at name v = ap (λ ts. tree.Call at name ts) (from_arguments _ (hidden-the_row-Expression-0 v) v.items (items_hidden-the_row-Expression-0 v))

pub one_term : (ts : Terms) (es : List Expression) (e : Expression) → then_all ts (map term (es ++ e ∷ [])) ≡ ThenTerm (then_all ts (map term es)) (term e)
one_term ts [] e = refl
one_term ts (d ∷ es) e = one_term (ThenTerm ts (term d)) es e

pub next_argument : (es : List Expression) (i : ℕ) (e : Expression) → i < length es → e ≡ get_or es i e → terms (take (i + 1) es) ≡ ThenTerm (terms (take i es)) (term e)
next_argument es i e h g = ap terms (take_more es i e h) ∙ one_term NoTerm (take i es) (get_or es i e) ∙ ap (λ d. ThenTerm (terms (take i es)) (term d)) (sym g)

-- statements

abbrev statements : List Statement → Stmts
statements ss = then_stmts NoStmt (map stmt ss)

row_of_statements : (ss : Stmts) (m : Count) (row : rust.Row_of-Statement m) → row_stmts ss row ≡ then_stmts ss (map stmt (items-the_row-Statement m row))
row_of_statements ss _ rust.end_of-Statement = refl
row_of_statements ss _ (rust.more_of-Statement s rest) = row_of_statements (ThenStmt ss (stmt s)) _ rest

from_statements : (m : Count) (row : rust.Row_of-Statement m) (ss : List Statement) → items-the_row-Statement m row ≡ ss → row_stmts NoStmt row ≡ statements ss
from_statements m row ss e = row_of_statements NoStmt m row ∙ ap (λ xs. then_stmts NoStmt (map stmt xs)) e

pub block_view : (at : ℕ) (v : Vec Statement Global) → stmt (rust.Block at v) ≡ tree.Block at (statements v.items)
block_view at v = ap (λ ss. tree.Block at ss) (from_statements _ (hidden-the_row-Statement-0 v) v.items (items_hidden-the_row-Statement-0 v))

pub one_statement : (ts : Stmts) (ss : List Statement) (s : Statement) → then_stmts ts (map stmt (ss ++ s ∷ [])) ≡ ThenStmt (then_stmts ts (map stmt ss)) (stmt s)
one_statement ts [] s = refl
one_statement ts (t ∷ ss) s = one_statement (ThenStmt ts (stmt t)) ss s

pub next_statement : (ss : List Statement) (i : ℕ) (s : Statement) → i < length ss → s ≡ get_or ss i s → statements (take (i + 1) ss) ≡ ThenStmt (statements (take i ss)) (stmt s)
next_statement ss i s h g = ap statements (take_more ss i s h) ∙ one_statement NoStmt (take i ss) (get_or ss i s) ∙ ap (λ t. ThenStmt (statements (take i ss)) (stmt t)) (sym g)

pub then_rest : (ts : Stmts) (ss : List Statement) (i : ℕ) → then_stmts ts (map stmt ss) ≡ then_stmts (then_stmts ts (map stmt (take i ss))) (map stmt (drop i ss))
then_rest ts ss zero = refl
then_rest ts [] (suc i) = refl
then_rest ts (s ∷ ss) (suc i) = then_rest (ThenStmt ts (stmt s)) ss i
