-- Statements and functions as lists.
use Rattle.std.proofs.Common.{◌≡◌, ℕ, zero, suc, ◌+◌, ◌<◌, cond, List, [], ◌∷◌, map, length, take, get_or, refl, sym, ap, ◌∙◌, Vec, arith, Option, None, Some, Box, Bor, eq-eqb, ne_eqb}
use Rattle.std.specs.declared.alloc.Global.{Global}
use mathlib.Core.Former.{Count}
use Rattle.clmodel.specs.declared.tree.Function.{Function}
use Rattle.clmodel.specs.declared.tree.Statement as rust_statement
use Rattle.clmodel.specs.declared.tree.Statement.{Statement, size-Statement}
use Rattle.clmodel.specs.Tree.{Block, row_stmts, Stmts, NoStmt, ThenStmt, stmt, then_stmts, Funcs, NoFunc, ThenFunc, then_funcs, func}
use Rattle.clmodel.specs.Next.{all_sites, sites_in}
use Rattle.lower_code.specs.Trees.{all_of}
use Rattle.lower_code.specs.Emission.{functions_of, inside}

stmt_rows : (ss : Stmts) (n : _) (row : rust_statement.Row_of-Statement n) → row_stmts ss row ≡ then_stmts ss (map stmt (rust_statement.items-the_row-Statement n row))
stmt_rows ss n rust_statement.end_of-Statement = refl
stmt_rows ss n (rust_statement.more_of-Statement s rest) = stmt_rows (ThenStmt ss (stmt s)) _ rest

abbrev stmt_row_of : rust_statement.Statement → (n : Count) × rust_statement.Row_of-Statement n
stmt_row_of (rust_statement.Block' at n row) = (_, row)
stmt_row_of _ = (_, rust_statement.end_of-Statement)

-- a block is of its statements
pub blocks : (at : ℕ) (ss : Vec rust_statement.Statement Global) → stmt (rust_statement.Block at ss) ≡ Block at (then_stmts NoStmt (map stmt ss.items))
blocks at ss =
    let row = stmt_row_of (rust_statement.Block at ss) in
    let same = rust_statement.items_hidden-the_row-Statement-0 ss in
    ap (Block at) (stmt_rows NoStmt row.0 row.1 ∙ ap (λ ds. then_stmts NoStmt (map stmt ds)) same)

pub block_is : (s : Statement) (at : ℕ) (ss : Vec Statement Global) (xs : List Statement) → s ≡ rust_statement.Block at ss → xs ≡ ss.items → Block at (all_of xs) ≡ stmt s
block_is s at ss xs p q = ap (λ ys. Block at (all_of ys)) q ∙ sym (blocks at ss) ∙ ap stmt (sym p)

funcs_more : (fs : Funcs) (gs : List Function) (i : ℕ) (d : Function) → i < length gs
    → then_funcs fs (map func (take (suc i) gs)) ≡ ThenFunc (then_funcs fs (map func (take i gs))) (func (get_or gs i d))
funcs_more fs [] i d h = absurd (omega arith)
funcs_more fs (g ∷ gs) zero d h = refl
funcs_more fs (g ∷ gs) (suc i) d h = funcs_more (ThenFunc fs (func g)) gs i d (omega arith)

-- the first functions with one more
pub functions_more : (gs : List Function) (i : ℕ) (g : Function) → i < length gs → g ≡ get_or gs i g
    → functions_of (take (i + 1) gs) ≡ ThenFunc (functions_of (take i gs)) (func g)
functions_more gs i g h p =
    let e : i + 1 ≡ suc i = omega arith in
    ap (λ n. functions_of (take n gs)) e ∙ funcs_more NoFunc gs i g h ∙ ap (λ x. ThenFunc (functions_of (take i gs)) (func x)) (sym p)

-- the barriers in the helper of a name, with one function more
pub inside_hit : (gs : List Function) (i name : ℕ) (g : Function) → i < length gs → g ≡ get_or gs i g → name ≡ g.name
    → inside (take (i + 1) gs) name ≡ all_sites (inside (take i gs)) (all_of g.body.items)
inside_hit gs i name g h p t =
    ap (λ fs. sites_in fs name) (functions_more gs i g h p)
    ∙ ap (λ b. cond b (all_sites (inside (take i gs)) (then_stmts NoStmt (map stmt g.body.items))) (inside (take i gs) name)) (eq-eqb name g.name t)

pub inside_miss : (gs : List Function) (i name : ℕ) (g : Function) → i < length gs → g ≡ get_or gs i g → (name ≡ g.name → ⊥)
    → inside (take (i + 1) gs) name ≡ inside (take i gs) name
inside_miss gs i name g h p t =
    ap (λ fs. sites_in fs name) (functions_more gs i g h p)
    ∙ ap (λ b. cond b (all_sites (inside (take i gs)) (then_stmts NoStmt (map stmt g.body.items))) (inside (take i gs) name)) (ne_eqb name g.name t)

-- how deep a part of a `for` is
abbrev pub part_depth : Option (Bor Statement) → ℕ
part_depth None = 0
part_depth (Some s) = size-Statement s.now

abbrev pub boxed_depth : Option (Box Statement Global) → ℕ
boxed_depth None = 0
boxed_depth (Some s) = size-Statement s.value
