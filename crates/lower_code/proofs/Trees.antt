-- Statements as lists.
use Rattle.std.proofs.Common.{◌≡◌, ℕ, zero, suc, ◌+◌, ◌<◌, ◌≤◌, List, [], ◌∷◌, map, length, take, get_or, refl, sym, ap, ◌∙◌, arith}
use Rattle.clmodel.specs.declared.tree.Statement.{Statement}
use Rattle.clmodel.specs.Tree.{Stmts, NoStmt, ThenStmt, stmt, then_stmts}
use Rattle.lower_code.specs.Trees.{all_of}
use Rattle.lower_code.specs.Variables.{elements, row_elements}

stmts_more : (ss : Stmts) (ts : List Statement) (i : ℕ) (d : Statement) → i < length ts
    → then_stmts ss (map stmt (take (suc i) ts)) ≡ ThenStmt (then_stmts ss (map stmt (take i ts))) (stmt (get_or ts i d))
stmts_more ss [] i d h = absurd (omega arith)
stmts_more ss (t ∷ ts) zero d h = refl
stmts_more ss (t ∷ ts) (suc i) d h = stmts_more (ThenStmt ss (stmt t)) ts i d (omega arith)

-- the first statements with one more
pub row_more : (ts : List Statement) (i : ℕ) (t : Statement) → i < length ts → t ≡ get_or ts i t
    → all_of (take (i + 1) ts) ≡ ThenStmt (all_of (take i ts)) (stmt t)
row_more ts i t h p =
    let e : i + 1 ≡ suc i = omega arith in
    ap (λ n. all_of (take n ts)) e ∙ stmts_more NoStmt ts i t h ∙ ap (λ x. ThenStmt (all_of (take i ts)) (stmt x)) (sym p)

more_elements : (ss : Stmts) (ts : List Statement) → row_elements ss ≤ row_elements (then_stmts ss (map stmt ts))
more_elements ss [] = omega arith
more_elements ss (t ∷ ts) = omega (arith, more_elements (ThenStmt ss (stmt t)) ts)

first_elements : (ss : Stmts) (ts : List Statement) (i : ℕ) → row_elements (then_stmts ss (map stmt (take i ts))) ≤ row_elements (then_stmts ss (map stmt ts))
first_elements ss ts zero = more_elements ss ts
first_elements ss [] (suc i) = omega arith
first_elements ss (t ∷ ts) (suc i) = first_elements (ThenStmt ss (stmt t)) ts i

-- one of the statements has no larger arrays than all
pub elements_there : (ts : List Statement) (i : ℕ) (t : Statement) → i < length ts → t ≡ get_or ts i t → elements (stmt t) ≤ row_elements (all_of ts)
elements_there ts i t below is =
    let one = ap (λ ss. row_elements ss) (row_more ts i t below is) in
    let all = first_elements NoStmt ts (i + 1) in
    omega (arith, one, all)
