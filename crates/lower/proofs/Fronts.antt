-- The barriers of the first statements, and those that are too many to count.
use Rattle.std.proofs.Common.{◌≡◌, ℕ, zero, suc, ◌+◌, ◌<◌, ◌≤◌, ◌^◌, ◌⊎◌, inl, inr, List, [], ◌∷◌, map, length, take, get_or, ap, sym, subst, arith, Vec}
use Rattle.std.proofs.lemmas.Bool.{cases_lt}
use Rattle.std.specs.declared.alloc.Global.{Global}
use Rattle.clmodel.specs.Next.{sites, all_sites}
use Rattle.clmodel.specs.Typing.Sizes.{Sizes, size, row_size}
use Rattle.clmodel.specs.declared.tree.Statement as rust_statement
use Rattle.clmodel.specs.declared.tree.Statement.{Statement}
use Rattle.clmodel.specs.Tree.{Stmt, Stmts, NoStmt, ThenStmt, stmt, then_stmts}
use Rattle.lower_code.proofs.Lists.{block_is}
use Rattle.lower_code.proofs.Trees.{row_more}
use Rattle.regcode.specs.declared.instruction.Instruction.{Instruction}
use Rattle.lower_expr.specs.Scope.{Scope}
use Rattle.lower_code.specs.Trees.{all_of}
use Rattle.lower_code.specs.declared.holes.StatementContext.{StatementContext}
use Rattle.lower.specs.Statements.{demand_of, row_demand, HasRoom}
use Rattle.lower.specs.declared.statements.Ending.{Ending}

module _ (f : ℕ → ℕ) where
  more_sites : (ss : Stmts) (ts : List Statement) → all_sites f ss ≤ all_sites f (then_stmts ss (map stmt ts))
  more_sites ss [] = omega arith
  more_sites ss (t ∷ ts) = omega (arith, more_sites (ThenStmt ss (stmt t)) ts)

  first_sites : (ss : Stmts) (ts : List Statement) (i : ℕ) → all_sites f (then_stmts ss (map stmt (take i ts))) ≤ all_sites f (then_stmts ss (map stmt ts))
  first_sites ss ts zero = more_sites ss ts
  first_sites ss [] (suc i) = omega arith
  first_sites ss (t ∷ ts) (suc i) = first_sites (ThenStmt ss (stmt t)) ts i

  -- one of the statements and those before it
  pub sites_there : (ts : List Statement) (i : ℕ) (t : Statement) → i < length ts → t ≡ get_or ts i t → all_sites f (all_of (take i ts)) + sites f (stmt t) ≤ all_sites f (all_of ts)
  sites_there ts i t below is =
      let one = ap (λ ss. all_sites f ss) (row_more ts i t below is) in
      let all = first_sites NoStmt ts (i + 1) in
      omega (arith, one, all)

module _ (sizes : Sizes) where
  more_nodes : (ss : Stmts) (ts : List Statement) → (row_size sizes ss).nodes ≤ (row_size sizes (then_stmts ss (map stmt ts))).nodes
  more_nodes ss [] = omega arith
  more_nodes ss (t ∷ ts) = omega (arith, more_nodes (ThenStmt ss (stmt t)) ts)

  first_nodes : (ss : Stmts) (ts : List Statement) (i : ℕ) → (row_size sizes (then_stmts ss (map stmt (take i ts)))).nodes ≤ (row_size sizes (then_stmts ss (map stmt ts))).nodes
  first_nodes ss ts zero = more_nodes ss ts
  first_nodes ss [] (suc i) = omega arith
  first_nodes ss (t ∷ ts) (suc i) = first_nodes (ThenStmt ss (stmt t)) ts i

  -- one of the statements and those before it have no more nodes than all
  pub nodes_there : (ts : List Statement) (i : ℕ) (t : Statement) → i < length ts → t ≡ get_or ts i t
      → (row_size sizes (all_of (take i ts))).nodes + (size sizes (stmt t)).nodes ≤ (row_size sizes (all_of ts)).nodes
  nodes_there ts i t below is =
      let one = ap (λ ss. (row_size sizes ss).nodes) (row_more ts i t below is) in
      let all = first_nodes NoStmt ts (i + 1) in
      omega (arith, one, all)

-- a sum that doesn't fit is no less than 2^32
pub too_many : (all n most : ℕ) → (all + n < 2 ^ 32 → ⊥) → all + n ≤ most → 2 ^ 32 ≤ most
too_many all n most not_few below = go (cases_lt (all + n) (2 ^ 32))
  where
    go : (all + n < 2 ^ 32) ⊎ (2 ^ 32 ≤ all + n) → 2 ^ 32 ≤ most
    go (inl few) = absurd (not_few few)
    go (inr many) = omega (arith, many, below)

-- the statements of a block take no more than it
pub block_room : (c : StatementContext) (s : Statement) (at : ℕ) (ss : Vec Statement Global) (ts : List Statement) (scope : Scope) (e : Ending) (code : List Instruction)
    → s ≡ rust_statement.Block at ss → ts ≡ ss.items → HasRoom (demand_of c (stmt s)) scope e code → HasRoom (row_demand c (all_of ts)) scope e code
block_room c s at ss ts scope e code s_is ts_is room =
    let inner = subst (λ (x : Stmt). HasRoom (demand_of c x) scope e code) (sym (block_is s at ss ts s_is ts_is)) room in
    let small = inner.small in
    let low = inner.low in
    let short = inner.short in
    record { few = inner.few; small = omega (arith, small); low = omega (arith, low); short = omega (arith, short); arrays = inner.arrays }
