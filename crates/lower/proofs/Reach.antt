-- How far the code of statements reaches.
use Rattle.std.proofs.Common.{◌≡◌, ℕ, ◌+◌, ◌*◌, ◌≤◌, ◌++◌, List, length, ap, arith}
use Rattle.clmodel.specs.Tree.{Stmt, MaybeStmt, MaybeTerm}
use Rattle.clmodel.specs.Typing.Sizes.{condition_size, size, part_size}
use Rattle.regcode.specs.declared.instruction.Instruction.{Instruction}
use Rattle.lower_expr.specs.Scope.{Scope}
use Rattle.lower_expr.proofs.Short.{Short, both}
use Rattle.lower_code.specs.Code.{Exits, past, body_exits, condition_code, while_code}
use Rattle.lower_code.specs.Emission.{widths_in, exits_of}
use Rattle.lower_code.specs.Room.{instructions}
use Rattle.lower_code.specs.declared.holes.StatementContext.{StatementContext}
use Rattle.lower_code.specs.declared.positions.Exits as declared
use Rattle.lower_code.specs.declared.positions.Position.{Position}
use Rattle.lower_code.proofs.Rows.{longer}
use Rattle.lower_code.proofs.Short.{statement_short, maybe_short, condition_short, while_short}
use Rattle.lower.specs.Statements.{once_code, round_code}

-- code that is put before other code
pub put_length : {m : ℕ} {xs : List Instruction} (old new : List Instruction) → Short m xs → new ≡ xs ++ old → length new ≤ m + length old
put_length {xs = xs} old new h e = omega (arith, h.most, longer xs old new e)

-- the exits of what stands before it
pub past_exits : (count : ℕ) (exits later : declared.Exits) → exits_of later ≡ past count (exits_of exits)
    → later.broken + later.continued + later.returned ≡ 3 * count + (exits.broken + exits.continued + exits.returned)
past_exits count exits later e =
    let broken = ap (λ (q : Exits). q.broken) e in
    let continued = ap (λ (q : Exits). q.continued) e in
    let returned = ap (λ (q : Exits). q.returned) e in
    omega (arith, broken, continued, returned)

-- those of a part of a loop
pub loop_exits : (rest : ℕ) (exits inner : declared.Exits) → exits_of inner ≡ body_exits rest (exits_of exits)
    → inner.broken + inner.continued + inner.returned ≡ 2 * rest + exits.returned
loop_exits rest exits inner e =
    let broken = ap (λ (q : Exits). q.broken) e in
    let continued = ap (λ (q : Exits). q.continued) e in
    let returned = ap (λ (q : Exits). q.returned) e in
    omega (arith, broken, continued, returned)

module _ (s : StatementContext) (scope : Scope) where
  pub once_short : (body : Stmt) (p : Position) (n : ℕ) → Short (instructions (size (widths_in s.helpers.functions.now) body).nodes) (once_code s scope body p n)
  once_short body p n = statement_short s scope body _ _ _

  pub round_short : (third : MaybeStmt) (body : Stmt) (p : Position) (n : ℕ)
      → Short (instructions (size (widths_in s.helpers.functions.now) body).nodes + instructions (part_size (widths_in s.helpers.functions.now) third).nodes) (round_code s scope third body p n)
  round_short third body p n = both (statement_short s scope body _ _ _) (maybe_short s scope third _ _ _)

  pub turns_short : (test : MaybeTerm) (third : MaybeStmt) (body : Stmt) (p : Position)
      → Short (instructions (size (widths_in s.helpers.functions.now) body).nodes + instructions (part_size (widths_in s.helpers.functions.now) third).nodes + (6 * (condition_size (widths_in s.helpers.functions.now) test).nodes + 1) + 4)
      (while_code p.depth (round_code s scope third body p (length (condition_code scope test))) (condition_code scope test))
  turns_short test third body p = while_short p.depth (round_short third body p (length (condition_code scope test))) (condition_short (widths_in s.helpers.functions.now) scope test)
