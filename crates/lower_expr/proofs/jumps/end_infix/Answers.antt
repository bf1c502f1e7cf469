use Rattle.std.proofs.Common.{◌≡◌, ℕ, List, ◌+◌, ◌-◌, [], ◌∷◌, ◌++◌, length, ap, ap₂, sym, ◌∙◌, arith}
use Rattle.std.proofs.lemmas.List.{length-append, append_assoc}
use Rattle.clmodel.specs.Next.{infix_type}
use Rattle.clmodel.specs.declared.tree.InfixOperator.TheVariants.{Arithmetic}
use Rattle.regcode.specs.declared.instruction.Instruction.{Instruction}
use Rattle.regcode.specs.declared.instruction.Instruction.TheVariants as instruction
use Rattle.lower_expr.specs.Scope.{register_at}
use Rattle.lower_expr.specs.Expressions.{truth_code}
use Rattle.lower_expr.proofs.jumps.end_infix.Goals as goal
use Rattle.lower_expr.proofs.jumps.end_infix.Goals.{in-Arithmetic+in_ok-arithmetic-in-Arithmetic, in-LogicalAnd+in_ok-logical-in-LogicalAnd, in-LogicalOr+in_ok-logical-in-LogicalOr}

pub returns-clause-code : goal.returns-clause-code
returns-clause-code c =
    let a = c.args in
    let left = register_at a.level.0 a.first.kind in
    let right_is = c.register_at-right.ensures ∙ ap (λ n. register_at n a.second.kind) c.level_at.ensures in
    elim c.match-operator.branch [
      | in-Arithmetic+in_ok-arithmetic-in-Arithmetic w ↦ rw w.in-Arithmetic.is (λ before right e p.
          let to = c.register_at-to.ensures ∙ ap (register_at a.level.0) (c.infix_type-kind.ensures ∙ ap (λ o. infix_type o a.first.kind a.second.kind) w.in-Arithmetic.is) in
          let binary : ℕ → ℕ → ℕ → List Instruction = λ t l r. instruction.Binary t w.in-Arithmetic.operator l r ∷ [] in
          let one = binary c.register_at-to.result.0 c.register_at-left.result.0 c.register_at-right.result.0 in
          ap (λ v. v.items) w.code-is
          ∙ w.in_ok-arithmetic-in-Arithmetic.ensures.code
          ∙ ap (λ xs. xs ++ one) e
          ∙ append_assoc before right one
          ∙ ap₂ (λ t l. before ++ (right ++ binary t l c.register_at-right.result.0)) to c.register_at-left.ensures
          ∙ ap (λ r. before ++ (right ++ binary (register_at a.level.0 (infix_type (Arithmetic w.in-Arithmetic.operator) a.first.kind a.second.kind)) left r)) right_is)
      | in-LogicalAnd+in_ok-logical-in-LogicalAnd w ↦ rw w.in-LogicalAnd.is (λ before right e p.
          let to = c.register_at-to.ensures ∙ ap (register_at a.level.0) (c.infix_type-kind.ensures ∙ ap (λ o. infix_type o a.first.kind a.second.kind) w.in-LogicalAnd.is) in
          let size = ap length e ∙ length-append before (instruction.JumpIfZero left 0 ∷ right) in
          let by : (c.len.result - a.place + 3) ≡ length right + 3 = omega (arith, c.len.ensures, a.code.now.ok.0, size, p) in
          ap (λ v. v.items) w.code-is
          ∙ w.in_ok-logical-in-LogicalAnd.ensures.code before right _ e p
          ∙ ap₂ (λ l n. before ++ instruction.JumpIfZero l n ∷ (right ++ instruction.JumpIfZero c.register_at-right.result.0 2 ∷ truth_code c.register_at-to.result.0)) c.register_at-left.ensures by
          ∙ ap₂ (λ r t. before ++ instruction.JumpIfZero left (length right + 3) ∷ (right ++ instruction.JumpIfZero r 2 ∷ truth_code t)) right_is to)
      | in-LogicalOr+in_ok-logical-in-LogicalOr w ↦ rw w.in-LogicalOr.is (λ before right e p.
          let test = instruction.JumpIfZero left 1 in
          let to = c.register_at-to.ensures ∙ ap (register_at a.level.0) (c.infix_type-kind.ensures ∙ ap (λ o. infix_type o a.first.kind a.second.kind) w.in-LogicalOr.is) in
          let size = ap length e ∙ length-append before (test ∷ instruction.Jump 0 ∷ right) in
          let by : (c.len.result - a.place + 1) ≡ length right + 1 = omega (arith, c.len.ensures, a.code.now.ok.0, size, p) in
          ap (λ v. v.items) w.code-is
          ∙ w.in_ok-logical-in-LogicalOr.ensures.code (before ++ test ∷ []) right _ (e ∙ sym (append_assoc before (test ∷ []) (instruction.Jump 0 ∷ right))) (omega (arith, p, length-append before (test ∷ [])))
          ∙ append_assoc before (test ∷ []) _
          ∙ ap (λ n. before ++ test ∷ instruction.Jump n ∷ (right ++ instruction.JumpIfZero c.register_at-right.result.0 2 ∷ truth_code c.register_at-to.result.0)) by
          ∙ ap₂ (λ r t. before ++ test ∷ instruction.Jump (length right + 1) ∷ (right ++ instruction.JumpIfZero r 2 ∷ truth_code t)) right_is to)
    ]
