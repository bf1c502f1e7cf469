-- The arrays of typed programs have no more elements than one may have on any device.
use Rattle.std.proofs.Common.{◌≡◌, ℕ, ◌≤◌, Some, arith}
use Rattle.clmodel.specs.Setup.{kernel_in}
use Rattle.clmodel.specs.Tree.{Program, Func, Stmt, Stmts, MaybeStmt}
use Rattle.clmodel.specs.Typing.{IsTypedWithin, IsTypedProgram}
use Rattle.clmodel.specs.Typing.Context.{Context}
use Rattle.clmodel.specs.Typing.Functions.{names}
use Rattle.clmodel.specs.Typing.Rules as rule
use Rattle.clmodel.specs.Typing.Rules.{IsTyped, IsTypedPart, AreTyped, length_limit}
use Rattle.lower_code.specs.Variables.{elements, part_elements, row_elements}
use Rattle.lower.proofs.TypedKernels.{kernel_typed}

mutual
  one_arrays : (c : Context) (s : Stmt) → IsTyped c s → elements s ≤ length_limit
  one_arrays _ _ rule.empty = omega arith
  one_arrays _ _ (rule.block body) = row_arrays _ _ body
  one_arrays _ _ (rule.declare free) = omega arith
  one_arrays _ _ (rule.declare_as free gives passes) = omega arith
  one_arrays c _ (rule.declare_array free outermost some few) = let greatest = c.limits.few_elements in omega (arith, few, greatest)
  one_arrays _ _ (rule.assign place gives passes) = omega arith
  one_arrays _ _ (rule.assign_by place gives operates passes) = omega arith
  one_arrays _ _ (rule.step place) = omega arith
  one_arrays _ _ (rule.call_only is arguments by) = omega arith
  one_arrays _ _ (rule.barrier is named) = omega arith
  one_arrays _ _ (rule.call_helper call) = omega arith
  one_arrays _ _ (rule.if test chosen) = one_arrays _ _ chosen
  one_arrays _ _ (rule.if_else test chosen otherwise) = let h = one_arrays _ _ chosen in let k = one_arrays _ _ otherwise in omega (arith, h, k)
  one_arrays _ _ (rule.while test body) = one_arrays _ _ body
  one_arrays _ _ (rule.do_while body test) = one_arrays _ _ body
  one_arrays _ _ (rule.for begun test after body) =
      let h = part_arrays _ _ begun in let k = part_arrays _ _ after in let l = one_arrays _ _ body in omega (arith, h, k, l)
  one_arrays _ _ (rule.break loop) = omega arith
  one_arrays _ _ (rule.continue loop) = omega arith
  one_arrays _ _ (rule.return none) = omega arith
  one_arrays _ _ (rule.return_value some value) = omega arith

  part_arrays : (c : Context) (part : MaybeStmt) → IsTypedPart c part → part_elements part ≤ length_limit
  part_arrays _ _ rule.without = omega arith
  part_arrays _ _ (rule.part typed) = one_arrays _ _ typed

  pub row_arrays : (c : Context) (ss : Stmts) → AreTyped c ss → row_elements ss ≤ length_limit
  row_arrays _ _ rule.no_statement = omega arith
  row_arrays _ _ (rule.statement statements last) = let h = row_arrays _ _ statements in let k = one_arrays _ _ last in omega (arith, h, k)

-- those of a kernel
pub kernel_arrays : (program : Program) (name : ℕ) (f : Func) → IsTypedProgram program → kernel_in program.functions name ≡ Some f → row_elements f.body ≤ length_limit
unfolding IsTypedProgram IsTypedWithin
kernel_arrays program name f typed is = row_arrays _ _ (kernel_typed typed.0 (names program.functions) program.functions name f typed.1 is).0.1.body
