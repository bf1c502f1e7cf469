use Rattle.std.proofs.Common.{◌≡◌, ℤ, ◌-◌, [], ◌∷◌, ◌++◌, true, false, slice_set, ap, ap₂, ◌∙◌}
use Rattle.clnum.specs.Integer.{Integer}
use Rattle.clnum.specs.Operations.{truth}
use Rattle.clnum.specs.declared.int_type.IntType.{IntType}
use Rattle.regcode.specs.declared.instruction.Instruction.TheVariants as instruction
use Rattle.lower_expr.specs.Expressions.{truth_code}
use Rattle.lower_expr.proofs.Patches.{patched, twice}
use Rattle.lower_expr.proofs.jumps.logical.Goals as goal

pub returns-clause-code : goal.returns-clause-code
returns-clause-code c before right unset e p =
    let a = c.args in
    let tail = instruction.JumpIfZero a.second.0 2 ∷ truth_code a.to.0 in
    let value : IntType → ℤ → Integer = λ kind number. record { kind = kind; number = number } in
    let one : c.new-value.result ≡ truth true = ap₂ value c.new-value.ensures.kind c.new-value.ensures.number in
    let zero : c.new-value-2.result ≡ truth false = ap₂ value c.new-value-2.ensures.kind c.new-value-2.ensures.number in
    let added = twice _ _ _ _ _ c.in_ok-add.ensures.code (twice _ _ _ _ _ c.in_ok-add-2.ensures.code (twice _ _ _ _ _ c.in_ok-add-3.ensures.code c.in_ok-add-4.ensures.code)) in
    let whole = added ∙ ap₂ (λ x y. a.code.now.items ++ instruction.JumpIfZero a.second.0 2 ∷ instruction.Constant a.to.0 x ∷ instruction.Jump 1 ∷ instruction.Constant a.to.0 y ∷ []) one zero in
    ap (λ xs. slice_set xs (a.place - 1) a.jump) whole ∙ patched a.code.now.items before right tail unset a.jump a.place e p
