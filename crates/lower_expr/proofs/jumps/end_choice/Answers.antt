use Rattle.std.proofs.Common.{◌≡◌, ◌+◌, ◌-◌, [], ◌∷◌, ◌++◌, length, refl, ap, ap₂, ◌∙◌, arith}
use Rattle.std.proofs.lemmas.List.{length-append}
use Rattle.clnum.specs.Conversions.{common}
use Rattle.clnum.specs.declared.int_type.IntType.TheVariants as integer
use Rattle.clmodel.specs.Next.{base_type}
use Rattle.clmodel.specs.declared.tree.VariableType.TheVariants as kinds
use Rattle.regcode.specs.declared.instruction.Instruction.{Instruction}
use Rattle.regcode.specs.declared.instruction.Instruction.TheVariants as instruction
use Rattle.lower_expr.specs.Scope.{register_at}
use Rattle.lower_expr.proofs.Patches.{choice_laid}
use Rattle.lower_expr.proofs.jumps.end_choice.Goals as goal

pub returns-clause-code : goal.returns-clause-code
returns-clause-code c before one other e p q =
    let a = c.args in
    let test0 = instruction.JumpIfZero (register_at a.level.0 a.condition.kind) 0 in
    let to = register_at a.level.0 (kinds.Integer (common (base_type a.chosen.kind) (base_type a.otherwise.kind))) in
    let to_is : c.register_at-to.result.0 ≡ to = c.register_at-to.ensures ∙ ap (λ k. register_at a.level.0 (kinds.Integer k)) (c.common.ensures ∙ ap₂ common c.base_type-one.ensures c.base_type-other.ensures) in
    let first : Instruction = instruction.UsualConversion to (register_at a.level.0 a.chosen.kind) (base_type a.otherwise.kind) in
    let last : Instruction = instruction.UsualConversion to (register_at a.level.0 a.otherwise.kind) (base_type a.chosen.kind) in
    let first_is : instruction.UsualConversion c.register_at-to.result.0 c.register_at-from_one.result.0 c.base_type-other.result ≡ first = rw (to_is, c.register_at-from_one.ensures, c.base_type-other.ensures) refl in
    let last_is : instruction.UsualConversion c.register_at-to.result.0 c.register_at-from.result.0 c.base_type-one.result ≡ last = rw (to_is, c.register_at-from.ensures, c.base_type-one.ensures) refl in
    let size : length a.code.now.items ≡ length before + length one + length other + 3 =
    omega (arith, ap length e ∙ length-append before _, length-append one (instruction.UsualConversion 0 0 integer.Int ∷ instruction.Jump 0 ∷ other)) in
    let added : length c.add.new.code.items ≡ length a.code.now.items + 1 = omega (arith, ap length c.in_ok-add.ensures.code ∙ length-append a.code.now.items _) in
    let past : (c.len.result - a.second) ≡ length (other ++ last ∷ []) = omega (arith, c.len.ensures, c.add.new.code.ok.0, size, added, p, q, length-append other (last ∷ [])) in
    let by : (a.second - a.first) ≡ length (one ++ first ∷ []) + 1 = omega (arith, q, length-append one (first ∷ [])) in
    let jump_is : instruction.Jump (c.len.result - a.second) ≡ instruction.Jump (length (other ++ last ∷ [])) = ap (λ n. instruction.Jump n) past in
    let test_is : instruction.JumpIfZero c.register_at-test.result.0 (a.second - a.first) ≡ instruction.JumpIfZero (register_at a.level.0 a.condition.kind) (length (one ++ first ∷ []) + 1) = rw (c.register_at-test.ensures, by) refl in
    rw (c.in_ok-add.ensures.code, first_is, last_is, jump_is, test_is)
    (choice_laid a.code.now.items before one other test0 _ (instruction.UsualConversion 0 0 integer.Int) first (instruction.Jump 0) _ last a.first a.second e p q)
