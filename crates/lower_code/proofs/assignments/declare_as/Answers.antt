use Rattle.std.proofs.Common.{◌≡◌, ◌++◌, ◌∷◌, [], ap, ◌∙◌}
use Rattle.clmodel.specs.Next.{helper_call}
use Rattle.clmodel.specs.Tree.{term}
use Rattle.regcode.specs.declared.instruction.Instruction.TheVariants as instruction
use Rattle.lower_expr.specs.Scope.{Scope}
use Rattle.lower_code.specs.Variables.{with_variable}
use Rattle.lower_code.specs.Code.{result_in, right_code, right_type}
use Rattle.lower_code.specs.Emission.{functions_of}
use Rattle.lower_code.proofs.Splits.{split_tail, declare_laid}
use Rattle.lower_code.proofs.assignments.declare_as.Goals as goal

pub returns-clause-code : goal.returns-clause-code
returns-clause-code c calls inside result depth site exits =
    let scope = c.args.scope.now in
    let value = term c.args.value.now in
    let results = result_in (functions_of c.args.helpers.functions.now) in
    let right = c.in_ok-right.right in
    let inner = with_variable scope c.args.name c.args.kind in
    let declared : c.declare.new.self ≡ inner = c.in_ok-declare.ensures.declared in
    declare_laid calls results inside result scope inner (helper_call value) value depth site c.args.kind right.kind c.free_level-level.result.0 c.level_at-above.result.0 c.register_at-to.result.0 c.register_at-from.result.0 c.add.new.code.items _
    c.free_level-level.ensures c.level_at-above.ensures c.register_at-to.ensures (c.in_ok-add.ensures.code ∙ ap (λ xs. xs ++ instruction.Unset c.register_at-to.result.0 ∷ []) c.new-front.ensures.items)
    c.register_at-from.ensures (c.in_ok-right.ensures.kind calls inside result ∙ ap (λ (s : Scope). right_type calls results inside result s (helper_call value) value) declared)
    (split_tail calls right.split c.add-2.new.code _ _ depth site c.in_ok-add-2.ensures.code
    (c.in_ok-right.ensures.code calls inside result depth site ∙ ap (λ (s : Scope). c.add.new.code.items ++ right_code calls results inside result s c.level_at-above.result.0 (helper_call value) value depth site) declared))
