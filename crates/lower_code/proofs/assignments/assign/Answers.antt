use Rattle.std.proofs.Common.{◌++◌, ap, ◌∙◌}
use Rattle.clmodel.specs.Next.{helper_call}
use Rattle.clmodel.specs.Tree.{tree_target, term}
use Rattle.lower_expr.specs.Expressions.{target_code}
use Rattle.lower_code.specs.Code.{result_in}
use Rattle.lower_code.specs.Emission.{functions_of}
use Rattle.lower_code.proofs.Splits.{split_tail, assign_laid}
use Rattle.lower_code.proofs.assignments.assign.Goals as goal

pub returns-clause-code : goal.returns-clause-code
returns-clause-code c calls inside kind depth site =
    let scope = c.args.scope.now in
    let to = tree_target c.args.target.now in
    let value = term c.args.value.now in
    let results = result_in (functions_of c.args.helpers.functions.now) in
    let level = c.free_level-level.result.0 in
    let right = c.in_ok-right.right in
    assign_laid calls results inside kind scope to (helper_call value) value depth site level c.level_at-above.result.0 c.register_at-from.result.0 right.kind c.reach.new.code.items _
    c.free_level-level.ensures c.level_at-above.ensures (c.in_ok-destination.ensures.code ∙ ap (λ xs. xs ++ target_code scope level to) c.new-front.ensures.items)
    c.register_at-from.ensures (c.in_ok-right.ensures.kind calls inside kind)
    (split_tail calls right.split c.put.new.code _ _ depth site (c.in_ok-put.ensures.code to c.in_ok-destination.ensures.found) (c.in_ok-right.ensures.code calls inside kind depth site))
