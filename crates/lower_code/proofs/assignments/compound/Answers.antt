use Rattle.std.proofs.Common.{◌++◌, ap, ◌∙◌}
use Rattle.clmodel.specs.Next.{helper_call}
use Rattle.clmodel.specs.Tree.{tree_target, term}
use Rattle.lower_expr.specs.Expressions.{target_code, target_register}
use Rattle.lower_expr.specs.Targets.{fetch_code}
use Rattle.lower_code.specs.Code.{result_in}
use Rattle.lower_code.specs.Emission.{functions_of}
use Rattle.lower_code.proofs.Splits.{split_tail, compound_laid}
use Rattle.lower_code.proofs.assignments.compound.Goals as goal

pub returns-clause-code : goal.returns-clause-code
returns-clause-code c calls inside kind depth site =
    let scope = c.args.scope.now in
    let to = tree_target c.args.target.now in
    let value = term c.args.value.now in
    let results = result_in (functions_of c.args.helpers.functions.now) in
    let level = c.free_level-level.result.0 in
    let right = c.in_ok-right.right in
    let above = c.level_at-above.ensures in
    let top = c.level_at-top.ensures in
    let found = c.in_ok-destination.ensures.found in
    let reached = c.in_ok-destination.ensures.code ∙ ap (λ xs. xs ++ target_code scope level to) c.new-front.ensures.items in
    compound_laid calls results inside kind scope to (helper_call value) value depth site c.args.operator level c.level_at-above.result.0 c.level_at-top.result.0 c.register_at-old.result.0 c.register_at-operand.result.0
    right.kind c.destination_type.result c.fetch.new.code.items _
    c.free_level-level.ensures above top c.register_at-old.ensures (c.destination_type.ensures to found)
    (c.in_ok-fetch.ensures.code to found ∙ ap (λ xs. xs ++ fetch_code scope to (target_register scope level to) c.register_at-old.result.0) reached)
    c.register_at-operand.ensures (c.in_ok-right.ensures.kind calls inside kind)
    (split_tail calls right.split c.combine.new.code _ _ depth site (c.in_ok-combine.ensures.code to found) (c.in_ok-right.ensures.code calls inside kind depth site))
