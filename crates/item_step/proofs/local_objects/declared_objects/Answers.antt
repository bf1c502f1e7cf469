use Rattle.std.proofs.Common.{ap, ◌∙◌, ◌++◌, ◌∷◌, [], map}
use Rattle.item_step.proofs.Declarations.{names_more, sizes_more, none_more}
use Rattle.item_step.proofs.local_objects.declared_objects.Goals as goal

pub loop-statement-preserved-in_default : goal.loop-statement-preserved-in_default
loop-statement-preserved-in_default c =
    let same = none_more c.args.body.now c.loop-statement.statement-index c.statement-item.result c.loop-statement-test.true c.statement-item.is c.in_default.ensures in
    (c.loop-statement.invariant.0 ∙ ap (map (λ o. o.name)) same, c.loop-statement.invariant.1 ∙ ap (map (λ o. o.size)) same)

pub loop-statement-preserved : goal.loop-statement-preserved
loop-statement-preserved c =
    let ss = c.args.body.now in
    let i = c.loop-statement.statement-index in
    let below = c.loop-statement-test.true in (
      c.in_ok-push.ensures.items ∙ ap (λ names. names ++ c.in-Some.object.0 ∷ []) c.loop-statement.invariant.0
          ∙ names_more ss i c.statement-item.result c.in-Some.object below c.statement-item.is c.in-Some.ensures,
      c.in_ok-push-2.ensures.items ∙ ap (λ sizes. sizes ++ c.in-Some.object.1 ∷ []) c.loop-statement.invariant.1
          ∙ sizes_more ss i c.statement-item.result c.in-Some.object below c.statement-item.is c.in-Some.ensures c.requires,
    )
