use Rattle.std.proofs.Common.{ap, ◌∙◌, ◌++◌, ◌∷◌, [], map}
use Rattle.clmodel.specs.Setup.{parameter_objects}
use Rattle.clmodel.specs.declared.tree.Parameter.{Parameter}
use Rattle.clmodel.specs.declared.tree.VariableType.TheVariants.{Integer}
use Rattle.clnum.specs.declared.int_type.IntType.TheVariants.{Char}
use Rattle.std.proofs.Common.{get_or, take}
use Rattle.item_step.proofs.Objects.{names_more, sizes_more}
use Rattle.item_step.proofs.local_objects.parameter_objects.Goals as goal

abbrev none : Parameter
none = record { name_at = 0; name = 0; kind = Integer Char }

pub loop-place-preserved : goal.loop-place-preserved
loop-place-preserved c =
    let ps = c.args.parameters.now in
    let i = c.loop-place.place in (
      c.in_ok-push.ensures.items ∙ ap (λ names. names ++ (get_or ps i none).name ∷ []) c.loop-place.invariant.0 ∙ names_more ps c.args.arguments.now i none c.loop-place-test.true,
      c.in_ok-push-2.ensures.items ∙ ap (λ sizes. sizes ++ c.local_size.result ∷ []) c.loop-place.invariant.1
          ∙ ap (λ size. map (λ o. o.size) (parameter_objects (take i ps) c.args.arguments.now) ++ size ∷ []) c.local_size.ensures ∙ sizes_more ps c.args.arguments.now i none c.loop-place-test.true,
    )
