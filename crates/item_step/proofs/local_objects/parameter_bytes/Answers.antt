use Rattle.std.proofs.Common.{ap, ◌∙◌, ◌+◌, ◌-◌, ◌^◌, min, take}
use Rattle.clmodel.specs.declared.tree.Parameter.{Parameter}
use Rattle.clmodel.specs.declared.tree.VariableType.TheVariants.{Integer}
use Rattle.clnum.specs.declared.int_type.IntType.TheVariants.{Char}
use Rattle.clmodel.specs.Setup.{parameter_objects}
use Rattle.item_step.specs.Objects.{all_sizes}
use Rattle.item_step.proofs.Declarations.{parameter_more}
use Rattle.item_step.proofs.local_objects.parameter_bytes.Goals as goal

abbrev none : Parameter
none = record { name_at = 0; name = 0; kind = Integer Char }

pub loop-place-preserved : goal.loop-place-preserved
loop-place-preserved c =
    c.saturating_add-bytes.ensures
    ∙ ap (λ b. min (b + c.local_size.result) (2 ^ 64 - 1)) c.loop-place.invariant
    ∙ ap (λ size. min (min (all_sizes (parameter_objects (take c.loop-place.place c.args.parameters.now) c.args.arguments.now)) (2 ^ 64 - 1) + size) (2 ^ 64 - 1)) c.local_size.ensures
    ∙ parameter_more c.args.parameters.now c.args.arguments.now c.loop-place.place none c.loop-place-test.true
