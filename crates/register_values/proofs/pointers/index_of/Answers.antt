use Rattle.std.proofs.Common.{ap, ◌∙◌}
use Rattle.std.proofs.Math.IntN.{+ℤ_idl}
use Rattle.std.proofs.lemmas.Int.{to_z-of_z}
use Rattle.std.specs.Int.{w64}
use Rattle.clnum.specs.Integer.{wrap}
use Rattle.clnum.specs.declared.int_type.IntType.TheVariants.{Long}
use Rattle.register_values.proofs.pointers.index_of.Goals as goal

pub returns : goal.returns
returns c =
    to_z-of_z w64 c.added_to.result (record { sfits = c.added_to.type_inv }) ∙ c.added_to.ensures ∙ ap (wrap Long) (+ℤ_idl c.args.index.number)
