use Rattle.std.proofs.Common.{ap, ◌∙◌}
use Rattle.clnum.specs.Integer.{converted}
use Rattle.register_values.specs.Words.{word}
use Rattle.register_values.proofs.WordLemmas.{wrap_word}
use Rattle.register_values.proofs.operations.converted_word.Goals as goal

pub returns : goal.returns
unfolding converted
returns c a p = c.wrapped_word.ensures ∙ ap word (wrap_word c.args.kind a.number c.args.bits p)
