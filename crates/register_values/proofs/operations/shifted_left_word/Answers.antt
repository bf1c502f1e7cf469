use Rattle.std.proofs.Common.{ap, ◌∙◌}
use Rattle.register_values.specs.Words.{word}
use Rattle.register_values.proofs.WordLemmas.{shifted_word}
use Rattle.register_values.proofs.operations.shifted_left_word.Goals as goal

pub returns : goal.returns
returns c x p = c.wrapped_word.ensures ∙ ap word (shifted_word c.args.kind x c.args.bits c.args.count p c.requires)
