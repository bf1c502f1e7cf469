use Rattle.std.proofs.Common.{ap, ◌∙◌}
use Rattle.register_values.specs.Words.{word}
use Rattle.register_values.proofs.WordLemmas.{computed, differences}
use Rattle.register_values.proofs.operations.subtracted_words.Goals as goal

pub returns : goal.returns
returns c x y p q = c.wrapped_word.ensures ∙ ap word (computed _ _ differences c.args.kind x y c.args.left c.args.right p q)
