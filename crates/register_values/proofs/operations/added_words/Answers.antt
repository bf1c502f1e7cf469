use Rattle.std.proofs.Common.{ap, ◌∙◌}
use Rattle.register_values.specs.Words.{word}
use Rattle.register_values.proofs.WordLemmas.{computed, sums}
use Rattle.register_values.proofs.operations.added_words.Goals as goal

pub returns : goal.returns
returns c x y p q = c.wrapped_word.ensures ∙ ap word (computed _ _ sums c.args.kind x y c.args.left c.args.right p q)
