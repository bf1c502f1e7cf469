use Rattle.std.proofs.Common.{ap, ◌∙◌, bit_and}
use Rattle.std.proofs.lemmas.Nat.{and_mod}
use Rattle.register_values.specs.Words.{word}
use Rattle.register_values.proofs.WordLemmas.{computed_on_bits}
use Rattle.register_values.proofs.operations.anded_words.Goals as goal

pub returns : goal.returns
returns c x y p q = c.wrapped_word.ensures ∙ ap word (computed_on_bits bit_and and_mod c.args.kind x y c.args.left c.args.right p q)
