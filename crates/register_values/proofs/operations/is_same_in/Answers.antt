use Rattle.clnum.specs.Integer.{wrap}
use Rattle.clnum.proofs.Ranges.{IsIn-wrap}
use Rattle.register_values.proofs.WordLemmas.{brought}
use Rattle.register_values.proofs.operations.is_same_in.Goals as goal

pub returns : goal.returns
returns c x y p q =
    c.is_same_word.ensures (wrap c.args.kind x) (wrap c.args.kind y) (IsIn-wrap c.args.kind x) (IsIn-wrap c.args.kind y)
    (brought c.args.kind x c.args.left c.wrapped_word.result p c.wrapped_word.ensures)
    (brought c.args.kind y c.args.right c.wrapped_word-2.result q c.wrapped_word-2.ensures)
