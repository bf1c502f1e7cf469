use Rattle.std.specs.Prelude.{int_div}
use Rattle.register_values.proofs.QuotientLemmas.{fitting_in, fitting_out, left_as_it_is, changed}
use Rattle.register_values.proofs.operations.fitting_quotient.Goals as goal

pub returns-then-wrapped_word-bits : goal.returns-then-wrapped_word-bits
returns-then-wrapped_word-bits c x y fits e =
    fitting_in c.args.kind x y c.args.bits (left_as_it_is c.args.kind (int_div x y) c.args.bits c.wrapped_word.result c.requires fits e c.wrapped_word.ensures c.if-wrapped_word-bits.true) e

pub returns-else-wrapped_word-bits : goal.returns-else-wrapped_word-bits
returns-else-wrapped_word-bits c x y fits e =
    fitting_out c.args.kind x y (changed c.args.kind (int_div x y) c.args.bits c.wrapped_word.result e c.wrapped_word.ensures c.if-wrapped_word-bits.false)
