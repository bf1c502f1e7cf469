use Rattle.std.proofs.Common.{negsuc, ◌∙◌}
use Rattle.register_values.proofs.QuotientLemmas.{fitting_out, negated_is, negated_fits, negated_out}
use Rattle.register_values.proofs.operations.negated_word.Goals as goal

pub returns-then-bits-eq9223372036854775808 : goal.returns-then-bits-eq9223372036854775808
returns-then-bits-eq9223372036854775808 c x h e =
    fitting_out c.args.kind x (negsuc 0) (negated_out c.args.kind x c.args.bits c.requires h e c.if-bits-eq9223372036854775808.true)

pub returns-else-bits-eq9223372036854775808 : goal.returns-else-bits-eq9223372036854775808
returns-else-bits-eq9223372036854775808 c x h e =
    c.fitting_quotient.ensures x (negsuc 0) (negated_fits c.args.kind x c.args.bits c.requires h e c.if-bits-eq9223372036854775808.false) (negated_is x c.args.bits e)
