use Rattle.std.proofs.Common.{ap, ◌∙◌, ◌^◌, pos}
use Rattle.std.specs.Int.{int_div_euclid}
use Rattle.register_values.specs.Words.{word}
use Rattle.register_values.proofs.WordLemmas.{wrap_word, shifted_back}
use Rattle.register_values.proofs.operations.shifted_right_word.Goals as goal

pub returns-in_default : goal.returns-in_default
returns-in_default c x h p =
    c.wrapped_word-in_default.ensures ∙ ap word (wrap_word c.args.kind (int_div_euclid x (pos (2 ^ c.args.count))) c.cast_unsigned.result
    (shifted_back c.args.from x c.cast_signed.result c.args.bits (2 ^ c.args.count) c.cast_unsigned.result h c.in_default.not-Ulong p c.cast_signed.ensures c.cast_unsigned.ensures))
