use Rattle.std.proofs.Common.{refl, ◌∙◌}
use Rattle.std.specs.Char.{is_digit}
use Rattle.clsyntax_lex.specs.Numbers as numbers
use Rattle.clsyntax_lex.specs.Pieces as pieces
use Rattle.clsyntax_lex.proofs.PieceLemmas.{prefix_len-AllPass}
use Rattle.clsyntax_lex.proofs.NumberLemmas.{typed-min}
use Rattle.clsyntax_lex.proofs.pieces.number_in.Goals as goal

pub value_of-requires : goal.value_of-requires
value_of-requires c = rw (c.split_at.ensures.front, c.digit_count-count.ensures.value) (prefix_len-AllPass (λ b. is_digit b (numbers.radix c.args.base)) c.args.rest.now)

pub returns : goal.returns
unfolding pieces.number_in
returns c = c.number_of_len.ensures ∙ rw (c.typed-value.ensures, c.value_of.ensures, typed-min, c.digits_at.ensures, c.suffix_of-suffix.ensures.value, c.split_at.ensures.front, c.split_at.ensures.back, c.digit_count-count.ensures.value) refl
