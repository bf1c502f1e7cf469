use Rattle.std.proofs.Common.{ap, ◌∙◌}
use Rattle.build_hints.specs.Hints as hints
use Rattle.hint_rules.specs.Near.{near_of}
use Rattle.build_hints.proofs.hints.operand_hint.Goals as goal

pub returns : goal.returns
returns c = c.word_operand_hint.ensures ∙ ap (hints.operand_in (near_of c.args.place)) c.here_word.ensures
