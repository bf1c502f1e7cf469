use Rattle.std.proofs.Common.{ap, ◌∙◌}
use Rattle.build_hints.specs.Hints as hints
use Rattle.hint_rules.specs.Near.{near_of}
use Rattle.build_hints.proofs.hints.name_hint.Goals as goal

pub returns : goal.returns
returns c = c.named_hint.ensures ∙ ap (hints.named_said (near_of c.args.place)) c.here_word.ensures
