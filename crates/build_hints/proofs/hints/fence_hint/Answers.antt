use Rattle.std.proofs.Common.{ap, ◌∙◌}
use Rattle.build_hints.specs.Hints as hints
use Rattle.build_hints.proofs.hints.fence_hint.Goals as goal

pub returns : goal.returns
returns c = c.fenced_hint.ensures ∙ ap hints.fenced_said c.outer_word.ensures
