use Rattle.std.proofs.Common.{◌++◌, string_bytes, ap, ◌∙◌}
use Rattle.explain_text.specs.Texts.{numbered_line}
use Rattle.explain_text.proofs.steps.push_event.Goals as goal

pub returns : goal.returns
returns c = (
  string_bytes c.in_ok-words.words,
  c.in_ok-words.ensures,
  c.in_ok-push_numbered.ensures ∙ ap (λ words. string_bytes c.args.out.now ++ numbered_line c.args.event words) c.as_str.ensures.value,
)
