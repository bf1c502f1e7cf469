use Rattle.std.proofs.Common.{ap, string_bytes, ◌∙◌}
use Rattle.std.proofs.lemmas.Result.{IfOk-weaker}
use Rattle.serde_json.specs.Data.{Data, array, item, no_items}
use Rattle.explain_json.specs.Commands.{refusal_reason_data}
use Rattle.explain_json.proofs.commands.listed_reason.Goals as goal

pub returns : goal.returns
returns c =
    IfOk-weaker c.list_of.result _ _
    (λ list h. (
      string_bytes c.in_ok-text.text,
      h ∙ ap (λ (d : Data). array (item d no_items)) (c.in_ok-value.ensures ∙ ap (refusal_reason_data c.args.reason.now) c.as_str.ensures.value),
    ))
    c.list_of.ensures
