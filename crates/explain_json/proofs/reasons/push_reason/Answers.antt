use Rattle.std.proofs.Common.{◌≡◌, [], ◌∷◌, ◌++◌, string_bytes, rules, ap, ◌∙◌}
use Rattle.serde_json.specs.View.{view}
use Rattle.explain_json.specs.Reasons.{reason_data}
use Rattle.explain_json.proofs.Told.{viewed_more}
use Rattle.explain_json.proofs.reasons.push_reason.Goals as goal

pub returns : goal.returns
returns c =
    let pushed : c.push.new.self.items ≡ c.args.values.now.items ++ c.in_ok-value.value ∷ [] = search rules in
    let told : view c.in_ok-value.value ≡ reason_data c.args.reason.now (string_bytes c.in_ok-text.text) = c.in_ok-value.ensures ∙ ap (reason_data c.args.reason.now) c.as_str.ensures.value in
    (string_bytes c.in_ok-text.text, c.in_ok-text.ensures, viewed_more _ _ _ _ pushed told)
