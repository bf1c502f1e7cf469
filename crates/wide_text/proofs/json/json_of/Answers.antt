use Rattle.std.proofs.Common.{◌≡◌, [], ◌∷◌, ◌++◌, string_bytes, rules, ap, ◌∙◌, false}
use Rattle.serde_json.specs.View.{view}
use Rattle.serde_json.specs.Written.{compact_text, has_float}
use Rattle.wide_text.proofs.Floats.{report_whole}
use Rattle.wide_text.proofs.json.json_of.Goals as goal

pub returns : goal.returns
returns c =
    let is = c.in_ok-value.ensures in
    let whole : has_float (view c.in_ok-value.value) ≡ false = ap has_float is ∙ report_whole c.args.report.now in
    let written = c.in_ok-text.ensures.text whole ∙ ap compact_text is in
    let ended : string_bytes c.push.new.self ≡ string_bytes c.in_ok-text.text ++ 10 ∷ [] = search rules in
    ended ∙ ap (λ t. t ++ 10 ∷ []) written
