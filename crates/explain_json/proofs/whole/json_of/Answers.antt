use Rattle.std.proofs.Common.{◌≡◌, ◌≤◌, [], ◌∷◌, ◌++◌, string_bytes, rules, Some, arith, false, refl, sym, ap, ◌∙◌, subst}
use Rattle.serde_json.specs.Data.{Data, depth}
use Rattle.serde_json.specs.Read.{max_depth, read}
use Rattle.serde_json.specs.View.{view}
use Rattle.serde_json.specs.Written.{compact_text, has_float}
use Rattle.explain_json.specs.Members.{explanation_data}
use Rattle.explain_json.proofs.Depths.{explanation_depth}
use Rattle.explain_json.proofs.Floats.{explanation_whole}
use Rattle.explain_json.proofs.whole.json_of.Goals as goal

pub returns : goal.returns
returns c =
    let e = c.args.whole.now in
    let is = c.in_ok-value.ensures in
    let source = c.args.source.now in
    let d = explanation_data e source is.why in
    let low : depth d ≤ max_depth = omega (arith, explanation_depth e source is.why is.reasons) in
    let whole : has_float (view c.in_ok-value.value) ≡ false = ap has_float is.is ∙ explanation_whole e source is.why is.reasons in
    let written : string_bytes c.in_ok-text.text ≡ compact_text d = c.in_ok-text.ensures.text whole ∙ ap compact_text is.is in
    let back = c.in_ok-text.ensures.reads_back (subst (λ (x : Data). depth x ≤ max_depth) (sym is.is) low) in
    let ended : string_bytes c.push.new.self ≡ string_bytes c.in_ok-text.text ++ 10 ∷ [] = search rules in
    record {
      value = d;
      is = record { why = is.why; reasons = is.reasons; is = refl };
      line = record { is = ended ∙ ap (λ t. t ++ 10 ∷ []) written; reads = ap read (sym written) ∙ back ∙ ap (λ x. Some x) is.is };
    }
