use Rattle.std.proofs.Common.{◌≡◌, ◌≤◌, [], ◌∷◌, ◌++◌, string_bytes, rules, Some, arith, false, sym, ap, ◌∙◌, subst}
use Rattle.serde_json.specs.Data.{Data, depth}
use Rattle.serde_json.specs.Read.{max_depth, read}
use Rattle.serde_json.specs.View.{view}
use Rattle.serde_json.specs.Written.{compact_text, has_float}
use Rattle.explain_json.specs.RefusalMembers.{refusal_data}
use Rattle.explain_json.proofs.Floats.{refusal_whole}
use Rattle.explain_json.proofs.RefusalDepths.{refusal_depth}
use Rattle.explain_json.proofs.refusals.refused_json.Goals as goal

pub returns : goal.returns
returns c =
    let refusal = c.in_ok-refusal.refusal in
    let d = refusal_data c.args.name.now refusal in
    let is = c.in_ok-value.ensures in
    let low : depth d ≤ max_depth = omega (arith, refusal_depth c.args.name.now refusal) in
    let whole : has_float (view c.in_ok-value.value) ≡ false = ap has_float is ∙ refusal_whole c.args.name.now refusal in
    let written : string_bytes c.in_ok-text.text ≡ compact_text d = c.in_ok-text.ensures.text whole ∙ ap compact_text is in
    let back = c.in_ok-text.ensures.reads_back (subst (λ (x : Data). depth x ≤ max_depth) (sym is) low) in
    let ended : string_bytes c.push.new.self ≡ string_bytes c.in_ok-text.text ++ 10 ∷ [] = search rules in
    record {
      refusal = refusal;
      is = c.in_ok-refusal.ensures;
      line = record { is = ended ∙ ap (λ t. t ++ 10 ∷ []) written; reads = ap read (sym written) ∙ back ∙ ap (λ x. Some x) is };
    }
