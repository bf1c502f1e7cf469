use Rattle.std.proofs.Common.{◌≡◌, ℕ, List, ap, ◌∙◌, subst}
use Rattle.std.specs.Result.{IfOk}
use Rattle.serde_json.specs.View.{view}
use Rattle.wide_text.specs.Members.{script_with}
use Rattle.wide_text.specs.Told.{whole_text}
use Rattle.wide_text.proofs.json.script_value.Goals as goal

pub returns : goal.returns
returns c =
    let report = c.args.report.now in
    let same : c.as_str.result.now ≡ whole_text report.clean report.free.items report.reads.items = c.as_str.ensures.value
    ∙ (c.in_ok-text.ensures
    ∙ (ap (λ f. whole_text report.clean f c.as_slice-reads.result.now) c.as_slice-free.ensures.value ∙ ap (λ r. whole_text report.clean report.free.items r) c.as_slice-reads.ensures.value)) in
    subst (λ (t : List ℕ). IfOk c.script_with.result (λ value. view value ≡ script_with t report)) same c.script_with.ensures
