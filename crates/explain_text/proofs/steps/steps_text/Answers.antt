use Rattle.std.proofs.Common.{◌++◌, List, length, string_bytes, ap, ◌∙◌, subst}
use Rattle.explanation.specs.declared.steps.ToldEvent.{ToldEvent}
use Rattle.explain_text.specs.Texts.{AddsShown}
use Rattle.explain_text.proofs.steps.steps_text.Goals as goal

pub returns : goal.returns
returns c =
    let begun = string_bytes c.push_line.new.out in
    let new = string_bytes c.push_runs.new.out in
    let head = c.in_ok-push_line.ensures in
    let all = subst (λ (xs : List ToldEvent). AddsShown xs 0 (length xs) begun new) c.as_slice-steps.ensures.value c.in_ok-push_runs.ensures in
    record {
      head = head.0;
      steps = all.0;
      heads = head.1;
      are_shown = all.1;
      whole = all.2 ∙ ap (λ x. x ++ all.0) (head.2 ∙ ap (λ x. x ++ head.0) c.new-out.ensures.bytes);
    }
