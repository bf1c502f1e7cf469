use Rattle.std.proofs.Common.{◌++◌, List, codes, decimal, string_bytes, ap, ◌∙◌, subst}
use Rattle.explanation.specs.declared.reasons.Reason.{Reason}
use Rattle.explain_text.specs.Texts.{AreSentences}
use Rattle.explain_text.proofs.Rendering.{whole_added}
use Rattle.explain_text.proofs.whole.text_of.Goals as goal

pub returns : goal.returns
returns c =
    let e = c.args.whole.now in
    whole_added e c.args.source.now c.as_str.result.now (string_bytes c.in_ok-title.title) c.as_str-2.result.now (string_bytes c.in_ok-launch.launch) c.as_str-3.result.now (string_bytes c.in_ok-items.items)
    c.as_str-4.result.now (string_bytes c.in_ok-why.why) c.as_str-5.result.now (string_bytes c.in_ok-steps.steps) c.as_str-6.result.now (string_bytes c.push_heading.new.out)
    (string_bytes c.push_both.new.out) (string_bytes c.push_both-2.new.out) (string_bytes c.push_both-3.new.out) (string_bytes c.push_schedule.new.out) c.in_ok-title.ensures
    c.as_str.ensures.value c.in_ok-launch.ensures c.as_str-2.ensures.value c.in_ok-items.ensures c.as_str-3.ensures.value
    (subst (λ (l : List Reason). AreSentences l (string_bytes c.in_ok-why.why)) c.as_slice.ensures.value c.in_ok-why.ensures) c.as_str-4.ensures.value c.in_ok-steps.ensures
    c.as_str-5.ensures.value c.as_str-6.ensures.value
    (c.in_ok-push_heading.ensures ∙ ap (λ z. z ++ (codes "fault " ++ decimal e.fault.number ++ codes " " ++ c.as_str.result.now ++ codes "\n")) c.new-out.ensures.bytes)
    c.in_ok-push_both.ensures c.in_ok-push_both-2.ensures c.in_ok-push_both-3.ensures c.in_ok-push_schedule.ensures
