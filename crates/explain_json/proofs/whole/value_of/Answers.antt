use Rattle.std.proofs.Common.{List, refl, subst}
use Rattle.std.proofs.lemmas.Result.{IfOk-weaker}
use Rattle.serde_json.specs.View.{view}
use Rattle.explanation.specs.declared.reasons.Reason.{Reason}
use Rattle.explain_json.specs.Reasons.{AreReasons}
use Rattle.explain_json.proofs.whole.value_of.Goals as goal

pub returns : goal.returns
returns c =
    IfOk-weaker c.finish.result _ _
    (λ value h. record {
      why = view c.in_ok-why.why;
      reasons = subst (λ (l : List Reason). AreReasons l (view c.in_ok-why.why)) c.as_slice.ensures.value c.in_ok-why.ensures;
      is = h;
    }) (c.finish.ensures _ (
    c.with-8.ensures _ refl (
    c.with-7.ensures _ refl (
    c.with-6.ensures _ refl (
    c.with-5.ensures _ refl (
    c.with-4.ensures _ refl (
    c.with-3.ensures _ refl (
    c.with_text.ensures _ refl _ refl (
    c.with-2.ensures _ refl (
    c.with.ensures _ refl (
    c.with_value.ensures (view c.in_ok-why.why) refl _ tt c.new.ensures)))))))))))
