use Rattle.std.proofs.Common.{refl, string_bytes}
use Rattle.std.proofs.lemmas.Result.{IfOk-weaker}
use Rattle.serde_json.specs.View.{view}
use Rattle.explain_json.proofs.commands.command_value.Goals as goal

pub returns : goal.returns
returns c =
    IfOk-weaker c.finish.result _ _
    (λ value h. record {
      title = string_bytes c.in_ok-title.title;
      titled = c.in_ok-title.ensures;
      why = view c.in_ok-why.why;
      reasons = c.in_ok-why.ensures;
      is = h;
    }) (c.finish.ensures _ (
    c.with-5.ensures _ refl (
    c.with_value-3.ensures _ c.fault_value.ensures _ refl (
    c.with_value-2.ensures _ c.empty_list.ensures _ refl (
    c.with_text.ensures _ refl _ refl (
    c.with-4.ensures _ refl (
    c.with-3.ensures _ refl (
    c.with-2.ensures _ refl (
    c.with.ensures _ refl (
    c.with_value.ensures (view c.in_ok-why.why) refl _ tt c.new.ensures))))))))))
