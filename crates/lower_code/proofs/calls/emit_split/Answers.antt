use Rattle.std.proofs.Common.{◌∙◌}
use Rattle.std.proofs.lemmas.Result.{on_err_weaker}
use Rattle.lower_code.specs.Growth.{GrowsBefore}
use Rattle.lower_code.proofs.Growth.{unchanged, before, both}
use Rattle.lower_code.proofs.calls.emit_split.Goals.{in-Some+in_ok-emit_call+in-Heap-1, in-Some+in_ok-emit_call+in-Inline-1, in_default}
use Rattle.lower_code.proofs.calls.emit_split.Goals as goal

pub returns-clause-longer : goal.returns-clause-longer
returns-clause-longer c =
    let called : GrowsBefore c.put_all.new.self c.match-call-3.code = elim c.match-call-3.branch [
      | in-Some+in_ok-emit_call+in-Heap-1 w ↦ record { added = _; is = w.code-is ∙ w.in_ok-emit_call.ensures.code }
      | in-Some+in_ok-emit_call+in-Inline-1 w ↦ record { added = _; is = w.code-is ∙ w.in_ok-emit_call.ensures.code }
      | in_default w ↦ unchanged _ _ w.code-is
    ] in
    on_err_weaker c.put_all-2.result (λ h. before _ _ _ _ c.in_ok-put_all.ensures.code (both _ _ _ called h)) c.put_all-2.ensures.longer
