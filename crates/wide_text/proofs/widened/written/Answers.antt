use Rattle.std.proofs.Common.{refl}
use Rattle.std.proofs.lemmas.Result.{IfOk-weaker}
use Rattle.wide_text.proofs.widened.written.Goals as goal

pub returns-in-Json : goal.returns-in-Json
returns-in-Json c =
    rw c.in-Json.is (IfOk-weaker c.json_bytes.result _ _ (λ text is. (c.args.report.now, record { clean = refl; free = refl; reads = refl }, is)) c.json_bytes.ensures)
