use Rattle.std.proofs.Common.{refl}
use Rattle.explain_json.proofs.reasons.OtherLoopsToJson.to_json.Goals as goal

pub returns : goal.returns
returns c = c.finish.ensures _ (
    c.with-2.ensures _ refl (
    c.with.ensures _ tt c.new.ensures))
