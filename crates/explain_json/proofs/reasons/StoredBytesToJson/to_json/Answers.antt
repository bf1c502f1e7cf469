use Rattle.std.proofs.Common.{refl}
use Rattle.explain_json.proofs.reasons.StoredBytesToJson.to_json.Goals as goal

pub returns : goal.returns
returns c = c.finish.ensures _ (
    c.with-4.ensures _ refl (
    c.with-3.ensures _ refl (
    c.with-2.ensures _ refl (
    c.with.ensures _ tt c.new.ensures))))
