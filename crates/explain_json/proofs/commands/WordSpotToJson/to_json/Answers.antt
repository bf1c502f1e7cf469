use Rattle.std.proofs.Common.{refl}
use Rattle.explain_json.proofs.commands.WordSpotToJson.to_json.Goals as goal

pub returns : goal.returns
returns c = c.finish.ensures _ (
    c.with-6.ensures _ refl (
    c.with-5.ensures _ refl (
    c.with-4.ensures _ refl (
    c.with-3.ensures _ refl (
    c.with-2.ensures _ refl (
    c.with.ensures _ tt c.new.ensures))))))
