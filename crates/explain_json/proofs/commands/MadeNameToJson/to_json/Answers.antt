use Rattle.std.proofs.Common.{refl}
use Rattle.explain_json.proofs.commands.MadeNameToJson.to_json.Goals as goal

pub returns : goal.returns
returns c = c.finish.ensures _ (
    c.with_text.ensures _ c.kind_word.ensures _ refl (
    c.with-2.ensures _ refl (
    c.with.ensures _ tt c.new.ensures)))
