use Rattle.std.proofs.Common.{refl}
use Rattle.explain_json.proofs.commands.multiple_value.Goals as goal

pub returns : goal.returns
returns c = c.finish.ensures _ (
    (rw c.dimension_of.ensures at c.with-3.ensures) _ refl (
    c.with_text-3.ensures _ refl _ refl (
    c.with-2.ensures _ refl (
    c.with.ensures _ refl (
    c.with_text-2.ensures _ refl _ refl (
    c.with_text.ensures _ c.divided_word.ensures _ tt c.new.ensures))))))
