use Rattle.std.proofs.Common.{refl}
use Rattle.explain_json.proofs.items.barrier_value.Goals as goal

pub returns : goal.returns
returns c = rw c.in-Waits.is (c.finish.ensures _ (
    c.with-2.ensures _ refl (
    c.with.ensures _ tt c.new.ensures)))
