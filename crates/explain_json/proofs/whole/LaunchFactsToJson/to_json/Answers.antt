use Rattle.std.proofs.Common.{refl}
use Rattle.explain_json.proofs.whole.LaunchFactsToJson.to_json.Goals as goal

pub returns : goal.returns
returns c = c.finish.ensures _ (
    c.with-12.ensures _ refl (
    c.with-11.ensures _ refl (
    c.with-10.ensures _ refl (
    c.with-9.ensures _ refl (
    c.with-8.ensures _ refl (
    c.with-7.ensures _ refl (
    c.with-6.ensures _ refl (
    c.with-5.ensures _ refl (
    c.with-4.ensures _ refl (
    c.with-3.ensures _ refl (
    c.with-2.ensures _ refl (
    c.with.ensures _ tt c.new.ensures))))))))))))
