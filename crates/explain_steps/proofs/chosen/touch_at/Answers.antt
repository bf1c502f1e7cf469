use Rattle.std.proofs.Common.{length, refl, sym}
use Rattle.std.proofs.lemmas.Option.{slice_get_past, slice_get_read}
use Rattle.explain_steps.proofs.chosen.touch_at.Goals as goal

pub returns-in-Some : goal.returns-in-Some
returns-in-Some c =
    let xs = c.args.touches.now in sym (slice_get_read xs (length xs) c.args.number c.in-Some.touch.now refl c.in-Some.ensures.lookup.3.0 c.in-Some.ensures.lookup.1)

pub returns-in-None : goal.returns-in-None
returns-in-None c = sym (slice_get_past c.args.touches.now c.args.number c.in-None.ensures.lookup.3)
