use Rattle.std.proofs.Common.{◌≡◌, List, Option, None, Some, length, refl, subst}
use Rattle.std.proofs.lemmas.Option.{slice_get_read, slice_get_within}
use Rattle.fault_play.specs.declared.played.Touch.{Touch}
use Rattle.explain_reasons.specs.declared.unset.Near.{Near}
use Rattle.explain_reasons.specs.Stored.{IsNearestOf, IsOnSide}
use Rattle.explain_reasons.proofs.Nearest.{no_side, told_side}
use Rattle.explain_reasons.proofs.unset.stored_bytes.Goals as goal

pub returns-in_ok-stored-in-Some-get : goal.returns-in_ok-stored-in-Some-get
returns-in_ok-stored-in-Some-get c =
    let xs = c.as_slice-touches.result.now in
    let at = slice_get_read xs (length xs) c.in-Some.near.number c.in-Some-get.touch.now refl c.in-Some-get.ensures.lookup.3.0 c.in-Some-get.ensures.lookup.1 in
    let known = subst (λ (o : Option Near). IsNearestOf xs c.args.location.now c.args.side c.args.byte (length xs) o) c.in-Some.is c.nearest_store.ensures in
    subst (λ (l : List Touch). IsOnSide c.args.side l c.args.location.now c.args.byte (Some c.in_ok-stored-in-Some-get.stored)) c.as_slice-touches.ensures.value
    (told_side xs c.args.location.now c.args.side c.args.byte (length xs) c.in-Some.near c.in-Some-get.touch.now c.in_ok-stored-in-Some-get.stored (λ k other e. slice_get_within xs k other e) at
    c.in_ok-stored-in-Some-get.ensures known)
