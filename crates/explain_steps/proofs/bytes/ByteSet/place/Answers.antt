use Rattle.std.proofs.Common.{◌≡◌, Bor, None, List, length, map, subst, arith}
use Rattle.clmodel.specs.declared.fault.Location.{Location}
use Rattle.explain_steps.specs.Bytes.{IsFound}
use Rattle.explain_steps.proofs.ByteSets.{number_added, number_kept}
use Rattle.explain_steps.proofs.bytes.ByteSet.place.Goals as goal

pub returns-in_ok-push-in-None-clause-number : goal.returns-in_ok-push-in-None-clause-number
returns-in_ok-push-in-None-clause-number c =
    let counted : c.len-place.result ≡ length c.args.self.now.places.items = omega (arith, c.len-place.ensures, c.args.self.now.places.ok.0) in
    number_added c.args.self.now.places.items c.args.location c.push.new.self.items c.len-place.result c.in_ok-push-in-None.ensures.items counted
    (subst (λ (l : List (Bor Location)). IsFound (map (λ place. place.now) l) c.args.location.now None) c.as_slice.ensures.value c.in-None.ensures)

pub returns-in_ok-push-in-None-clause-stay : goal.returns-in_ok-push-in-None-clause-stay
returns-in_ok-push-in-None-clause-stay c = number_kept c.args.self.now.places.items c.args.location c.push.new.self.items c.in_ok-push-in-None.ensures.items
