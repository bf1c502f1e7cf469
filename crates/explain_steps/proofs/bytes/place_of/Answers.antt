use Rattle.std.proofs.Common.{◌≡◌, ◌<◌, Bor, Some, length, map, slice_get, refl, sym, ap, ◌∙◌, arith}
use Rattle.std.specs.Option.{option_map}
use Rattle.std.proofs.lemmas.Bool.{false≢true}
use Rattle.std.proofs.lemmas.List.{length-map}
use Rattle.std.proofs.lemmas.Option.{slice_get-map, slice_get_read, slice_get_within}
use Rattle.clmodel.specs.declared.fault.Location.{Location}
use Rattle.explain_steps.proofs.ByteSets.{not_found_more}
use Rattle.explain_steps.proofs.bytes.place_of.Goals as goal

pub loop-place-preserved : goal.loop-place-preserved
loop-place-preserved c =
    let xs = c.args.places.now in
    let i = c.loop-place.place in
    let r = c.index-places-place.result in
    let here : slice_get (map (λ (p : Bor Location). p.now) xs) i ≡ Some r.now =
    slice_get-map (λ (p : Bor Location). p.now) xs i ∙ ap (option_map (λ (p : Bor Location). p.now)) (slice_get_read xs (length xs) i r refl c.loop-place-test.true c.index-places-place.is) in
    not_found_more (map (λ (p : Bor Location). p.now) xs) c.args.location.now i r.now here (λ e. false≢true (sym c.if-same_location.false ∙ c.same_location.ensures.1 e)) c.loop-place.invariant

pub returns-then-same_location : goal.returns-then-same_location
returns-then-same_location c =
    let xs = c.args.places.now in
    let i = c.loop-place.place in
    let r = c.index-places-place.result in
    let here : slice_get (map (λ (p : Bor Location). p.now) xs) i ≡ Some r.now =
    slice_get-map (λ (p : Bor Location). p.now) xs i ∙ ap (option_map (λ (p : Bor Location). p.now)) (slice_get_read xs (length xs) i r refl c.loop-place-test.true c.index-places-place.is) in
    record {
      at = here ∙ ap (λ (p : Location). Some p) (c.same_location.ensures.0 c.if-same_location.true);
      first = c.loop-place.invariant;
    }

pub returns : goal.returns
returns c =
    λ number here.
    let xs = c.args.places.now in
    let within : number < length (map (λ (p : Bor Location). p.now) xs) = slice_get_within (map (λ (p : Bor Location). p.now) xs) number c.args.location.now here in
    let long : length (map (λ (p : Bor Location). p.now) xs) ≡ length xs = length-map xs (λ (p : Bor Location). p.now) in
    c.loop-place.invariant number (omega (arith, within, long, c.loop-place-test.false)) here
