use Rattle.std.proofs.Common.{subst}
use Rattle.item_step.specs.Launches.{setup_of}
use Rattle.origins.specs.Finding.{IsOriginIn}
use Rattle.source_spots.specs.Spots.{HaveTurns}
use Rattle.explain_items.specs.Spotted.{BeginsAt}
use Rattle.explain_items.proofs.Spotting.{spotted, unspotted}
use Rattle.explain_items.proofs.context.Context.spot_at.Goals as goal

pub returns-in_ok-spot_in-in-Some-2-clause-spotted : goal.returns-in_ok-spot_in-in-Some-2-clause-spotted
returns-in_ok-spot_in-in-Some-2-clause-spotted c =
    let launch = c.args.self.now.launch.now in
    let setup = setup_of launch in
    let origin = c.in-Some-2.origin in
    let spot = c.in_ok-spot_in-in-Some-2.field-0 in
    spotted launch c.args.stand.now c.args.self.now.program.text.now c.args.self.now.program.first_line origin spot c.args.self.now.marked
    (subst (λ o. IsOriginIn setup.program.functions setup.kernel c.args.stand.now.place o) c.in-Some-2.is c.in_ok-origin.ensures.origin)
    (subst (λ t. BeginsAt t c.args.self.now.program.first_line origin spot) c.in-Some.ensures.text
    (subst (λ n. BeginsAt c.in-Some.source.text.now n origin spot) c.in-Some.ensures.first c.in_ok-spot_in-in-Some-2.ensures.begins))
    (subst (λ t. HaveTurns t spot.loops.items) c.as_slice-turns.ensures c.in_ok-spot_in-in-Some-2.ensures.turns)

pub returns-in-None-clause-none : goal.returns-in-None-clause-none
returns-in-None-clause-none c =
    let launch = c.args.self.now.launch.now in
    let setup = setup_of launch in
    λ inside tellable.
    unspotted launch c.args.stand.now c.args.self.now.marked
    (subst (λ o. IsOriginIn setup.program.functions setup.kernel c.args.stand.now.place o) c.in-None.is c.in_ok-origin.ensures.origin) inside
