use Rattle.std.proofs.Common.{[], ◌∷◌, ap, ◌∙◌}
use Rattle.std.specs.Prelude.{reverse}
use Rattle.std.proofs.lemmas.List.{reverse-append}
use Rattle.ordered_play.proofs.Searches.{told_newest}
use Rattle.ordered_play.proofs.races.newest_race.Goals as goal

pub race_with-requires : goal.race_with-requires
race_with-requires g c =
    let split = c.in-Some.ensures.cases.0 in
    c.requires c.in-Some.newest.now (reverse c.in-Some.earlier.now)
    (ap reverse split ∙ reverse-append c.in-Some.earlier.now (c.in-Some.newest.now ∷ []))

pub returns : goal.returns
returns g c =
    let split = c.in-Some.ensures.cases.0 in
    c.race_with.ensures
    ∙ told_newest (g.D.Described.launch c.args.launch.now) c.in-Some.newest.now c.in-Some.earlier.now c.args.log.now split
