use Rattle.std.proofs.Common.{◌+◌, ◌-◌, sym, ap, ◌∙◌, arith}
use Rattle.clmodel.specs.Cells.{byte_count}
use Rattle.ordered_play.specs.Races.{race_from, race_with}
use Rattle.ordered_play.proofs.Searches.{from_here, from_later}
use Rattle.ordered_play.proofs.races.race_with.Goals as goal

pub returns-in-Some : goal.returns-in-Some
unfolding race_with
returns-in-Some g c =
    let x = c.args.x.now in
    sym (c.loop-byte.invariant
    ∙ from_here (g.D.Described.launch c.args.launch.now) x c.args.log.now c.loop-byte.byte (x.first + byte_count x.width - c.loop-byte.byte) c.in-Some.race
    (omega (arith, c.loop-byte-test.true, c.bytes.ensures.value)) (sym c.race_on.ensures ∙ c.in-Some.is))

pub loop-byte-preserved : goal.loop-byte-preserved
loop-byte-preserved g c =
    let x = c.args.x.now in
    c.loop-byte.invariant
    ∙ from_later (g.D.Described.launch c.args.launch.now) x c.args.log.now c.loop-byte.byte (x.first + byte_count x.width)
    (omega (arith, c.loop-byte-test.true, c.bytes.ensures.value)) (sym c.race_on.ensures ∙ c.in_default.is)

pub returns : goal.returns
unfolding race_with
returns g c =
    let x = c.args.x.now in
    sym (c.loop-byte.invariant
    ∙ ap (race_from (g.D.Described.launch c.args.launch.now) x c.args.log.now c.loop-byte.byte) {x = x.first + byte_count x.width - c.loop-byte.byte} {y = 0}
    (omega (arith, c.loop-byte-test.false, c.bytes.ensures.value)))
