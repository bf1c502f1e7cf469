use Rattle.std.proofs.Common.{◌+◌, ◌-◌, sym, ap, ◌∙◌, arith}
use Rattle.clmodel.specs.Cells.{byte_count}
use Rattle.access_list.specs.Log.{hit, hit_from}
use Rattle.access_list.proofs.Hits.{from_here, from_later}
use Rattle.group_log.proofs.progressions.Progressions.hit.Goals as goal

pub returns-in-Some : goal.returns-in-Some
unfolding hit
returns-in-Some c =
    let x = c.args.x.now in
    sym (c.loop-byte.invariant
    ∙ from_here c.args.rule x c.args.self.now.items c.loop-byte.byte (x.access.first + byte_count x.access.width - c.loop-byte.byte) c.in-Some.hit
    (omega (arith, c.loop-byte-test.true, c.bytes.ensures.value)) (sym c.hit_on.ensures ∙ c.in-Some.is))

pub loop-byte-preserved : goal.loop-byte-preserved
loop-byte-preserved c =
    let x = c.args.x.now in
    c.loop-byte.invariant
    ∙ from_later c.args.rule x c.args.self.now.items c.loop-byte.byte (x.access.first + byte_count x.access.width)
    (omega (arith, c.loop-byte-test.true, c.bytes.ensures.value)) (sym c.hit_on.ensures ∙ c.in_default.is)

pub returns : goal.returns
unfolding hit
returns c =
    let x = c.args.x.now in
    sym (c.loop-byte.invariant
    ∙ ap (hit_from c.args.rule x c.args.self.now.items c.loop-byte.byte) {x = x.access.first + byte_count x.access.width - c.loop-byte.byte} {y = 0}
    (omega (arith, c.loop-byte-test.false, c.bytes.ensures.value)))
