use Rattle.std.proofs.Common.{◌+◌, ◌%◌, nat_lt, ltb-true, ltb-false, eqb-true, arith}
use Rattle.clmodel.specs.Cells.{byte_count}
use Rattle.clmodel.proofs.CellLaws.{covers_parts}
use Rattle.clmodel.proofs.Steps.{decided}
use Rattle.access_list.specs.Cells.{at_key}
use Rattle.access_list.proofs.Indexed.{marked_clear}
use Rattle.access_list.proofs.cells.Cells.is_clear.Goals as goal

pub returns-then-here-count : goal.returns-then-here-count
returns-then-here-count c h y byte kept =
    let x = c.args.x.now in
    marked_clear c.args.uniform x y (λ key b. at_key c.args.self.now key (b % 8))
    (λ b on.
    let r = covers_parts x.first (byte_count x.width) b on in
    c.passes.ensures c.if-passes.true b r.0 (omega (arith, r.1, eqb-true c.min-here.result c.bytes-count.result h, c.bytes-count.ensures.value)))
    kept byte

pub returns-else-here-count : goal.returns-else-here-count
returns-else-here-count c h y byte kept =
    let x = c.args.x.now in
    marked_clear c.args.uniform x y (λ key b. at_key c.args.self.now key (b % 8))
    (λ b on.
    let r = covers_parts x.first (byte_count x.width) b on in
    decided (nat_lt b (x.first + c.min-here.result)) (λ t. c.passes.ensures c.if-passes.true b r.0 (ltb-true b (x.first + c.min-here.result) t))
    (λ t. c.next_passes.ensures h b (ltb-false b (x.first + c.min-here.result) t) (omega (arith, r.1, c.bytes-count.ensures.value, c.min-here.ensures))))
    kept byte
