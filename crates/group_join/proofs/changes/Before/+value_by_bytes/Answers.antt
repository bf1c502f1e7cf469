use Rattle.std.proofs.Common.{◌≡◌, ◌+◌, ◌*◌, ◌-◌, ◌<◌, ◌^◌, suc, subst, arith, rules}
use Rattle.spaces.proofs.Rows.{joined_fits, joined_below}
use Rattle.group_join.proofs.Values.{value_more}
use Rattle.group_join.proofs.changes.Before.+value_by_bytes.Goals as goal

pub overflow_mul-result : goal.overflow_mul-result
overflow_mul-result t c =
    let fits : c.joined_byte-low.result + 256 * c.value_by_bytes-high.result < 2 ^ 64 =
    joined_fits c.joined_byte-low.result c.value_by_bytes-high.result (c.args.count - 1) (search rules) c.value_by_bytes-high.ensures.below (omega (arith, c.requires.short, c.if-count-eq0.false)) in
    omega (arith, fits)

pub overflow_add-result : goal.overflow_add-result
overflow_add-result t c =
    let fits : c.joined_byte-low.result + 256 * c.value_by_bytes-high.result < 2 ^ 64 =
    joined_fits c.joined_byte-low.result c.value_by_bytes-high.result (c.args.count - 1) (search rules) c.value_by_bytes-high.ensures.below (omega (arith, c.requires.short, c.if-count-eq0.false)) in
    omega (arith, fits)

pub returns-clause-value : goal.returns-clause-value
returns-clause-value t c = λ log kept.
    value_more c.args.first c.args.count _ c.joined_byte-low.result c.value_by_bytes-high.result (omega (arith, c.if-count-eq0.false)) (search rules) (c.joined_byte-low.ensures log kept)
    (c.value_by_bytes-high.ensures.value log kept)

pub returns-clause-below : goal.returns-clause-below
returns-clause-below t c =
    let n : suc (c.args.count - 1) ≡ c.args.count = omega (arith, c.if-count-eq0.false) in
    subst (λ z. c.joined_byte-low.result + 256 * c.value_by_bytes-high.result < 256 ^ z) n
    (joined_below c.joined_byte-low.result c.value_by_bytes-high.result (c.args.count - 1) (search rules) c.value_by_bytes-high.ensures.below)
