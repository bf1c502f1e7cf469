use Rattle.std.proofs.Common.{◌≡◌, ◌+◌, ◌*◌, ◌-◌, ◌<◌, ◌^◌, suc, subst, arith, rules}
use Rattle.spaces.proofs.Rows.{joined_fits, joined_below}
use Rattle.group_join.proofs.Values.{value_more}
use Rattle.group_join.proofs.changes.+own_by_bytes.Goals as goal

pub overflow_mul-result : goal.overflow_mul-result
overflow_mul-result t c =
    let fits : c.own_byte-byte.result + 256 * c.own_by_bytes-further.result < 2 ^ 64 =
    joined_fits c.own_byte-byte.result c.own_by_bytes-further.result (c.args.count - 1) (search rules) c.own_by_bytes-further.ensures.below (omega (arith, c.requires.short, c.if-count-eq0.false)) in
    omega (arith, fits)

pub overflow_add-result : goal.overflow_add-result
overflow_add-result t c =
    let fits : c.own_byte-byte.result + 256 * c.own_by_bytes-further.result < 2 ^ 64 =
    joined_fits c.own_byte-byte.result c.own_by_bytes-further.result (c.args.count - 1) (search rules) c.own_by_bytes-further.ensures.below (omega (arith, c.requires.short, c.if-count-eq0.false)) in
    omega (arith, fits)

pub returns-clause-value : goal.returns-clause-value
returns-clause-value t c =
    value_more c.args.first c.args.count _ c.own_byte-byte.result c.own_by_bytes-further.result (omega (arith, c.if-count-eq0.false)) (search rules) c.own_byte-byte.ensures
    c.own_by_bytes-further.ensures.value

pub returns-clause-below : goal.returns-clause-below
returns-clause-below t c =
    let n : suc (c.args.count - 1) ≡ c.args.count = omega (arith, c.if-count-eq0.false) in
    subst (λ z. c.own_byte-byte.result + 256 * c.own_by_bytes-further.result < 256 ^ z) n
    (joined_below c.own_byte-byte.result c.own_by_bytes-further.result (c.args.count - 1) (search rules) c.own_by_bytes-further.ensures.below)
