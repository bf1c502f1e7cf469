use Rattle.std.proofs.Common.{◌≡◌, ◌+◌, ◌&&◌, ◌^◌, nat_lt, length, sym, ap, ◌∙◌, arith, lt-ltb}
use Rattle.std.specs.Prelude.{vec_len, vec_capacity}
use Rattle.std.proofs.lemmas.Bool.{and_from}
use Rattle.group_log.specs.Progressions.{Listed}
use Rattle.group_log.proofs.Places.{length_progressed}
use Rattle.group_log.proofs.progressions.Progressions.reserve.Goals as goal

pub returns-clause-room : goal.returns-clause-room
returns-clause-room c =
    let l = c.self.inside in
    let heads = c.reserve.new.self in
    let closed = c.reserve-2.new.self in
    let many : length c.args.self.now.items ≡ l.last.start + l.last.count =
    ap (λ (z : Listed). length z.items) (sym c.self.view_is) ∙ length_progressed l.heads.items l.steps.items l.closed.items l.last c.self.invariant in
    and_from (nat_lt (vec_len heads) (vec_capacity heads) && nat_lt (vec_len closed) (vec_capacity closed)) (nat_lt (l.last.start + l.last.count + 1) (2 ^ 64))
    (and_from (nat_lt (vec_len heads) (vec_capacity heads)) (nat_lt (vec_len closed) (vec_capacity closed))
    (lt-ltb (vec_len heads) (vec_capacity heads) (omega (arith, c.in_ok-reserve.ensures.ok)))
    (lt-ltb (vec_len closed) (vec_capacity closed) (omega (arith, c.in_ok-reserve-2.ensures.ok))))
    (lt-ltb (l.last.start + l.last.count + 1) (2 ^ 64) (omega (arith, many, c.len.ensures, c.if-len.false)))
