use Rattle.std.proofs.Common.{◌≡◌, ◌∙◌, ◌<◌, ◌^◌, ℕ, sym, subst, arith}
use Rattle.std.proofs.lemmas.Result.{on_ok_weaker, on_err_weaker}
use Rattle.std.specs.Prelude.{MatchOption}
use Rattle.group_traces.specs.Cells.{at_key, IsOwn}
use Rattle.group_traces.specs.Traces.{untouched}
use Rattle.group_traces.proofs.Looking.{near_one, near_two}
use Rattle.group_traces.proofs.Making.{own_self}
use Rattle.group_traces.proofs.Written.{marked_same}
use Rattle.group_traces.proofs.traces.Traces.mark.Goals as goal

pub key_of-requires : goal.key_of-requires
key_of-requires c = omega (arith, c.requires.near.0)

pub make-requires : goal.make-requires
make-requires c =
    let t = c.args.self.now in
    subst (λ k. MatchOption c.args.place ((b : ℕ) → at_key t k b ≡ untouched) (IsOwn t k)) (sym c.key_of.ensures) c.requires.place

pub mark_one-requires-clause-own : goal.mark_one-requires-clause-own
mark_one-requires-clause-own c = own_self c.make.new.self c.key_of.result c.in_ok-i.i c.in_ok-i.ensures.own

pub mark_one-requires-clause-one_word : goal.mark_one-requires-clause-one_word
mark_one-requires-clause-one_word c = near_one c.args.x.now c.bytes-count.result c.requires.near c.bytes-count.ensures.value c.if-count-le-WORD_BYTES.true

pub mark_one-requires-clause-short : goal.mark_one-requires-clause-short
mark_one-requires-clause-short c = omega (arith, c.requires.near.0, c.bytes-count.ensures.value)

pub mark_two-requires-clause-own : goal.mark_two-requires-clause-own
mark_two-requires-clause-own c = own_self c.make.new.self c.key_of.result c.in_ok-i.i c.in_ok-i.ensures.own

pub mark_two-requires-clause-wide : goal.mark_two-requires-clause-wide
mark_two-requires-clause-wide c = (near_two c.args.x.now c.bytes-count.result c.requires.near c.bytes-count.ensures.value c.if-count-le-WORD_BYTES.false).0

pub mark_two-requires-clause-even : goal.mark_two-requires-clause-even
mark_two-requires-clause-even c = (near_two c.args.x.now c.bytes-count.result c.requires.near c.bytes-count.ensures.value c.if-count-le-WORD_BYTES.false).1

pub mark_two-requires-clause-short : goal.mark_two-requires-clause-short
mark_two-requires-clause-short c = omega (arith, c.requires.near.0)

pub returns-then-count-le-WORD_BYTES-clause-marked : goal.returns-then-count-le-WORD_BYTES-clause-marked
returns-then-count-le-WORD_BYTES-clause-marked c =
    let x = c.args.x.now in
    let small : c.args.number < 2 ^ 32 = omega arith in
    let own = subst (λ k. IsOwn c.make.new.self k c.in_ok-i.i) c.key_of.ensures c.in_ok-i.ensures.own in
    on_ok_weaker c.mark_one.result (λ m. marked_same c.args.self.now c.make.new.self c.mark_one.new.self x c.args.number c.make.ensures.same (m c.args.number small own)) c.mark_one.ensures.marked

pub returns-then-count-le-WORD_BYTES-clause-same : goal.returns-then-count-le-WORD_BYTES-clause-same
returns-then-count-le-WORD_BYTES-clause-same c = on_err_weaker c.mark_one.result (λ m q b. m q b ∙ c.make.ensures.same q b) c.mark_one.ensures.same

pub returns-else-count-le-WORD_BYTES-clause-marked : goal.returns-else-count-le-WORD_BYTES-clause-marked
returns-else-count-le-WORD_BYTES-clause-marked c =
    let x = c.args.x.now in
    let small : c.args.number < 2 ^ 32 = omega arith in
    let own = subst (λ k. IsOwn c.make.new.self k c.in_ok-i.i) c.key_of.ensures c.in_ok-i.ensures.own in
    on_ok_weaker c.mark_two.result (λ m. marked_same c.args.self.now c.make.new.self c.mark_two.new.self x c.args.number c.make.ensures.same (m c.args.number small own)) c.mark_two.ensures.marked

pub returns-else-count-le-WORD_BYTES-clause-same : goal.returns-else-count-le-WORD_BYTES-clause-same
returns-else-count-le-WORD_BYTES-clause-same c = on_err_weaker c.mark_two.result (λ m q b. m q b ∙ c.make.ensures.same q b) c.mark_two.ensures.same
