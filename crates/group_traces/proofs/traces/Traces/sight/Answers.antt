use Rattle.std.proofs.Common.{◌≡◌, ℕ, true, arith}
use Rattle.shadow.specs.Seen.{mark_of}
use Rattle.group_traces.specs.Traces.{passes, tells, takes}
use Rattle.group_traces.specs.declared.trace.Trace.{Trace}
use Rattle.group_traces.proofs.Looking.{near_one, seen_one}
use Rattle.group_traces.proofs.Written.{low_mark}
use Rattle.group_traces.proofs.traces.Traces.sight.Goals as goal

pub part-requires-clause-one_word : goal.part-requires-clause-one_word
part-requires-clause-one_word c = near_one c.args.x.now c.bytes-count.result c.requires.near c.bytes-count.ensures.value (omega (arith, c.if-count-gt-WORD_BYTES.false))

pub part-requires-clause-short : goal.part-requires-clause-short
part-requires-clause-short c = omega (arith, c.requires.near.0, c.bytes-count.ensures.value)

pub part-requires-clause-mark : goal.part-requires-clause-mark
part-requires-clause-mark c = λ _. low_mark c.args.x.now c.word_mark.result c.word_mark.ensures

pub returns-clause-clear : goal.returns-clause-clear
returns-clause-clear c h number own =
    let x = c.args.x.now in
    seen_one (λ (byte : ℕ) (t : Trace). passes c.args.uniform t x.interval (mark_of x byte) ≡ true) c.args.self.now number c.args.i c.bytes-count.result x own c.requires.near c.bytes-count.ensures.value
    (omega (arith, c.if-count-gt-WORD_BYTES.false)) (c.part.ensures.clear h)

pub returns-clause-told : goal.returns-clause-told
returns-clause-told c h number own =
    let x = c.args.x.now in
    seen_one (λ (byte : ℕ) (t : Trace). tells t x.interval (mark_of x byte) ≡ true) c.args.self.now number c.args.i c.bytes-count.result x own c.requires.near c.bytes-count.ensures.value
    (omega (arith, c.if-count-gt-WORD_BYTES.false)) (c.part.ensures.told h)

pub returns-clause-taken : goal.returns-clause-taken
returns-clause-taken c h number own =
    let x = c.args.x.now in
    seen_one (λ (byte : ℕ) (t : Trace). takes t (mark_of x byte) ≡ true) c.args.self.now number c.args.i c.bytes-count.result x own c.requires.near c.bytes-count.ensures.value
    (omega (arith, c.if-count-gt-WORD_BYTES.false)) (c.part.ensures.taken h)
