use Rattle.std.proofs.Common.{◌≡◌, ℕ, true, refl, sym, ◌∙◌, arith}
use Rattle.std.proofs.lemmas.Bool.{and_parts}
use Rattle.clmodel.specs.Cells.{byte_count}
use Rattle.shadow.specs.Seen.{mark_of}
use Rattle.group_traces.specs.Traces.{passes, tells, takes}
use Rattle.group_traces.specs.declared.trace.Trace.{Trace}
use Rattle.group_traces.proofs.Looking.{near_two, seen_two}
use Rattle.group_traces.proofs.Written.{low_mark, high_mark}
use Rattle.group_traces.proofs.traces.Traces.pair_sight.Goals as goal

pub part-low-requires-clause-one_word : goal.part-low-requires-clause-one_word
part-low-requires-clause-one_word c =
    let two = near_two c.args.x.now (byte_count c.args.x.now.width) c.requires.near refl c.requires.wide in
    omega (arith, two.1)

pub part-low-requires-clause-short : goal.part-low-requires-clause-short
part-low-requires-clause-short c = omega (arith, c.requires.near.0)

pub part-low-requires-clause-mark : goal.part-low-requires-clause-mark
part-low-requires-clause-mark c = λ _. low_mark c.args.x.now c.word_mark.result c.word_mark.ensures

pub overflow_add-x : goal.overflow_add-x
overflow_add-x c = omega (arith, c.requires.near.0)

pub part-high-requires-clause-one_word : goal.part-high-requires-clause-one_word
part-high-requires-clause-one_word c =
    let two = near_two c.args.x.now (byte_count c.args.x.now.width) c.requires.near refl c.requires.wide in
    omega (arith, two.1)

pub part-high-requires-clause-short : goal.part-high-requires-clause-short
part-high-requires-clause-short c = omega (arith, c.requires.near.0)

pub part-high-requires-clause-mark : goal.part-high-requires-clause-mark
part-high-requires-clause-mark c = λ _. high_mark c.args.x.now c.word_mark-2.result c.word_mark-2.ensures

pub returns-clause-clear : goal.returns-clause-clear
returns-clause-clear c h number own =
    let x = c.args.x.now in
    let both = and_parts c.part-low.result.clear c.part-high.result.clear (sym c.and.ensures.clear ∙ h) in
    seen_two (λ (byte : ℕ) (t : Trace). passes c.args.uniform t x.interval (mark_of x byte) ≡ true) c.args.self.now number c.args.i (byte_count x.width) x own c.requires.near refl c.requires.wide
    (c.part-low.ensures.clear both.0) (c.part-high.ensures.clear both.1)

pub returns-clause-told : goal.returns-clause-told
returns-clause-told c h number own =
    let x = c.args.x.now in
    let both = and_parts c.part-low.result.told c.part-high.result.told (sym c.and.ensures.told ∙ h) in
    seen_two (λ (byte : ℕ) (t : Trace). tells t x.interval (mark_of x byte) ≡ true) c.args.self.now number c.args.i (byte_count x.width) x own c.requires.near refl c.requires.wide
    (c.part-low.ensures.told both.0) (c.part-high.ensures.told both.1)

pub returns-clause-taken : goal.returns-clause-taken
returns-clause-taken c h number own =
    let x = c.args.x.now in
    let both = and_parts c.part-low.result.taken c.part-high.result.taken (sym c.and.ensures.taken ∙ h) in
    seen_two (λ (byte : ℕ) (t : Trace). takes t (mark_of x byte) ≡ true) c.args.self.now number c.args.i (byte_count x.width) x own c.requires.near refl c.requires.wide
    (c.part-low.ensures.taken both.0) (c.part-high.ensures.taken both.1)
