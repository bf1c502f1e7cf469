use Rattle.std.proofs.Common.{◌≡◌, ◌∙◌, ◌+◌, ◌/◌, ◌%◌, ℕ, sym, subst, arith, rules}
use Rattle.group_traces.specs.Cells.{cell_at, at_key, key_of, IsOwn}
use Rattle.group_traces.proofs.Making.{own_self}
use Rattle.group_traces.proofs.Written.{low_mark, high_mark, next_word, apart_words, marked_two}
use Rattle.group_traces.proofs.traces.Traces.mark_two.Goals as goal

pub returns-in_err-fit-2-clause-same : goal.returns-in_err-fit-2-clause-same
returns-in_err-fit-2-clause-same c =
    let same : (q b : ℕ) → at_key c.fit-2.new.self q b ≡ at_key c.args.self.now q b = λ q b. c.fit-2.ensures.same q b ∙ c.fit.ensures.same q b in
    search (rules, same)

pub fit-requires-2-clause-own : goal.fit-requires-2-clause-own
fit-requires-2-clause-own c =
    let own = c.fit.ensures.own _ c.args.i c.requires.own in
    own_self c.fit.new.self (cell_at c.args.self.now.cells.items c.args.i).key c.args.i own

pub write-requires-clause-inside : goal.write-requires-clause-inside
write-requires-clause-inside c = (c.fit-2.ensures.own _ c.args.i (c.fit.ensures.own _ c.args.i c.requires.own)).inside

pub write-requires-clause-one_word : goal.write-requires-clause-one_word
write-requires-clause-one_word c = omega (arith, c.requires.even)

pub write-requires-clause-mark : goal.write-requires-clause-mark
write-requires-clause-mark c = λ _. low_mark c.args.x.now c.word_mark.result c.word_mark.ensures

pub write-requires-clause-fits : goal.write-requires-clause-fits
write-requires-clause-fits c =
    let x = c.args.x.now in
    c.fit-2.ensures.others (x.first % 32 / 4) x x.first 4 (apart_words x.first c.requires.even) c.in_ok-fit.ensures.fits

pub write-requires-2-clause-inside : goal.write-requires-2-clause-inside
write-requires-2-clause-inside c = (c.write.ensures.own _ c.args.i (c.fit-2.ensures.own _ c.args.i (c.fit.ensures.own _ c.args.i c.requires.own))).inside

pub write-requires-2-clause-one_word : goal.write-requires-2-clause-one_word
write-requires-2-clause-one_word c = omega (arith, c.requires.even)

pub write-requires-2-clause-mark : goal.write-requires-2-clause-mark
write-requires-2-clause-mark c = λ _. high_mark c.args.x.now c.word_mark-2.result c.word_mark-2.ensures

pub write-requires-2-clause-fits : goal.write-requires-2-clause-fits
write-requires-2-clause-fits c =
    let x = c.args.x.now in
    c.write.ensures.others ((x.first + 4) % 32 / 4) x (x.first + 4) 4 (λ e. apart_words x.first c.requires.even (sym e)) c.in_ok-fit-2.ensures.fits

pub returns-clause-marked : goal.returns-clause-marked
returns-clause-marked c number small own =
    let x = c.args.x.now in
    let i = c.args.i in
    let low = c.fit-2.ensures.own (key_of number x.first) i (c.fit.ensures.own (key_of number x.first) i own) in
    let high = subst (λ k. IsOwn c.write.new.self k i) (sym (next_word number x.first c.requires.even).0) (c.write.ensures.own (key_of number x.first) i low) in
    marked_two c.args.self.now c.fit-2.new.self c.write.new.self c.write-2.new.self x number small c.requires.wide c.requires.even (λ q b. c.fit-2.ensures.same q b ∙ c.fit.ensures.same q b)
    (c.write.ensures.written (key_of number x.first) low) (c.write-2.ensures.written (key_of number (x.first + 4)) high)
