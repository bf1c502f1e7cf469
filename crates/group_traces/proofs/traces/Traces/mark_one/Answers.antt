use Rattle.group_traces.specs.Cells.{key_of}
use Rattle.group_traces.proofs.Written.{low_mark, marked_one}
use Rattle.group_traces.proofs.traces.Traces.mark_one.Goals as goal

pub write-requires-clause-inside : goal.write-requires-clause-inside
write-requires-clause-inside c = (c.fit.ensures.own _ c.args.i c.requires.own).inside

pub write-requires-clause-mark : goal.write-requires-clause-mark
write-requires-clause-mark c = λ _. low_mark c.args.x.now c.word_mark.result c.word_mark.ensures

pub returns-clause-marked : goal.returns-clause-marked
returns-clause-marked c number small own =
    let x = c.args.x.now in
    marked_one c.args.self.now c.fit.new.self c.write.new.self x number c.args.count small c.requires.count c.requires.one_word c.fit.ensures.same
    (c.write.ensures.written (key_of number x.first) (c.fit.ensures.own (key_of number x.first) c.args.i own))
