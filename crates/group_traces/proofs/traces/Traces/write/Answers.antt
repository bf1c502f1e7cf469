use Rattle.std.proofs.Common.{◌/◌, ◌%◌, sym, ap, ◌∙◌, subst}
use Rattle.group_traces.specs.Cells.{word_trace, cell_at, word_at, IsPut, FitsWith}
use Rattle.group_traces.specs.Traces.{part_with}
use Rattle.group_traces.specs.declared.cell.TracedWord.{TracedWord}
use Rattle.group_traces.proofs.Keeping.{read_at, whole_holds}
use Rattle.group_traces.proofs.Making.{apart_written, apart_own, apart_others, whole_written, whole_own, whole_others}
use Rattle.group_traces.proofs.traces.Traces.write.Goals as goal

pub with-requires-clause-holds : goal.with-requires-clause-holds
with-requires-clause-holds c =
    let t = c.args.self.now in
    let i = c.args.i in
    let m = c.args.first % 32 / 4 in
    let w = c.index.result.now in
    let read = read_at t.cells.items i c.word_of-n.result m w c.requires.inside c.index.ensures c.word_of-n.ensures.value in
    whole_holds t.apart.items (cell_at t.cells.items i).key m c.args.x.now c.args.first c.args.count (word_at w c.word_of-n.result) c.in-None.ensures
    (subst (λ (u : TracedWord). FitsWith t.apart.items (cell_at t.cells.items i).key m c.args.x.now c.args.first c.args.count u) (sym read) c.requires.fits)

pub write_apart-requires-clause-there : goal.write_apart-requires-clause-there
write_apart-requires-clause-there c =
    let t = c.args.self.now in
    let i = c.args.i in
    let m = c.args.first % 32 / 4 in
    let read = read_at t.cells.items i c.word_of-n.result m c.index.result.now c.requires.inside c.index.ensures c.word_of-n.ensures.value in
    (subst (λ (u : TracedWord). FitsWith t.apart.items (cell_at t.cells.items i).key m c.args.x.now c.args.first c.args.count u) (sym read ∙ c.in-Some.ensures) c.requires.fits).0

pub returns-in-None-clause-written : goal.returns-in-None-clause-written
returns-in-None-clause-written c =
    let t = c.args.self.now in
    let x = c.args.x.now in
    let i = c.args.i in
    let m = c.args.first % 32 / 4 in
    let v = c.with.result in
    let read = read_at t.cells.items i c.word_of-n.result m c.index.result.now c.requires.inside c.index.ensures c.word_of-n.ensures.value in
    let put = subst (λ n. IsPut t.cells.items i n v c.put.new.self.cells.items) c.word_of-n.ensures.value c.put.ensures.cells in
    whole_written t c.put.new.self i m v c.put.ensures.places c.put.ensures.apart put x c.args.first c.args.count
    (λ l q n k small. c.with.ensures.with l q n k small ∙ ap (λ (u : TracedWord). part_with x c.args.first c.args.count k (word_trace l q n u k)) read)

pub returns-in-None-clause-own : goal.returns-in-None-clause-own
returns-in-None-clause-own c = whole_own c.args.self.now c.put.new.self c.args.i c.word_of-n.result c.with.result c.put.ensures.places c.put.ensures.apart c.put.ensures.cells

pub returns-in-None-clause-others : goal.returns-in-None-clause-others
returns-in-None-clause-others c m y f k ne =
    whole_others c.args.self.now c.put.new.self c.args.i c.word_of-n.result c.with.result c.put.ensures.places c.put.ensures.apart c.put.ensures.cells m y f k (λ e. ne (e ∙ c.word_of-n.ensures.value))

pub returns-in-Some-clause-written : goal.returns-in-Some-clause-written
returns-in-Some-clause-written c =
    let t = c.args.self.now in
    let i = c.args.i in
    let m = c.args.first % 32 / 4 in
    let read = read_at t.cells.items i c.word_of-n.result m c.index.result.now c.requires.inside c.index.ensures c.word_of-n.ensures.value in
    apart_written t c.write_apart.new.self c.args.x.now c.args.first c.args.count c.in-Some.at i m c.write_apart.ensures.places c.write_apart.ensures.cells c.write_apart.ensures.apart (sym read ∙ c.in-Some.ensures) c.requires.fits

pub returns-in-Some-clause-own : goal.returns-in-Some-clause-own
returns-in-Some-clause-own c =
    apart_own c.args.self.now c.write_apart.new.self c.args.x.now c.args.first c.args.count c.in-Some.at c.args.i c.word_of-n.result c.write_apart.ensures.places c.write_apart.ensures.cells c.write_apart.ensures.apart

pub returns-in-Some-clause-others : goal.returns-in-Some-clause-others
returns-in-Some-clause-others c m y f k ne =
    apart_others c.args.self.now c.write_apart.new.self c.args.x.now c.args.first c.args.count c.in-Some.at c.args.i c.word_of-n.result c.write_apart.ensures.places c.write_apart.ensures.cells c.write_apart.ensures.apart m y f k
