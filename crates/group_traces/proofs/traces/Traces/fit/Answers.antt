use Rattle.std.proofs.Common.{◌/◌, ◌%◌}
use Rattle.std.proofs.lemmas.Result.{on_ok_weaker}
use Rattle.group_traces.proofs.Keeping.{read_fits}
use Rattle.group_traces.proofs.traces.Traces.fit.Goals as goal

pub returns-then-fits-clause-fits : goal.returns-then-fits-clause-fits
returns-then-fits-clause-fits c =
    let t = c.args.self.now in
    read_fits t.apart.items c.deref.result.now t.cells.items c.args.i c.word_of-n.result (c.args.first % 32 / 4) c.args.x.now c.args.first c.args.count c.index-cell.result.now c.deref.ensures.value c.requires.own.inside
    c.index-cell.ensures c.word_of-n.ensures.value (c.fits.ensures c.if-fits.true)

pub returns-clause-fits : goal.returns-clause-fits
returns-clause-fits c = on_ok_weaker c.split.result (λ h. h c.args.x.now c.args.first c.args.count) c.split.ensures.fits
