use Rattle.std.proofs.Common.{◌∙◌, sym, ap}
use Rattle.group_traces.specs.Cells.{placed_trace}
use Rattle.group_traces.proofs.traces.Traces.found.Goals as goal

pub returns-in-None : goal.returns-in-None
returns-in-None c b =
    let t = c.args.self.now in
    ap (placed_trace t.cells.items t.apart.items c.args.key b) (sym c.in-None.ensures)

pub returns-then-is_at : goal.returns-then-is_at
returns-then-is_at c = record { there = sym c.in-Some.ensures; inside = c.is_at.ensures.inside c.if-is_at.true; own = c.is_at.ensures.own c.if-is_at.true }

pub returns-else-is_at : goal.returns-else-is_at
returns-else-is_at c b =
    let t = c.args.self.now in
    ap (placed_trace t.cells.items t.apart.items c.args.key b) (sym c.in-Some.ensures) ∙ c.is_at.ensures.other c.if-is_at.false b
