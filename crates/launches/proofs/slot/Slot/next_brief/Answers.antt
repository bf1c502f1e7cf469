use Rattle.launches.proofs.slot.Slot.next_brief.Goals as goal

pub returns-clause-runs : goal.returns-clause-runs
returns-clause-runs g c answers held = c.goes_on_brief.ensures.runs (g.D.Runnable.started c.args.launch.now c.args.item) answers (c.start.ensures.runs answers held)
