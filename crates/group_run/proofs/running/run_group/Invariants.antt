use Rattle.clmodel.specs.Run.{start}
use Rattle.group_run.proofs.running.run_group.Given as goal

abbrev pub ghost-run_items : goal.ghost-run_items
ghost-run_items g a = start (g.D.Described.launch a.m.now.launch.now)
