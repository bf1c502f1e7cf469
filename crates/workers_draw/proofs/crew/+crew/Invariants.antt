use Rattle.workers_draw.proofs.crew.+crew.Given as goal

abbrev pub decreases-crew : goal.decreases-crew
decreases-crew g l = l.workers

abbrev pub decreases-join+arg3 : goal.decreases-join+arg3
decreases-join+arg3 g l = l.rest
