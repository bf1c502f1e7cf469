use Rattle.spaces.proofs.cells.+read.Given as goal

abbrev pub decreases-read : goal.decreases-read
decreases-read g l = l.count
