use Rattle.std.proofs.Common.{◌+◌, ◌-◌, vec_len}
use Rattle.wide_sources.proofs.sources.make_room.Given as goal

abbrev pub decreases-loop-trees : goal.decreases-loop-trees
decreases-loop-trees l = l.program + 1 - vec_len l.trees
