use Rattle.std.proofs.Common.{◌<◌}
use Rattle.group_log.proofs.rounds.round_of.Given as goal

abbrev pub invariant-loop-period : goal.invariant-loop-period
invariant-loop-period l = l.tried < l.period
