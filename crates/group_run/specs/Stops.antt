-- The stops of items that brief ones stand for (own, on OpenCL 1.2, 6.12.8).
use Rattle.std.specs.Prelude.{ℕ, List, take}
use Rattle.clmodel.specs.declared.action.Stop.{Stop}
use Rattle.clmodel.specs.declared.action.Stop.TheVariants.{At, Ended}
use Rattle.group_run.specs.declared.brief_stop.BriefStop.{BriefStop}
use Rattle.group_run.specs.declared.brief_stop.BriefStop.TheVariants as brief

-- the stop that a brief one stands for, by the numbers of the turns that the item's loops have made, the outermost loop
-- first: those of the loops round a barrier are the first of them
abbrev pub stop_from : BriefStop → List ℕ → Stop
stop_from (brief.At site depth) turns = At (record { site = site; turns = take depth turns })
stop_from brief.Ended turns = Ended
