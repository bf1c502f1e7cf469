use Rattle.std.proofs.Common.{◌≡◌, map, take}
use Rattle.fault_play.specs.PlayedOut.{touch_of}
use Rattle.fault_play.proofs.played.touches_of.Given as goal

abbrev pub invariant-loop-access : goal.invariant-loop-access
invariant-loop-access g l = l.touches.items ≡ map (touch_of (g.D.Described.launch l.launch)) (take l.access-index l.log)
