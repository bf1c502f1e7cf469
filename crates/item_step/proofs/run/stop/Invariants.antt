use Rattle.item_state.specs.Running.{GoesOn}
use Rattle.item_state.specs.Sound.{left}
use Rattle.item_step.proofs.run.stop.Given as goal

abbrev pub invariant-loop-stop : goal.invariant-loop-stop
invariant-loop-stop l = GoesOn l.fn.machine l.machine

abbrev pub decreases-loop-stop : goal.decreases-loop-stop
decreases-loop-stop l = left l.machine
