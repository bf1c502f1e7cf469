use Rattle.std.proofs.Common.{sym, subst}
use Rattle.explore_runs.specs.Explored.{AreLeft, IsFound}
use Rattle.explore_runs.specs.Orders.{IsOrderEnd}
use Rattle.explore_runs.proofs.explorer.Explorer.note.Goals as goal

pub returns-in-Complete : goal.returns-in-Complete
returns-in-Complete c = λ launch were ends. record {
  left = c.add_complete.ensures.left launch were.left (subst (IsOrderEnd launch) c.in-Complete.is ends);
  found = subst (IsFound launch) (sym c.add_complete.ensures.found) were.found;
}

pub returns-in-Shown : goal.returns-in-Shown
returns-in-Shown c = λ launch were ends. record {
  left = subst (AreLeft launch) (sym c.add_fault.ensures.left) were.left;
  found = c.add_fault.ensures.found launch were.found (subst (IsOrderEnd launch) c.in-Shown.is ends);
}

pub returns-in-GivenUp : goal.returns-in-GivenUp
returns-in-GivenUp c = λ launch were ends. record { left = were.left; found = were.found }
