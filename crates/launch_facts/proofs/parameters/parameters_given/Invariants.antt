use Rattle.std.specs.List.{All}
use Rattle.launch_facts.specs.Parameters.{IsGiven, AreChosen, TellsOf, indexes}
use Rattle.launch_facts.proofs.parameters.parameters_given.Given as goal

abbrev pub invariant-loop-index : goal.invariant-loop-index
invariant-loop-index l = AreChosen (IsGiven l.commands l.done l.kernel l.buffer) l.index (indexes l.found.items) × All (TellsOf l.byte l.parameters l.names) l.found.items
