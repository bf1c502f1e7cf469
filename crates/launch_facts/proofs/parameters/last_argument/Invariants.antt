use Rattle.launch_facts.specs.Commands.{did, IsLast}
use Rattle.launch_facts.specs.Parameters.{sets}
use Rattle.launch_facts.proofs.parameters.last_argument.Given as goal

abbrev pub invariant-loop-number : goal.invariant-loop-number
invariant-loop-number l = IsLast (did (sets l.wanted l.index) l.commands l.done) l.number l.found
