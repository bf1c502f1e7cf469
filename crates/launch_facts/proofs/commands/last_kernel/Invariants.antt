use Rattle.launch_facts.specs.Commands.{makes_kernel, did, IsLast}
use Rattle.launch_facts.proofs.commands.last_kernel.Given as goal

abbrev pub invariant-loop-number : goal.invariant-loop-number
invariant-loop-number l = IsLast (did (makes_kernel l.wanted) l.commands l.done) l.number l.found
