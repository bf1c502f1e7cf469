use Rattle.launch_facts.specs.Commands.{makes_program, did, IsLast}
use Rattle.launch_facts.proofs.commands.last_program.Given as goal

abbrev pub invariant-loop-number : goal.invariant-loop-number
invariant-loop-number l = IsLast (did (makes_program l.wanted) l.commands l.done) l.number l.found
