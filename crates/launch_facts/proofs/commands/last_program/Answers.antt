use Rattle.launch_facts.specs.Commands.{makes_program, did}
use Rattle.launch_facts.proofs.Lasts.{last_more}
use Rattle.launch_facts.proofs.commands.last_program.Goals as goal

pub loop-number-preserved : goal.loop-number-preserved
loop-number-preserved c =
    last_more (did (makes_program c.args.wanted.now) c.args.commands.now c.args.done.now) c.loop-number.number c.made_program.result c.loop-number.found c.this_or_earlier-found.result
    c.made_program.ensures c.this_or_earlier-found.ensures c.loop-number.invariant
