use Rattle.launch_facts.specs.Commands.{makes_kernel, did}
use Rattle.launch_facts.proofs.Lasts.{last_more}
use Rattle.launch_facts.proofs.commands.last_kernel.Goals as goal

pub loop-number-preserved : goal.loop-number-preserved
loop-number-preserved c =
    last_more (did (makes_kernel c.args.wanted.now) c.args.commands.now c.args.done.now) c.loop-number.number c.made_kernel.result c.loop-number.found c.this_or_earlier-found.result
    c.made_kernel.ensures c.this_or_earlier-found.ensures c.loop-number.invariant
