use Rattle.launch_facts.specs.Commands.{did}
use Rattle.launch_facts.specs.Parameters.{sets}
use Rattle.launch_facts.proofs.Lasts.{last_more}
use Rattle.launch_facts.proofs.parameters.last_argument.Goals as goal

pub loop-number-preserved : goal.loop-number-preserved
loop-number-preserved c =
    last_more (did (sets c.args.wanted.now c.args.index) c.args.commands.now c.args.done.now) c.loop-number.number c.did_set.result c.loop-number.found c.this_or_earlier-found.result
    c.did_set.ensures c.this_or_earlier-found.ensures c.loop-number.invariant
