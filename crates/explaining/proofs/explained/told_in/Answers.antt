use Rattle.std.proofs.Common.{arith}
use Rattle.placed_scripts.proofs.Placing.{has_places}
use Rattle.explaining.proofs.Schedules.{explained, no_launch, none_behind, unexplained}
use Rattle.explaining.proofs.Writing.{whole_of}
use Rattle.explaining.proofs.explained.told_in.Goals as goal

pub told_at-requires-clause-placed : goal.told_at-requires-clause-placed
told_at-requires-clause-placed c = has_places c.args.given.script.now c.args.commands.now c.args.given.written c.args.told c.requires.placed

pub returns-clause-explained : goal.returns-clause-explained
returns-clause-explained c =
    explained c.args.options.configuration c.args.given.script.now c.args.schedule.now c.args.commands.now c.in_ok-number.number c.in_ok-number.fault c.in_ok-number.runs c.told_at.result
    c.requires.script c.in_ok-number.ensures.found c.told_at.ensures.told

pub returns-clause-failed : goal.returns-clause-failed
returns-clause-failed c =
    unexplained c.args.options.configuration c.args.given.script.now c.args.schedule.now c.args.commands.now c.in_ok-number.number c.in_ok-number.fault c.in_ok-number.runs c.told_at.result
    c.requires.script c.in_ok-number.ensures.found c.told_at.ensures.failed

pub returns-clause-whole : goal.returns-clause-whole
returns-clause-whole c =
    whole_of c.args.options c.args.given.name.now c.args.given.script.now c.args.given.written c.args.told c.args.schedule.now c.args.commands.now c.in_ok-number.number c.in_ok-number.fault c.in_ok-number.runs c.told_at.result
    c.requires.script c.requires.placed c.in_ok-number.ensures.found c.told_at.ensures.whole

pub returns-then-number-commands-clause-failed : goal.returns-then-number-commands-clause-failed
returns-then-number-commands-clause-failed c =
    no_launch c.args.options.configuration c.args.given.script.now c.args.schedule.now c.args.commands.now c.in_ok-number.number c.in_ok-number.fault c.in_ok-number.runs c.requires.script
    c.in_ok-number.ensures.found (none_behind c.args.commands.now c.in_ok-number.number (omega (arith, c.if-number-commands.true)))
