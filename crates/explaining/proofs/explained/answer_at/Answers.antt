use Rattle.device.specs.Machine.{machine_of, opening}
use Rattle.placed_scripts.proofs.Placing.{has_places}
use Rattle.explaining.proofs.Walking.{found_at, stands_behind}
use Rattle.explaining.proofs.Writing.{says_one}
use Rattle.explaining.proofs.explained.answer_at.Goals as goal

pub end_text-requires-clause-placed : goal.end_text-requires-clause-placed
end_text-requires-clause-placed c =
    has_places c.args.performed.now.given.script.now c.args.performed.now.commands.now c.args.performed.now.given.written c.args.performed.now.told c.requires.placed

pub end_text-requires-clause-ended : goal.end_text-requires-clause-ended
end_text-requires-clause-ended c =
    stands_behind (opening c.args.performed.now.options.configuration) c.args.performed.now.commands.now (machine_of c.args.device.now) c.args.end c.requires.walked

pub returns-clause-found : goal.returns-clause-found
returns-clause-found c =
    found_at c.args.performed.now.options.configuration c.args.performed.now.given.script.now c.args.performed.now.commands.now (machine_of c.args.device.now) c.args.end c.is_end-yes.result
    c.requires.script c.requires.walked c.is_end-yes.ensures

pub returns-clause-says : goal.returns-clause-says
returns-clause-says c =
    says_one c.args.performed.now.options c.args.performed.now.given.name.now c.args.performed.now.given.script.now c.args.performed.now.given.written c.args.performed.now.told c.args.performed.now.commands.now c.args.performed.now.done.now (machine_of c.args.device.now) c.args.end
    c.is_end-yes.result _ c.requires.script c.requires.placed c.requires.walked c.requires.noted c.in_ok-text.ensures.tells c.is_end-yes.ensures
