use Rattle.std.proofs.Common.{string_bytes}
use Rattle.device.specs.Machine.{machine_of}
use Rattle.placed_scripts.proofs.Placing.{has_places}
use Rattle.explaining.proofs.Each.{found_all, says_all}
use Rattle.explaining.proofs.every.explain_all.Goals as goal

pub tell_commands-requires-clause-placed : goal.tell_commands-requires-clause-placed
tell_commands-requires-clause-placed c =
    has_places c.args.script.now.given.script.now c.args.script.now.commands.now c.args.script.now.given.written c.args.script.now.told c.requires.placed

pub returns-clause-found : goal.returns-clause-found
returns-clause-found c =
    found_all c.args.script.now.options.configuration c.args.script.now.given.script.now c.args.script.now.commands.now c.in_ok-same.same.items (machine_of c.new-device.result)
    (machine_of c.tell_commands.new.device) c.in_ok-told.told.met c.in_ok-or_word.field-0.yes c.requires.script c.in_ok-same.ensures c.new-device.ensures c.in_ok-told.ensures.met
    c.in_ok-or_word.ensures.yes

pub returns-clause-says : goal.returns-clause-says
returns-clause-says c =
    says_all c.args.script.now.options c.args.script.now.given.name.now c.args.script.now.given.script.now c.args.script.now.given.written c.args.script.now.told c.args.script.now.commands.now c.in_ok-same.same.items c.in_ok-told.ensures.each.0 (machine_of c.new-device.result)
    (machine_of c.tell_commands.new.device) c.in_ok-told.told.met c.in_ok-or_word.field-0.yes (string_bytes c.in_ok-told.told.text) (string_bytes c.in_ok-or_word.field-0.text) c.requires.script c.requires.placed
    c.in_ok-same.ensures c.new-device.ensures c.in_ok-told.ensures.each.1 c.in_ok-told.ensures.met c.in_ok-or_word.ensures.yes c.in_ok-or_word.ensures.some c.in_ok-or_word.ensures.none
