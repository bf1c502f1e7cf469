use Rattle.std.proofs.Common.{◌∙◌, Bool, List, string_bytes, subst}
use Rattle.std.specs.Option.{IfSome}
use Rattle.std.specs.Result.{IfOk}
use Rattle.device.specs.Machine.{machine_of}
use Rattle.explaining.proofs.Schedules.{led_there, told_there, untold_there}
use Rattle.explaining.proofs.Writing.{whole_there}
use Rattle.telling.specs.Told.{HasWhole}
use Rattle.explaining.specs.Whole.{tell_options}
use Rattle.explaining.proofs.explained.told_at.Goals as goal

pub returns-clause-told : goal.returns-clause-told
returns-clause-told c =
    told_there c.args.options.configuration c.args.commands.now c.args.ticket c.args.fault.now c.args.schedule (machine_of c.perform_all.new.device) c.in_ok-done.done.items c.explain_case.result
    (led_there c.args.options.configuration c.args.commands.now c.in_ok-before.before.items c.args.ticket (machine_of c.new-device.result) (machine_of c.perform_all.new.device) c.in_ok-done.done.items c.new-device.ensures
    (c.in_ok-before.ensures ∙ c.split_at.ensures.front) c.in_ok-done.ensures)
    c.explain_case.ensures.told

pub returns-clause-whole : goal.returns-clause-whole
returns-clause-whole c =
    whole_there c.args.options c.args.given.name.now c.args.told c.args.commands.now c.args.ticket c.args.fault.now c.args.schedule (machine_of c.perform_all.new.device) c.in_ok-done.done.items c.explain_case.result
    (led_there c.args.options.configuration c.args.commands.now c.in_ok-before.before.items c.args.ticket (machine_of c.new-device.result) (machine_of c.perform_all.new.device) c.in_ok-done.done.items c.new-device.ensures
    (c.in_ok-before.ensures ∙ c.split_at.ensures.front) c.in_ok-done.ensures)
    (subst
    (λ (l : List Bool).
    IfOk c.explain_case.result
    (λ found.
    IfSome found
    (λ told.
    HasWhole (machine_of c.perform_all.new.device) (tell_options c.args.options) c.args.given.name.now c.args.told c.args.commands.now l c.args.ticket c.args.fault.now c.args.schedule told.schedule (string_bytes told.source) told.whole)))
    c.as_slice.ensures.value c.explain_case.ensures.whole)

pub returns-clause-failed : goal.returns-clause-failed
returns-clause-failed c =
    untold_there c.args.options.configuration c.args.commands.now c.args.ticket (machine_of c.perform_all.new.device) c.in_ok-done.done.items c.explain_case.result
    (led_there c.args.options.configuration c.args.commands.now c.in_ok-before.before.items c.args.ticket (machine_of c.new-device.result) (machine_of c.perform_all.new.device) c.in_ok-done.done.items c.new-device.ensures
    (c.in_ok-before.ensures ∙ c.split_at.ensures.front) c.in_ok-done.ensures)
    c.explain_case.ensures.failed
