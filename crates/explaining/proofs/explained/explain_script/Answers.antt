use Rattle.placed_scripts.proofs.Placing.{is_told}
use Rattle.explaining.proofs.explained.explain_script.Goals as goal

pub explain_all-requires-clause-placed : goal.explain_all-requires-clause-placed
explain_all-requires-clause-placed c =
    is_told c.args.given.script.now c.in_ok-commands.field-0.commands.items c.as_slice-then-options.result.now c.in_ok-commands.field-0.places.items c.as_slice.result.now c.args.given.written c.told_script-told.result
    c.in_ok-commands.ensures.placed c.as_slice-then-options.ensures.value c.as_slice.ensures.value c.told_script-told.ensures

pub explain_commands-requires-clause-placed : goal.explain_commands-requires-clause-placed
explain_commands-requires-clause-placed c =
    is_told c.args.given.script.now c.in_ok-commands.field-0.commands.items c.as_slice-2.result.now c.in_ok-commands.field-0.places.items c.as_slice.result.now c.args.given.written c.told_script-told.result
    c.in_ok-commands.ensures.placed c.as_slice-2.ensures.value c.as_slice.ensures.value c.told_script-told.ensures
