use Rattle.std.proofs.Common.{List, refl, subst}
use Rattle.device.specs.Machine.{opening}
use Rattle.host_commands.specs.declared.command.Command.{Command}
use Rattle.placed_scripts.proofs.Placing.{is_told}
use Rattle.wide_faults.specs.Faults.{TellsFaults}
use Rattle.wide_faults.proofs.faults.fault_asides.Goals as goal

pub returns-clause-told : goal.returns-clause-told
returns-clause-told c =
    let read = c.in_ok-commands.field-0 in
    let by = c.told_script-by.result in
    let start = opening c.args.configuration in
    record {
      commands = read.commands.items;
      by = by;
      is = c.in_ok-commands.ensures.found;
      lines =
          is_told c.args.script.now read.commands.items read.commands.items read.places.items c.as_slice.result.now c.args.written by c.in_ok-commands.ensures.placed refl c.as_slice.ensures.value
          c.told_script-by.ensures;
      told = subst (λ (cs : List Command). TellsFaults c.args.all by.places.now 0 start cs c.in_ok-text.text.items) c.as_slice-2.ensures.value c.in_ok-text.ensures;
    }
