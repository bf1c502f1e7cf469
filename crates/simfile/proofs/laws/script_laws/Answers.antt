use Rattle.simfile.proofs.Grammar.{command_takes, command_again}
use Rattle.simfile.proofs.Scripts.{one_script, keeps, keeps_more, adds, either_one, not_both, one_bad_line}
use Rattle.simfile.proofs.laws.script_laws.Goals as goal

pub returns : goal.returns
returns c = record {
  takes = command_takes;
  again = command_again;
  one_script = one_script;
  keeps = keeps;
  keeps_more = keeps_more;
  adds = adds;
  either_one = either_one;
  not_both = not_both;
  one_bad_line = one_bad_line;
}
