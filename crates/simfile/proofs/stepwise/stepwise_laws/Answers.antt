use Rattle.simfile.proofs.LineLaws.{whole_read, whole_none, no_line, too_few}
use Rattle.simfile.proofs.stepwise.stepwise_laws.Goals as goal

pub returns : goal.returns
returns c = record {
  whole_read = whole_read;
  whole_none = whole_none;
  no_line = no_line;
  too_few = too_few;
}
