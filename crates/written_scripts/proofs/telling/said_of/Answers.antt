use Rattle.written_scripts.proofs.Steps.{said_both, said_fits}
use Rattle.written_scripts.proofs.telling.said_of.Goals as goal

pub returns : goal.returns
returns c = record {
  value = said_both c.args.line.now c.line_says.result c.line_says.ensures.found c.line_says.ensures.only;
  fits = said_fits c.args.line.now c.line_says.result c.line_says.ensures.found;
}
