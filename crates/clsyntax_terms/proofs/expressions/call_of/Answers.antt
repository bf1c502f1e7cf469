-- A call is read as its arguments.
use Rattle.clmodel.proofs.Trees.{call_view}
use Rattle.clsyntax_terms.proofs.expressions.call_of.Goals as goal

pub returns : goal.returns
returns c = call_view c.args.called.at c.args.called.name c.args.arguments
