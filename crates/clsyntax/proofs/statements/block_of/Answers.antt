-- A block is read as its statements.
use Rattle.clmodel.proofs.Trees.{block_view}
use Rattle.clsyntax.proofs.statements.block_of.Goals as goal

pub returns : goal.returns
returns c = block_view c.args.at c.args.body
