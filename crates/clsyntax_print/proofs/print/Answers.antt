use Rattle.std.proofs.Common.{[]}
use Rattle.clmodel.specs.Tree.{program}
use Rattle.clsyntax_print.proofs.Joining.{read_back}
use Rattle.clsyntax_print.proofs.WritingLemmas.{wrote_all}
use Rattle.clsyntax_print.proofs.print.Goals as goal

pub returns-in-Ok-clause-text : goal.returns-in-Ok-clause-text
returns-in-Ok-clause-text g c = wrote_all (rw (c.deref.ensures.value, c.deref-2.ensures.value) at (c.in-Ok.ensures []))

pub returns-in-Ok-clause-again : goal.returns-in-Ok-clause-again
returns-in-Ok-clause-again g c is = read_back is.0 (program c.args.tree.now) is.1

pub returns-in-Err-clause-text : goal.returns-in-Err-clause-text
returns-in-Err-clause-text g c = rw (c.deref.ensures.value, c.deref-2.ensures.value) at (c.in-Err.ensures [])

pub returns-in-Err-clause-again : goal.returns-in-Err-clause-again
returns-in-Err-clause-again g c is = read_back is.0 (program c.args.tree.now) is.1
