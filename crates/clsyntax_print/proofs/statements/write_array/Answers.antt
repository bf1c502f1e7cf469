use Rattle.clsyntax_print.proofs.WritingLemmas.{passes_then}
use Rattle.clsyntax_print.proofs.statements.write_array.Goals as goal

pub returns : goal.returns
returns g c rest = passes_then _ rest c.write_tokens.result (c.in_ok-write_if.ensures _) (c.write_tokens.ensures rest)
