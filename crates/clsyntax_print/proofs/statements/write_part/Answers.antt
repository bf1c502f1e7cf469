use Rattle.std.proofs.Common.{sym}
use Rattle.clsyntax_print.proofs.WritingLemmas.{passes_then}
use Rattle.clsyntax_print.proofs.statements.write_part.Goals as goal

pub returns-in_ok-write_simple-in-Some : goal.returns-in_ok-write_simple-in-Some
returns-in_ok-write_simple-in-Some g c rest = rw (c.in-Some.is, sym c.deref.ensures) (passes_then _ rest c.write_tokens-in-Some.result (c.in_ok-write_simple-in-Some.ensures _) (c.write_tokens-in-Some.ensures rest))
