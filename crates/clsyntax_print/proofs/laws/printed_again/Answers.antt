-- By the laws of printing.
use Rattle.clsyntax_print.proofs.PrintedPrograms.{is_printed}
use Rattle.clsyntax_print.proofs.PrintedWords.{has_words}
use Rattle.clsyntax_print.proofs.laws.printed_again.Goals as goal

pub returns : goal.returns
returns c = record { tree = is_printed; words = has_words }
