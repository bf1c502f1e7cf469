use Rattle.std.proofs.Common.{◌<◌, length, arith}
use Rattle.clsyntax_lex.proofs.NameLemmas.{texts-fold_more}
use Rattle.clsyntax_lex.proofs.names.NameTable.of_entries.Goals as goal

pub loop-entry-preserved : goal.loop-entry-preserved
loop-entry-preserved c =
    let inside : c.loop-entry.entry-index < length c.args.given.now = omega arith in
    texts-fold_more c.args.given.now c.loop-entry.entry-index _ _ _ inside c.in_ok-insert.ensures.keys c.loop-entry.invariant
