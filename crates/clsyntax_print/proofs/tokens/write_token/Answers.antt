use Rattle.std.proofs.lemmas.Result.{err_from_is_err_and}
use Rattle.clsyntax_print.proofs.WritingLemmas.{stopped_in_token, passes_token}
use Rattle.clsyntax_print.proofs.tokens.write_token.Goals as goal

pub returns-in_err-write_spelling : goal.returns-in_err-write_spelling
returns-in_err-write_spelling g c rest =
    let p = err_from_is_err_and c.from_residual.result c.from_residual.ensures.1 in
    rw p.1 (stopped_in_token c.args.names.now c.args.kind rest c.in_err-write_spelling.ensures)

pub returns : goal.returns
returns g c rest = passes_token _ c.args.names.now c.args.kind rest c.write.result c.in_ok-write_spelling.ensures c.write.ensures
