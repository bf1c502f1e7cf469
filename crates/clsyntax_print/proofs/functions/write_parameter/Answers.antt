use Rattle.std.proofs.lemmas.Result.{err_from_is_err_and}
use Rattle.clsyntax_print.proofs.WritingLemmas.{passed_then, stopped_behind, passes_then}
use Rattle.clsyntax_print.proofs.functions.write_parameter.Goals as goal

pub returns-in_err-write_type : goal.returns-in_err-write_type
returns-in_err-write_type g c rest =
    let p = err_from_is_err_and c.from_residual-in_err-write_type.result c.from_residual-in_err-write_type.ensures.1 in
    rw p.1 (stopped_behind (c.in_ok-write_tokens.ensures _) (c.in_err-write_type.ensures _))

pub returns : goal.returns
returns g c rest = passes_then _ rest c.write_tokens-2.result (passed_then (c.in_ok-write_tokens.ensures _) (c.in_ok-write_type.ensures _)) (c.write_tokens-2.ensures rest)
