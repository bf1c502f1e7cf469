use Rattle.std.proofs.lemmas.Result.{err_from_is_err_and}
use Rattle.clsyntax_print.proofs.WritingLemmas.{passed_then, stopped_behind, passes_then}
use Rattle.clsyntax_print.proofs.statements.write_loop_head.Goals as goal

pub returns-in_err-write_part : goal.returns-in_err-write_part
returns-in_err-write_part g c rest =
    let p = err_from_is_err_and c.from_residual-in_err-write_part.result c.from_residual-in_err-write_part.ensures.1 in
    rw p.1 (stopped_behind (c.in_ok-write_tokens.ensures _) (c.in_err-write_part.ensures _))

pub returns-in_err-write_condition : goal.returns-in_err-write_condition
returns-in_err-write_condition g c rest =
    let p = err_from_is_err_and c.from_residual-in_err-write_condition.result c.from_residual-in_err-write_condition.ensures.1 in
    rw p.1 (stopped_behind (passed_then (c.in_ok-write_tokens.ensures _) (c.in_ok-write_part.ensures _)) (c.in_err-write_condition.ensures _))

pub returns : goal.returns
returns g c rest =
    passes_then _ rest c.write_part-2.result (passed_then (c.in_ok-write_tokens.ensures _) (passed_then (c.in_ok-write_part.ensures _) (c.in_ok-write_condition.ensures _))) (c.write_part-2.ensures rest)
