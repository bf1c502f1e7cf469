use Rattle.std.proofs.Common.{sym}
use Rattle.std.proofs.lemmas.Result.{err_from_is_err_and}
use Rattle.clsyntax_print.proofs.WritingLemmas.{passed_then, stopped_behind, passes_then}
use Rattle.clsyntax_print.proofs.functions.write_function.Goals as goal

pub returns-in_err-write_tokens : goal.returns-in_err-write_tokens
returns-in_err-write_tokens g c rest =
    let p = err_from_is_err_and c.from_residual-in_err-write_tokens.result c.from_residual-in_err-write_tokens.ensures.1 in
    rw (p.1, sym c.result_kind-result_kind.ensures) (stopped_behind (c.in_ok-write_if.ensures _) (c.in_err-write_tokens.ensures _))

pub returns-in_err-write_parameters : goal.returns-in_err-write_parameters
returns-in_err-write_parameters g c rest =
    let p = err_from_is_err_and c.from_residual-in_err-write_parameters.result c.from_residual-in_err-write_parameters.ensures.1 in
    rw (p.1, sym c.result_kind-result_kind.ensures, sym c.deref.ensures.value) (stopped_behind (passed_then (c.in_ok-write_if.ensures _) (c.in_ok-write_tokens.ensures _)) (c.in_err-write_parameters.ensures _))

pub returns-in_err-write_tokens-2 : goal.returns-in_err-write_tokens-2
returns-in_err-write_tokens-2 g c rest =
    let p = err_from_is_err_and c.from_residual-in_err-write_tokens-2.result c.from_residual-in_err-write_tokens-2.ensures.1 in
    rw (p.1, sym c.result_kind-result_kind.ensures, sym c.deref.ensures.value) (stopped_behind (passed_then (c.in_ok-write_if.ensures _) (passed_then (c.in_ok-write_tokens.ensures _) (c.in_ok-write_parameters.ensures _))) (c.in_err-write_tokens-2.ensures _))

pub returns-in_err-write_statements : goal.returns-in_err-write_statements
returns-in_err-write_statements g c rest =
    let p = err_from_is_err_and c.from_residual-in_err-write_statements.result c.from_residual-in_err-write_statements.ensures.1 in
    rw (p.1, sym c.result_kind-result_kind.ensures, sym c.deref.ensures.value, sym c.deref-2.ensures.value) (stopped_behind (passed_then (c.in_ok-write_if.ensures _) (passed_then (c.in_ok-write_tokens.ensures _) (passed_then (c.in_ok-write_parameters.ensures _) (c.in_ok-write_tokens-2.ensures _)))) (c.in_err-write_statements.ensures _))

pub returns : goal.returns
returns g c rest = rw (sym c.result_kind-result_kind.ensures, sym c.deref.ensures.value, sym c.deref-2.ensures.value) (passes_then _ rest c.write_tokens-3.result (passed_then (c.in_ok-write_if.ensures _) (passed_then (c.in_ok-write_tokens.ensures _) (passed_then (c.in_ok-write_parameters.ensures _) (passed_then (c.in_ok-write_tokens-2.ensures _) (c.in_ok-write_statements.ensures _))))) (c.write_tokens-3.ensures rest))
