use Rattle.std.proofs.Common.{sym}
use Rattle.std.proofs.lemmas.Result.{err_from_is_err_and}
use Rattle.clsyntax_print.proofs.Lists.{simple_call}
use Rattle.clsyntax_print.proofs.WritingLemmas.{passed_then, stopped_behind, passes_then}
use Rattle.clsyntax_print.proofs.statements.write_simple.Goals as goal

pub returns-in-None : goal.returns-in-None
returns-in-None g c rest = rw (c.in-Declare.is, c.in-None.is) (passes_then _ rest c.write_tokens.result (c.in_ok-write_type-in-Declare.ensures _) (c.write_tokens.ensures rest))

pub returns-in-Some : goal.returns-in-Some
returns-in-Some g c rest = rw (c.in-Declare.is, c.in-Some.is, sym c.deref.ensures) (passes_then _ rest c.write_between.result (c.in_ok-write_type-in-Declare.ensures _) (c.write_between.ensures rest))

pub returns-in_ok-write_target-in-Assign : goal.returns-in_ok-write_target-in-Assign
returns-in_ok-write_target-in-Assign g c rest =
    rw (c.in-Assign.is, sym c.deref-in-Assign.ensures, sym c.deref-in-Assign-2.ensures, sym c.assign_kind.ensures)
    (passes_then _ rest c.write_between-in-Assign.result (c.in_ok-write_target-in-Assign.ensures _) (c.write_between-in-Assign.ensures rest))

pub returns-in_ok-write_tokens-in-Step : goal.returns-in_ok-write_tokens-in-Step
returns-in_ok-write_tokens-in-Step g c rest =
    rw (c.in-Step.is, sym c.deref-in-Step.ensures, sym c.step_kind.ensures) (passes_then _ rest c.write_target-in-Step.result (c.in_ok-write_tokens-in-Step.ensures _) (c.write_target-in-Step.ensures rest))

pub returns-in_err-write_arguments-in-Call : goal.returns-in_err-write_arguments-in-Call
returns-in_err-write_arguments-in-Call g c rest =
    let p = err_from_is_err_and c.from_residual-in_err-write_arguments-in-Call.result c.from_residual-in_err-write_arguments-in-Call.ensures.1 in
    rw (p.1, simple_call c.in-Call.at c.in-Call.name c.args.statement.now c.in-Call.arguments c.deref-in-Call.result.now rest c.in-Call.is c.deref-in-Call.ensures.value)
    (stopped_behind (c.in_ok-write_tokens-in-Call.ensures _) (c.in_err-write_arguments-in-Call.ensures _))

pub returns-in_ok-write_arguments-in-Call : goal.returns-in_ok-write_arguments-in-Call
returns-in_ok-write_arguments-in-Call g c rest =
    rw (simple_call c.in-Call.at c.in-Call.name c.args.statement.now c.in-Call.arguments c.deref-in-Call.result.now rest c.in-Call.is c.deref-in-Call.ensures.value)
    (passes_then _ rest c.write_tokens-in-Call-2.result (passed_then (c.in_ok-write_tokens-in-Call.ensures _) (c.in_ok-write_arguments-in-Call.ensures _)) (c.write_tokens-in-Call-2.ensures rest))
