use Rattle.std.proofs.Common.{rules}
use Rattle.std.proofs.lemmas.Result.{err_from_is_err_and}
use Rattle.clsyntax_print.proofs.Lists.{functions_each, funcs_each}
use Rattle.clsyntax_print.proofs.WritingLemmas.{passed_item, stopped_item, passed_all}
use Rattle.clsyntax_print.proofs.functions.write_functions.Goals as goal

pub returns-in_err-write_function : goal.returns-in_err-write_function
returns-in_err-write_function g c rest =
    let p = err_from_is_err_and c.from_residual.result c.from_residual.ensures.1 in
    rw (p.1, funcs_each c.args.functions.now rest)
    (stopped_item (λ fs. functions_each fs rest) _ c.loop-function.function-index c.function-item.result c.function-item.is (search rules) (c.loop-function.invariant rest) (c.in_err-write_function.ensures _))

pub loop-function-preserved : goal.loop-function-preserved
loop-function-preserved g c rest =
    passed_item (λ fs. functions_each fs rest) _ c.loop-function.function-index c.function-item.result c.function-item.is (search rules) (c.loop-function.invariant rest) (c.in_ok-write_function.ensures _)

pub returns : goal.returns
returns g c rest = rw (funcs_each c.args.functions.now rest) (passed_all (λ fs. functions_each fs rest) _ c.loop-function.function-index (search rules) (c.loop-function.invariant rest))
