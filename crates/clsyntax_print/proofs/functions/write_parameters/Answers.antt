use Rattle.std.proofs.Common.{◌-◌, ◌<◌, length, take, drop, get_or, rules}
use Rattle.std.proofs.lemmas.Result.{err_from_is_err_and}
use Rattle.clsyntax_print.proofs.Lists.{parameters_behind, no_parameter, item_of, parameters_first}
use Rattle.clsyntax_print.proofs.WritingLemmas.{passed_then, stopped_behind, passed_item, stopped_item, passed_all}
use Rattle.clsyntax_print.proofs.functions.write_parameters.Goals as goal

pub returns-in_err-write_parameter-2 : goal.returns-in_err-write_parameter-2
returns-in_err-write_parameter-2 g c rest =
    let ps = take (length c.args.parameters.now - 1) (drop 1 c.args.parameters.now) in
    let i = c.loop-parameter.parameter-index in
    let inside : i < length ps = search rules in
    let p = err_from_is_err_and c.from_residual-in_err-write_parameter-2.result c.from_residual-in_err-write_parameter-2.ensures.1 in
    rw (p.1, parameters_first c.args.parameters.now c.in-len1-up.len_at_least rest)
    (stopped_behind (c.in_ok-write_parameter.ensures _)
    (stopped_item (λ qs. parameters_behind qs rest) ps i (get_or ps i no_parameter) (item_of ps i inside) inside (c.loop-parameter.invariant rest) (c.in_err-write_parameter-2.ensures _)))

pub loop-parameter-preserved : goal.loop-parameter-preserved
loop-parameter-preserved g c rest =
    let ps = take (length c.args.parameters.now - 1) (drop 1 c.args.parameters.now) in
    let i = c.loop-parameter.parameter-index in
    let inside : i < length ps = search rules in
    passed_item (λ qs. parameters_behind qs rest) ps i (get_or ps i no_parameter) (item_of ps i inside) inside (c.loop-parameter.invariant rest) (c.in_ok-write_parameter-2.ensures _)

pub returns : goal.returns
returns g c rest =
    rw (parameters_first c.args.parameters.now c.in-len1-up.len_at_least rest)
    (passed_then (c.in_ok-write_parameter.ensures _) (passed_all (λ qs. parameters_behind qs rest) _ c.loop-parameter.parameter-index (search rules) (c.loop-parameter.invariant rest)))
