use Rattle.std.proofs.Common.{◌++◌, refl, sym, rules}
use Rattle.std.proofs.lemmas.Result.{err_from_is_err_and}
use Rattle.clsyntax_print.specs.Printing.{infix_kind}
use Rattle.clsyntax_print.proofs.Lists.{behind_commas, terms_first, term_call, term_binary, term_choice}
use Rattle.clsyntax_print.proofs.WritingLemmas.{passed_then, stopped_behind, passes_then, passed_item, stopped_item, passed_all}
use Rattle.clsyntax_print.proofs.expressions.+expressions.Goals as goal

pub write_arguments-returns-in_err-write_expression : goal.write_arguments-returns-in_err-write_expression
write_arguments-returns-in_err-write_expression g t c rest =
    let p = err_from_is_err_and c.from_residual.result c.from_residual.ensures.1 in
    rw (p.1, terms_first c.args.arguments.now c.first-item.result c.first-item.is c.in-len1-up.len_at_least rest) (c.in_err-write_expression.ensures _)

pub write_arguments-returns-in_err-write_between : goal.write_arguments-returns-in_err-write_between
write_arguments-returns-in_err-write_between g t c rest =
    let p = err_from_is_err_and c.from_residual-in_err-write_between.result c.from_residual-in_err-write_between.ensures.1 in
    rw (p.1, terms_first c.args.arguments.now c.first-item.result c.first-item.is c.in-len1-up.len_at_least rest)
    (stopped_behind (c.in_ok-write_expression.ensures _)
    (stopped_item (λ es. behind_commas es rest) _ c.loop-argument.argument-index c.argument-item.result c.argument-item.is (search rules) (c.loop-argument.invariant rest) (c.in_err-write_between.ensures _)))

pub write_arguments-loop-argument-preserved : goal.write_arguments-loop-argument-preserved
write_arguments-loop-argument-preserved g t c rest =
    passed_item (λ es. behind_commas es rest) _ c.loop-argument.argument-index c.argument-item.result c.argument-item.is (search rules) (c.loop-argument.invariant rest) (c.in_ok-write_between.ensures _)

pub write_arguments-returns : goal.write_arguments-returns
write_arguments-returns g t c rest =
    rw (terms_first c.args.arguments.now c.first-item.result c.first-item.is c.in-len1-up.len_at_least rest)
    (passed_then (c.in_ok-write_expression.ensures _) (passed_all (λ es. behind_commas es rest) _ c.loop-argument.argument-index (search rules) (c.loop-argument.invariant rest)))

pub write_between-returns-in_err-write_expression : goal.write_between-returns-in_err-write_expression
write_between-returns-in_err-write_expression g t c rest =
    let p = err_from_is_err_and c.from_residual-in_err-write_expression.result c.from_residual-in_err-write_expression.ensures.1 in
    rw p.1 (stopped_behind (c.in_ok-write_tokens.ensures _) (c.in_err-write_expression.ensures (c.args.back.now ++ rest)))

pub write_between-returns : goal.write_between-returns
write_between-returns g t c rest = passes_then _ rest c.write_tokens-2.result (passed_then (c.in_ok-write_tokens.ensures _) (c.in_ok-write_expression.ensures (c.args.back.now ++ rest))) (c.write_tokens-2.ensures rest)

pub write_expression-returns-in-Number : goal.write_expression-returns-in-Number
write_expression-returns-in-Number g t c rest = rw c.in-Number.is (c.write_tokens.ensures rest)

pub write_expression-returns-in-Variable : goal.write_expression-returns-in-Variable
write_expression-returns-in-Variable g t c rest = rw c.in-Variable.is (c.write_tokens-in-Variable.ensures rest)

pub write_expression-returns-in-Element : goal.write_expression-returns-in-Element
write_expression-returns-in-Element g t c rest = rw (c.in-Element.is, sym c.deref.ensures) (c.write_between.ensures rest)

pub write_expression-returns-in-ElementAddress : goal.write_expression-returns-in-ElementAddress
write_expression-returns-in-ElementAddress g t c rest = rw (c.in-ElementAddress.is, sym c.deref-in-ElementAddress.ensures) (c.write_between-in-ElementAddress.ensures rest)

pub write_expression-returns-in-Dereference : goal.write_expression-returns-in-Dereference
write_expression-returns-in-Dereference g t c rest = rw (c.in-Dereference.is, sym c.deref-in-Dereference.ensures) (c.write_between-in-Dereference.ensures rest)

pub write_expression-returns-in-Unary : goal.write_expression-returns-in-Unary
write_expression-returns-in-Unary g t c rest = rw (c.in-Unary.is, sym c.deref-in-Unary.ensures, sym c.unary_kind.ensures) (c.write_between-in-Unary.ensures rest)

pub write_expression-returns-in-Cast : goal.write_expression-returns-in-Cast
write_expression-returns-in-Cast g t c rest = rw (c.in-Cast.is, sym c.deref-in-Cast.ensures) (c.write_between-in-Cast.ensures rest)

pub write_expression-returns-in_err-write_arguments-in-Call : goal.write_expression-returns-in_err-write_arguments-in-Call
write_expression-returns-in_err-write_arguments-in-Call g t c rest =
    let p = err_from_is_err_and c.from_residual-in_err-write_arguments-in-Call.result c.from_residual-in_err-write_arguments-in-Call.ensures.1 in
    rw (p.1, term_call c.args.wanted c.in-Call.at c.in-Call.name c.args.expression.now c.in-Call.arguments c.deref-in-Call.result.now rest c.in-Call.is c.deref-in-Call.ensures.value)
    (stopped_behind (c.in_ok-write_tokens-in-Call.ensures _) (c.in_err-write_arguments-in-Call.ensures _))

pub write_expression-returns-in_ok-write_arguments-in-Call : goal.write_expression-returns-in_ok-write_arguments-in-Call
write_expression-returns-in_ok-write_arguments-in-Call g t c rest =
    rw (term_call c.args.wanted c.in-Call.at c.in-Call.name c.args.expression.now c.in-Call.arguments c.deref-in-Call.result.now rest c.in-Call.is c.deref-in-Call.ensures.value)
    (passes_then _ rest c.write_tokens-in-Call-2.result (passed_then (c.in_ok-write_tokens-in-Call.ensures _) (c.in_ok-write_arguments-in-Call.ensures _)) (c.write_tokens-in-Call-2.ensures rest))

pub write_expression-returns-in_err-write_if-in-Binary : goal.write_expression-returns-in_err-write_if-in-Binary
write_expression-returns-in_err-write_if-in-Binary g t c rest =
    let p = err_from_is_err_and c.from_residual-in_err-write_if-in-Binary.result c.from_residual-in_err-write_if-in-Binary.ensures.1 in
    rw (p.1, term_binary c.args.wanted c.level-own.result c.in-Binary.at c.in-Binary.operator (infix_kind c.in-Binary.operator) c.args.expression.now c.in-Binary.left.value c.in-Binary.right.value c.in-Binary.left c.in-Binary.right rest c.in-Binary.is c.level-own.ensures refl refl refl)
    (c.in_err-write_if-in-Binary.ensures _)

pub write_expression-returns-in_err-write_expression-in-Binary : goal.write_expression-returns-in_err-write_expression-in-Binary
write_expression-returns-in_err-write_expression-in-Binary g t c rest =
    let p = err_from_is_err_and c.from_residual-in_err-write_expression-in-Binary.result c.from_residual-in_err-write_expression-in-Binary.ensures.1 in
    rw (p.1, term_binary c.args.wanted c.level-own.result c.in-Binary.at c.in-Binary.operator (infix_kind c.in-Binary.operator) c.args.expression.now c.deref-in-Binary.result.now c.in-Binary.right.value c.in-Binary.left c.in-Binary.right rest c.in-Binary.is c.level-own.ensures c.deref-in-Binary.ensures refl refl)
    (stopped_behind (c.in_ok-write_if-in-Binary.ensures _) (c.in_err-write_expression-in-Binary.ensures _))

pub write_expression-returns-in_err-write_between-in-Binary : goal.write_expression-returns-in_err-write_between-in-Binary
write_expression-returns-in_err-write_between-in-Binary g t c rest =
    let p = err_from_is_err_and c.from_residual-in_err-write_between-in-Binary.result c.from_residual-in_err-write_between-in-Binary.ensures.1 in
    rw (p.1, term_binary c.args.wanted c.level-own.result c.in-Binary.at c.in-Binary.operator c.infix_kind.result c.args.expression.now c.deref-in-Binary.result.now c.deref-in-Binary-2.result.now c.in-Binary.left c.in-Binary.right rest c.in-Binary.is c.level-own.ensures c.deref-in-Binary.ensures c.deref-in-Binary-2.ensures c.infix_kind.ensures)
    (stopped_behind (passed_then (c.in_ok-write_if-in-Binary.ensures _) (c.in_ok-write_expression-in-Binary.ensures _)) (c.in_err-write_between-in-Binary.ensures _))

pub write_expression-returns-in_ok-write_between-in-Binary : goal.write_expression-returns-in_ok-write_between-in-Binary
write_expression-returns-in_ok-write_between-in-Binary g t c rest =
    rw (term_binary c.args.wanted c.level-own.result c.in-Binary.at c.in-Binary.operator c.infix_kind.result c.args.expression.now c.deref-in-Binary.result.now c.deref-in-Binary-2.result.now c.in-Binary.left c.in-Binary.right rest c.in-Binary.is c.level-own.ensures c.deref-in-Binary.ensures c.deref-in-Binary-2.ensures c.infix_kind.ensures)
    (passes_then _ rest c.write_if-in-Binary.result (passed_then (c.in_ok-write_if-in-Binary.ensures _) (passed_then (c.in_ok-write_expression-in-Binary.ensures _) (c.in_ok-write_between-in-Binary.ensures _))) (c.write_if-in-Binary.ensures rest))

pub write_expression-returns-in_err-write_if-in-Choice : goal.write_expression-returns-in_err-write_if-in-Choice
write_expression-returns-in_err-write_if-in-Choice g t c rest =
    let p = err_from_is_err_and c.from_residual-in_err-write_if-in-Choice.result c.from_residual-in_err-write_if-in-Choice.ensures.1 in
    rw (p.1, term_choice c.args.wanted c.in-Choice.at c.args.expression.now c.in-Choice.condition.value c.in-Choice.chosen.value c.in-Choice.otherwise.value c.in-Choice.condition c.in-Choice.chosen c.in-Choice.otherwise rest c.in-Choice.is refl refl refl)
    (c.in_err-write_if-in-Choice.ensures _)

pub write_expression-returns-in_err-write_expression-in-Choice : goal.write_expression-returns-in_err-write_expression-in-Choice
write_expression-returns-in_err-write_expression-in-Choice g t c rest =
    let p = err_from_is_err_and c.from_residual-in_err-write_expression-in-Choice.result c.from_residual-in_err-write_expression-in-Choice.ensures.1 in
    rw (p.1, term_choice c.args.wanted c.in-Choice.at c.args.expression.now c.deref-in-Choice.result.now c.in-Choice.chosen.value c.in-Choice.otherwise.value c.in-Choice.condition c.in-Choice.chosen c.in-Choice.otherwise rest c.in-Choice.is c.deref-in-Choice.ensures refl refl)
    (stopped_behind (c.in_ok-write_if-in-Choice.ensures _) (c.in_err-write_expression-in-Choice.ensures _))

pub write_expression-returns-in_err-write_between-in-Choice : goal.write_expression-returns-in_err-write_between-in-Choice
write_expression-returns-in_err-write_between-in-Choice g t c rest =
    let p = err_from_is_err_and c.from_residual-in_err-write_between-in-Choice.result c.from_residual-in_err-write_between-in-Choice.ensures.1 in
    rw (p.1, term_choice c.args.wanted c.in-Choice.at c.args.expression.now c.deref-in-Choice.result.now c.deref-in-Choice-2.result.now c.in-Choice.otherwise.value c.in-Choice.condition c.in-Choice.chosen c.in-Choice.otherwise rest c.in-Choice.is c.deref-in-Choice.ensures c.deref-in-Choice-2.ensures refl)
    (stopped_behind (passed_then (c.in_ok-write_if-in-Choice.ensures _) (c.in_ok-write_expression-in-Choice.ensures _)) (c.in_err-write_between-in-Choice.ensures _))

pub write_expression-returns-in_err-write_expression-in-Choice-2 : goal.write_expression-returns-in_err-write_expression-in-Choice-2
write_expression-returns-in_err-write_expression-in-Choice-2 g t c rest =
    let p = err_from_is_err_and c.from_residual-in_err-write_expression-in-Choice-2.result c.from_residual-in_err-write_expression-in-Choice-2.ensures.1 in
    rw (p.1, term_choice c.args.wanted c.in-Choice.at c.args.expression.now c.deref-in-Choice.result.now c.deref-in-Choice-2.result.now c.deref-in-Choice-3.result.now c.in-Choice.condition c.in-Choice.chosen c.in-Choice.otherwise rest c.in-Choice.is c.deref-in-Choice.ensures c.deref-in-Choice-2.ensures c.deref-in-Choice-3.ensures)
    (stopped_behind (passed_then (c.in_ok-write_if-in-Choice.ensures _) (passed_then (c.in_ok-write_expression-in-Choice.ensures _) (c.in_ok-write_between-in-Choice.ensures _))) (c.in_err-write_expression-in-Choice-2.ensures _))

pub write_expression-returns-in_ok-write_expression-in-Choice-2 : goal.write_expression-returns-in_ok-write_expression-in-Choice-2
write_expression-returns-in_ok-write_expression-in-Choice-2 g t c rest =
    rw (term_choice c.args.wanted c.in-Choice.at c.args.expression.now c.deref-in-Choice.result.now c.deref-in-Choice-2.result.now c.deref-in-Choice-3.result.now c.in-Choice.condition c.in-Choice.chosen c.in-Choice.otherwise rest c.in-Choice.is c.deref-in-Choice.ensures c.deref-in-Choice-2.ensures c.deref-in-Choice-3.ensures)
    (passes_then _ rest c.write_if-in-Choice-2.result (passed_then (c.in_ok-write_if-in-Choice.ensures _) (passed_then (c.in_ok-write_expression-in-Choice.ensures _) (passed_then (c.in_ok-write_between-in-Choice.ensures _) (c.in_ok-write_expression-in-Choice-2.ensures _)))) (c.write_if-in-Choice-2.ensures rest))
