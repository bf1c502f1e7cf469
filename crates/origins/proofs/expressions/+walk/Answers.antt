use Rattle.std.proofs.Common.{◌≡◌, length, refl, sym, ap, subst, ◌∙◌, take, arith}
use Rattle.std.proofs.Math.Seq.{take-length}
use Rattle.clmodel.specs.Tree.{Dereference, Unary, Cast, term, terms}
use Rattle.lower_expr.proofs.Arguments.{calls}
use Rattle.std.proofs.lemmas.List.{append_assoc}
use Rattle.origins.specs.Origins.{node_of, times, variable_origins, expr_origins, terms_origins}
use Rattle.origins.specs.Walks.{Walks}
use Rattle.origins.proofs.Walking.{stops, goes_on}
use Rattle.origins.proofs.Settling.{settle, number_is, variable_is, constant_is, one_is, varying_is, array_is, unknown_is, plain_is, address_is, call_is, binary_is, choice_is}
use Rattle.origins.proofs.Arguments.{term_passed}
use Rattle.origins.proofs.expressions.+walk.Goals as goal

pub then_expression-returns-in-Ok : goal.then_expression-returns-in-Ok
then_expression-returns-in-Ok t c inside xs n w = goes_on inside xs _ n c.in-Ok.left _ (subst (λ p. Walks inside xs n p) c.in-Ok.is w) (c.pass_expression.ensures inside)

pub then_expression-returns-in-Err : goal.then_expression-returns-in-Err
then_expression-returns-in-Err t c inside xs n w = stops inside xs _ n c.in-Err.halt (subst (λ p. Walks inside xs n p) c.in-Err.is w)

pub pass_address-returns : goal.pass_address-returns
pass_address-returns t c inside =
    let n = node_of c.args.node in
    let first = variable_origins c.args.meaning n in
    let index = expr_origins c.args.names.now (term c.args.index.now) in
    settle inside _ _ _ _ (append_assoc first index (times 1 n))
    (c.then_own.ensures inside _ _ (c.then_expression.ensures inside _ _ (c.pass_variable-pointer.ensures inside)))

pub pass_arguments-loop-i-preserved : goal.pass_arguments-loop-i-preserved
pass_arguments-loop-i-preserved t c inside =
    term_passed inside c.args.names.now c.args.arguments.now c.loop-i.i _ _ c.index-arguments-i.result c.loop-i-test.true c.index-arguments-i.is
    (c.then_expression-passed.ensures inside _ _ (c.loop-i.invariant inside))

pub pass_arguments-returns : goal.pass_arguments-returns
pass_arguments-returns t c inside =
    let es = c.args.arguments.now in
    let all : c.loop-i.i ≡ length es = omega (arith, c.loop-i-test.false, c.loop-i.auto.i-end) in
    settle inside _ _ _ _ (ap (λ k. terms_origins c.args.names.now (terms (take k es))) all ∙ ap (λ xs. terms_origins c.args.names.now (terms xs)) (take-length es))
    (c.loop-i.invariant inside)

pub pass_expression-returns-in-Some : goal.pass_expression-returns-in-Some
pass_expression-returns-in-Some t c inside =
    settle inside _ _ _ _ (constant_is c.args.names.now (term c.args.expression.now) _ (sym c.known_of.ensures.constant ∙ c.in-Some.is)) (c.pass_own.ensures inside)

pub pass_parts-returns-in-Number : goal.pass_parts-returns-in-Number
pass_parts-returns-in-Number t c inside =
    settle inside _ _ _ _ (number_is c.args.names.now (term c.args.expression.now) c.in-Number.at c.in-Number.value (ap term c.in-Number.is)) (c.pass_own.ensures inside)

pub pass_parts-returns-in-Variable : goal.pass_parts-returns-in-Variable
pass_parts-returns-in-Variable t c inside =
    settle inside _ _ _ _ (variable_is c.args.names.now (term c.args.expression.now) c.in-Variable.at c.in-Variable.name c.meaning_of.result c.meaning_of.ensures (ap term c.in-Variable.is)) (c.pass_variable.ensures inside)

pub pass_parts-returns-in-Array : goal.pass_parts-returns-in-Array
pass_parts-returns-in-Array t c inside =
    settle inside _ _ _ _ (array_is c.args.names.now (term c.args.expression.now) c.in-Element.at c.in-Element.name c.deref.result.now c.in-Element.index.value c.deref.ensures (ap term c.in-Element.is) c.in-Array.ensures)
    (c.then_own.ensures inside _ _ (c.pass_expression.ensures inside))

pub pass_parts-returns-in-Unknown : goal.pass_parts-returns-in-Unknown
pass_parts-returns-in-Unknown t c inside =
    settle inside _ _ _ _ (unknown_is c.args.names.now (term c.args.expression.now) c.in-Element.at c.in-Element.name c.deref-in-Unknown.result.now c.in-Element.index.value c.deref-in-Unknown.ensures (ap term c.in-Element.is) c.in-Unknown.ensures)
    (c.then_own-in-Unknown.ensures inside _ _ (c.pass_address.ensures inside))

pub pass_parts-returns-in-Plain : goal.pass_parts-returns-in-Plain
pass_parts-returns-in-Plain t c inside =
    settle inside _ _ _ _ (plain_is c.args.names.now (term c.args.expression.now) c.in-Element.at c.in-Element.name c.deref-in-Plain.result.now c.in-Element.index.value c.deref-in-Plain.ensures (ap term c.in-Element.is) c.in-Plain.ensures)
    (c.then_own-in-Plain.ensures inside _ _ (c.pass_address-in-Plain.ensures inside))

pub pass_parts-returns-in-ElementAddress : goal.pass_parts-returns-in-ElementAddress
pass_parts-returns-in-ElementAddress t c inside =
    settle inside _ _ _ _ (address_is c.args.names.now (term c.args.expression.now) c.in-ElementAddress.at c.in-ElementAddress.name_at c.in-ElementAddress.name c.meaning_of-in-ElementAddress.result c.deref-in-ElementAddress.result.now c.in-ElementAddress.index.value
    c.deref-in-ElementAddress.ensures (ap term c.in-ElementAddress.is) c.meaning_of-in-ElementAddress.ensures)
    (c.pass_address-in-ElementAddress.ensures inside)

pub pass_parts-returns-in-Dereference : goal.pass_parts-returns-in-Dereference
pass_parts-returns-in-Dereference t c inside =
    settle inside _ _ _ _ (one_is c.args.names.now (term c.args.expression.now) c.deref-in-Dereference.result.now c.in-Dereference.pointer.value (λ p. Dereference c.in-Dereference.at p) c.deref-in-Dereference.ensures (ap term c.in-Dereference.is) (λ p. refl))
    (c.then_own-in-Dereference.ensures inside _ _ (c.pass_expression-in-Dereference.ensures inside))

pub pass_parts-returns-in-Unary : goal.pass_parts-returns-in-Unary
pass_parts-returns-in-Unary t c inside =
    settle inside _ _ _ _ (varying_is c.args.names.now (term c.args.expression.now) c.deref-in-Unary.result.now c.in-Unary.operand.value (λ p. Unary c.in-Unary.at c.in-Unary.operator p) c.deref-in-Unary.ensures (ap term c.in-Unary.is) (λ p. refl) c.requires)
    (c.then_own-in-Unary.ensures inside _ _ (c.pass_expression-in-Unary.ensures inside))

pub pass_parts-returns-in-Cast : goal.pass_parts-returns-in-Cast
pass_parts-returns-in-Cast t c inside =
    settle inside _ _ _ _ (varying_is c.args.names.now (term c.args.expression.now) c.deref-in-Cast.result.now c.in-Cast.operand.value (λ p. Cast c.in-Cast.at c.in-Cast.target p) c.deref-in-Cast.ensures (ap term c.in-Cast.is) (λ p. refl) c.requires)
    (c.then_own-in-Cast.ensures inside _ _ (c.pass_expression-in-Cast.ensures inside))

pub pass_parts-returns-in-Call : goal.pass_parts-returns-in-Call
pass_parts-returns-in-Call t c inside =
    settle inside _ _ _ _ (call_is c.args.names.now (term c.args.expression.now) c.in-Call.at c.in-Call.name c.as_slice.result.now c.in-Call.arguments.items c.as_slice.ensures.value (ap term c.in-Call.is ∙ calls c.in-Call.at c.in-Call.name c.in-Call.arguments) c.requires)
    (c.then_own-in-Call.ensures inside _ _ (c.pass_arguments.ensures inside))

pub pass_parts-returns-in-Binary : goal.pass_parts-returns-in-Binary
pass_parts-returns-in-Binary t c inside =
    settle inside _ _ _ _
    (binary_is c.args.names.now (term c.args.expression.now) c.in-Binary.at c.in-Binary.operator c.deref-in-Binary.result.now c.in-Binary.first.value c.deref-in-Binary-2.result.now c.in-Binary.second.value c.infix_before.result c.infix_behind.result
    c.deref-in-Binary.ensures c.deref-in-Binary-2.ensures c.infix_before.ensures c.infix_behind.ensures (ap term c.in-Binary.is) c.requires)
    (c.then_own-in-Binary.ensures inside _ _ (c.then_expression.ensures inside _ _ (c.then_own-before.ensures inside _ _ (c.pass_expression-in-Binary.ensures inside))))

pub pass_parts-returns-in-Choice : goal.pass_parts-returns-in-Choice
pass_parts-returns-in-Choice t c inside =
    settle inside _ _ _ _
    (choice_is c.args.names.now (term c.args.expression.now) c.in-Choice.at c.deref-in-Choice.result.now c.in-Choice.condition.value c.deref-in-Choice-2.result.now c.in-Choice.chosen.value c.deref-in-Choice-3.result.now c.in-Choice.otherwise.value
    c.deref-in-Choice.ensures c.deref-in-Choice-2.ensures c.deref-in-Choice-3.ensures (ap term c.in-Choice.is) c.requires)
    (c.then_own-in-Choice.ensures inside _ _ (c.then_expression-in-Choice-2.ensures inside _ _ (c.then_own-first.ensures inside _ _ (c.then_expression-in-Choice.ensures inside _ _
    (c.then_own-tested.ensures inside _ _ (c.pass_expression-in-Choice.ensures inside))))))
