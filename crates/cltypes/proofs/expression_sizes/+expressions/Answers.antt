use Rattle.std.proofs.Common.{take, sym, ap, ◌∙◌}
use Rattle.clmodel.specs.Tree as tree
use Rattle.clmodel.specs.Tree.{term, terms}
use Rattle.clmodel.specs.Typing.Sizes.{term_size, terms_size, size_in, beside}
use Rattle.cltypes.specs.Limits.{capped}
use Rattle.clmodel.proofs.Trees.{next_argument, call_view}
use Rattle.cltypes.proofs.Sums.{of_term}
use Rattle.cltypes.proofs.expression_sizes.+expressions.Goals as goal

pub arguments_size-loop-argument-preserved : goal.arguments_size-loop-argument-preserved
arguments_size-loop-argument-preserved t c =
    let es = c.args.arguments.now in
    let i = c.loop-argument.argument-index in
    let e = c.argument-item.result in
    let table = c.args.table.now in
    c.beside-size.ensures (terms_size table (terms (take i es))) (term_size table (term e)) c.loop-argument.invariant c.expression_size.ensures
    ∙ ap (λ ts. capped (terms_size table ts)) (sym (next_argument es i e c.loop-argument-test.true c.argument-item.is))

pub expression_size-returns-in-Binary : goal.expression_size-returns-in-Binary
expression_size-returns-in-Binary t c =
    let e = c.in-Binary in
    let table = c.args.table.now in
    let left = term_size table (term e.left.value) in
    let right = term_size table (term e.right.value) in
    c.in_node-in-Binary.ensures (beside left right)
    (c.beside-in-Binary.ensures left right (of_term table c.expression_size-in-Binary.ensures c.deref-in-Binary.ensures)
    (of_term table c.expression_size-in-Binary-2.ensures c.deref-in-Binary-2.ensures))
    ∙ ap (λ z. capped (term_size table (term z))) (sym e.is)

pub expression_size-returns-in-Choice : goal.expression_size-returns-in-Choice
expression_size-returns-in-Choice t c =
    let e = c.in-Choice in
    let table = c.args.table.now in
    let condition = term_size table (term e.condition.value) in
    let chosen = term_size table (term e.chosen.value) in
    let otherwise = term_size table (term e.otherwise.value) in
    c.in_node-in-Choice.ensures (beside (beside condition chosen) otherwise)
    (c.beside-in-Choice-2.ensures (beside condition chosen) otherwise
    (c.beside-in-Choice.ensures condition chosen (of_term table c.expression_size-in-Choice.ensures c.deref-in-Choice.ensures)
    (of_term table c.expression_size-in-Choice-2.ensures c.deref-in-Choice-2.ensures))
    (of_term table c.expression_size-in-Choice-3.ensures c.deref-in-Choice-3.ensures))
    ∙ ap (λ z. capped (term_size table (term z))) (sym e.is)

pub expression_size-returns-in-Call : goal.expression_size-returns-in-Call
expression_size-returns-in-Call t c =
    let e = c.in-Call in
    let d = c.deref-in-Call in
    let table = c.args.table.now in
    let arguments = terms_size table (terms d.result.now) in
    let callee = size_in table e.name in
    c.in_node-in-Call.ensures (beside arguments callee) (c.beside.ensures arguments callee c.arguments_size.ensures c.size_in.ensures)
    ∙ ap (λ z. capped (term_size table z)) (sym (ap term e.is ∙ call_view e.at e.name e.arguments ∙ ap (λ z. tree.Call e.at e.name (terms z)) (sym d.ensures.value)))
