use Rattle.std.proofs.Common.{take, sym, ap, ◌∙◌}
use Rattle.clmodel.specs.Tree as tree
use Rattle.clmodel.specs.Tree.{term, terms, tree_target, stmt, maybe_term, maybe_stmt}
use Rattle.clmodel.specs.Typing.Sizes.{term_size, terms_size, target_size, condition_size, size, row_size, size_in, beside, one_loop}
use Rattle.cltypes.specs.Limits.{capped, held_size, statements}
use Rattle.clmodel.proofs.Trees.{next_statement, block_view}
use Rattle.cltypes.proofs.Sums.{of_term, of_statement, for_view}
use Rattle.cltypes.proofs.statement_sizes.+statements.Goals as goal

pub row_size-loop-statement-preserved : goal.row_size-loop-statement-preserved
row_size-loop-statement-preserved t c =
    let ss = c.args.body.now in
    let i = c.loop-statement.statement-index in
    let s = c.statement-item.result in
    let table = c.args.table.now in
    c.beside-size.ensures (row_size table (statements (take i ss))) (size table (stmt s)) c.loop-statement.invariant c.statement_size.ensures
    ∙ ap (λ z. capped (row_size table z)) (sym (next_statement ss i s c.loop-statement-test.true c.statement-item.is))

pub statement_size-returns-in-Block : goal.statement_size-returns-in-Block
statement_size-returns-in-Block t c =
    let b = c.in-Block in
    let d = c.deref-in-Block in
    let table = c.args.table.now in
    c.in_node-in-Block.ensures (row_size table (statements d.result.now)) c.row_size.ensures
    ∙ ap (λ z. capped (size table z)) (sym (ap stmt b.is ∙ block_view b.at b.body ∙ ap (λ z. tree.Block b.at (statements z)) (sym d.ensures.value)))

pub statement_size-returns-in-Assign : goal.statement_size-returns-in-Assign
statement_size-returns-in-Assign t c =
    let s = c.in-Assign in
    let table = c.args.table.now in
    let to = target_size table (tree_target s.target.value) in
    let value = term_size table (term s.value.value) in
    c.in_node-in-Assign.ensures (beside to value)
    (c.beside.ensures to value (c.target_size.ensures ∙ ap (λ z. capped (target_size table (tree_target z))) c.deref-in-Assign.ensures)
    (of_term table c.expression_size-in-Assign.ensures c.deref-in-Assign-2.ensures))
    ∙ ap (λ z. capped (size table (stmt z))) (sym s.is)

pub statement_size-returns-in-Call : goal.statement_size-returns-in-Call
statement_size-returns-in-Call t c =
    let s = c.in-Call in
    let d = c.deref-in-Call in
    let table = c.args.table.now in
    let arguments = terms_size table (terms d.result.now) in
    let callee = size_in table s.name in
    c.in_node-in-Call.ensures (beside arguments callee) (c.beside-in-Call.ensures arguments callee c.arguments_size.ensures c.size_in.ensures)
    ∙ ap (λ z. capped (size table z)) (sym (ap stmt s.is ∙ ap (λ z. tree.CallOnly s.at s.name (terms z)) (sym d.ensures.value)))

pub statement_size-returns-in-If : goal.statement_size-returns-in-If
statement_size-returns-in-If t c =
    let s = c.in-If in
    let table = c.args.table.now in
    let condition = term_size table (term s.condition.value) in
    let chosen = size table (stmt s.chosen.value) in
    c.in_node-in-If.ensures (beside condition chosen)
    (c.beside-in-If.ensures condition chosen (of_term table c.expression_size-in-If.ensures c.deref-in-If.ensures)
    (of_statement table c.statement_size.ensures c.deref-in-If-2.ensures))
    ∙ ap (λ z. capped (size table (stmt z))) (sym s.is)

pub statement_size-returns-in-IfElse : goal.statement_size-returns-in-IfElse
statement_size-returns-in-IfElse t c =
    let s = c.in-IfElse in
    let table = c.args.table.now in
    let condition = term_size table (term s.condition.value) in
    let chosen = size table (stmt s.chosen.value) in
    let otherwise = size table (stmt s.otherwise.value) in
    c.in_node-in-IfElse.ensures (beside (beside condition chosen) otherwise)
    (c.beside-in-IfElse-2.ensures (beside condition chosen) otherwise
    (c.beside-in-IfElse.ensures condition chosen (of_term table c.expression_size-in-IfElse.ensures c.deref-in-IfElse.ensures)
    (of_statement table c.statement_size-in-IfElse.ensures c.deref-in-IfElse-2.ensures))
    (of_statement table c.statement_size-in-IfElse-2.ensures c.deref-in-IfElse-3.ensures))
    ∙ ap (λ z. capped (size table (stmt z))) (sym s.is)

pub statement_size-returns-in-While : goal.statement_size-returns-in-While
statement_size-returns-in-While t c =
    let s = c.in-While in
    let table = c.args.table.now in
    let condition = term_size table (term s.condition.value) in
    let body = size table (stmt s.body.value) in
    c.in_loop.ensures (beside condition body)
    (c.beside-in-While.ensures condition body (of_term table c.expression_size-in-While.ensures c.deref-in-While.ensures)
    (of_statement table c.statement_size-in-While.ensures c.deref-in-While-2.ensures))
    ∙ ap (λ z. capped (size table (stmt z))) (sym s.is)

pub statement_size-returns-in-DoWhile : goal.statement_size-returns-in-DoWhile
statement_size-returns-in-DoWhile t c =
    let s = c.in-DoWhile in
    let table = c.args.table.now in
    let body = size table (stmt s.body.value) in
    let condition = term_size table (term s.condition.value) in
    c.in_loop-in-DoWhile.ensures (beside body condition)
    (c.beside-in-DoWhile.ensures body condition (of_statement table c.statement_size-in-DoWhile.ensures c.deref-in-DoWhile.ensures)
    (of_term table c.expression_size-in-DoWhile.ensures c.deref-in-DoWhile-2.ensures))
    ∙ ap (λ z. capped (size table (stmt z))) (sym s.is)

pub statement_size-returns-in-For : goal.statement_size-returns-in-For
statement_size-returns-in-For t c =
    let s = c.in-For in
    let table = c.args.table.now in
    let first = held_size table s.first in
    let condition = condition_size table (maybe_term s.condition) in
    let third = held_size table s.third in
    let body = size table (stmt s.body.value) in
    c.beside-in-For-3.ensures first (one_loop (beside (beside condition third) body)) c.part_size.ensures
    (c.in_loop-in-For.ensures (beside (beside condition third) body)
    (c.beside-in-For-2.ensures (beside condition third) body (c.beside-in-For.ensures condition third c.condition_size.ensures c.part_size-in-For.ensures)
    (of_statement table c.statement_size-in-For.ensures c.deref-in-For.ensures)))
    ∙ ap capped (for_view table s.at s.first s.third s.condition s.body)
    ∙ ap (λ z. capped (size table (stmt z))) (sym s.is)
