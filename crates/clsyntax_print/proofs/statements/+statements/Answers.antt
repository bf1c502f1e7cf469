use Rattle.std.proofs.Common.{◌≡◌, ◌∷◌, inl, inr, refl, sym, rules}
use Rattle.std.proofs.lemmas.Result.{err_from_is_err_and}
use Rattle.clmodel.specs.Tree.{stmt}
use Rattle.clsyntax_lex.specs.declared.token.TokenKind.TheVariants as kinds
use Rattle.clsyntax_print.specs.Printing.{print_simple, print_stmt}
use Rattle.clsyntax_print.proofs.Lists.{declares, stmt_block, stmt_for, print_each, stmts_each}
use Rattle.clsyntax_print.proofs.WritingLemmas.{passed_then, stopped_behind, passes_then, passed_item, stopped_item, passed_all}
use Rattle.clsyntax_print.proofs.statements.+statements.Goals as goal

pub write_statement-returns-in_err-write_simple-in-Declare : goal.write_statement-returns-in_err-write_simple-in-Declare
write_statement-returns-in_err-write_simple-in-Declare g t c rest =
    let s = c.args.statement.now in
    let same : print_stmt (stmt s) rest ≡ print_simple (stmt s) (kinds.Semicolon ∷ rest) =
    elim c.in-Declare.is [
      | inl w ↦ declares w.0 w.2 w.3 w.1 w.4 s rest w.5
      | inr (inl w) ↦ rw w.7 refl
      | inr (inr (inl w)) ↦ rw w.4 refl
      | inr (inr (inr (inl w))) ↦ rw w.3 refl
      | inr (inr (inr (inr w))) ↦ rw w.3 refl
    ] in
    let p = err_from_is_err_and c.from_residual-in_err-write_simple-in-Declare.result c.from_residual-in_err-write_simple-in-Declare.ensures.1 in
    rw (p.1, same) (c.in_err-write_simple-in-Declare.ensures _)

pub write_statement-returns-in_ok-write_simple-in-Declare : goal.write_statement-returns-in_ok-write_simple-in-Declare
write_statement-returns-in_ok-write_simple-in-Declare g t c rest =
    let s = c.args.statement.now in
    let same : print_stmt (stmt s) rest ≡ print_simple (stmt s) (kinds.Semicolon ∷ rest) =
    elim c.in-Declare.is [
      | inl w ↦ declares w.0 w.2 w.3 w.1 w.4 s rest w.5
      | inr (inl w) ↦ rw w.7 refl
      | inr (inr (inl w)) ↦ rw w.4 refl
      | inr (inr (inr (inl w))) ↦ rw w.3 refl
      | inr (inr (inr (inr w))) ↦ rw w.3 refl
    ] in
    rw same (passes_then _ rest c.write_tokens-in-Declare.result (c.in_ok-write_simple-in-Declare.ensures _) (c.write_tokens-in-Declare.ensures rest))

pub write_statement-returns-in_ok-write_test-in-If : goal.write_statement-returns-in_ok-write_test-in-If
write_statement-returns-in_ok-write_test-in-If g t c rest =
    rw (c.in-If.is, sym c.deref-in-If.ensures, sym c.deref-in-If-2.ensures)
    (passes_then _ rest c.write_statement.result (c.in_ok-write_test-in-If.ensures _) (c.write_statement.ensures rest))

pub write_statement-returns-in_ok-write_test-in-While : goal.write_statement-returns-in_ok-write_test-in-While
write_statement-returns-in_ok-write_test-in-While g t c rest =
    rw (c.in-While.is, sym c.deref-in-While.ensures, sym c.deref-in-While-2.ensures)
    (passes_then _ rest c.write_statement-in-While.result (c.in_ok-write_test-in-While.ensures _) (c.write_statement-in-While.ensures rest))

pub write_statement-returns-in_err-write_statement-in-IfElse : goal.write_statement-returns-in_err-write_statement-in-IfElse
write_statement-returns-in_err-write_statement-in-IfElse g t c rest =
    let p = err_from_is_err_and c.from_residual-in_err-write_statement-in-IfElse.result c.from_residual-in_err-write_statement-in-IfElse.ensures.1 in
    rw (p.1, c.in-IfElse.is, sym c.deref-in-IfElse.ensures, sym c.deref-in-IfElse-2.ensures)
    (stopped_behind (c.in_ok-write_test-in-IfElse.ensures _) (c.in_err-write_statement-in-IfElse.ensures _))

pub write_statement-returns-in_err-write_tokens-in-IfElse : goal.write_statement-returns-in_err-write_tokens-in-IfElse
write_statement-returns-in_err-write_tokens-in-IfElse g t c rest =
    let p = err_from_is_err_and c.from_residual-in_err-write_tokens-in-IfElse.result c.from_residual-in_err-write_tokens-in-IfElse.ensures.1 in
    rw (p.1, c.in-IfElse.is, sym c.deref-in-IfElse.ensures, sym c.deref-in-IfElse-2.ensures)
    (stopped_behind (passed_then (c.in_ok-write_test-in-IfElse.ensures _) (c.in_ok-write_statement-in-IfElse.ensures _)) (c.in_err-write_tokens-in-IfElse.ensures _))

pub write_statement-returns-in_ok-write_tokens-in-IfElse : goal.write_statement-returns-in_ok-write_tokens-in-IfElse
write_statement-returns-in_ok-write_tokens-in-IfElse g t c rest =
    rw (c.in-IfElse.is, sym c.deref-in-IfElse.ensures, sym c.deref-in-IfElse-2.ensures, sym c.deref-in-IfElse-3.ensures)
    (passes_then _ rest c.write_statement-in-IfElse-2.result (passed_then (c.in_ok-write_test-in-IfElse.ensures _) (passed_then (c.in_ok-write_statement-in-IfElse.ensures _) (c.in_ok-write_tokens-in-IfElse.ensures _))) (c.write_statement-in-IfElse-2.ensures rest))

pub write_statement-returns-in_err-write_statement-in-DoWhile : goal.write_statement-returns-in_err-write_statement-in-DoWhile
write_statement-returns-in_err-write_statement-in-DoWhile g t c rest =
    let p = err_from_is_err_and c.from_residual-in_err-write_statement-in-DoWhile.result c.from_residual-in_err-write_statement-in-DoWhile.ensures.1 in
    rw (p.1, c.in-DoWhile.is, sym c.deref-in-DoWhile.ensures)
    (stopped_behind (c.in_ok-write_tokens-in-DoWhile.ensures _) (c.in_err-write_statement-in-DoWhile.ensures _))

pub write_statement-returns-in_err-write_test-in-DoWhile : goal.write_statement-returns-in_err-write_test-in-DoWhile
write_statement-returns-in_err-write_test-in-DoWhile g t c rest =
    let p = err_from_is_err_and c.from_residual-in_err-write_test-in-DoWhile.result c.from_residual-in_err-write_test-in-DoWhile.ensures.1 in
    rw (p.1, c.in-DoWhile.is, sym c.deref-in-DoWhile.ensures, sym c.deref-in-DoWhile-2.ensures)
    (stopped_behind (passed_then (c.in_ok-write_tokens-in-DoWhile.ensures _) (c.in_ok-write_statement-in-DoWhile.ensures _)) (c.in_err-write_test-in-DoWhile.ensures _))

pub write_statement-returns-in_ok-write_test-in-DoWhile : goal.write_statement-returns-in_ok-write_test-in-DoWhile
write_statement-returns-in_ok-write_test-in-DoWhile g t c rest =
    rw (c.in-DoWhile.is, sym c.deref-in-DoWhile.ensures, sym c.deref-in-DoWhile-2.ensures)
    (passes_then _ rest c.write_tokens-in-DoWhile-2.result (passed_then (c.in_ok-write_tokens-in-DoWhile.ensures _) (passed_then (c.in_ok-write_statement-in-DoWhile.ensures _) (c.in_ok-write_test-in-DoWhile.ensures _))) (c.write_tokens-in-DoWhile-2.ensures rest))

pub write_statement-returns-in_err-write_statements-in-Block : goal.write_statement-returns-in_err-write_statements-in-Block
write_statement-returns-in_err-write_statements-in-Block g t c rest =
    let p = err_from_is_err_and c.from_residual-in_err-write_statements-in-Block.result c.from_residual-in_err-write_statements-in-Block.ensures.1 in
    rw (p.1, stmt_block c.in-Block.at c.args.statement.now c.in-Block.body c.deref.result.now rest c.in-Block.is c.deref.ensures.value)
    (stopped_behind (c.in_ok-write_tokens-in-Block.ensures _) (c.in_err-write_statements-in-Block.ensures _))

pub write_statement-returns-in_ok-write_statements-in-Block : goal.write_statement-returns-in_ok-write_statements-in-Block
write_statement-returns-in_ok-write_statements-in-Block g t c rest =
    rw (stmt_block c.in-Block.at c.args.statement.now c.in-Block.body c.deref.result.now rest c.in-Block.is c.deref.ensures.value)
    (passes_then _ rest c.write_tokens-in-Block-2.result (passed_then (c.in_ok-write_tokens-in-Block.ensures _) (c.in_ok-write_statements-in-Block.ensures _)) (c.write_tokens-in-Block-2.ensures rest))

pub write_statement-returns-in_ok-write_loop_head-in-For : goal.write_statement-returns-in_ok-write_loop_head-in-For
write_statement-returns-in_ok-write_loop_head-in-For g t c rest =
    rw (stmt_for c.in-For.at c.in-For.first c.in-For.third c.in-For.condition c.in-For.body c.args.statement.now c.deref-in-For.result.now rest c.in-For.is c.deref-in-For.ensures)
    (passes_then _ rest c.write_statement-in-For.result (c.in_ok-write_loop_head-in-For.ensures _) (c.write_statement-in-For.ensures rest))

pub write_statements-returns-in_err-write_statement : goal.write_statements-returns-in_err-write_statement
write_statements-returns-in_err-write_statement g t c rest =
    let p = err_from_is_err_and c.from_residual.result c.from_residual.ensures.1 in
    rw (p.1, stmts_each c.args.statements.now rest)
    (stopped_item (λ ss. print_each ss rest) _ c.loop-statement.statement-index c.statement-item.result c.statement-item.is (search rules) (c.loop-statement.invariant rest) (c.in_err-write_statement.ensures _))

pub write_statements-loop-statement-preserved : goal.write_statements-loop-statement-preserved
write_statements-loop-statement-preserved g t c rest =
    passed_item (λ ss. print_each ss rest) _ c.loop-statement.statement-index c.statement-item.result c.statement-item.is (search rules) (c.loop-statement.invariant rest) (c.in_ok-write_statement.ensures _)

pub write_statements-returns : goal.write_statements-returns
write_statements-returns g t c rest =
    rw (stmts_each c.args.statements.now rest) (passed_all (λ ss. print_each ss rest) _ c.loop-statement.statement-index (search rules) (c.loop-statement.invariant rest))
