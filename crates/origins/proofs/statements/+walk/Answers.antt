use Rattle.std.proofs.Common.{◌≡◌, Option, Bor, List, [], ◌++◌, length, take, refl, sym, ap, subst, ◌∙◌, arith}
use Rattle.std.proofs.lemmas.List.{append-nil}
use Rattle.std.proofs.Math.Seq.{take-length}
use Rattle.clmodel.specs.Tree.{term, stmt}
use Rattle.clmodel.specs.declared.tree.Statement as rust_statement
use Rattle.clmodel.specs.declared.tree.Statement.{Statement, size-Statement, the_lemmas}
use Rattle.lower_code.specs.Emission.{test_of}
use Rattle.lower_code.specs.Trees.{all_of, part_of}
use Rattle.origins.specs.Names.{names_after_part}
use Rattle.origins.specs.Origins.{node_of, times, expr_origins}
use Rattle.origins.specs.Settings.{inside_in, stmt_in, part_in, row_in}
use Rattle.origins.specs.Walks.{Walks}
use Rattle.origins.specs.declared.names.NamedVariable.{NamedVariable}
use Rattle.origins.proofs.Walking.{stops, goes_on, nothing}
use Rattle.origins.proofs.Settling.{settle}
use Rattle.origins.proofs.Stating.{first_names, if_whole, if_else_whole, while_whole, do_whole}
use Rattle.origins.proofs.Rows.{empty_whole, block_whole, declare_whole, declare_as_whole, array_whole, assign_whole, step_whole, call_whole, jump_whole, return_whole, for_whole, for_joined, part_after, all_after, row_passed, names_more}
use Rattle.origins.proofs.statements.+walk.Goals as goal

pub then_statement-returns-in-Ok-clause-walks : goal.then_statement-returns-in-Ok-clause-walks
then_statement-returns-in-Ok-clause-walks t c xs n w =
    goes_on (inside_in c.args.setting) xs _ n c.in-Ok.left _ (subst (λ p. Walks (inside_in c.args.setting) xs n p) c.in-Ok.is w) c.pass_statement.ensures.walks

pub then_statement-returns-in-Err-clause-walks : goal.then_statement-returns-in-Err-clause-walks
then_statement-returns-in-Err-clause-walks t c xs n w = stops (inside_in c.args.setting) xs _ n c.in-Err.halt (subst (λ p. Walks (inside_in c.args.setting) xs n p) c.in-Err.is w)

pub pass_statement-returns-in-Empty-clause-walks : goal.pass_statement-returns-in-Empty-clause-walks
pass_statement-returns-in-Empty-clause-walks t c =
    settle _ _ _ _ _ (empty_whole c.args.setting c.args.names.now.items c.args.statement.now c.in-Empty.at c.in-Empty.is) (nothing (inside_in c.args.setting) c.args.left)

pub pass_statement-returns-in-Block-clause-walks : goal.pass_statement-returns-in-Block-clause-walks
pass_statement-returns-in-Block-clause-walks t c =
    settle _ _ _ _ _ (block_whole c.args.setting c.args.names.now.items c.args.statement.now c.in-Block.at c.in-Block.body c.as_slice.result.now c.in-Block.is c.as_slice.ensures.value) c.pass_statements.ensures.walks

pub pass_statement-returns-in-None-clause-walks : goal.pass_statement-returns-in-None-clause-walks
pass_statement-returns-in-None-clause-walks t c =
    settle _ _ _ _ _ (declare_whole c.args.setting c.args.names.now.items c.args.statement.now c.in-Declare.at c.in-Declare.kind c.in-Declare.name_at c.in-Declare.name c.in-Declare.value c.in-Declare.is c.in-None.is)
    (c.pass_own.ensures (inside_in c.args.setting))

pub pass_statement-returns-in-Some-clause-walks : goal.pass_statement-returns-in-Some-clause-walks
pass_statement-returns-in-Some-clause-walks t c =
    settle _ _ _ _ _
    (declare_as_whole c.args.setting c.args.names.now.items c.args.statement.now c.in-Declare.at c.in-Declare.kind c.in-Declare.name_at c.in-Declare.name c.in-Declare.value c.in-Some.value c.deref.result.now c.in-Declare.is c.in-Some.is c.deref.ensures)
    c.pass_declaration.ensures.walks

pub pass_statement-returns-in-DeclareArray-clause-walks : goal.pass_statement-returns-in-DeclareArray-clause-walks
pass_statement-returns-in-DeclareArray-clause-walks t c =
    settle _ _ _ _ _
    (array_whole c.args.setting c.args.names.now.items c.args.statement.now c.in-DeclareArray.at c.in-DeclareArray.is_local c.in-DeclareArray.element c.in-DeclareArray.name_at c.in-DeclareArray.name c.in-DeclareArray.length_at c.in-DeclareArray.length
    c.array_count.result c.in-DeclareArray.is c.array_count.ensures)
    (c.pass_own-in-DeclareArray.ensures (inside_in c.args.setting))

pub pass_statement-returns-in-Assign-clause-walks : goal.pass_statement-returns-in-Assign-clause-walks
pass_statement-returns-in-Assign-clause-walks t c =
    settle _ _ _ _ _
    (assign_whole c.args.setting c.args.names.now.items c.args.statement.now c.in-Assign.at c.in-Assign.target c.in-Assign.operator c.in-Assign.value c.as_slice-in-Assign.result.now c.deref-in-Assign.result.now c.deref-in-Assign-2.result.now
    c.in-Assign.is c.as_slice-in-Assign.ensures.value c.deref-in-Assign.ensures c.deref-in-Assign-2.ensures)
    c.pass_assignment.ensures

pub pass_statement-returns-in-Step-clause-walks : goal.pass_statement-returns-in-Step-clause-walks
pass_statement-returns-in-Step-clause-walks t c =
    settle _ _ _ _ _
    (step_whole c.args.setting c.args.names.now.items c.args.statement.now c.in-Step.at c.in-Step.target c.in-Step.is_increment c.as_slice-in-Step.result.now c.deref-in-Step.result.now c.in-Step.is c.as_slice-in-Step.ensures.value c.deref-in-Step.ensures)
    (c.pass_step.ensures (inside_in c.args.setting))

pub pass_statement-returns-in-Call-clause-walks : goal.pass_statement-returns-in-Call-clause-walks
pass_statement-returns-in-Call-clause-walks t c =
    settle _ _ _ _ _
    (call_whole c.args.setting c.args.names.now.items c.args.statement.now c.in-Call.at c.in-Call.name c.in-Call.arguments c.as_slice-in-Call.result.now c.as_slice-in-Call-2.result.now c.in-Call.is c.as_slice-in-Call.ensures.value c.as_slice-in-Call-2.ensures.value)
    c.pass_call_statement.ensures

pub pass_statement-returns-in-If-clause-walks : goal.pass_statement-returns-in-If-clause-walks
pass_statement-returns-in-If-clause-walks t c =
    let names = c.args.names.now.items in
    settle _ _ _ _ _
    (if_whole c.args.setting names (stmt c.args.statement.now) c.in-If.at names names c.deref-in-If.result.now c.in-If.condition.value c.deref-in-If-2.result.now c.in-If.chosen.value
    refl c.deref-in-If.ensures refl c.deref-in-If-2.ensures (ap stmt c.in-If.is))
    c.pass_branch.ensures.walks

pub pass_statement-returns-in-IfElse-clause-walks : goal.pass_statement-returns-in-IfElse-clause-walks
pass_statement-returns-in-IfElse-clause-walks t c =
    let inside = inside_in c.args.setting in
    let names = c.args.names.now.items in
    settle _ _ _ _ _
    (if_else_whole c.args.setting names (stmt c.args.statement.now) c.in-IfElse.at names names _ c.deref-in-IfElse.result.now c.in-IfElse.condition.value
    c.deref-in-IfElse-2.result.now c.in-IfElse.chosen.value c.deref-in-IfElse-3.result.now c.in-IfElse.otherwise.value
    refl c.deref-in-IfElse.ensures refl c.deref-in-IfElse-2.ensures c.pass_branch-first.ensures.names c.deref-in-IfElse-3.ensures (ap stmt c.in-IfElse.is))
    (c.then_statement.ensures.walks _ _ (c.then_own.ensures inside _ _ c.pass_branch-first.ensures.walks))

pub pass_statement-returns-in-While-clause-walks : goal.pass_statement-returns-in-While-clause-walks
pass_statement-returns-in-While-clause-walks t c =
    let names = c.args.names.now.items in
    settle _ _ _ _ _
    (while_whole c.args.setting names (stmt c.args.statement.now) c.in-While.at names names c.deref-in-While.result.now c.in-While.body.value c.deref-in-While-2.result.now c.in-While.condition.value
    refl c.deref-in-While.ensures refl c.deref-in-While-2.ensures (ap stmt c.in-While.is))
    c.pass_loop.ensures.walks

pub pass_statement-returns-in-DoWhile-clause-walks : goal.pass_statement-returns-in-DoWhile-clause-walks
pass_statement-returns-in-DoWhile-clause-walks t c =
    let names = c.args.names.now.items in
    settle _ _ _ _ _
    (do_whole c.args.setting names (stmt c.args.statement.now) c.in-DoWhile.at names names c.deref-in-DoWhile.result.now c.in-DoWhile.body.value c.deref-in-DoWhile-2.result.now c.in-DoWhile.condition.value
    refl c.deref-in-DoWhile.ensures refl c.deref-in-DoWhile-2.ensures (ap stmt c.in-DoWhile.is))
    c.pass_loop-in-DoWhile.ensures.walks

pub pass_branch-returns-clause-walks : goal.pass_branch-returns-clause-walks
pass_branch-returns-clause-walks t c =
    let inside = inside_in c.args.setting in
    let s = c.args.setting in
    let names = c.args.names.now.items in
    settle _ _ _ _ _
    (ap (λ (ns : List NamedVariable). (expr_origins ns (term c.args.condition.now) ++ times 1 (node_of c.args.node)) ++ stmt_in s names (stmt c.args.chosen.now)) c.as_slice.ensures.value)
    (c.then_statement.ensures.walks _ _ (c.then_own-tested.ensures inside _ _ (c.pass_expression.ensures inside)))

pub pass_loop-returns-clause-walks : goal.pass_loop-returns-clause-walks
pass_loop-returns-clause-walks t c =
    let inside = inside_in c.args.setting in
    let s = c.args.setting in
    let names = c.args.names.now.items in
    let n = node_of c.args.node in
    settle _ _ _ _ _
    (ap (λ (ns : List NamedVariable). (((times c.args.count n ++ stmt_in s names (stmt c.args.body.now)) ++ expr_origins ns (term c.args.condition.now)) ++ times 1 n) ++ times 1 n) (c.as_slice.ensures.value ∙ c.then_statement-inner.ensures.names))
    (c.then_own-2.ensures inside _ _ (c.then_own.ensures inside _ _ (c.then_expression-tested.ensures inside _ _ (c.then_statement-inner.ensures.walks _ _ (c.pass_own.ensures inside)))))

pub pass_statement-returns-in-For-clause-walks : goal.pass_statement-returns-in-For-clause-walks
pass_statement-returns-in-For-clause-walks t c =
    settle _ _ _ _ _
    (for_whole c.args.setting c.args.names.now.items c.args.statement.now c.in-For.at c.in-For.first c.in-For.condition c.in-For.third c.in-For.body c.statement_of.result c.statement_of-in-For.result (test_of c.condition_of.result) c.deref-in-For.result.now
    c.in-For.is c.statement_of.ensures c.condition_of.ensures c.statement_of-in-For.ensures c.deref-in-For.ensures)
    c.pass_for.ensures.walks

pub pass_statement-returns-in-Break-clause-walks : goal.pass_statement-returns-in-Break-clause-walks
pass_statement-returns-in-Break-clause-walks t c =
    settle _ _ _ _ _ (jump_whole c.args.setting c.args.names.now.items c.args.statement.now (rust_statement.Break c.in-Break.at) c.in-Break.is refl) (c.pass_own-in-Break.ensures (inside_in c.args.setting))

pub pass_statement-returns-in-Continue-clause-walks : goal.pass_statement-returns-in-Continue-clause-walks
pass_statement-returns-in-Continue-clause-walks t c =
    settle _ _ _ _ _ (jump_whole c.args.setting c.args.names.now.items c.args.statement.now (rust_statement.Continue c.in-Continue.at) c.in-Continue.is refl) (c.pass_own-in-Continue.ensures (inside_in c.args.setting))

pub pass_statement-returns-in-Return-clause-walks : goal.pass_statement-returns-in-Return-clause-walks
pass_statement-returns-in-Return-clause-walks t c =
    settle _ _ _ _ _
    (return_whole c.args.setting c.args.names.now.items c.args.statement.now c.in-Return.at c.in-Return.value c.as_slice-in-Return.result.now (test_of c.condition_of-in-Return.result) c.in-Return.is c.as_slice-in-Return.ensures.value c.condition_of-in-Return.ensures)
    (c.pass_return.ensures (inside_in c.args.setting))

pub then_part-returns-in-None-clause-walks : goal.then_part-returns-in-None-clause-walks
then_part-returns-in-None-clause-walks t c xs n w =
    let s = c.args.setting in
    let names = c.args.names.now.items in
    subst (λ (o : Option (Bor Statement)). Walks (inside_in s) (xs ++ part_in s names (part_of o)) n c.args.passed) (sym c.in-None.is) (settle _ _ _ _ _ (sym (append-nil xs)) w)

pub then_part-returns-in-Some-clause-walks : goal.then_part-returns-in-Some-clause-walks
then_part-returns-in-Some-clause-walks t c xs n w =
    let s = c.args.setting in
    let names = c.args.names.now.items in
    subst (λ (o : Option (Bor Statement)). Walks (inside_in s) (xs ++ part_in s names (part_of o)) n c.then_statement.result) (sym c.in-Some.is) (c.then_statement.ensures.walks xs n w)

pub pass_for-returns-in-Ok-clause-walks : goal.pass_for-returns-in-Ok-clause-walks
pass_for-returns-in-Ok-clause-walks t c =
    let s = c.args.setting in
    let names = c.args.names.now.items in
    let inside = inside_in s in
    let p = c.args.parts in
    let n = node_of c.args.node in
    let after : c.declare_part.new.names.items ≡ names_after_part names (part_of p.first) = c.in-Ok.ensures.declared ∙ ap (λ (ns : List NamedVariable). names_after_part ns (part_of p.first)) c.then_part-begun.ensures.names in
    let later = c.then_statement-inner.ensures.names ∙ after in
    let last = c.then_part-stepped.ensures.names ∙ later in
    settle _ _ _ _ _
    (for_joined s names (part_of p.first) (part_of p.third) (test_of p.condition) (stmt p.body.now) n _ _ c.as_slice.result.now after later (c.as_slice.ensures.value ∙ last))
    (c.then_own.ensures inside _ _ (c.then_condition-tested.ensures inside _ _ (c.then_part-stepped.ensures.walks _ _ (c.then_statement-inner.ensures.walks _ _ (c.then_own-entered.ensures inside _ _ (c.then_part-begun.ensures.walks [] c.args.left (nothing inside c.args.left)))))))

pub pass_for-returns-in-Ok-clause-names : goal.pass_for-returns-in-Ok-clause-names
pass_for-returns-in-Ok-clause-names t c =
    let v = c.args.names.now in
    let names = v.items in
    let first = part_of c.args.parts.first in
    let after : c.declare_part.new.names.items ≡ names_after_part names first = c.in-Ok.ensures.declared ∙ ap (λ (ns : List NamedVariable). names_after_part ns first) c.then_part-begun.ensures.names in
    let more = part_after names first in
    c.truncate.ensures.items ∙ first_names c.len-count.result names more.0 _ (omega (arith, c.len-count.ensures, v.ok.0)) (c.then_part-stepped.ensures.names ∙ c.then_statement-inner.ensures.names ∙ after ∙ more.1)

pub pass_statements-loop-i-init : goal.pass_statements-loop-i-init
pass_statements-loop-i-init t c = record { walks = nothing (inside_in c.args.setting) c.args.left; names = refl }

pub pass_statements-loop-i-preserved : goal.pass_statements-loop-i-preserved
pass_statements-loop-i-preserved t c =
    let s = c.args.setting in
    let names = c.args.names.now.items in
    let ss = c.args.statements.now in
    let x = c.index-statements-i.result in
    record {
      walks = row_passed s names (inside_in s) ss c.loop-i.i c.args.left _ x _ c.loop-i-test.true c.index-statements-i.is c.loop-i.invariant.names (c.then_statement-passed.ensures.walks _ _ c.loop-i.invariant.walks);
      names = names_more s names ss c.loop-i.i x _ _ c.loop-i-test.true c.index-statements-i.is (c.then_statement-passed.ensures.names ∙ c.loop-i.invariant.names) c.in-Ok.ensures.declared;
    }

pub pass_statements-returns-clause-walks : goal.pass_statements-returns-clause-walks
pass_statements-returns-clause-walks t c =
    let s = c.args.setting in
    let names = c.args.names.now.items in
    let ss = c.args.statements.now in
    let all : c.loop-i.i ≡ length ss = omega (arith, c.loop-i-test.false, c.loop-i.auto.i-end) in
    settle _ _ _ _ _ (ap (λ k. row_in s names (all_of (take k ss))) all ∙ ap (λ rs. row_in s names (all_of rs)) (take-length ss)) c.loop-i.invariant.walks

pub pass_statements-returns-in-Err-clause-names : goal.pass_statements-returns-in-Err-clause-names
pass_statements-returns-in-Err-clause-names t c =
    let v = c.args.names.now in
    let more = all_after v.items (all_of (take c.loop-i.i c.args.statements.now)) in
    c.truncate.ensures.items
    ∙ first_names c.len-count.result v.items more.0 _ (omega (arith, c.len-count.ensures, v.ok.0)) (c.in-Err.ensures.same ∙ c.then_statement-passed.ensures.names ∙ c.loop-i.invariant.names ∙ more.1)

pub pass_statements-returns-clause-names : goal.pass_statements-returns-clause-names
pass_statements-returns-clause-names t c =
    let v = c.args.names.now in
    let more = all_after v.items (all_of (take c.loop-i.i c.args.statements.now)) in
    c.truncate-2.ensures.items ∙ first_names c.len-count.result v.items more.0 _ (omega (arith, c.len-count.ensures, v.ok.0)) (c.loop-i.invariant.names ∙ more.1)
