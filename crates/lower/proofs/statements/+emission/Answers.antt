use Rattle.std.proofs.Common.{◌≡◌, ℕ, ◌+◌, ◌-◌, ◌<◌, ◌≤◌, ◌++◌, refl, Option, Bor, List, length, take, ap, ap₂, sym, subst, ◌∙◌, arith, rules, IfOk}
use Rattle.std.proofs.lemmas.Result.{IfOk-weaker}
use Rattle.lower.proofs.Fronts.{block_room, nodes_there}
use Rattle.lower.proofs.Reach.{put_length, past_exits, loop_exits, once_short, round_short, turns_short}
use Rattle.lower_code.proofs.Short.{statement_short, condition_short}
use Rattle.lower.proofs.LowStatements.{after_part as part_levels, after_row}
use Rattle.lower_code.proofs.Room.{fewer, fewer_there, fewer_asked}
use Rattle.lower_code.proofs.Calling.{step_is, return_is}
use denote.Param.Weighed.{most, at_most}
use Rattle.std.specs.Option.{option_map}
use Rattle.clmodel.specs.Next.{sites, part_sites, all_sites}
use Rattle.clmodel.specs.Typing.Sizes.{size, row_size}
use Rattle.clmodel.specs.Tree.{Stmt, For, ThenStmt, Without, WithTerm, stmt, term, tree_target}
use Rattle.clmodel.specs.declared.tree.Statement.{Statement, size-Statement, the_lemmas}
use Rattle.regcode.specs.declared.instruction.Instruction.{Instruction}
use Rattle.lower_expr.specs.Scope.{Scope, free_level}
use Rattle.lower_code.specs.Variables.{elements, scope_after_all, scope_after_part}
use Rattle.lower_code.specs.Trees.{all_of, part_of}
use Rattle.lower_code.specs.Code.{Exits, past, stmt_code, stmts_code, condition_code, call_code, result_in}
use Rattle.lower_code.specs.Emission.{functions_of, inside, sizes_in, widths_in, statement_code, row_code, test_of, exits_of}
use Rattle.lower_code.proofs.Growth.{before, one_before, both, inner_scope}
use Rattle.lower_code.proofs.Trees.{row_more, elements_there}
use Rattle.lower_code.proofs.Rows.{row_laid, longer, choice_placed, begun}
use Rattle.lower_code.proofs.Lists.{block_is}
use Rattle.lower_expr.proofs.Growth.{on_err}
use Rattle.lower.specs.Statements.{begun_at, once_code, round_code}
use Rattle.lower.proofs.Lent.{after_part, after_turns, left_statement}
use Rattle.lower.proofs.Rounds.{once_placed, stepped_placed, lone_round, for_placed, part_named, part_is, for_sites, if_placed, while_laid, while_is, do_is, if_else_is, for_is, part_depth_is}
use Rattle.lower.proofs.statements.+emission.Goals as goal

pub emit_statement-returns-in-Block-clause-code : goal.emit_statement-returns-in-Block-clause-code
emit_statement-returns-in-Block-clause-code t c =
    subst (λ (s : Stmt). IfOk c.emit_all.result (λ site. c.emit_all.new.code ≡ statement_code c.args.context.now c.args.scope.now s (begun_at c.args.ending site) ++ c.args.code.now))
    (block_is c.args.statement.now c.in-Block.at c.in-Block.body c.as_slice-in-Block.result.now c.in-Block.is c.as_slice-in-Block.ensures.value)
    c.emit_all.ensures.code

pub emit_statement-returns-in-Block-clause-site : goal.emit_statement-returns-in-Block-clause-site
emit_statement-returns-in-Block-clause-site t c =
    subst (λ (s : Stmt). IfOk c.emit_all.result (λ site. site + sites (inside c.args.context.now.helpers.functions.now) s ≡ c.args.ending.behind))
    (block_is c.args.statement.now c.in-Block.at c.in-Block.body c.as_slice-in-Block.result.now c.in-Block.is c.as_slice-in-Block.ensures.value)
    c.emit_all.ensures.site

pub emit_choice-returns-clause-code : goal.emit_choice-returns-clause-code
emit_choice-returns-clause-code t c =
    let s = c.args.context.now in
    let p = begun_at c.args.ending c.in_ok-site.site in
    let scope = c.args.scope.now in
    let test = term c.args.condition.now in
    let later = c.emit_statement-2.new.scope in
    let three = c.emit_statement-2.new.code in
    let one = c.emit_statement.new.code in
    let old = c.args.code.now in
    choice_placed s scope c.emit_statement.new.scope later p test (stmt c.args.chosen.now) (stmt c.args.otherwise.now) c.in_ok-between.between c.past.result old one c.put.new.self three c.put_test.new.code
    c.added-by.result c.added.result c.added-2.result
    (sym c.in_ok-site.ensures.site) c.in_ok-between.ensures.code c.in_ok-between.ensures.scope c.in_ok-site.ensures.scope
    (c.added-by.ensures ∙ ap (λ n. length one - n) c.len-end.ensures) c.in_ok-put.ensures.code
    (c.added.ensures ∙ ap (λ n. length c.put.new.self - n) c.len-end.ensures) c.past.ensures
    c.in_ok-site.ensures.code
    (c.added-2.ensures ∙ ap (λ n. length three - n) c.len-middle.ensures)
    c.in_ok-put_test.ensures.code

pub emit_once-returns-clause-code : goal.emit_once-returns-clause-code
emit_once-returns-clause-code t c =
    once_placed c.args.context.now c.args.scope.now (begun_at c.args.ending c.in_ok-site.site) (stmt c.args.body.now) (c.args.ending.depth + 1) c.in_loop.result c.args.turn.now c.emit_statement.new.code c.past.result
    refl c.past.ensures c.in_loop.ensures c.in_ok-site.ensures.code

pub emit_stepped-returns-clause-code : goal.emit_stepped-returns-clause-code
emit_stepped-returns-clause-code t c =
    let s = c.args.context.now in
    let third = stmt c.args.third.now in
    let body = stmt c.args.body.now in
    let f = inside s.helpers.functions.now in
    let at : c.in_ok-emit_once.field-0 ≡ c.in_ok-site.site + sites f third = omega (arith, c.site_before-between.ensures, c.in_ok-site.ensures.site, c.in_ok-emit_once.ensures.site) in
    stepped_placed s c.args.scope.now c.emit_statement.new.scope (begun_at c.args.ending c.in_ok-site.site) third body (c.args.ending.depth + 1) c.in_ok-emit_once.field-0 c.in_loop.result
    c.args.turn.now c.emit_statement.new.code c.emit_once.new.turn c.past.result
    refl at c.past.ensures c.in_loop.ensures c.in_ok-site.ensures.code c.in_ok-site.ensures.scope c.in_ok-emit_once.ensures.code

pub emit_round-returns-in-None-clause-code : goal.emit_round-returns-in-None-clause-code
emit_round-returns-in-None-clause-code t c =
    let s = c.args.context.now in
    let scope = c.args.scope.now in
    let old = c.args.turn.now in
    let body = stmt c.args.body.now in
    subst (λ (o : Option (Bor Statement)). IfOk c.emit_once.result (λ site. c.emit_once.new.turn ≡ round_code s scope (part_of o) body (begun_at c.args.ending site) (length old) ++ old)) (sym c.in-None.is)
    (IfOk-weaker c.emit_once.result (λ site. c.emit_once.new.turn ≡ once_code s scope body (begun_at c.args.ending site) (length old) ++ old)
    (λ site. c.emit_once.new.turn ≡ round_code s scope Without body (begun_at c.args.ending site) (length old) ++ old)
    (λ site h. h ∙ ap (λ xs. xs ++ old) (lone_round s scope (begun_at c.args.ending site) body (length old))) c.emit_once.ensures.code)

pub emit_turns-returns-clause-code : goal.emit_turns-returns-clause-code
emit_turns-returns-clause-code t c =
    let s = c.args.context.now in
    let p = begun_at c.args.ending c.in_ok-site.site in
    let scope = c.args.scope.now in
    let third = part_of c.args.third in
    let body = stmt c.args.body.now in
    let condition = condition_code scope (test_of c.args.condition) in
    let one = begun condition c.new-turn.result c.put_condition.new.code c.new-turn.ensures c.in_ok-put_condition.ensures.code in
    c.in_ok-end_while.ensures.code (round_code s scope third body p (length condition)) condition
    (c.in_ok-site.ensures.code ∙ ap (λ xs. round_code s scope third body p (length xs) ++ xs) one)
    (c.len-start.ensures ∙ ap length one)

pub emit_do-returns-clause-code : goal.emit_do-returns-clause-code
emit_do-returns-clause-code t c =
    let s = c.args.context.now in
    let p = begun_at c.args.ending c.in_ok-site.site in
    let scope = c.args.scope.now in
    let body = stmt c.args.body.now in
    let condition = condition_code scope (WithTerm (term c.args.condition.now)) in
    let one = begun condition c.new-turn.result c.put_condition.new.code c.new-turn.ensures c.in_ok-put_condition.ensures.code in
    c.in_ok-end_do.ensures.code (once_code s scope body p (length condition)) condition
    (c.in_ok-site.ensures.code ∙ ap (λ xs. once_code s scope body p (length xs) ++ xs) one)

pub emit_for-returns-clause-code : goal.emit_for-returns-clause-code
emit_for-returns-clause-code t c =
    let one = c.emit_turns.new.code in
    for_placed c.args.context.now c.args.scope.now c.declare_part.new.scope c.leave_part.new.scope (begun_at c.args.ending c.in_ok-site.site) (part_of c.args.first) (test_of c.args.condition) (part_of c.args.third) (stmt c.args.body.now)
    c.in_ok-behind.behind c.past.result c.args.code.now one c.emit_part.new.code c.added.result
    c.in_ok-declare_part.ensures.declared (c.leave_part.ensures c.args.scope.now (c.in_ok-behind.ensures.scope ∙ c.in_ok-declare_part.ensures.declared))
    c.in_ok-site.ensures.site c.in_ok-behind.ensures.code
    (c.added.ensures ∙ ap (λ n. length one - n) c.len-end.ensures) c.past.ensures c.in_ok-site.ensures.code

pub emit_for-returns-clause-site : goal.emit_for-returns-clause-site
emit_for-returns-clause-site t c =
    let f = inside c.args.context.now.helpers.functions.now in
    let first = part_sites f (part_of c.args.first) in
    let third = part_sites f (part_of c.args.third) in
    let body = sites f (stmt c.args.body.now) in
    let front : c.in_ok-site.site + first ≡ c.in_ok-behind.behind = c.in_ok-site.ensures.site in
    let rest : c.in_ok-behind.behind + (third + body) ≡ c.args.ending.behind = c.in_ok-behind.ensures.site in
    let all : c.in_ok-site.site + (first + third + body) ≡ c.args.ending.behind = omega (arith, front, rest) in
    all

pub emit_statement-returns-in-For-clause-site : goal.emit_statement-returns-in-For-clause-site
emit_statement-returns-in-For-clause-site t c =
    let f = inside c.args.context.now.helpers.functions.now in
    let first = part_named (option_map (λ s. s.value) c.in-For.first) in
    let third = part_named (option_map (λ s. s.value) c.in-For.third) in
    let x = stmt c.deref-in-For.result.now in
    let first_is : part_of c.statement_of.result ≡ first = part_is c.statement_of.result ∙ ap part_named c.statement_of.ensures in
    let third_is : part_of c.statement_of-in-For.result ≡ third = part_is c.statement_of-in-For.result ∙ ap part_named c.statement_of-in-For.ensures in
    let all : part_sites f (part_of c.statement_of.result) + part_sites f (part_of c.statement_of-in-For.result) + sites f x ≡ sites f (stmt c.args.statement.now) =
    ap₂ (λ a b. part_sites f a + part_sites f b + sites f x) first_is third_is
    ∙ ap (λ (s : Statement). part_sites f first + part_sites f third + sites f (stmt s)) c.deref-in-For.ensures
    ∙ sym (for_sites f c.in-For.at c.in-For.first c.in-For.condition c.in-For.third c.in-For.body) ∙ ap (λ (s : Statement). sites f (stmt s)) (sym c.in-For.is) in
    subst (λ (n : ℕ). IfOk c.emit_for-in-For.result (λ site. site + n ≡ c.args.ending.behind)) all c.emit_for-in-For.ensures.site

pub emit_all-loop-i-preserved : goal.emit_all-loop-i-preserved
emit_all-loop-i-preserved t c =
    let s = c.args.context.now in
    let e = c.args.ending in
    let start = c.args.scope.now in
    let ss = c.args.statements.now in
    let fs = functions_of s.helpers.functions.now in
    let f = inside s.helpers.functions.now in
    let n = length ss - c.loop-i.i in
    let place = length ss - 1 - c.loop-i.i in
    let k = length c.loop-i.code - length c.args.code.now in
    let x = c.index-statements-statements.result in
    let first = c.in_ok-behind.behind in
    let below : place < length ss = omega (arith, c.loop-i-test.true) in
    let left : n ≡ place + 1 = omega (arith, c.loop-i-test.true) in
    let next : place ≡ length ss - (c.loop-i.i + 1) = omega (arith, c.loop-i-test.true) in
    let front = all_of (take place ss) in
    let more : all_of (take n ss) ≡ ThenStmt front (stmt x) = ap (λ m. all_of (take m ss)) left ∙ row_more ss place x below c.index-statements-statements.is in
    let inner : c.leave.new.scope ≡ scope_after_all start front = c.leave.ensures (scope_after_all start front) (c.loop-i.invariant.scope ∙ ap (λ r. scope_after_all start r) more) in
    let count : all_sites f (all_of (take n ss)) ≡ all_sites f front + sites f (stmt x) = ap (λ r. all_sites f r) more in
    let begins : first + sites f (stmt x) ≡ c.loop-i.behind = c.in_ok-behind.ensures.site in
    let added : c.added.result ≡ k = c.added.ensures ∙ ap (λ m. length c.loop-i.code - m) c.len-end.ensures in
    let exits : exits_of c.past.result ≡ past k (exits_of e.exits) = c.past.ensures ∙ ap (λ m. past m (exits_of e.exits)) added in
    let code : Scope → ℕ → Exits → List Instruction = λ z m q. stmt_code (call_code fs) (result_in fs) f s.result z (stmt x) e.depth m q in
    let last = code c.leave.new.scope first (exits_of c.past.result) in
    let emitted : c.emit_statement.new.code ≡ last ++ c.loop-i.code = c.in_ok-behind.ensures.code in
    let length_is = longer last c.loop-i.code c.emit_statement.new.code emitted in
    let behind = length c.emit_statement.new.code - length c.args.code.now in
    let sizes = widths_in s.helpers.functions.now in
    let most = (statement_short s c.leave.new.scope (stmt x) e.depth first (exits_of c.past.result)).most in
    let nodes : (row_size sizes (all_of (take n ss))).nodes ≡ (row_size sizes front).nodes + (size sizes (stmt x)).nodes = ap (λ r. (row_size sizes r).nodes) more in
    let fewer_left : (row_size sizes (all_of (take (length ss - (c.loop-i.i + 1)) ss))).nodes ≡ (row_size sizes front).nodes = ap (λ m. (row_size sizes (all_of (take m ss))).nodes) (sym next) in
    let shorter : all_sites f (all_of (take (length ss - (c.loop-i.i + 1)) ss)) ≡ all_sites f front = ap (λ m. all_sites f (all_of (take m ss))) (sym next) in
    record {
      scope = c.in_ok-behind.ensures.scope ∙ inner ∙ ap (λ m. scope_after_all start (all_of (take m ss))) next;
      site = omega (arith, c.loop-i.invariant.site, count, begins, shorter);
      longer = omega (arith, length_is, c.loop-i.invariant.longer);
      short = omega (arith, length_is, most, nodes, fewer_left, c.loop-i.invariant.short);
      grows = both c.args.code.now c.loop-i.code c.emit_statement.new.code c.loop-i.invariant.grows (record { added = last; is = emitted });
      code = λ site there.
          let here : site + all_sites f front ≡ first = ap (λ m. site + m) (sym shorter) ∙ there in
          let was : site + all_sites f (all_of (take n ss)) ≡ c.loop-i.behind = omega (arith, count, here, begins) in
          row_laid (call_code fs) (result_in fs) f s.result start front (stmt x) e.depth site k behind (exits_of e.exits) last c.loop-i.code c.emit_statement.new.code (row_code s start (all_of ss) (begun_at e site) ++ c.args.code.now)
          (ap₂ (λ z m. code z m (exits_of c.past.result)) inner (sym here) ∙ ap (λ q. code (scope_after_all start front) (site + all_sites f front) q) exits)
          (c.loop-i.invariant.code site was ∙ ap (λ r. stmts_code (call_code fs) (result_in fs) f s.result start r e.depth site (past k (exits_of e.exits)) ++ c.loop-i.code) more)
          emitted (omega (arith, length_is, c.loop-i.invariant.longer))
          ∙ ap (λ m. stmts_code (call_code fs) (result_in fs) f s.result start (all_of (take m ss)) e.depth site (past behind (exits_of e.exits)) ++ c.emit_statement.new.code) next;
    }

pub emit_all-returns-in_err-behind-clause-longer : goal.emit_all-returns-in_err-behind-clause-longer
emit_all-returns-in_err-behind-clause-longer t c =
    on_err c.from_residual-in_err-behind.result (both c.args.code.now c.loop-i.code c.emit_statement.new.code c.loop-i.invariant.grows c.in_err-behind.ensures.longer)

pub emit_all-returns-in_err-behind-clause-kept : goal.emit_all-returns-in_err-behind-clause-kept
emit_all-returns-in_err-behind-clause-kept t c =
    on_err c.from_residual-in_err-behind.result
    (inner_scope c.args.scope.now c.leave.new.scope c.emit_statement.new.scope
    (left_statement c.args.scope.now c.loop-i.scope c.leave.new.scope c.args.statements.now c.loop-i.i c.index-statements-statements.result
    (omega (arith, c.loop-i-test.true)) c.index-statements-statements.is c.loop-i.invariant.scope c.leave.ensures)
    c.in_err-behind.ensures.kept)

pub emit_choice-returns-in_err-site-clause-longer : goal.emit_choice-returns-in_err-site-clause-longer
emit_choice-returns-in_err-site-clause-longer t c =
    on_err c.from_residual-in_err-site.result
    (before c.args.code.now c.emit_statement.new.code c.emit_statement-2.new.code _ c.in_ok-between.ensures.code
    (one_before _ c.emit_statement.new.code c.put.new.self c.emit_statement-2.new.code c.in_ok-put.ensures.code
    (c.in_err-site.ensures.longer)))

pub emit_choice-returns-in_err-put_test-clause-longer : goal.emit_choice-returns-in_err-put_test-clause-longer
emit_choice-returns-in_err-put_test-clause-longer t c =
    on_err c.from_residual-in_err-put_test.result
    (before c.args.code.now c.emit_statement.new.code c.put_test.new.code _ c.in_ok-between.ensures.code
    (one_before _ c.emit_statement.new.code c.put.new.self c.put_test.new.code c.in_ok-put.ensures.code
    (before c.put.new.self c.emit_statement-2.new.code c.put_test.new.code _ c.in_ok-site.ensures.code c.in_err-put_test.ensures.longer)))

pub emit_for-returns-in_err-behind-clause-kept : goal.emit_for-returns-in_err-behind-clause-kept
emit_for-returns-in_err-behind-clause-kept t c =
    on_err c.from_residual-in_err-behind.result
    (inner_scope c.args.scope.now c.declare_part.new.scope c.emit_turns.new.scope
    (after_part c.args.scope.now c.declare_part.new.scope (part_of c.args.first) c.in_ok-declare_part.ensures.declared)
    c.in_err-behind.ensures.kept)

pub emit_for-returns-in_err-site-clause-longer : goal.emit_for-returns-in_err-site-clause-longer
emit_for-returns-in_err-site-clause-longer t c =
    on_err c.from_residual-in_err-site.result
    (after_turns c.args.context.now c.declare_part.new.scope (test_of c.args.condition) (part_of c.args.third) (stmt c.args.body.now) (begun_at c.args.ending c.in_ok-behind.behind)
    c.args.code.now c.emit_turns.new.code c.emit_part.new.code c.in_ok-behind.ensures.code c.in_err-site.ensures.longer)

pub emit_all-emit_statement-requires : goal.emit_all-emit_statement-requires
emit_all-emit_statement-requires t c =
    let ss = c.args.statements.now in
    let f = inside c.args.context.now.helpers.functions.now in
    let place = length ss - 1 - c.loop-i.i in
    let x = c.index-statements-statements.result in
    let below : place < length ss = omega (arith, c.loop-i-test.true) in
    let left : length ss - c.loop-i.i ≡ place + 1 = omega (arith, c.loop-i-test.true) in
    let count : all_sites f (all_of (take (length ss - c.loop-i.i) ss)) ≡ all_sites f (all_of (take place ss)) + sites f (stmt x) =
    ap (λ m. all_sites f (all_of (take m ss))) left ∙ ap (λ r. all_sites f r) (row_more ss place x below c.index-statements-statements.is) in
    let few : all_sites f (all_of ss) ≤ c.args.ending.behind = c.requires.few in
    let smaller : size-Statement x ≤ most size-Statement ss = subst (λ (y : Statement). size-Statement y ≤ most size-Statement ss) (sym c.index-statements-statements.is) (at_most size-Statement ss place x below) in
    let sizes = sizes_in c.args.context.now.helpers.functions.now in
    let nodes = nodes_there sizes ss place x below c.index-statements-statements.is in
    let widths = widths_in c.args.context.now.helpers.functions.now in
    let width = nodes_there widths ss place x below c.index-statements-statements.is in
    let all = c.requires.small in
    let low = c.requires.low in
    let start = c.args.scope.now in
    let front = all_of (take place ss) in
    let more : all_of (take (length ss - c.loop-i.i) ss) ≡ ThenStmt front (stmt x) = ap (λ m. all_of (take m ss)) left ∙ row_more ss place x below c.index-statements-statements.is in
    let inner : c.leave.new.scope ≡ scope_after_all start front = c.leave.ensures (scope_after_all start front) (c.loop-i.invariant.scope ∙ ap (λ r. scope_after_all start r) more) in
    let level : free_level c.leave.new.scope ≡ free_level (scope_after_all start front) = ap (λ (z : Scope). free_level z) inner in
    let after = after_row widths start.variables front in
    let parts : (row_size widths (all_of (take (length ss - c.loop-i.i) ss))).nodes ≡ (row_size widths front).nodes + (size widths (stmt x)).nodes = ap (λ r. (row_size widths r).nodes) more in
    let added : c.added.result ≡ length c.loop-i.code - length c.args.code.now = c.added.ensures ∙ ap (λ m. length c.loop-i.code - m) c.len-end.ensures in
    let exits = past_exits c.added.result c.args.ending.exits c.past.result c.past.ensures in
    let far = c.requires.short in
    let behind = c.loop-i.invariant.short in
    let arrays = elements_there ss place x below c.index-statements-statements.is in
    let most_elements = c.requires.arrays in
    let longer_code = c.loop-i.invariant.longer in (
      omega (arith, smaller),
      record {
        few = omega (arith, c.loop-i.invariant.site, count, few);
        small = omega (arith, nodes, all);
        low = omega (arith, level, after, width, low);
        short = omega (arith, parts, added, exits, far, behind, longer_code);
        arrays = omega (arith, arrays, most_elements);
      },
    )

pub emit_choice-emit_statement-requires-2 : goal.emit_choice-emit_statement-requires-2
emit_choice-emit_statement-requires-2 t c =
    let f = inside c.args.context.now.helpers.functions.now in
    let between : c.in_ok-between.between + sites f (stmt c.args.otherwise.now) ≡ c.args.ending.behind = c.in_ok-between.ensures.site in
    let few : sites f (stmt c.args.chosen.now) + sites f (stmt c.args.otherwise.now) ≤ c.args.ending.behind = c.requires.few in
    let level : free_level c.emit_statement.new.scope ≡ free_level c.args.scope.now = ap (λ (z : Scope). free_level z) c.in_ok-between.ensures.scope in
    let small = c.requires.small in
    let low = c.requires.low in
    let s = c.args.context.now in
    let second = put_length c.args.code.now c.emit_statement.new.code (statement_short s c.args.scope.now (stmt c.args.otherwise.now) c.args.ending.depth c.in_ok-between.between (exits_of c.args.ending.exits)) c.in_ok-between.ensures.code in
    let jump = ap length c.in_ok-put.ensures.code in
    let added : c.added.result ≡ length c.put.new.self - length c.args.code.now = c.added.ensures ∙ ap (λ m. length c.put.new.self - m) c.len-end.ensures in
    let exits = past_exits c.added.result c.args.ending.exits c.past.result c.past.ensures in
    let far = c.requires.short in
    let arrays = c.requires.arrays in
    (search rules, record { few = omega (arith, between, few); small = omega (arith, small); low = omega (arith, level, low); short = omega (arith, second, jump, added, exits, far); arrays = omega (arith, arrays) })

pub emit_if-put_test-requires : goal.emit_if-put_test-requires
emit_if-put_test-requires t c =
    let fewer_nodes = fewer (widths_in c.args.context.now.helpers.functions.now) (term c.args.condition.now) in
    let level : free_level c.emit_statement.new.scope ≡ free_level c.args.scope.now = ap (λ (z : Scope). free_level z) c.in_ok-site.ensures.scope in
    let low = c.requires.low in
    omega (arith, fewer_nodes, level, low)

pub emit_choice-put_test-requires : goal.emit_choice-put_test-requires
emit_choice-put_test-requires t c =
    let fewer_nodes = fewer (widths_in c.args.context.now.helpers.functions.now) (term c.args.condition.now) in
    let level : free_level c.emit_statement-2.new.scope ≡ free_level c.args.scope.now = ap (λ (z : Scope). free_level z) (c.in_ok-site.ensures.scope ∙ c.in_ok-between.ensures.scope) in
    let low = c.requires.low in
    omega (arith, fewer_nodes, level, low)

pub emit_do-put_condition-requires : goal.emit_do-put_condition-requires
emit_do-put_condition-requires t c =
    let fewer_nodes = fewer (widths_in c.args.context.now.helpers.functions.now) (term c.args.condition.now) in
    let low = c.requires.low in
    omega (arith, fewer_nodes, low)

pub emit_turns-put_condition-requires : goal.emit_turns-put_condition-requires
emit_turns-put_condition-requires t c =
    let fewer_nodes = fewer_asked (widths_in c.args.context.now.helpers.functions.now) (test_of c.args.condition) in
    let low = c.requires.low in
    omega (arith, fewer_nodes, low)

pub emit_for-emit_turns-requires : goal.emit_for-emit_turns-requires
emit_for-emit_turns-requires t c =
    let sizes = widths_in c.args.context.now.helpers.functions.now in
    let after = part_levels sizes c.args.scope.now.variables (part_of c.args.first) in
    let level : free_level c.declare_part.new.scope ≡ free_level (scope_after_part c.args.scope.now (part_of c.args.first)) = ap (λ (z : Scope). free_level z) c.in_ok-declare_part.ensures.declared in
    let few = c.requires.few in
    let small = c.requires.small in
    let low = c.requires.low in
    let far = c.requires.short in
    let arrays = c.requires.arrays in
    (search rules, record { few = omega (arith, few); small = omega (arith, small); low = omega (arith, level, after, low); short = omega (arith, far); arrays = omega (arith, arrays) })

pub emit_for-emit_part-requires : goal.emit_for-emit_part-requires
emit_for-emit_part-requires t c =
    let level : free_level c.leave_part.new.scope ≡ free_level c.args.scope.now =
    ap (λ (z : Scope). free_level z) (c.leave_part.ensures c.args.scope.now (c.in_ok-behind.ensures.scope ∙ c.in_ok-declare_part.ensures.declared)) in
    let few = c.requires.few in
    let behind = c.in_ok-behind.ensures.site in
    let small = c.requires.small in
    let low = c.requires.low in
    let loop = put_length c.args.code.now c.emit_turns.new.code (turns_short c.args.context.now c.declare_part.new.scope (test_of c.args.condition) (part_of c.args.third) (stmt c.args.body.now) (begun_at c.args.ending c.in_ok-behind.behind)) c.in_ok-behind.ensures.code in
    let added : c.added.result ≡ length c.emit_turns.new.code - length c.args.code.now = c.added.ensures ∙ ap (λ m. length c.emit_turns.new.code - m) c.len-end.ensures in
    let exits = past_exits c.added.result c.args.ending.exits c.past.result c.past.ensures in
    let far = c.requires.short in
    let arrays = c.requires.arrays in
    (search rules, record { few = omega (arith, few, behind); small = omega (arith, small); low = omega (arith, level, low); short = omega (arith, loop, added, exits, far); arrays = omega (arith, arrays) })

pub emit_statement-emit_all-requires : goal.emit_statement-emit_all-requires
emit_statement-emit_all-requires t c = (
  search (rules, the_lemmas),
  block_room c.args.context.now c.args.statement.now c.in-Block.at c.in-Block.body c.as_slice-in-Block.result.now c.args.scope.now c.args.ending c.args.code.now c.in-Block.is c.as_slice-in-Block.ensures.value c.requires,
)

-- lengths of 32 bits
pub emit_all-added-requires : goal.emit_all-added-requires
emit_all-added-requires t c =
    let far = c.requires.short in
    let behind = c.loop-i.invariant.short in
    omega (arith, far, behind)

pub emit_all-past-requires : goal.emit_all-past-requires
emit_all-past-requires t c =
    let far = c.requires.short in
    let behind = c.loop-i.invariant.short in
    let added : c.added.result ≡ length c.loop-i.code - length c.args.code.now = c.added.ensures ∙ ap (λ m. length c.loop-i.code - m) c.len-end.ensures in
    record {
      broken = omega (arith, far, behind, added);
      continued = omega (arith, far, behind, added);
      returned = omega (arith, far, behind, added);
    }

pub emit_if-added-requires : goal.emit_if-added-requires
emit_if-added-requires t c =
    let first = put_length c.args.code.now c.emit_statement.new.code (statement_short c.args.context.now c.args.scope.now (stmt c.args.chosen.now) c.args.ending.depth c.in_ok-site.site (exits_of c.args.ending.exits)) c.in_ok-site.ensures.code in
    let far = c.requires.short in
    omega (arith, first, far)

pub emit_choice-len-middle-requires : goal.emit_choice-len-middle-requires
emit_choice-len-middle-requires t c =
    let second = put_length c.args.code.now c.emit_statement.new.code (statement_short c.args.context.now c.args.scope.now (stmt c.args.otherwise.now) c.args.ending.depth c.in_ok-between.between (exits_of c.args.ending.exits)) c.in_ok-between.ensures.code in
    let far = c.requires.short in
    omega (arith, second, far)

pub emit_choice-added-by-requires : goal.emit_choice-added-by-requires
emit_choice-added-by-requires t c =
    let second = put_length c.args.code.now c.emit_statement.new.code (statement_short c.args.context.now c.args.scope.now (stmt c.args.otherwise.now) c.args.ending.depth c.in_ok-between.between (exits_of c.args.ending.exits)) c.in_ok-between.ensures.code in
    let far = c.requires.short in
    omega (arith, second, far)

pub emit_choice-added-requires : goal.emit_choice-added-requires
emit_choice-added-requires t c =
    let second = put_length c.args.code.now c.emit_statement.new.code (statement_short c.args.context.now c.args.scope.now (stmt c.args.otherwise.now) c.args.ending.depth c.in_ok-between.between (exits_of c.args.ending.exits)) c.in_ok-between.ensures.code in
    let jump = ap length c.in_ok-put.ensures.code in
    let far = c.requires.short in
    omega (arith, second, jump, far)

pub emit_choice-past-requires : goal.emit_choice-past-requires
emit_choice-past-requires t c =
    let second = put_length c.args.code.now c.emit_statement.new.code (statement_short c.args.context.now c.args.scope.now (stmt c.args.otherwise.now) c.args.ending.depth c.in_ok-between.between (exits_of c.args.ending.exits)) c.in_ok-between.ensures.code in
    let jump = ap length c.in_ok-put.ensures.code in
    let added : c.added.result ≡ length c.put.new.self - length c.args.code.now = c.added.ensures ∙ ap (λ m. length c.put.new.self - m) c.len-end.ensures in
    let far = c.requires.short in
    record {
      broken = omega (arith, second, jump, added, far);
      continued = omega (arith, second, jump, added, far);
      returned = omega (arith, second, jump, added, far);
    }

pub emit_choice-added-requires-2 : goal.emit_choice-added-requires-2
emit_choice-added-requires-2 t c =
    let s = c.args.context.now in
    let second = put_length c.args.code.now c.emit_statement.new.code (statement_short s c.args.scope.now (stmt c.args.otherwise.now) c.args.ending.depth c.in_ok-between.between (exits_of c.args.ending.exits)) c.in_ok-between.ensures.code in
    let jump = ap length c.in_ok-put.ensures.code in
    let first = put_length c.put.new.self c.emit_statement-2.new.code (statement_short s c.emit_statement.new.scope (stmt c.args.chosen.now) c.args.ending.depth c.in_ok-site.site (exits_of c.past.result)) c.in_ok-site.ensures.code in
    let far = c.requires.short in
    omega (arith, second, jump, first, far)

pub emit_for-added-requires : goal.emit_for-added-requires
emit_for-added-requires t c =
    let loop = put_length c.args.code.now c.emit_turns.new.code (turns_short c.args.context.now c.declare_part.new.scope (test_of c.args.condition) (part_of c.args.third) (stmt c.args.body.now) (begun_at c.args.ending c.in_ok-behind.behind)) c.in_ok-behind.ensures.code in
    let far = c.requires.short in
    omega (arith, loop, far)

pub emit_for-past-requires : goal.emit_for-past-requires
emit_for-past-requires t c =
    let loop = put_length c.args.code.now c.emit_turns.new.code (turns_short c.args.context.now c.declare_part.new.scope (test_of c.args.condition) (part_of c.args.third) (stmt c.args.body.now) (begun_at c.args.ending c.in_ok-behind.behind)) c.in_ok-behind.ensures.code in
    let added : c.added.result ≡ length c.emit_turns.new.code - length c.args.code.now = c.added.ensures ∙ ap (λ m. length c.emit_turns.new.code - m) c.len-end.ensures in
    let far = c.requires.short in
    record {
      broken = omega (arith, loop, added, far);
      continued = omega (arith, loop, added, far);
      returned = omega (arith, loop, added, far);
    }

pub emit_do-emit_once-requires : goal.emit_do-emit_once-requires
emit_do-emit_once-requires t c =
    let sizes = widths_in c.args.context.now.helpers.functions.now in
    let test = WithTerm (term c.args.condition.now) in
    let turn = ap length (begun (condition_code c.args.scope.now test) c.new-turn.result c.put_condition.new.code c.new-turn.ensures c.in_ok-put_condition.ensures.code) in
    let most = (condition_short sizes c.args.scope.now test).most in
    let few = c.requires.few in
    let small = c.requires.small in
    let low = c.requires.low in
    let far = c.requires.short in
    let arrays = c.requires.arrays in
    (search rules, record { few = omega (arith, few); small = omega (arith, small); low = omega (arith, low); short = omega (arith, turn, most, far); arrays = omega (arith, arrays) })

pub emit_do-end_do-requires : goal.emit_do-end_do-requires
emit_do-end_do-requires t c =
    let s = c.args.context.now in
    let sizes = widths_in s.helpers.functions.now in
    let test = WithTerm (term c.args.condition.now) in
    let turn = ap length (begun (condition_code c.args.scope.now test) c.new-turn.result c.put_condition.new.code c.new-turn.ensures c.in_ok-put_condition.ensures.code) in
    let most = (condition_short sizes c.args.scope.now test).most in
    let body = put_length c.put_condition.new.code c.emit_once.new.turn (once_short s c.args.scope.now (stmt c.args.body.now) (begun_at c.args.ending c.in_ok-site.site) (length c.put_condition.new.code)) c.in_ok-site.ensures.code in
    let far = c.requires.short in
    omega (arith, turn, most, body, far)

pub emit_once-emit_statement-requires : goal.emit_once-emit_statement-requires
emit_once-emit_statement-requires t c =
    let few = c.requires.few in
    let small = c.requires.small in
    let low = c.requires.low in
    let rest = c.past.ensures in
    let exits = loop_exits c.past.result c.args.ending.exits c.in_loop.result c.in_loop.ensures in
    let far = c.requires.short in
    let arrays = c.requires.arrays in
    (search rules, record { few = omega (arith, few); small = omega (arith, small); low = omega (arith, low); short = omega (arith, rest, exits, far); arrays = omega (arith, arrays) })

pub emit_stepped-emit_statement-requires : goal.emit_stepped-emit_statement-requires
emit_stepped-emit_statement-requires t c =
    let few = c.requires.few in
    let between = c.site_before-between.ensures in
    let small = c.requires.small in
    let low = c.requires.low in
    let rest = c.past.ensures in
    let exits = loop_exits c.past.result c.args.ending.exits c.in_loop.result c.in_loop.ensures in
    let far = c.requires.short in
    let arrays = c.requires.arrays in
    (search rules, record { few = omega (arith, few, between); small = omega (arith, small); low = omega (arith, low); short = omega (arith, rest, exits, far); arrays = omega (arith, arrays) })

pub emit_stepped-emit_once-requires : goal.emit_stepped-emit_once-requires
emit_stepped-emit_once-requires t c =
    let few = c.requires.few in
    let small = c.requires.small in
    let low = c.requires.low in
    let level : free_level c.emit_statement.new.scope ≡ free_level c.args.scope.now = ap (λ (z : Scope). free_level z) c.in_ok-site.ensures.scope in
    let third = put_length c.args.turn.now c.emit_statement.new.code (statement_short c.args.context.now c.args.scope.now (stmt c.args.third.now) (c.args.ending.depth + 1) c.in_ok-site.site (exits_of c.in_loop.result)) c.in_ok-site.ensures.code in
    let far = c.requires.short in
    let arrays = c.requires.arrays in
    (search rules, record { few = omega (arith, few); small = omega (arith, small); low = omega (arith, low, level); short = omega (arith, third, far); arrays = omega (arith, arrays) })

pub emit_turns-emit_round-requires : goal.emit_turns-emit_round-requires
emit_turns-emit_round-requires t c =
    let sizes = widths_in c.args.context.now.helpers.functions.now in
    let test = test_of c.args.condition in
    let turn = ap length (begun (condition_code c.args.scope.now test) c.new-turn.result c.put_condition.new.code c.new-turn.ensures c.in_ok-put_condition.ensures.code) in
    let most = (condition_short sizes c.args.scope.now test).most in
    let few = c.requires.few in
    let small = c.requires.small in
    let low = c.requires.low in
    let far = c.requires.short in
    let arrays = c.requires.arrays in
    (search rules, record { few = omega (arith, few); small = omega (arith, small); low = omega (arith, low); short = omega (arith, turn, most, far); arrays = omega (arith, arrays) })

pub emit_turns-len-start-requires : goal.emit_turns-len-start-requires
emit_turns-len-start-requires t c =
    let sizes = widths_in c.args.context.now.helpers.functions.now in
    let test = test_of c.args.condition in
    let turn = ap length (begun (condition_code c.args.scope.now test) c.new-turn.result c.put_condition.new.code c.new-turn.ensures c.in_ok-put_condition.ensures.code) in
    let most = (condition_short sizes c.args.scope.now test).most in
    let far = c.requires.short in
    omega (arith, turn, most, far)

pub emit_turns-end_while-requires : goal.emit_turns-end_while-requires
emit_turns-end_while-requires t c =
    let s = c.args.context.now in
    let sizes = widths_in s.helpers.functions.now in
    let test = test_of c.args.condition in
    let turn = ap length (begun (condition_code c.args.scope.now test) c.new-turn.result c.put_condition.new.code c.new-turn.ensures c.in_ok-put_condition.ensures.code) in
    let most = (condition_short sizes c.args.scope.now test).most in
    let round = put_length c.put_condition.new.code c.emit_round.new.turn (round_short s c.args.scope.now (part_of c.args.third) (stmt c.args.body.now) (begun_at c.args.ending c.in_ok-site.site) (length c.put_condition.new.code)) c.in_ok-site.ensures.code in
    let far = c.requires.short in
    omega (arith, turn, most, round, far)

pub emit_choice-returns-clause-site : goal.emit_choice-returns-clause-site
emit_choice-returns-clause-site t c =
    let f = inside c.args.context.now.helpers.functions.now in
    let one : c.in_ok-site.site + sites f (stmt c.args.chosen.now) ≡ c.in_ok-between.between = c.in_ok-site.ensures.site in
    let two : c.in_ok-between.between + sites f (stmt c.args.otherwise.now) ≡ c.args.ending.behind = c.in_ok-between.ensures.site in
    omega (arith, one, two)

pub emit_if-returns-clause-code : goal.emit_if-returns-clause-code
emit_if-returns-clause-code t c =
    let one = c.emit_statement.new.code in
    if_placed c.args.context.now c.args.scope.now c.emit_statement.new.scope (begun_at c.args.ending c.in_ok-site.site) (term c.args.condition.now) (stmt c.args.chosen.now) c.args.code.now one c.put_test.new.code c.added.result
    c.in_ok-site.ensures.code c.in_ok-site.ensures.scope (c.added.ensures ∙ ap (λ n. length one - n) c.len-end.ensures) c.in_ok-put_test.ensures.code

pub emit_statement-emit_for-requires-in-For : goal.emit_statement-emit_for-requires-in-For
emit_statement-emit_for-requires-in-For t c =
    let sizes = sizes_in c.args.context.now.helpers.functions.now in
    let f = inside c.args.context.now.helpers.functions.now in
    let whole = for_is c.args.statement.now c.in-For.at c.in-For.first c.in-For.condition c.in-For.third c.in-For.body c.statement_of.result c.statement_of-in-For.result (test_of c.condition_of.result) c.deref-in-For.result.now
    c.in-For.is c.statement_of.ensures c.condition_of.ensures c.statement_of-in-For.ensures c.deref-in-For.ensures in
    let barriers = ap (λ x. sites f x) whole in
    let nodes = ap (λ x. (size sizes x).nodes) whole in
    let widths = widths_in c.args.context.now.helpers.functions.now in
    let width = ap (λ x. (size widths x).nodes) whole in
    let arrays = ap (λ x. elements x) whole in
    let few = c.requires.few in
    let small = c.requires.small in
    let low = c.requires.low in
    let far = c.requires.short in
    let most = c.requires.arrays in
    let first = part_depth_is c.statement_of.result c.in-For.first c.statement_of.ensures in
    let third = part_depth_is c.statement_of-in-For.result c.in-For.third c.statement_of-in-For.ensures in
    let body = ap (λ (x : Statement). size-Statement x) c.deref-in-For.ensures in
    let all = ap (λ (x : Statement). size-Statement x) c.in-For.is in
    (search (rules, the_lemmas), record { few = omega (arith, barriers, few); small = omega (arith, nodes, small); low = omega (arith, width, low); short = omega (arith, width, far); arrays = omega (arith, arrays, most) })

pub emit_statement-returns-in-While-clause-code : goal.emit_statement-returns-in-While-clause-code
emit_statement-returns-in-While-clause-code t c =
    let s = c.args.context.now in
    let scope = c.args.scope.now in
    let old = c.args.code.now in
    let test = term c.deref-in-While.result.now in
    let body = stmt c.deref-in-While-2.result.now in
    let whole = while_is c.args.statement.now c.in-While.at c.in-While.condition c.in-While.body c.deref-in-While.result.now c.deref-in-While-2.result.now c.in-While.is c.deref-in-While.ensures c.deref-in-While-2.ensures in
    IfOk-weaker c.emit_for.result (λ site. c.emit_for.new.code ≡ statement_code s scope (For 0 Without (WithTerm test) Without body) (begun_at c.args.ending site) ++ old)
    (λ site. c.emit_for.new.code ≡ statement_code s scope (stmt c.args.statement.now) (begun_at c.args.ending site) ++ old)
    (λ site h. h ∙ ap (λ xs. xs ++ old) (while_laid s scope c.in-While.at test body (begun_at c.args.ending site) ∙ ap (λ x. statement_code s scope x (begun_at c.args.ending site)) whole)) c.emit_for.ensures.code

pub emit_statement-returns-in-While-clause-site : goal.emit_statement-returns-in-While-clause-site
emit_statement-returns-in-While-clause-site t c =
    let f = inside c.args.context.now.helpers.functions.now in
    let body = stmt c.deref-in-While-2.result.now in
    let whole = ap (λ x. sites f x) (while_is c.args.statement.now c.in-While.at c.in-While.condition c.in-While.body c.deref-in-While.result.now c.deref-in-While-2.result.now c.in-While.is c.deref-in-While.ensures c.deref-in-While-2.ensures) in
    IfOk-weaker c.emit_for.result (λ site. site + (0 + 0 + sites f body) ≡ c.args.ending.behind) (λ site. site + sites f (stmt c.args.statement.now) ≡ c.args.ending.behind)
    (λ site h. omega (arith, h, whole)) c.emit_for.ensures.site

pub emit_statement-returns-in-DoWhile-clause-site : goal.emit_statement-returns-in-DoWhile-clause-site
emit_statement-returns-in-DoWhile-clause-site t c =
    let f = inside c.args.context.now.helpers.functions.now in
    let body = c.deref-in-DoWhile.result.now in
    let whole = ap (λ x. sites f x) (do_is c.args.statement.now c.in-DoWhile.at c.in-DoWhile.body c.in-DoWhile.condition body c.in-DoWhile.is c.deref-in-DoWhile.ensures) in
    IfOk-weaker c.emit_do.result (λ site. site + sites f (stmt body) ≡ c.args.ending.behind) (λ site. site + sites f (stmt c.args.statement.now) ≡ c.args.ending.behind)
    (λ site h. omega (arith, h, whole)) c.emit_do.ensures.site

pub emit_statement-returns-in-For-clause-code : goal.emit_statement-returns-in-For-clause-code
emit_statement-returns-in-For-clause-code t c =
    let s = c.args.context.now in
    let scope = c.args.scope.now in
    let old = c.args.code.now in
    let whole = for_is c.args.statement.now c.in-For.at c.in-For.first c.in-For.condition c.in-For.third c.in-For.body c.statement_of.result c.statement_of-in-For.result (test_of c.condition_of.result) c.deref-in-For.result.now
    c.in-For.is c.statement_of.ensures c.condition_of.ensures c.statement_of-in-For.ensures c.deref-in-For.ensures in
    IfOk-weaker c.emit_for-in-For.result
    (λ site. c.emit_for-in-For.new.code ≡ statement_code s scope (For 0 (part_of c.statement_of.result) (test_of c.condition_of.result) (part_of c.statement_of-in-For.result) (stmt c.deref-in-For.result.now)) (begun_at c.args.ending site) ++ old)
    (λ site. c.emit_for-in-For.new.code ≡ statement_code s scope (stmt c.args.statement.now) (begun_at c.args.ending site) ++ old)
    (λ site h. h ∙ ap (λ x. statement_code s scope x (begun_at c.args.ending site) ++ old) whole) c.emit_for-in-For.ensures.code

pub emit_statement-returns-in-IfElse-clause-site : goal.emit_statement-returns-in-IfElse-clause-site
emit_statement-returns-in-IfElse-clause-site t c =
    let f = inside c.args.context.now.helpers.functions.now in
    let one = c.deref-in-IfElse-2.result.now in
    let two = c.deref-in-IfElse-3.result.now in
    let whole = ap (λ x. sites f x) (if_else_is c.args.statement.now c.in-IfElse.at c.in-IfElse.condition c.in-IfElse.chosen c.in-IfElse.otherwise one two c.in-IfElse.is c.deref-in-IfElse-2.ensures c.deref-in-IfElse-3.ensures) in
    IfOk-weaker c.emit_choice.result (λ site. site + (sites f (stmt one) + sites f (stmt two)) ≡ c.args.ending.behind) (λ site. site + sites f (stmt c.args.statement.now) ≡ c.args.ending.behind)
    (λ site h. omega (arith, h, whole)) c.emit_choice.ensures.site

pub emit_statement-returns-in-If-clause-site : goal.emit_statement-returns-in-If-clause-site
emit_statement-returns-in-If-clause-site t c =
    let f = inside c.args.context.now.helpers.functions.now in
    let chosen = c.deref-in-If-2.result.now in
    let whole : sites f (stmt chosen) ≡ sites f (stmt c.args.statement.now) = ap (λ (s : Statement). sites f (stmt s)) c.deref-in-If-2.ensures ∙ ap (λ (s : Statement). sites f (stmt s)) (sym c.in-If.is) in
    IfOk-weaker c.emit_if.result (λ site. site + sites f (stmt chosen) ≡ c.args.ending.behind) (λ site. site + sites f (stmt c.args.statement.now) ≡ c.args.ending.behind)
    (λ site h. omega (arith, h, whole)) c.emit_if.ensures.site

pub emit_statement-returns-in_ok-put_step-in-Step-clause-code : goal.emit_statement-returns-in_ok-put_step-in-Step-clause-code
emit_statement-returns-in_ok-put_step-in-Step-clause-code t c =
    let s = c.args.context.now in
    let fs = functions_of s.helpers.functions.now in
    let e = c.args.ending in
    c.in_ok-put_step-in-Step.ensures.code (call_code fs) (result_in fs) (inside s.helpers.functions.now) s.result
    ∙ ap (λ (x : Stmt). statement_code s c.args.scope.now x (begun_at e e.behind) ++ c.args.code.now)
    (step_is c.args.statement.now c.in-Step.at c.in-Step.target c.in-Step.is_increment c.deref-in-Step.result.now c.in-Step.is c.deref-in-Step.ensures)

pub emit_statement-put_step-requires : goal.emit_statement-put_step-requires
emit_statement-put_step-requires t c =
    let sizes = widths_in c.args.context.now.helpers.functions.now in
    let whole = ap (λ (s : Stmt). (size sizes s).nodes) (step_is c.args.statement.now c.in-Step.at c.in-Step.target c.in-Step.is_increment c.deref-in-Step.result.now c.in-Step.is c.deref-in-Step.ensures) in
    let to = fewer_there sizes (tree_target c.deref-in-Step.result.now) in
    let low = c.requires.low in
    omega (arith, whole, to, low)

pub emit_statement-put_return_value-requires : goal.emit_statement-put_return_value-requires
emit_statement-put_return_value-requires t c =
    let sizes = widths_in c.args.context.now.helpers.functions.now in
    let value = c.deref-in-Some-value.result.now in
    let whole = ap (λ (s : Stmt). (size sizes s).nodes) (return_is c.args.statement.now c.in-Return.at c.in-Return.value c.in-Some-value.value value c.in-Return.is c.in-Some-value.is c.deref-in-Some-value.ensures) in
    let less = fewer sizes (term value) in
    let low = c.requires.low in
    omega (arith, whole, less, low)
