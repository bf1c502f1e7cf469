use Rattle.std.proofs.Common.{rules, ◌≡◌, ◌++◌, inr, sym, ap, ◌∙◌, subst}
use Rattle.clmodel.specs.Tree as tree
use Rattle.clmodel.specs.Tree.{term, stmt, maybe_term}
use Rattle.clmodel.specs.Typing.Context.{enter, turning, after_part, after_all}
use Rattle.clmodel.specs.Typing.Faults.{integer_faults, kind_of, start, term_faults, condition_parts, condition_faults, part_faults, faults}
use Rattle.clmodel.specs.Typing.Least.{least, first}
use Rattle.cltypes_scope.specs.Names.{left}
use Rattle.cltypes_scope.proofs.Follows.{inside, inside_first, inside_second, neither_of, own_fault}
use Rattle.cltypes.specs.Answers.{Ends}
use Rattle.cltypes.specs.Views.{held, turns_faults}
use Rattle.cltypes.proofs.Control.{through, handed_on, ends_as, for_view, for_first, in_first, in_rest}
use Rattle.cltypes.specs.Limits.{statements}
use Rattle.clmodel.proofs.Trees.{block_view}
use Rattle.cltypes.proofs.Bodies.{left_part, left_block, statement_inside, statement_more, statement_after}
use Rattle.cltypes.proofs.statements.+statements.Goals as goal

pub check_block-returns-clause-left : goal.check_block-returns-clause-left
check_block-returns-clause-left t c =
    let entered : c.enter.new.self ≡ enter c.args.context.now = search rules in
    c.leave.ensures ∙ ap left (c.in_ok-check_statements.ensures.after ∙ ap (λ z. after_all z (statements c.args.body.now)) entered)
    ∙ left_block c.args.context.now (statements c.args.body.now)

pub check_statement-returns-in-Block-clause-first : goal.check_statement-returns-in-Block-clause-first
check_statement-returns-in-Block-clause-first t c =
    let b = c.in-Block in
    subst (λ z. Ends c.check_block.result (first (faults c.args.context.now z)))
    (ap (λ ss. tree.Block b.at (statements ss)) c.deref.ensures.value ∙ sym (ap stmt b.is ∙ block_view b.at b.body))
    c.check_block.ensures.first

pub check_statements-returns-in_err-check_statement-clause-first : goal.check_statements-returns-in_err-check_statement-clause-first
check_statements-returns-in_err-check_statement-clause-first t c =
    handed_on c.from_residual.result c.in_err-check_statement.field-0.0 _ c.from_residual.ensures.1
    (statement_inside c.args.context.now c.loop-statement.context c.args.body.now c.loop-statement.statement-index c.statement-item.result c.in_err-check_statement.field-0.0
    c.loop-statement-test.true c.statement-item.is c.loop-statement.invariant.after c.loop-statement.invariant.faultless c.in_err-check_statement.ensures.first)

pub check_statements-loop-statement-preserved : goal.check_statements-loop-statement-preserved
check_statements-loop-statement-preserved t c =
    let x = c.args.context.now in
    let ss = c.args.body.now in
    let i = c.loop-statement.statement-index in
    let s = c.statement-item.result in
    record {
      faultless = statement_more x c.loop-statement.context ss i s c.loop-statement-test.true c.statement-item.is
          c.loop-statement.invariant.after c.loop-statement.invariant.faultless c.in_ok-check_statement.ensures.first;
      after = statement_after x c.loop-statement.context c.check_statement.new.context ss i s c.loop-statement-test.true c.statement-item.is
          c.loop-statement.invariant.after c.in_ok-check_statement.ensures.after;
    }

-- what is controlled, and a loop's body

-- `if`

pub check_if-returns-in_err-condition-clause-first : goal.check_if-returns-in_err-condition-clause-first
check_if-returns-in_err-condition-clause-first t c = λ at.
    let x = c.args.context.now in
    let p = term_faults x (term c.args.condition.now) in
    let q = faults (enter x) (stmt c.args.chosen.now) in
    let f = c.in_err-condition.field-0.0 in
    handed_on c.from_residual.result f _ c.from_residual.ensures.1
    (inr (inside (p ++ q) _ f (inside_first p q f c.in_err-condition.ensures)))

pub check_if-returns-in_err-check_controlled-clause-first : goal.check_if-returns-in_err-check_controlled-clause-first
check_if-returns-in_err-check_controlled-clause-first t c = λ at.
    let x = c.args.context.now in
    let p = term_faults x (term c.args.condition.now) in
    let q = faults (enter x) (stmt c.args.chosen.now) in
    let f = c.in_err-check_controlled.field-0.0 in
    handed_on c.from_residual-in_err-check_controlled.result f _ c.from_residual-in_err-check_controlled.ensures.1
    (through (first q) _ f (λ e. inside (p ++ q) _ f (inside_second p q f c.in_ok-condition.ensures.0 e)) c.in_err-check_controlled.ensures.first)

pub check_if-returns-clause-first : goal.check_if-returns-clause-first
check_if-returns-clause-first t c = λ at.
    let x = c.args.context.now in
    let e = term c.args.condition.now in
    let p = term_faults x e in
    let q = faults (enter x) (stmt c.args.chosen.now) in
    let own = integer_faults (kind_of x e) (start e) in
    ends_as c.ended.result _ c.integer_fault.result c.ended.ensures.none c.ended.ensures.fault
    (own_fault (p ++ q) own (neither_of p q c.in_ok-condition.ensures.0 c.in_ok-check_controlled.ensures.first)
    ∙ sym (c.integer_fault.ensures ∙ ap (λ z. least (integer_faults z.kind z.at)) c.in_ok-condition.ensures.1))

-- `if` with `else`

pub check_if_else-returns-in_err-condition-clause-first : goal.check_if_else-returns-in_err-condition-clause-first
check_if_else-returns-in_err-condition-clause-first t c = λ at.
    let x = c.args.context.now in
    let p = term_faults x (term c.args.condition.now) in
    let q = faults (enter x) (stmt c.args.chosen.now) in
    let r = faults (enter x) (stmt c.args.otherwise.now) in
    let f = c.in_err-condition.field-0.0 in
    handed_on c.from_residual.result f _ c.from_residual.ensures.1
    (inr (inside (p ++ q ++ r) _ f (inside_first (p ++ q) r f (inside_first p q f c.in_err-condition.ensures))))

pub check_if_else-returns-in_err-check_controlled-clause-first : goal.check_if_else-returns-in_err-check_controlled-clause-first
check_if_else-returns-in_err-check_controlled-clause-first t c = λ at.
    let x = c.args.context.now in
    let p = term_faults x (term c.args.condition.now) in
    let q = faults (enter x) (stmt c.args.chosen.now) in
    let r = faults (enter x) (stmt c.args.otherwise.now) in
    let f = c.in_err-check_controlled.field-0.0 in
    handed_on c.from_residual-in_err-check_controlled.result f _ c.from_residual-in_err-check_controlled.ensures.1
    (through (first q) _ f (λ e. inside (p ++ q ++ r) _ f (inside_first (p ++ q) r f (inside_second p q f c.in_ok-condition.ensures.0 e))) c.in_err-check_controlled.ensures.first)

pub check_if_else-returns-in_err-check_controlled-2-clause-first : goal.check_if_else-returns-in_err-check_controlled-2-clause-first
check_if_else-returns-in_err-check_controlled-2-clause-first t c = λ at.
    let x = c.args.context.now in
    let p = term_faults x (term c.args.condition.now) in
    let q = faults (enter x) (stmt c.args.chosen.now) in
    let r = faults (enter x) (stmt c.args.otherwise.now) in
    let f = c.in_err-check_controlled-2.field-0.0 in
    let same : c.check_controlled.new.context ≡ x = c.in_ok-check_controlled.ensures.left in
    handed_on c.from_residual-in_err-check_controlled-2.result f _ c.from_residual-in_err-check_controlled-2.ensures.1
    (through (first (faults (enter c.check_controlled.new.context) (stmt c.args.otherwise.now))) _ f
    (λ e. inside (p ++ q ++ r) _ f
    (inside_second (p ++ q) r f (neither_of p q c.in_ok-condition.ensures.0 c.in_ok-check_controlled.ensures.first)
    (ap (λ z. first (faults (enter z) (stmt c.args.otherwise.now))) (sym same) ∙ e)))
    c.in_err-check_controlled-2.ensures.first)

pub check_if_else-returns-clause-first : goal.check_if_else-returns-clause-first
check_if_else-returns-clause-first t c = λ at.
    let x = c.args.context.now in
    let e = term c.args.condition.now in
    let p = term_faults x e in
    let q = faults (enter x) (stmt c.args.chosen.now) in
    let r = faults (enter x) (stmt c.args.otherwise.now) in
    let own = integer_faults (kind_of x e) (start e) in
    let same : c.check_controlled.new.context ≡ x = c.in_ok-check_controlled.ensures.left in
    ends_as c.ended.result _ c.integer_fault.result c.ended.ensures.none c.ended.ensures.fault
    (own_fault (p ++ q ++ r) own (neither_of (p ++ q) r (neither_of p q c.in_ok-condition.ensures.0 c.in_ok-check_controlled.ensures.first)
    (ap (λ z. first (faults (enter z) (stmt c.args.otherwise.now))) (sym same) ∙ c.in_ok-check_controlled-2.ensures.first))
    ∙ sym (c.integer_fault.ensures ∙ ap (λ z. least (integer_faults z.kind z.at)) c.in_ok-condition.ensures.1))

-- `while`

pub check_while-returns-in_err-condition-clause-first : goal.check_while-returns-in_err-condition-clause-first
check_while-returns-in_err-condition-clause-first t c = λ at.
    let x = c.args.context.now in
    let p = term_faults x (term c.args.condition.now) in
    let q = faults (turning x) (stmt c.args.body.now) in
    let f = c.in_err-condition.field-0.0 in
    handed_on c.from_residual.result f _ c.from_residual.ensures.1
    (inr (inside (p ++ q) _ f (inside_first p q f c.in_err-condition.ensures)))

pub check_while-returns-in_err-check_turn-clause-first : goal.check_while-returns-in_err-check_turn-clause-first
check_while-returns-in_err-check_turn-clause-first t c = λ at.
    let x = c.args.context.now in
    let p = term_faults x (term c.args.condition.now) in
    let q = faults (turning x) (stmt c.args.body.now) in
    let f = c.in_err-check_turn.field-0.0 in
    handed_on c.from_residual-in_err-check_turn.result f _ c.from_residual-in_err-check_turn.ensures.1
    (through (first q) _ f (λ e. inside (p ++ q) _ f (inside_second p q f c.in_ok-condition.ensures.0 e)) c.in_err-check_turn.ensures.first)

pub check_while-returns-clause-first : goal.check_while-returns-clause-first
check_while-returns-clause-first t c = λ at.
    let x = c.args.context.now in
    let e = term c.args.condition.now in
    let p = term_faults x e in
    let q = faults (turning x) (stmt c.args.body.now) in
    let own = integer_faults (kind_of x e) (start e) in
    ends_as c.ended.result _ c.integer_fault.result c.ended.ensures.none c.ended.ensures.fault
    (own_fault (p ++ q) own (neither_of p q c.in_ok-condition.ensures.0 c.in_ok-check_turn.ensures.first)
    ∙ sym (c.integer_fault.ensures ∙ ap (λ z. least (integer_faults z.kind z.at)) c.in_ok-condition.ensures.1))

-- `do`

pub check_do-returns-in_err-check_turn-clause-first : goal.check_do-returns-in_err-check_turn-clause-first
check_do-returns-in_err-check_turn-clause-first t c = λ at.
    let x = c.args.context.now in
    let p = faults (turning x) (stmt c.args.body.now) in
    let q = term_faults x (term c.args.condition.now) in
    let f = c.in_err-check_turn.field-0.0 in
    handed_on c.from_residual.result f _ c.from_residual.ensures.1
    (through (first p) _ f (λ e. inside (p ++ q) _ f (inside_first p q f e)) c.in_err-check_turn.ensures.first)

pub check_do-returns-in_err-condition-clause-first : goal.check_do-returns-in_err-condition-clause-first
check_do-returns-in_err-condition-clause-first t c = λ at.
    let x = c.args.context.now in
    let e = term c.args.condition.now in
    let p = faults (turning x) (stmt c.args.body.now) in
    let q = term_faults x e in
    let f = c.in_err-condition.field-0.0 in
    let same : c.check_turn.new.context ≡ x = c.in_ok-check_turn.ensures.left in
    handed_on c.from_residual-in_err-condition.result f _ c.from_residual-in_err-condition.ensures.1
    (inr (inside (p ++ q) _ f (inside_second p q f c.in_ok-check_turn.ensures.first (ap (λ z. first (term_faults z e)) (sym same) ∙ c.in_err-condition.ensures))))

pub check_do-returns-clause-first : goal.check_do-returns-clause-first
check_do-returns-clause-first t c = λ at.
    let x = c.args.context.now in
    let e = term c.args.condition.now in
    let p = faults (turning x) (stmt c.args.body.now) in
    let q = term_faults x e in
    let own = integer_faults (kind_of x e) (start e) in
    let same : c.check_turn.new.context ≡ x = c.in_ok-check_turn.ensures.left in
    ends_as c.ended.result _ c.integer_fault.result c.ended.ensures.none c.ended.ensures.fault
    (own_fault (p ++ q) own (neither_of p q c.in_ok-check_turn.ensures.first (ap (λ z. first (term_faults z e)) (sym same) ∙ c.in_ok-condition.ensures.0))
    ∙ sym (c.integer_fault.ensures ∙ ap (λ z. least (integer_faults z.kind z.at)) c.in_ok-condition.ensures.1 ∙ ap (λ z. least (integer_faults (kind_of z e) (start e))) same))

-- `for`

pub check_turns-returns-in_err-fault-clause-first : goal.check_turns-returns-in_err-fault-clause-first
check_turns-returns-in_err-fault-clause-first t c =
    let x = c.args.context.now in
    let p = condition_parts x (maybe_term c.args.condition.now) in
    let q = part_faults (enter x) (held c.args.third.now) in
    let r = faults (turning x) (stmt c.args.body.now) in
    let f = c.in_err-fault.field-0.0 in
    handed_on c.from_residual.result f _ c.from_residual.ensures.1
    (inr (inside (p ++ q ++ r) _ f (inside_first (p ++ q) r f (inside_first p q f c.in_err-fault.ensures))))

pub check_turns-returns-in_err-check_third-clause-first : goal.check_turns-returns-in_err-check_third-clause-first
check_turns-returns-in_err-check_third-clause-first t c =
    let x = c.args.context.now in
    let p = condition_parts x (maybe_term c.args.condition.now) in
    let q = part_faults (enter x) (held c.args.third.now) in
    let r = faults (turning x) (stmt c.args.body.now) in
    let f = c.in_err-check_third.field-0.0 in
    handed_on c.from_residual-in_err-check_third.result f _ c.from_residual-in_err-check_third.ensures.1
    (through (first q) _ f (λ e. inside (p ++ q ++ r) _ f (inside_first (p ++ q) r f (inside_second p q f c.in_ok-fault.ensures.0 e))) c.in_err-check_third.ensures.first)

pub check_turns-returns-in_err-check_turn-clause-first : goal.check_turns-returns-in_err-check_turn-clause-first
check_turns-returns-in_err-check_turn-clause-first t c =
    let x = c.args.context.now in
    let p = condition_parts x (maybe_term c.args.condition.now) in
    let q = part_faults (enter x) (held c.args.third.now) in
    let r = faults (turning x) (stmt c.args.body.now) in
    let f = c.in_err-check_turn.field-0.0 in
    let same : c.check_third.new.context ≡ x = c.in_ok-check_third.ensures.left in
    handed_on c.from_residual-in_err-check_turn.result f _ c.from_residual-in_err-check_turn.ensures.1
    (through (first (faults (turning c.check_third.new.context) (stmt c.args.body.now))) _ f
    (λ e. inside (p ++ q ++ r) _ f
    (inside_second (p ++ q) r f (neither_of p q c.in_ok-fault.ensures.0 c.in_ok-check_third.ensures.first) (ap (λ z. first (faults (turning z) (stmt c.args.body.now))) (sym same) ∙ e)))
    c.in_err-check_turn.ensures.first)

pub check_turns-returns-clause-first : goal.check_turns-returns-clause-first
check_turns-returns-clause-first t c =
    let x = c.args.context.now in
    let e = maybe_term c.args.condition.now in
    let p = condition_parts x e in
    let q = part_faults (enter x) (held c.args.third.now) in
    let r = faults (turning x) (stmt c.args.body.now) in
    let same : c.check_third.new.context ≡ x = c.in_ok-check_third.ensures.left in
    ends_as c.ended.result _ c.in_ok-fault.fault c.ended.ensures.none c.ended.ensures.fault
    (own_fault (p ++ q ++ r) (condition_faults x e) (neither_of (p ++ q) r (neither_of p q c.in_ok-fault.ensures.0 c.in_ok-check_third.ensures.first)
    (ap (λ z. first (faults (turning z) (stmt c.args.body.now))) (sym same) ∙ c.in_ok-check_turn.ensures.first))
    ∙ sym c.in_ok-fault.ensures.1)

pub check_for-returns-in_err-check_part-clause-first : goal.check_for-returns-in_err-check_part-clause-first
check_for-returns-in_err-check_part-clause-first t c = λ at.
    let x = c.args.context.now in
    let begin = held c.args.start.now in
    let e = maybe_term c.args.condition.now in
    let third = held c.args.third.now in
    let s = stmt c.args.body.now in
    let f = c.in_err-check_part.field-0.0 in
    let entered : c.enter.new.self ≡ enter x = search rules in
    handed_on c.from_residual-in_err-check_part.result f _ c.from_residual-in_err-check_part.ensures.1
    (through (first (part_faults c.enter.new.self begin)) (first (faults x (tree.For at begin e third s))) f
    (λ h. in_first _ (first (part_faults (enter x) begin)) (first (turns_faults (after_part (enter x) begin) e third s)) f (for_first x at begin e third s)
    (ap (λ z. first (part_faults z begin)) (sym entered) ∙ h))
    c.in_err-check_part.ensures.first)

pub check_for-returns-in_err-check_turns-clause-first : goal.check_for-returns-in_err-check_turns-clause-first
check_for-returns-in_err-check_turns-clause-first t c = λ at.
    let x = c.args.context.now in
    let begin = held c.args.start.now in
    let e = maybe_term c.args.condition.now in
    let third = held c.args.third.now in
    let s = stmt c.args.body.now in
    let f = c.in_err-check_turns.field-0.0 in
    let entered : c.enter.new.self ≡ enter x = search rules in
    let there : c.check_part.new.context ≡ after_part (enter x) begin = c.in_ok-check_part.ensures.after ∙ ap (λ z. after_part z begin) entered in
    handed_on c.from_residual-in_err-check_turns.result f _ c.from_residual-in_err-check_turns.ensures.1
    (through (first (turns_faults c.check_part.new.context e third s)) (first (faults x (tree.For at begin e third s))) f
    (λ h. in_rest _ (first (part_faults (enter x) begin)) (first (turns_faults (after_part (enter x) begin) e third s)) (for_first x at begin e third s)
    (ap (λ z. first (part_faults z begin)) (sym entered) ∙ c.in_ok-check_part.ensures.first)
    ∙ ap (λ z. first (turns_faults z e third s)) (sym there) ∙ h)
    c.in_err-check_turns.ensures.first)

pub check_for-returns-clause-first : goal.check_for-returns-clause-first
check_for-returns-clause-first t c = λ at.
    let x = c.args.context.now in
    let begin = held c.args.start.now in
    let e = maybe_term c.args.condition.now in
    let third = held c.args.third.now in
    let s = stmt c.args.body.now in
    let entered : c.enter.new.self ≡ enter x = search rules in
    let there : c.check_part.new.context ≡ after_part (enter x) begin = c.in_ok-check_part.ensures.after ∙ ap (λ z. after_part z begin) entered in
    in_rest _ (first (part_faults (enter x) begin)) (first (turns_faults (after_part (enter x) begin) e third s)) (for_first x at begin e third s)
    (ap (λ z. first (part_faults z begin)) (sym entered) ∙ c.in_ok-check_part.ensures.first)
    ∙ ap (λ z. first (turns_faults z e third s)) (sym there) ∙ c.in_ok-check_turns.ensures.first

pub check_for-returns-clause-left : goal.check_for-returns-clause-left
check_for-returns-clause-left t c =
    let x = c.args.context.now in
    let begin = held c.args.start.now in
    let entered : c.enter.new.self ≡ enter x = search rules in
    c.leave.ensures ∙ ap left (c.in_ok-check_turns.ensures.left ∙ c.in_ok-check_part.ensures.after ∙ ap (λ z. after_part z begin) entered) ∙ left_part (enter x) begin

-- control statements among the others

pub check_statement-returns-in-If-clause-first : goal.check_statement-returns-in-If-clause-first
check_statement-returns-in-If-clause-first t c =
    let s = c.in-If in
    subst (λ z. Ends c.check_if.result (first (faults c.args.context.now z)))
    (ap (λ z. tree.If s.at (term z) (stmt c.deref-in-If-2.result.now)) c.deref-in-If.ensures ∙ ap (λ z. tree.If s.at (term s.condition.value) (stmt z)) c.deref-in-If-2.ensures ∙ sym (ap stmt s.is))
    (c.check_if.ensures.first s.at)

pub check_statement-returns-in-IfElse-clause-first : goal.check_statement-returns-in-IfElse-clause-first
check_statement-returns-in-IfElse-clause-first t c =
    let s = c.in-IfElse in
    let p = c.deref-in-IfElse-2.result.now in
    let q = c.deref-in-IfElse-3.result.now in
    subst (λ z. Ends c.check_if_else.result (first (faults c.args.context.now z)))
    (ap (λ z. tree.IfElse s.at (term z) (stmt p) (stmt q)) c.deref-in-IfElse.ensures
    ∙ ap (λ z. tree.IfElse s.at (term s.condition.value) (stmt z) (stmt q)) c.deref-in-IfElse-2.ensures
    ∙ ap (λ z. tree.IfElse s.at (term s.condition.value) (stmt s.chosen.value) (stmt z)) c.deref-in-IfElse-3.ensures ∙ sym (ap stmt s.is))
    (c.check_if_else.ensures.first s.at)

pub check_statement-returns-in-While-clause-first : goal.check_statement-returns-in-While-clause-first
check_statement-returns-in-While-clause-first t c =
    let s = c.in-While in
    subst (λ z. Ends c.check_while.result (first (faults c.args.context.now z)))
    (ap (λ z. tree.While s.at (term z) (stmt c.deref-in-While-2.result.now)) c.deref-in-While.ensures ∙ ap (λ z. tree.While s.at (term s.condition.value) (stmt z)) c.deref-in-While-2.ensures ∙ sym (ap stmt s.is))
    (c.check_while.ensures.first s.at)

pub check_statement-returns-in-DoWhile-clause-first : goal.check_statement-returns-in-DoWhile-clause-first
check_statement-returns-in-DoWhile-clause-first t c =
    let s = c.in-DoWhile in
    subst (λ z. Ends c.check_do.result (first (faults c.args.context.now z)))
    (ap (λ z. tree.DoWhile s.at (stmt z) (term c.deref-in-DoWhile-2.result.now)) c.deref-in-DoWhile.ensures ∙ ap (λ z. tree.DoWhile s.at (stmt s.body.value) (term z)) c.deref-in-DoWhile-2.ensures ∙ sym (ap stmt s.is))
    (c.check_do.ensures.first s.at)

pub check_statement-returns-in-For-clause-first : goal.check_statement-returns-in-For-clause-first
check_statement-returns-in-For-clause-first t c =
    let s = c.in-For in
    subst (λ z. Ends c.check_for.result (first (faults c.args.context.now z)))
    (ap (λ z. tree.For s.at (held s.first) (maybe_term s.condition) (held s.third) (stmt z)) c.deref-in-For.ensures ∙ for_view s.at s.first s.third s.condition s.body ∙ sym (ap stmt s.is))
    (c.check_for.ensures.first s.at)
