use Rattle.std.proofs.Common.{◌≡◌, ◌+◌, ◌*◌, max, None, take}
use Rattle.clmodel.specs.declared.tree.Statement.{size-Statement}
use Rattle.clmodel.specs.Typing.Context.{after_all}
use Rattle.clmodel.specs.Typing.Least.{first}
use Rattle.clmodel.specs.Typing.Faults.{row_faults}
use Rattle.cltypes.specs.Limits.{statements}
use Rattle.cltypes.proofs.Control.{held_depth}
use Rattle.cltypes.proofs.statements.+statements.Given as goal

-- Five for each level of a statement: a function that checks a statement's parts is called by the one that checks the
-- statement.

abbrev pub decreases-check_statement : goal.decreases-check_statement
decreases-check_statement l = 5 * goal.size-check_statement l

abbrev pub decreases-check_controlled : goal.decreases-check_controlled
decreases-check_controlled l = 5 * goal.size-check_controlled l + 1

abbrev pub decreases-check_turn : goal.decreases-check_turn
decreases-check_turn l = 5 * goal.size-check_turn l + 1

abbrev pub decreases-check_part : goal.decreases-check_part
decreases-check_part l = 5 * held_depth l.part.now + 1

abbrev pub decreases-check_third : goal.decreases-check_third
decreases-check_third l = 5 * held_depth l.part.now + 2

abbrev pub decreases-check_if : goal.decreases-check_if
decreases-check_if l = 5 * size-Statement l.chosen.now + 2

abbrev pub decreases-check_if_else : goal.decreases-check_if_else
decreases-check_if_else l = 5 * max (size-Statement l.chosen.now) (size-Statement l.otherwise.now) + 2

abbrev pub decreases-check_while : goal.decreases-check_while
decreases-check_while l = 5 * size-Statement l.body.now + 2

abbrev pub decreases-check_do : goal.decreases-check_do
decreases-check_do l = 5 * size-Statement l.body.now + 2

abbrev pub decreases-check_turns : goal.decreases-check_turns
decreases-check_turns l = 5 * max (held_depth l.third.now) (size-Statement l.body.now) + 3

abbrev pub decreases-check_for : goal.decreases-check_for
decreases-check_for l = 5 * max (held_depth l.start.now) (max (held_depth l.third.now) (size-Statement l.body.now)) + 4

abbrev pub decreases-check_block : goal.decreases-check_block
decreases-check_block l = 5 * goal.size-check_block l + 2

abbrev pub decreases-check_statements : goal.decreases-check_statements
decreases-check_statements l = 5 * goal.size-check_statements l + 1

-- no statement so far has a fault, and the context is the one behind them
abbrev pub invariant-check_statements-loop-statement : goal.invariant-check_statements-loop-statement
invariant-check_statements-loop-statement l = record {
  faultless : first (row_faults l.fn.context (statements (take l.statement-index l.body))) ≡ None;
  after : l.context ≡ after_all l.fn.context (statements (take l.statement-index l.body));
}
