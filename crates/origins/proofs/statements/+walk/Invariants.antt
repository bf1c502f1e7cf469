use Rattle.std.proofs.Common.{◌≡◌, ◌+◌, ◌*◌, take, max}
use denote.Param.Weighed.{most}
use Rattle.clmodel.specs.declared.tree.Statement.{size-Statement}
use Rattle.lower_code.specs.Trees.{all_of}
use Rattle.lower_code.proofs.Lists.{part_depth}
use Rattle.origins.specs.Names.{names_after_all}
use Rattle.origins.specs.Settings.{inside_in, row_in}
use Rattle.origins.specs.Walks.{Walks}
use Rattle.origins.proofs.statements.+walk.Given as goal

abbrev pub decreases-pass_statement : goal.decreases-pass_statement
decreases-pass_statement l = 8 * (size-Statement l.statement.now)

abbrev pub decreases-then_statement : goal.decreases-then_statement
decreases-then_statement l = 8 * (size-Statement l.statement.now) + 1

abbrev pub decreases-then_part : goal.decreases-then_part
decreases-then_part l = 8 * (part_depth l.part) + 2

abbrev pub decreases-pass_branch : goal.decreases-pass_branch
decreases-pass_branch l = 8 * (size-Statement l.chosen.now) + 2

abbrev pub decreases-pass_loop : goal.decreases-pass_loop
decreases-pass_loop l = 8 * (size-Statement l.body.now) + 2

abbrev pub decreases-pass_for : goal.decreases-pass_for
decreases-pass_for l = 8 * (max (part_depth l.parts.first) (max (part_depth l.parts.third) (size-Statement l.parts.body.now))) + 3

abbrev pub decreases-pass_statements : goal.decreases-pass_statements
decreases-pass_statements l = 8 * (most size-Statement l.statements.now) + 2

-- the statements so far are passed, and their variables are in scope
abbrev pub invariant-pass_statements-loop-i : goal.invariant-pass_statements-loop-i
invariant-pass_statements-loop-i l = record {
  walks : Walks (inside_in l.setting) (row_in l.setting l.fn.names.items (all_of (take l.i l.statements))) l.fn.left l.passed;
  names : l.names.items ≡ names_after_all l.fn.names.items (all_of (take l.i l.statements));
}
