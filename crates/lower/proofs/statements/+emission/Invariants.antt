use Rattle.std.proofs.Common.{◌≡◌, ℕ, ◌+◌, ◌-◌, ◌*◌, ◌≤◌, ◌++◌, max, length, take}
use denote.Param.Weighed.{most}
use Rattle.clmodel.specs.Next.{all_sites}
use Rattle.clmodel.specs.Typing.Sizes.{row_size}
use Rattle.clmodel.specs.declared.tree.Statement.{size-Statement}
use Rattle.lower_code.specs.Variables.{scope_after_all}
use Rattle.lower_code.specs.Trees.{all_of}
use Rattle.lower_code.specs.Code.{stmts_code, call_code, result_in, past}
use Rattle.lower_code.specs.Emission.{functions_of, inside, widths_in, exits_of, row_code}
use Rattle.lower_code.specs.Room.{instructions}
use Rattle.lower_code.specs.Growth.{GrowsBefore}
use Rattle.lower_code.proofs.Lists.{part_depth}
use Rattle.lower.specs.Statements.{begun_at}
use Rattle.lower.proofs.statements.+emission.Given as goal

abbrev pub decreases-emit_statement : goal.decreases-emit_statement
decreases-emit_statement l = 10 * (size-Statement l.statement.now) + 3

abbrev pub decreases-emit_all : goal.decreases-emit_all
decreases-emit_all l = 10 * (most size-Statement l.statements.now) + 4

abbrev pub decreases-emit_if : goal.decreases-emit_if
decreases-emit_if l = 10 * (size-Statement l.chosen.now) + 4

abbrev pub decreases-emit_choice : goal.decreases-emit_choice
decreases-emit_choice l = 10 * (max (size-Statement l.chosen.now) (size-Statement l.otherwise.now)) + 4

abbrev pub decreases-emit_part : goal.decreases-emit_part
decreases-emit_part l = 10 * (part_depth l.part) + 4

abbrev pub decreases-emit_do : goal.decreases-emit_do
decreases-emit_do l = 10 * (size-Statement l.body.now) + 5

abbrev pub decreases-emit_once : goal.decreases-emit_once
decreases-emit_once l = 10 * (size-Statement l.body.now) + 4

abbrev pub decreases-emit_stepped : goal.decreases-emit_stepped
decreases-emit_stepped l = 10 * (max (size-Statement l.third.now) (size-Statement l.body.now)) + 5

abbrev pub decreases-emit_round : goal.decreases-emit_round
decreases-emit_round l = 10 * (max (part_depth l.third) (size-Statement l.body.now)) + 6

abbrev pub decreases-emit_turns : goal.decreases-emit_turns
decreases-emit_turns l = 10 * (max (part_depth l.third) (size-Statement l.body.now)) + 7

abbrev pub decreases-emit_for : goal.decreases-emit_for
decreases-emit_for l = 10 * (max (part_depth l.first) (max (part_depth l.third) (size-Statement l.body.now))) + 8

-- the code so far is that of the statements behind the first ones, which are left, wherever these begin
abbrev pub invariant-emit_all-loop-i : goal.invariant-emit_all-loop-i
invariant-emit_all-loop-i l = record {
  scope : l.scope ≡ scope_after_all l.fn.scope (all_of (take (length l.statements - l.i) l.statements));
  site : l.behind + all_sites (inside l.context.helpers.functions.now) (all_of l.statements)
      ≡ l.ending.behind + all_sites (inside l.context.helpers.functions.now) (all_of (take (length l.statements - l.i) l.statements));
  longer : length l.fn.code ≤ length l.code;
  short : length l.code + instructions (row_size (widths_in l.context.helpers.functions.now) (all_of (take (length l.statements - l.i) l.statements))).nodes
      ≤ length l.fn.code + instructions (row_size (widths_in l.context.helpers.functions.now) (all_of l.statements)).nodes;
  grows : GrowsBefore l.fn.code l.code;
  code : (site : ℕ) → site + all_sites (inside l.context.helpers.functions.now) (all_of (take (length l.statements - l.i) l.statements)) ≡ l.behind
      → row_code l.context l.fn.scope (all_of l.statements) (begun_at l.ending site) ++ l.fn.code
      ≡ stmts_code (call_code (functions_of l.context.helpers.functions.now)) (result_in (functions_of l.context.helpers.functions.now)) (inside l.context.helpers.functions.now) l.context.result l.fn.scope
      (all_of (take (length l.statements - l.i) l.statements)) l.ending.depth site (past (length l.code - length l.fn.code) (exits_of l.ending.exits)) ++ l.code;
}
