use Rattle.std.proofs.Common.{◌≡◌, drop}
use Rattle.hint_rules.specs.Rules.{first_said, rows}
use Rattle.hint_rules.proofs.rules.hint_in.Given as goal

abbrev pub invariant-loop-rule : goal.invariant-loop-rule
invariant-loop-rule l = first_said (rows (drop l.rule-index l.table)) l.setting ≡ first_said (rows l.table) l.setting
