use Rattle.std.proofs.Common.{sym, ◌∙◌}
use Rattle.wide_scripts.specs.Notes.{marked}
use Rattle.wide_scripts.proofs.Marks.{none_bars}
use Rattle.wide_scripts.proofs.taint.Taint.pass_launch.Goals as goal

pub returns-then-not-has_any-clause-may : goal.returns-then-not-has_any-clause-may
returns-then-not-has_any-clause-may c = λ _. none_bars (marked c.args.self.now.marks) c.args.names.now c.args.free.now (sym c.has_any.ensures ∙ c.if-not-has_any.true)
