use Rattle.clap.specs.Words.{found_of, rows_of}
use Rattle.command_line.proofs.CommandLines.{no_budget}
use Rattle.command_line.proofs.forms.configuration_of.Goals as goal

pub returns : goal.returns
returns c = (c.in_ok-limits.ensures, c.in_ok-budget.ensures.given)

pub returns-in_err-limits : goal.returns-in_err-limits
returns-in_err-limits c = rw c.from_residual.ensures (λ configuration is. c.in_err-limits.ensures configuration.limits is.0)

pub returns-in_err-budget : goal.returns-in_err-budget
returns-in_err-budget c = rw c.from_residual-in_err-budget.ensures (no_budget (rows_of (found_of c.args.matches.now)) c.in_ok-limits.limits c.in_ok-limits.ensures c.in_err-budget.ensures.given)
