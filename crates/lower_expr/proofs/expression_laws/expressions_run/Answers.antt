use Rattle.lower_expr.proofs.Expressions.{expr_runs, terms_run, target_runs}
use Rattle.lower_expr.proofs.expression_laws.expressions_run.Goals as goal

pub returns-clause-expression : goal.returns-clause-expression
returns-clause-expression c given code bound scope level e s variables after = expr_runs given code bound scope level e s variables after

pub returns-clause-arguments : goal.returns-clause-arguments
returns-clause-arguments c given code bound scope level es s variables after = terms_run given code bound scope level es s variables after

pub returns-clause-place : goal.returns-clause-place
returns-clause-place c given code bound scope level to s variables after = target_runs given code bound scope level to s variables after
