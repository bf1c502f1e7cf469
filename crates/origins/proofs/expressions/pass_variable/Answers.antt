use Rattle.std.proofs.Common.{sym, subst}
use Rattle.origins.specs.Origins.{node_of, variable_origins}
use Rattle.origins.specs.Walks.{Walks}
use Rattle.origins.proofs.expressions.pass_variable.Goals as goal

pub returns-in-Unknown : goal.returns-in-Unknown
returns-in-Unknown c inside = subst (λ m. Walks inside (variable_origins m (node_of c.args.node)) c.args.left c.pass_own.result) (sym c.in-Unknown.is) (c.pass_own.ensures inside)

pub returns-in-Array : goal.returns-in-Array
returns-in-Array c inside = subst (λ m. Walks inside (variable_origins m (node_of c.args.node)) c.args.left c.pass_own-in-Array.result) (sym c.in-Array.is) (c.pass_own-in-Array.ensures inside)

pub returns-in-Plain : goal.returns-in-Plain
returns-in-Plain c inside = subst (λ m. Walks inside (variable_origins m (node_of c.args.node)) c.args.left c.pass_own-in-Plain.result) (sym c.in-Plain.is) (c.pass_own-in-Plain.ensures inside)
