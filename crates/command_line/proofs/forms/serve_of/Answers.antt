use Rattle.std.proofs.Common.{refl}
use Rattle.clap.specs.Words.{found_of, rows_of}
use Rattle.command_line.proofs.CommandLines.{serve_parts}
use Rattle.command_line.proofs.forms.serve_of.Goals as goal

pub returns : goal.returns
returns c = (refl, (c.in_ok-workers.ensures.given, c.in_ok-configuration.ensures))

pub returns-in_err-workers : goal.returns-in_err-workers
returns-in_err-workers c = rw c.from_residual.ensures (λ asked is. let parts = serve_parts (rows_of (found_of c.args.serve.now)) asked is in c.in_err-workers.ensures.given parts.0 parts.2)

pub returns-in_err-configuration : goal.returns-in_err-configuration
returns-in_err-configuration c = rw c.from_residual-in_err-configuration.ensures (λ asked is. let parts = serve_parts (rows_of (found_of c.args.serve.now)) asked is in c.in_err-configuration.ensures parts.1 parts.3)
