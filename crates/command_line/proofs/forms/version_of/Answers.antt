use Rattle.std.proofs.Common.{refl}
use Rattle.clap.specs.Words.{found_of, rows_of}
use Rattle.command_line.proofs.CommandLines.{version_parts}
use Rattle.command_line.proofs.forms.version_of.Goals as goal

pub returns : goal.returns
returns c = (refl, c.in_ok-json.ensures)

pub returns-in_err-json : goal.returns-in_err-json
returns-in_err-json c = rw c.from_residual.ensures (λ asked is. let parts = version_parts (rows_of (found_of c.args.version.now)) asked is in c.in_err-json.ensures parts.0 parts.1)
