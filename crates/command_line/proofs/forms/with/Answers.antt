use Rattle.command_line.proofs.CommandLines.{has_argument, of_made}
use Rattle.command_line.specs.CommandLine.{IsForm}
use Rattle.command_line.proofs.forms.with.Goals as goal

pub returns : goal.returns
returns c name arguments rule made fits =
    has_argument name arguments rule c.in_ok-form.form c.args.arg c.arg.result (of_made (IsForm name arguments) c.args.form c.in_ok-form.form c.in_ok-form.was made) fits c.arg.ensures
