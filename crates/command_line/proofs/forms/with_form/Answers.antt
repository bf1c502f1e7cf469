use Rattle.command_line.specs.CommandLine.{AreForms, IsForm}
use Rattle.command_line.proofs.CommandLines.{has_form, of_made}
use Rattle.command_line.proofs.forms.with_form.Goals as goal

pub returns : goal.returns
returns c so_far name arguments are is =
    has_form so_far name arguments c.in_ok-forms.forms c.in_ok-form.form c.subcommand.result (of_made (AreForms so_far) c.args.forms c.in_ok-forms.forms c.in_ok-forms.was are)
    (of_made (IsForm name arguments) c.args.form c.in_ok-form.form c.in_ok-form.was is) c.subcommand.ensures
