use Rattle.std.proofs.Common.{refl, rules, ◌≡◌, ◌∙◌, ap, sym, codes, option_map, None, Some}
use Rattle.clap.specs.Words.{found_of, first_of, rows_of}
use Rattle.clap.proofs.WalkLemmas.{first_value-rows}
use Rattle.command_line.proofs.CommandLines.{not_there, plain_parts}
use Rattle.command_line.proofs.forms.plain_of.Goals as goal

pub returns : goal.returns
returns c =
    let found : c.get_str.result ≡ Some c.in_ok-script.script = search rules in (
      refl,
      sym (first_value-rows (found_of c.args.plain.now) (codes "SCRIPT")) ∙ (sym c.get_str.ensures ∙ ap (option_map (λ s. s.now)) found),
    )

pub returns-in_err-script : goal.returns-in_err-script
returns-in_err-script c =
    let missing : c.get_str.result ≡ None = search rules in
    let none : first_of (codes "SCRIPT") (rows_of (found_of c.args.plain.now)) ≡ None =
    sym (first_value-rows (found_of c.args.plain.now) (codes "SCRIPT")) ∙ (sym c.get_str.ensures ∙ ap (option_map (λ s. s.now)) missing) in
    rw c.from_residual.ensures (λ asked is. let parts = plain_parts (rows_of (found_of c.args.plain.now)) asked is in not_there (first_of (codes "SCRIPT") (rows_of (found_of c.args.plain.now))) parts.0 none parts.1)
