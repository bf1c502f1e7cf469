use Rattle.std.proofs.Common.{refl, rules, ◌≡◌, ◌∙◌, ap, sym, codes, option_map, None, Some}
use Rattle.clap.specs.Words.{found_of, first_of, rows_of}
use Rattle.clap.proofs.WalkLemmas.{first_value-rows}
use Rattle.command_line.proofs.CommandLines.{not_there, check_parts}
use Rattle.command_line.proofs.forms.check_of.Goals as goal

pub returns : goal.returns
returns c =
    let found : c.get_str.result ≡ Some c.in_ok-file.file = search rules in (
      refl,
      (
        sym (first_value-rows (found_of c.args.check.now) (codes "FILE")) ∙ (sym c.get_str.ensures ∙ ap (option_map (λ s. s.now)) found),
        c.in_ok-limits.ensures,
      ),
    )

pub returns-in_err-file : goal.returns-in_err-file
returns-in_err-file c =
    let missing : c.get_str.result ≡ None = search rules in
    let none : first_of (codes "FILE") (rows_of (found_of c.args.check.now)) ≡ None =
    sym (first_value-rows (found_of c.args.check.now) (codes "FILE")) ∙ (sym c.get_str.ensures ∙ ap (option_map (λ s. s.now)) missing) in
    rw c.from_residual.ensures (λ asked is. let parts = check_parts (rows_of (found_of c.args.check.now)) asked is in not_there (first_of (codes "FILE") (rows_of (found_of c.args.check.now))) parts.0 none parts.2)

pub returns-in_err-limits : goal.returns-in_err-limits
returns-in_err-limits c = rw c.from_residual-in_err-limits.ensures (λ asked is. let parts = check_parts (rows_of (found_of c.args.check.now)) asked is in c.in_err-limits.ensures parts.1 parts.3)
