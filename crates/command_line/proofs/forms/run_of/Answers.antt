use Rattle.std.proofs.Common.{refl, rules, ◌≡◌, ◌∙◌, ap, sym, codes, option_map, None, Some}
use Rattle.clap.specs.Words.{found_of, first_of, rows_of}
use Rattle.clap.proofs.WalkLemmas.{first_value-rows, one_text-rows}
use Rattle.command_line.proofs.CommandLines.{not_there, run_parts}
use Rattle.command_line.proofs.forms.run_of.Goals as goal

pub returns : goal.returns
returns c =
    let found : c.get_str.result ≡ Some c.in_ok-file.file = search rules in
    let lines = one_text-rows (found_of c.args.run.now) (codes "lines") in
    let quiet = one_text-rows (found_of c.args.run.now) (codes "quiet") in (
      refl,
      (
        sym (first_value-rows (found_of c.args.run.now) (codes "FILE")) ∙ (sym c.get_str.ensures ∙ ap (option_map (λ s. s.now)) found),
        c.in_ok-workers.ensures.given,
        c.in_ok-configuration.ensures,
        record {
          there = λ is. c.get_flag-lines.ensures.value (lines ∙ is);
          absent = λ is. c.get_flag-lines.ensures.other (lines ∙ is);
          unknown = λ is. c.get_flag-lines.ensures.none (lines ∙ is);
        },
        c.in_ok-numbers.ensures,
        record {
          there = λ is. c.get_flag-quiet.ensures.value (quiet ∙ is);
          absent = λ is. c.get_flag-quiet.ensures.other (quiet ∙ is);
          unknown = λ is. c.get_flag-quiet.ensures.none (quiet ∙ is);
        },
      ),
    )

pub returns-in_err-file : goal.returns-in_err-file
returns-in_err-file c =
    let missing : c.get_str.result ≡ None = search rules in
    let none : first_of (codes "FILE") (rows_of (found_of c.args.run.now)) ≡ None =
    sym (first_value-rows (found_of c.args.run.now) (codes "FILE")) ∙ (sym c.get_str.ensures ∙ ap (option_map (λ s. s.now)) missing) in
    rw c.from_residual.ensures (λ asked is. let parts = run_parts (rows_of (found_of c.args.run.now)) asked is in not_there (first_of (codes "FILE") (rows_of (found_of c.args.run.now))) parts.0 none parts.3)

pub returns-in_err-workers : goal.returns-in_err-workers
returns-in_err-workers c = rw c.from_residual-in_err-workers.ensures (λ asked is. let parts = run_parts (rows_of (found_of c.args.run.now)) asked is in c.in_err-workers.ensures.given parts.1 parts.4)

pub returns-in_err-configuration : goal.returns-in_err-configuration
returns-in_err-configuration c = rw c.from_residual-in_err-configuration.ensures (λ asked is. let parts = run_parts (rows_of (found_of c.args.run.now)) asked is in c.in_err-configuration.ensures parts.2 parts.5)

pub returns-in_err-numbers : goal.returns-in_err-numbers
returns-in_err-numbers c = rw c.from_residual-in_err-numbers.ensures (λ asked is. let parts = run_parts (rows_of (found_of c.args.run.now)) asked is in c.in_err-numbers.ensures parts.6 parts.7)
