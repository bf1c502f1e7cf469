use Rattle.std.proofs.Common.{refl, rules, ◌≡◌, ◌∙◌, ap, sym, codes, option_map, None, Some}
use Rattle.clap.specs.Words.{found_of, first_of, rows_of}
use Rattle.clap.proofs.WalkLemmas.{first_value-rows, one_text-rows}
use Rattle.command_line.proofs.CommandLines.{not_there, explain_parts}
use Rattle.command_line.proofs.forms.explain_of.Goals as goal

pub returns : goal.returns
returns c =
    let found : c.get_str.result ≡ Some c.in_ok-script.script = search rules in
    let flag = one_text-rows (found_of c.args.explain.now) (codes "as-given") in
    let all = one_text-rows (found_of c.args.explain.now) (codes "all") in (
      refl,
      (
        sym (first_value-rows (found_of c.args.explain.now) (codes "SCRIPT")) ∙ (sym c.get_str.ensures ∙ ap (option_map (λ s. s.now)) found),
        sym (first_value-rows (found_of c.args.explain.now) (codes "SCHEDULE")) ∙ sym c.get_str-schedule.ensures,
        c.in_ok-configuration.ensures,
        c.in_ok-json.ensures,
        record {
          there = λ is. c.get_flag-as_given.ensures.value (flag ∙ is);
          absent = λ is. c.get_flag-as_given.ensures.other (flag ∙ is);
          unknown = λ is. c.get_flag-as_given.ensures.none (flag ∙ is);
        },
        record {
          there = λ is. c.get_flag-all.ensures.value (all ∙ is);
          absent = λ is. c.get_flag-all.ensures.other (all ∙ is);
          unknown = λ is. c.get_flag-all.ensures.none (all ∙ is);
        },
        c.in_ok-steps.ensures,
        c.in_ok-widen.ensures,
      ),
    )

pub returns-in_err-script : goal.returns-in_err-script
returns-in_err-script c =
    let missing : c.get_str.result ≡ None = search rules in
    let none : first_of (codes "SCRIPT") (rows_of (found_of c.args.explain.now)) ≡ None =
    sym (first_value-rows (found_of c.args.explain.now) (codes "SCRIPT")) ∙ (sym c.get_str.ensures ∙ ap (option_map (λ s. s.now)) missing) in
    rw c.from_residual.ensures (λ asked is. let parts = explain_parts (rows_of (found_of c.args.explain.now)) asked is in not_there (first_of (codes "SCRIPT") (rows_of (found_of c.args.explain.now))) parts.0 none parts.3)

pub returns-in_err-configuration : goal.returns-in_err-configuration
returns-in_err-configuration c = rw c.from_residual-in_err-configuration.ensures (λ asked is. let parts = explain_parts (rows_of (found_of c.args.explain.now)) asked is in c.in_err-configuration.ensures parts.1 parts.4)

pub returns-in_err-json : goal.returns-in_err-json
returns-in_err-json c = rw c.from_residual-in_err-json.ensures (λ asked is. let parts = explain_parts (rows_of (found_of c.args.explain.now)) asked is in c.in_err-json.ensures parts.2 parts.5)

pub returns-in_err-steps : goal.returns-in_err-steps
returns-in_err-steps c = rw c.from_residual-in_err-steps.ensures (λ asked is. let parts = explain_parts (rows_of (found_of c.args.explain.now)) asked is in c.in_err-steps.ensures parts.6 parts.7)

pub returns-in_err-widen : goal.returns-in_err-widen
returns-in_err-widen c = rw c.from_residual-in_err-widen.ensures (λ asked is. let parts = explain_parts (rows_of (found_of c.args.explain.now)) asked is in c.in_err-widen.ensures parts.8 parts.9)
