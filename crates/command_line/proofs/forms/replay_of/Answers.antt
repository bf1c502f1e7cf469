use Rattle.std.proofs.Common.{refl, rules, ◌≡◌, ◌∙◌, ap, sym, subst, codes, option_map, None, Some}
use Rattle.clap.specs.Words.{found_of, first_of, rows_of}
use Rattle.clap.proofs.WalkLemmas.{first_value-rows}
use Rattle.limits.specs.declared.Limits.{Limits}
use Rattle.command_line.specs.CommandLine.{GivesLimits}
use Rattle.command_line.proofs.CommandLines.{not_there, replay_parts}
use Rattle.command_line.proofs.forms.replay_of.Goals as goal

pub returns : goal.returns
returns c =
    let found : c.get_str.result ≡ Some c.in_ok-script.script = search rules in
    let named : c.get_str-2.result ≡ Some c.in_ok-schedule.schedule = search rules in (
      refl,
      (
        sym (first_value-rows (found_of c.args.replay.now) (codes "SCRIPT")) ∙ (sym c.get_str.ensures ∙ ap (option_map (λ s. s.now)) found),
        sym (first_value-rows (found_of c.args.replay.now) (codes "SCHEDULE")) ∙ (sym c.get_str-2.ensures ∙ ap (option_map (λ s. s.now)) named),
        (subst (λ (l : Limits). GivesLimits (rows_of (found_of c.args.replay.now)) l) (sym c.of.ensures.limits) c.in_ok-limits.ensures, c.of.ensures.budget ∙ ap (λ (l : Limits). l.default_ticks) (sym c.of.ensures.limits)),
      ),
    )

pub returns-in_err-script : goal.returns-in_err-script
returns-in_err-script c =
    let missing : c.get_str.result ≡ None = search rules in
    let none : first_of (codes "SCRIPT") (rows_of (found_of c.args.replay.now)) ≡ None =
    sym (first_value-rows (found_of c.args.replay.now) (codes "SCRIPT")) ∙ (sym c.get_str.ensures ∙ ap (option_map (λ s. s.now)) missing) in
    rw c.from_residual.ensures (λ asked is. let parts = replay_parts (rows_of (found_of c.args.replay.now)) asked is in not_there (first_of (codes "SCRIPT") (rows_of (found_of c.args.replay.now))) parts.0 none parts.3)

pub returns-in_err-schedule : goal.returns-in_err-schedule
returns-in_err-schedule c =
    let missing : c.get_str-2.result ≡ None = search rules in
    let none : first_of (codes "SCHEDULE") (rows_of (found_of c.args.replay.now)) ≡ None =
    sym (first_value-rows (found_of c.args.replay.now) (codes "SCHEDULE")) ∙ (sym c.get_str-2.ensures ∙ ap (option_map (λ s. s.now)) missing) in
    rw c.from_residual-in_err-schedule.ensures (λ asked is. let parts = replay_parts (rows_of (found_of c.args.replay.now)) asked is in not_there (first_of (codes "SCHEDULE") (rows_of (found_of c.args.replay.now))) parts.1 none parts.4)

pub returns-in_err-limits : goal.returns-in_err-limits
returns-in_err-limits c = rw c.from_residual-in_err-limits.ensures (λ asked is. let parts = replay_parts (rows_of (found_of c.args.replay.now)) asked is in c.in_err-limits.ensures parts.2 parts.5)
