use Rattle.std.proofs.Common.{refl, rules, ◌≡◌, ◌∙◌, ap, sym, codes, option_map, None, Some}
use Rattle.clap.specs.Words.{found_of, first_of, rows_of}
use Rattle.clap.proofs.WalkLemmas.{first_value-rows}
use Rattle.command_line.proofs.CommandLines.{not_there, explore_parts}
use Rattle.command_line.proofs.forms.explore_of.Goals as goal

pub returns : goal.returns
returns c =
    let found : c.get_str.result ≡ Some c.in_ok-script.script = search rules in (
      refl,
      (
        sym (first_value-rows (found_of c.args.explore.now) (codes "SCRIPT")) ∙ (sym c.get_str.ensures ∙ ap (option_map (λ s. s.now)) found),
        c.in_ok-launch.ensures,
        c.in_ok-orders.ensures,
        c.in_ok-seconds.ensures,
        c.in_ok-seed.ensures,
        c.in_ok-configuration.ensures,
      ),
    )

pub returns-in_err-script : goal.returns-in_err-script
returns-in_err-script c =
    let missing : c.get_str.result ≡ None = search rules in
    let none : first_of (codes "SCRIPT") (rows_of (found_of c.args.explore.now)) ≡ None =
    sym (first_value-rows (found_of c.args.explore.now) (codes "SCRIPT")) ∙ (sym c.get_str.ensures ∙ ap (option_map (λ s. s.now)) missing) in
    rw c.from_residual.ensures (λ asked is. let parts = explore_parts (rows_of (found_of c.args.explore.now)) asked is in not_there (first_of (codes "SCRIPT") (rows_of (found_of c.args.explore.now))) parts.0 none parts.6)

pub returns-in_err-launch : goal.returns-in_err-launch
returns-in_err-launch c = rw c.from_residual-in_err-launch.ensures (λ asked is. let parts = explore_parts (rows_of (found_of c.args.explore.now)) asked is in c.in_err-launch.ensures parts.1 parts.7)

pub returns-in_err-orders : goal.returns-in_err-orders
returns-in_err-orders c = rw c.from_residual-in_err-orders.ensures (λ asked is. let parts = explore_parts (rows_of (found_of c.args.explore.now)) asked is in c.in_err-orders.ensures parts.2 parts.8)

pub returns-in_err-seconds : goal.returns-in_err-seconds
returns-in_err-seconds c = rw c.from_residual-in_err-seconds.ensures (λ asked is. let parts = explore_parts (rows_of (found_of c.args.explore.now)) asked is in c.in_err-seconds.ensures parts.3 parts.9)

pub returns-in_err-seed : goal.returns-in_err-seed
returns-in_err-seed c = rw c.from_residual-in_err-seed.ensures (λ asked is. let parts = explore_parts (rows_of (found_of c.args.explore.now)) asked is in c.in_err-seed.ensures parts.4 parts.10)

pub returns-in_err-configuration : goal.returns-in_err-configuration
returns-in_err-configuration c = rw c.from_residual-in_err-configuration.ensures (λ asked is. let parts = explore_parts (rows_of (found_of c.args.explore.now)) asked is in c.in_err-configuration.ensures parts.5 parts.11)
