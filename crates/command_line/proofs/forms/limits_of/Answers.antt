use Rattle.std.proofs.Common.{rules, ◌≡◌, ◌∙◌, ap, sym, subst, inl, inr, codes, option_map, Option, None, Some}
use Rattle.clap.specs.Words.{Text, found_of, rows_of, first_of}
use Rattle.clap.proofs.WalkLemmas.{first_value-rows}
use Rattle.command_line.specs.CommandLine.{AreLimits}
use Rattle.command_line.proofs.CommandLines.{no_limits}
use Rattle.command_line.proofs.forms.limits_of.Goals as goal

pub returns-in_default : goal.returns-in_default
returns-in_default c =
    let missing : c.get_str.result ≡ None = search rules in
    let none : first_of (codes "limits") (rows_of (found_of c.args.matches.now)) ≡ None =
    sym (first_value-rows (found_of c.args.matches.now) (codes "limits")) ∙ (sym c.get_str.ensures ∙ ap (option_map (λ s. s.now)) missing) in
    subst (λ (o : Option Text). AreLimits o c.profile.result) (sym none) c.profile.ensures

pub returns-then-eq : goal.returns-then-eq
returns-then-eq c =
    let found : c.get_str.result ≡ Some c.in-Some.limits = search rules in
    let name : c.in-Some.limits.now ≡ codes "profile" = search rules in
    let some : first_of (codes "limits") (rows_of (found_of c.args.matches.now)) ≡ Some c.in-Some.limits.now =
    sym (first_value-rows (found_of c.args.matches.now) (codes "limits")) ∙ (sym c.get_str.ensures ∙ ap (option_map (λ s. s.now)) found) in
    subst (λ (o : Option Text). AreLimits o c.profile-then-eq.result) (sym some) (inl (name, c.profile-then-eq.ensures))

pub returns-then-eq-2 : goal.returns-then-eq-2
returns-then-eq-2 c =
    let found : c.get_str.result ≡ Some c.in-Some.limits = search rules in
    let name : c.in-Some.limits.now ≡ codes "large" = search rules in
    let some : first_of (codes "limits") (rows_of (found_of c.args.matches.now)) ≡ Some c.in-Some.limits.now =
    sym (first_value-rows (found_of c.args.matches.now) (codes "limits")) ∙ (sym c.get_str.ensures ∙ ap (option_map (λ s. s.now)) found) in
    subst (λ (o : Option Text). AreLimits o c.large.result) (sym some) (inr (name, c.large.ensures))

pub returns : goal.returns
returns c = λ limits is.
    let found : c.get_str.result ≡ Some c.in-Some.limits = search rules in
    let some : first_of (codes "limits") (rows_of (found_of c.args.matches.now)) ≡ Some c.in-Some.limits.now =
    sym (first_value-rows (found_of c.args.matches.now) (codes "limits")) ∙ (sym c.get_str.ensures ∙ ap (option_map (λ s. s.now)) found) in
    no_limits c.in-Some.limits.now (sym c.eq.ensures ∙ c.if-eq.false) (sym c.eq-2.ensures ∙ c.if-eq-2.false) limits (subst (λ (o : Option Text). AreLimits o limits) some is)
