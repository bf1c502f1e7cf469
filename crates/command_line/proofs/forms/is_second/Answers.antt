use Rattle.std.proofs.lemmas.Slice.Eq.{bytes_eq-Decides}
use Rattle.std.proofs.Common.{rules, ◌≡◌, ◌∙◌, ap, sym, subst, refl, inl, inr, false, true, codes, option_map, Option, None, Some}
use Rattle.clap.specs.Words.{Text, found_of, rows_of, first_of}
use Rattle.clap.proofs.WalkLemmas.{first_value-rows}
use Rattle.command_line.specs.CommandLine.{IsSecond}
use Rattle.command_line.proofs.CommandLines.{no_word}
use Rattle.command_line.proofs.forms.is_second.Goals as goal

pub returns-in_default : goal.returns-in_default
returns-in_default c =
    let missing : c.get_str.result ≡ None = search rules in
    let none : first_of (codes "format") (rows_of (found_of c.args.matches.now)) ≡ None =
    sym (first_value-rows (found_of c.args.matches.now) (codes "format")) ∙ (sym c.get_str.ensures ∙ ap (option_map (λ s. s.now)) missing) in
    subst (λ (o : Option Text). IsSecond c.args.first.now c.args.second.now o false) (sym none) refl

pub returns-then-eq : goal.returns-then-eq
returns-then-eq c =
    let found : c.get_str.result ≡ Some c.in-Some.format = search rules in
    let text : c.in-Some.format.now ≡ c.args.first.now = (bytes_eq-Decides c.in-Some.format.now c.args.first.now).0 (sym c.eq.ensures ∙ c.if-eq.true) in
    let some : first_of (codes "format") (rows_of (found_of c.args.matches.now)) ≡ Some c.in-Some.format.now =
    sym (first_value-rows (found_of c.args.matches.now) (codes "format")) ∙ (sym c.get_str.ensures ∙ ap (option_map (λ s. s.now)) found) in
    subst (λ (o : Option Text). IsSecond c.args.first.now c.args.second.now o false) (sym some) (inl (text, refl))

pub returns-then-eq-2 : goal.returns-then-eq-2
returns-then-eq-2 c =
    let found : c.get_str.result ≡ Some c.in-Some.format = search rules in
    let other : c.in-Some.format.now ≡ c.args.second.now = (bytes_eq-Decides c.in-Some.format.now c.args.second.now).0 (sym c.eq-2.ensures ∙ c.if-eq-2.true) in
    let some : first_of (codes "format") (rows_of (found_of c.args.matches.now)) ≡ Some c.in-Some.format.now =
    sym (first_value-rows (found_of c.args.matches.now) (codes "format")) ∙ (sym c.get_str.ensures ∙ ap (option_map (λ s. s.now)) found) in
    subst (λ (o : Option Text). IsSecond c.args.first.now c.args.second.now o true) (sym some) (inr (other, refl))

pub returns : goal.returns
returns c = λ second is.
    let found : c.get_str.result ≡ Some c.in-Some.format = search rules in
    let some : first_of (codes "format") (rows_of (found_of c.args.matches.now)) ≡ Some c.in-Some.format.now =
    sym (first_value-rows (found_of c.args.matches.now) (codes "format")) ∙ (sym c.get_str.ensures ∙ ap (option_map (λ s. s.now)) found) in
    no_word c.args.first.now c.args.second.now c.in-Some.format.now (sym c.eq.ensures ∙ c.if-eq.false) (sym c.eq-2.ensures ∙ c.if-eq-2.false) second (subst (λ (o : Option Text). IsSecond c.args.first.now c.args.second.now o second) some is)
