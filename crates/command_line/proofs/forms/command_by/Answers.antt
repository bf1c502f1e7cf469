use Rattle.std.proofs.Common.{◌≡◌, sym, subst, [], true, map, List, Option, inl}
use Rattle.std.proofs.lemmas.Result.{err_from_is_err_and}
use Rattle.clap.specs.Kinds.{HasKind}
use Rattle.clap.specs.Simple.{App, is_simple}
use Rattle.clap.specs.Words.{Text, Row, app_of, fault_of, is_simple_and_free, subcommand_of, subcommand_rows_of}
use Rattle.command_line.specs.CommandLine.{Holds, program}
use Rattle.command_line.specs.declared.forms.Invocation.{Invocation}
use Rattle.command_line.proofs.CommandLines.{are_program, free_program, refused_by_fault, refused_by_format, simple_program}
use Rattle.command_line.proofs.forms.command_by.Goals as goal

pub returns-in_err-matches-clause-refused : goal.returns-in_err-matches-clause-refused
returns-in_err-matches-clause-refused c =
    let words = map (λ word. word.now) c.args.words.now in
    let is : app_of c.args.forms.now ≡ program = are_program c.args.forms.now c.requires in
    let free : is_simple_and_free (app_of c.args.forms.now) ≡ true = subst (λ (a : App). is_simple_and_free a ≡ true) (sym is) free_program in
    let p = err_from_is_err_and c.from_residual.result c.from_residual.ensures.1 in
    rw (p.1, p.2) (refused_by_fault words c.in_err-matches.field-0.0 (subst (λ (a : App). HasKind (fault_of a words) c.in_err-matches.field-0.0) is (c.in_err-matches.ensures.kinds free)))

pub returns-in-Some-clause-asked : goal.returns-in-Some-clause-asked
returns-in-Some-clause-asked c =
    let words = map (λ word. word.now) c.args.words.now in
    let is : app_of c.args.forms.now ≡ program = are_program c.args.forms.now c.requires in
    let simple : is_simple (app_of c.args.forms.now) ≡ true = subst (λ (a : App). is_simple a ≡ true) (sym is) simple_program in
    let free : is_simple_and_free (app_of c.args.forms.now) ≡ true = subst (λ (a : App). is_simple_and_free a ≡ true) (sym is) free_program in
    let held : subcommand_rows_of c.in_ok-matches.matches ≡ subcommand_of (app_of c.args.forms.now) words = (c.in_ok-matches.ensures.ok.2 simple).1 in (
      subst (λ (a : App). fault_of a words ≡ []) is (c.in_ok-matches.ensures.kinds free),
      subst (λ (a : App). Holds (subcommand_of a words) c.in-Some.asked) is (subst (λ (o : Option (Text × List Row)). Holds o c.in-Some.asked) held c.in-Some.ensures),
    )

pub returns-clause-refused : goal.returns-clause-refused
returns-clause-refused c =
    let words = map (λ word. word.now) c.args.words.now in
    let is : app_of c.args.forms.now ≡ program = are_program c.args.forms.now c.requires in
    let simple : is_simple (app_of c.args.forms.now) ≡ true = subst (λ (a : App). is_simple a ≡ true) (sym is) simple_program in
    let free : is_simple_and_free (app_of c.args.forms.now) ≡ true = subst (λ (a : App). is_simple_and_free a ≡ true) (sym is) free_program in
    let held : subcommand_rows_of c.in_ok-matches.matches ≡ subcommand_of (app_of c.args.forms.now) words = (c.in_ok-matches.ensures.ok.2 simple).1 in
    refused_by_format words c.in_ok-wrong_value-in-None.field-0 c.in_ok-wrong_value-in-None.ensures (subst (λ (a : App). fault_of a words ≡ []) is (c.in_ok-matches.ensures.kinds free))
    (subst (λ (a : App). (asked : Invocation) → ¬ Holds (subcommand_of a words) asked) is
    (subst (λ (o : Option (Text × List Row)). (asked : Invocation) → ¬ Holds o asked) held c.in-None.ensures))

pub returns-in_err-wrong_value-in-None-clause-refused : goal.returns-in_err-wrong_value-in-None-clause-refused
returns-in_err-wrong_value-in-None-clause-refused c =
    let p = err_from_is_err_and c.from_residual-in_err-wrong_value-in-None.result c.from_residual-in_err-wrong_value-in-None.ensures.1 in
    rw p.1 (inl p.2)
