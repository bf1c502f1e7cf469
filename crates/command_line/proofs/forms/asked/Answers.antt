use Rattle.std.proofs.Common.{codes, refl}
use Rattle.std.proofs.lemmas.Bool.{false≢true}
use Rattle.command_line.proofs.CommandLines.{reads_form, not_found, holds_nothing}
use Rattle.command_line.proofs.forms.asked.Goals as goal

pub returns-in-Some : goal.returns-in-Some
returns-in-Some c =
    reads_form c.args.matches.now (codes "run") _ c.run_of.result (c.in-Some.ensures.found.0 refl) c.in-Some.ensures.rows c.run_of.ensures

pub returns-in-Some-subcommand_matches : goal.returns-in-Some-subcommand_matches
returns-in-Some-subcommand_matches c =
    reads_form c.args.matches.now (codes "check") _ c.check_of.result (c.in-Some-subcommand_matches.ensures.found.0 refl) c.in-Some-subcommand_matches.ensures.rows c.check_of.ensures

pub returns-in-Some-subcommand_matches-2 : goal.returns-in-Some-subcommand_matches-2
returns-in-Some-subcommand_matches-2 c =
    reads_form c.args.matches.now (codes "dump") _ c.dump_of.result (c.in-Some-subcommand_matches-2.ensures.found.0 refl) c.in-Some-subcommand_matches-2.ensures.rows c.dump_of.ensures

pub returns-in-Some-subcommand_matches-3 : goal.returns-in-Some-subcommand_matches-3
returns-in-Some-subcommand_matches-3 c =
    reads_form c.args.matches.now (codes "replay") _ c.replay_of.result (c.in-Some-subcommand_matches-3.ensures.found.0 refl) c.in-Some-subcommand_matches-3.ensures.rows c.replay_of.ensures

pub returns-in-Some-subcommand_matches-4 : goal.returns-in-Some-subcommand_matches-4
returns-in-Some-subcommand_matches-4 c =
    reads_form c.args.matches.now (codes "serve") _ c.serve_of.result (c.in-Some-subcommand_matches-4.ensures.found.0 refl) c.in-Some-subcommand_matches-4.ensures.rows c.serve_of.ensures

pub returns-in-Some-subcommand_matches-5 : goal.returns-in-Some-subcommand_matches-5
returns-in-Some-subcommand_matches-5 c =
    reads_form c.args.matches.now (codes "explain") _ c.explain_of.result (c.in-Some-subcommand_matches-5.ensures.found.0 refl) c.in-Some-subcommand_matches-5.ensures.rows c.explain_of.ensures

pub returns-in-Some-subcommand_matches-6 : goal.returns-in-Some-subcommand_matches-6
returns-in-Some-subcommand_matches-6 c =
    reads_form c.args.matches.now (codes "version") _ c.version_of.result (c.in-Some-subcommand_matches-6.ensures.found.0 refl) c.in-Some-subcommand_matches-6.ensures.rows c.version_of.ensures

pub returns-in-Some-subcommand_matches-7 : goal.returns-in-Some-subcommand_matches-7
returns-in-Some-subcommand_matches-7 c =
    reads_form c.args.matches.now (codes "widen") _ c.widen_of.result (c.in-Some-subcommand_matches-7.ensures.found.0 refl) c.in-Some-subcommand_matches-7.ensures.rows c.widen_of.ensures

pub returns-in-Some-subcommand_matches-8 : goal.returns-in-Some-subcommand_matches-8
returns-in-Some-subcommand_matches-8 c =
    reads_form c.args.matches.now (codes "plain") _ c.plain_of.result (c.in-Some-subcommand_matches-8.ensures.found.0 refl) c.in-Some-subcommand_matches-8.ensures.rows c.plain_of.ensures

pub returns : goal.returns
returns c =
    reads_form c.args.matches.now (codes "explore") _ c.explore_of.result (c.in_ok-subcommand_matches.ensures.found.0 refl) c.in_ok-subcommand_matches.ensures.rows c.explore_of.ensures

pub returns-in_err-subcommand_matches : goal.returns-in_err-subcommand_matches
returns-in_err-subcommand_matches c =
    let m = c.args.matches.now in
    rw c.from_residual.ensures
    (holds_nothing m (not_found c.subcommand_matches.result (codes "run") m c.in_default.not-Some c.subcommand_matches.ensures.found)
    (not_found c.subcommand_matches-2.result (codes "check") m (c.in_default-subcommand_matches).not-Some c.subcommand_matches-2.ensures.found)
    (not_found c.subcommand_matches-3.result (codes "dump") m (c.in_default-subcommand_matches-2).not-Some c.subcommand_matches-3.ensures.found)
    (not_found c.subcommand_matches-4.result (codes "replay") m (c.in_default-subcommand_matches-3).not-Some c.subcommand_matches-4.ensures.found)
    (not_found c.subcommand_matches-5.result (codes "serve") m (c.in_default-subcommand_matches-4).not-Some c.subcommand_matches-5.ensures.found)
    (not_found c.subcommand_matches-6.result (codes "explain") m (c.in_default-subcommand_matches-5).not-Some c.subcommand_matches-6.ensures.found)
    (not_found c.subcommand_matches-7.result (codes "version") m (c.in_default-subcommand_matches-6).not-Some c.subcommand_matches-7.ensures.found)
    (not_found c.subcommand_matches-8.result (codes "widen") m (c.in_default-subcommand_matches-7).not-Some c.subcommand_matches-8.ensures.found)
    (not_found c.subcommand_matches-9.result (codes "plain") m (c.in_default-subcommand_matches-8).not-Some c.subcommand_matches-9.ensures.found)
    (λ named. false≢true (c.in_err-subcommand_matches.ensures.found.1 named)))
