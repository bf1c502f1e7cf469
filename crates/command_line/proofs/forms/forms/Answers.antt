use Rattle.std.proofs.Common.{[], codes}
use Rattle.command_line.specs.CommandLine.{run_arguments, check_arguments, dump_arguments, replay_arguments, serve_arguments, explain_arguments, version_arguments, widen_arguments, plain_arguments, explore_arguments}
use Rattle.command_line.proofs.forms.forms.Goals as goal

pub returns : goal.returns
returns c =
    let runs = c.with_form-runs.ensures [] (codes "run") run_arguments c.no_form.ensures c.run_form.ensures in
    let with_checks = c.with_form-with_checks.ensures _ (codes "check") check_arguments runs c.check_form.ensures in
    let with_dumps = c.with_form-with_dumps.ensures _ (codes "dump") dump_arguments with_checks c.dump_form.ensures in
    let with_replays = c.with_form-with_replays.ensures _ (codes "replay") replay_arguments with_dumps c.replay_form.ensures in
    let with_serving = c.with_form-with_serving.ensures _ (codes "serve") serve_arguments with_replays c.serve_form.ensures in
    let with_explaining = c.with_form-with_explaining.ensures _ (codes "explain") explain_arguments with_serving c.explain_form.ensures in
    let with_version = c.with_form-with_version.ensures _ (codes "version") version_arguments with_explaining c.version_form.ensures in
    let with_widening = c.with_form-with_widening.ensures _ (codes "widen") widen_arguments with_version c.widen_form.ensures in
    let with_writing = c.with_form-with_writing.ensures _ (codes "plain") plain_arguments with_widening c.plain_form.ensures in
    c.with_form.ensures _ (codes "explore") explore_arguments with_writing c.explore_form.ensures
