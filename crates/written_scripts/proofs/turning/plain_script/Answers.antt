use Rattle.std.proofs.Common.{rules, IfOk}
use Rattle.std.proofs.lemmas.Result.{IfOk-weaker}
use Rattle.written_scripts.specs.Written.{Turns}
use Rattle.written_scripts.proofs.Runs.{turns_only}
use Rattle.written_scripts.proofs.turning.plain_script.Goals as goal

pub returns-clause-only : goal.returns-clause-only
returns-clause-only c = λ commands w.
    let turns : IfOk c.turned.result (Turns c.args.files.now c.args.script.now) = search rules in
    IfOk-weaker c.turned.result _ _ (λ t h. turns_only c.args.files.now c.args.script.now t commands h w) turns
