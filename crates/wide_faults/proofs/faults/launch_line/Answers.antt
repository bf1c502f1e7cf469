use Rattle.std.proofs.Common.{inr, ap, subst, Option, IfSome}
use Rattle.std.proofs.lemmas.Result.{IfOk-weaker}
use Rattle.widening.specs.declared.wide.Wide.{Wide}
use Rattle.wide_faults.proofs.InKernel.{HoldsFor, launch_line, wide_there}
use Rattle.wide_faults.proofs.faults.launch_line.Goals as goal

pub returns-in-Some : goal.returns-in-Some
returns-in-Some c =
    IfOk-weaker c.found_line.result _ _
    (λ text line m fault schedule code launches.
    launch_line c.args.launch.now c.args.head.now c.in-Some.wide text.items m fault schedule c.faults_are_in_kernel.ensures line launches
    (wide_there c.args.launch.now c.code.result.now c.buffer_names-names.result.now c.arguments.result.now c.range.result.now.uniform c.in-Some.wide (subst (λ (o : Option Wide). IfSome o (HoldsFor c.code.result.now c.buffer_names-names.result.now c.arguments.result.now c.range.result.now.uniform)) c.in-Some.is c.in_ok-found.ensures) code c.code.ensures c.buffer_names-names.ensures c.arguments.ensures
    (ap (λ range. range.uniform) c.range.ensures) m)) c.found_line.ensures

pub returns-in-None : goal.returns-in-None
returns-in-None c = IfOk-weaker c.data_line.result _ _ (λ text line m fault schedule code launches. inr line) c.data_line.ensures
