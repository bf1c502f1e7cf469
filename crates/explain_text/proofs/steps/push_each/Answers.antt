use Rattle.std.proofs.Common.{◌+◌, string_bytes}
use Rattle.explain_text.proofs.Added.{no_steps, steps_more}
use Rattle.explain_text.proofs.steps.push_each.Goals as goal

pub loop-at-init : goal.loop-at-init
loop-at-init c = no_steps c.args.steps.now c.args.from (string_bytes c.args.out.now)

pub loop-at-preserved : goal.loop-at-preserved
loop-at-preserved c =
    steps_more c.args.steps.now c.args.from c.loop-at.at (c.loop-at.at + 1) (string_bytes c.args.out.now) (string_bytes c.loop-at.out) (string_bytes c.push_step.new.out)
    c.loop-at.invariant c.in_ok-push_step.ensures
