use Rattle.std.proofs.Common.{◌≡◌, length, string_bytes, arith}
use Rattle.explain_text.proofs.Added.{no_steps, steps_more, steps_same}
use Rattle.explain_text.proofs.steps.push_runs.Goals as goal

pub loop-from-init : goal.loop-from-init
loop-from-init c = record { within = omega arith; shown = no_steps c.args.steps.now 0 (string_bytes c.args.out.now) }

pub loop-from-preserved : goal.loop-from-preserved
loop-from-preserved c = record {
  within = c.run_end-end.ensures.within;
  shown =
      steps_more c.args.steps.now 0 c.loop-from.from c.run_end-end.result (string_bytes c.args.out.now) (string_bytes c.loop-from.out) (string_bytes c.push_run.new.out)
      c.loop-from.invariant.shown c.in_ok-push_run.ensures;
}

pub returns : goal.returns
returns c =
    let all : c.loop-from.from ≡ length c.args.steps.now = omega (arith, c.loop-from.invariant.within, c.loop-from-test.false) in
    steps_same c.args.steps.now 0 c.loop-from.from (length c.args.steps.now) (string_bytes c.args.out.now) (string_bytes c.loop-from.out) all c.loop-from.invariant.shown
