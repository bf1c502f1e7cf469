use Rattle.std.proofs.Common.{◌++◌, ap, ◌∙◌}
use Rattle.device.specs.Machine.{machine_of}
use Rattle.wide_faults.proofs.faults.step.Goals as goal

pub returns : goal.returns
returns c = (
  c.in_ok-reply.ensures,
  c.in_ok-text.text.items,
  c.in_ok-text.ensures (machine_of c.args.device.now) c.in_ok-reply.ensures,
  c.in_ok-extend_from_slice.ensures.items ∙ ap (λ t. c.args.out.now.items ++ t) c.as_slice.ensures.value,
)
