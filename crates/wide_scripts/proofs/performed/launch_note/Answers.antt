use Rattle.std.proofs.Common.{ap}
use Rattle.clmodel.specs.declared.setup.Range.{Range}
use Rattle.wide_scripts.proofs.Performing.{launch_noted}
use Rattle.wide_scripts.proofs.performed.launch_note.Goals as goal

pub returns : goal.returns
returns c =
    λ m is.
    launch_noted m c.args.launch.now c.code.result.now c.buffer_names-names.result.now c.arguments.result.now c.range.result.now.uniform c.in_ok-found.found c.or_nothing-wide.result
    c.in_ok-buffers.buffers c.nothing_is_free.ensures is c.code.ensures c.buffer_names-names.ensures c.arguments.ensures (ap (λ (range : Range). range.uniform) c.range.ensures)
    c.in_ok-buffers.ensures c.in_ok-found.ensures c.or_nothing-wide.ensures
