use Rattle.std.proofs.Common.{refl, ◌∙◌}
use Rattle.wide_scripts.proofs.performed.ordered_note.Goals as goal

pub returns : goal.returns
returns c =
    let none = c.or_nothing-wide.ensures in
    (c.in_ok-buffers.buffers, c.or_nothing-wide.result, refl, c.in_ok-buffers.ensures ∙ c.buffer_names.ensures, none.0, none.1)
