use Rattle.std.proofs.Common.{◌≡◌, drop}
use Rattle.std.specs.Vec.Iter.{into_iter_items}
use Rattle.spaces.specs.Tables.{with_values}
use Rattle.device.proofs.launching.put_all.Given as goal

-- what is left, put into the buffers as they are, gives what all gives
abbrev pub invariant-loop-name : goal.invariant-loop-name
invariant-loop-name l =
    with_values l.buffers (drop l.name-index l.names) (into_iter_items l.contents) ≡ with_values l.fn.buffers l.names l.fn.contents.items
