use Rattle.std.proofs.Common.{◌∙◌, sym, arith, length}
use Rattle.spaces.proofs.Changed.{changes_done, either_done}
use Rattle.spaces.proofs.changes.Table+Bytes.write_all_changes.Goals as goal

pub returns : goal.returns
returns c =
    sym (changes_done c.loop-place.self c.args.names.now c.args.changes.now c.loop-place.place (either_done (length c.args.names.now) (length c.args.changes.now) c.loop-place.place (omega arith)))
    ∙ c.loop-place.invariant
