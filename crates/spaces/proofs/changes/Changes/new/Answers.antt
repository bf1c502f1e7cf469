use Rattle.spaces.proofs.Changed.{no_changes}
use Rattle.spaces.proofs.changes.Changes.new.Goals as goal

pub returns : goal.returns
returns c bytes = no_changes bytes c.new.result.table c.new.result.cells.items c.new.ensures.table
