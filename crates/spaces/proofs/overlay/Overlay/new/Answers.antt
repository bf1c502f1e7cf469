use Rattle.spaces.specs.Overlay.{copies}
use Rattle.spaces.proofs.PageRows.{nothing_copied}
use Rattle.spaces.proofs.overlay.Overlay.new.Goals as goal

pub returns-clause-bytes : goal.returns-clause-bytes
returns-clause-bytes c = nothing_copied c.args.base.now (copies c.new.result.table) c.new.result.cells.items c.new.ensures.table
