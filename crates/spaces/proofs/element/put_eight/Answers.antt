use Rattle.std.proofs.Common.{◌∙◌}
use Rattle.spaces.specs.Overlay.{row_cells}
use Rattle.spaces.proofs.Puts.{put_parts}
use Rattle.spaces.proofs.element.put_eight.Goals as goal

pub returns-clause-bytes : goal.returns-clause-bytes
returns-clause-bytes c byte =
    c.put_four-2.ensures.bytes byte
    ∙ put_parts (row_cells c.args.row.now) (row_cells c.put_four.new.row) c.args.at 4 4 c.args.value byte (c.put_four.ensures.bytes byte)
