use Rattle.std.proofs.Common.{◌∙◌}
use Rattle.spaces.specs.Overlay.{row_cells}
use Rattle.spaces.proofs.Puts.{put_below}
use Rattle.spaces.proofs.element.put_two.Goals as goal

pub returns-clause-bytes : goal.returns-clause-bytes
returns-clause-bytes c byte =
    c.put_one-2.ensures.bytes byte
    ∙ put_below (row_cells c.args.row.now) (row_cells c.put_one.new.row) c.args.at 1 1 c.args.value byte (c.put_one.ensures.bytes byte)
