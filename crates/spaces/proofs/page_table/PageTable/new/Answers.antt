use Rattle.std.proofs.Common.{◌∙◌, ap}
use Rattle.spaces.specs.Overlay.{copy_at}
use Rattle.spaces.proofs.PageTables.{empty_row}
use Rattle.spaces.proofs.page_table.PageTable.new.Goals as goal

pub returns : goal.returns
returns c page = ap (λ z. copy_at 0 z page) c.new.ensures.items ∙ empty_row 0 page
