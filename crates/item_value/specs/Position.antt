-- The item that is evaluated (OpenCL 1.2, 3.2).
use Rattle.clmodel.specs.Next.{ItemPosition}
use Rattle.item_value.specs.declared.position.ItemPosition as rust_position

abbrev pub item_position : rust_position.ItemPosition → ItemPosition
item_position position = record { range = position.range.now; item = position.item }
