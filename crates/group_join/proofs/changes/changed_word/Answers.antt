use Rattle.std.proofs.Common.{Some, map, sym, ◌∙◌}
use Rattle.clmodel.specs.Cells.{cells_of}
use Rattle.spaces.specs.Changes.{with_changes}
use Rattle.group_join.proofs.Numbers.{loaded_or_0}
use Rattle.group_join.proofs.Zipped.{changed_past}
use Rattle.group_join.proofs.changes.changed_word.Goals as goal

pub returns-then-not-is_inside : goal.returns-then-not-is_inside
returns-then-not-is_inside c = changed_past c.args.row.now c.args.changes.now c.args.at (sym c.is_inside.ensures ∙ c.if-not-is_inside.true)

pub returns : goal.returns
returns c = loaded_or_0 (cells_of (map Some (with_changes c.args.row.now c.args.changes.now))) c.args.at 4 c.number.result c.number.ensures.value
