-- The text of a part of a fault's line.
use Rattle.std.specs.Prelude.{ℕ, List, decimal}
use Rattle.std.specs.Fmt.{signed_decimal}
use Rattle.fault_lines.specs.declared.writing.LinePart.{LinePart}
use Rattle.fault_lines.specs.declared.writing.LinePart.TheVariants as part
use Rattle.fault_lines.specs.Text.{clash_text, kind_text, location_text, stop_text, schedule_text}

abbrev pub part_text : LinePart → List ℕ
part_text (part.Text text) = text.now
part_text (part.Name name) = name.now
part_text (part.Number number) = decimal number
part_text (part.Number32 number) = decimal number
part_text (part.Signed number) = signed_decimal number
part_text (part.Clash clash) = clash_text clash
part_text (part.Kind kind) = kind_text kind
part_text (part.Location location) = location_text location.now
part_text (part.Stop stop) = stop_text stop.now
part_text (part.Schedule runs) = schedule_text runs.now
