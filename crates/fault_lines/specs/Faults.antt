-- Why bytes were not read.
use Rattle.std.specs.Prelude.{List, ℕ}
use Rattle.fault_lines.specs.ScheduleFile.{NoScheduleFile}
use Rattle.fault_lines.specs.declared.reading.ReadFault.{ReadFault}
use Rattle.fault_lines.specs.declared.reading.ReadFault.TheVariants as read

abbrev pub IsRefused : List ℕ → ReadFault → Type 0
IsRefused bytes read.BadText = NoScheduleFile bytes
IsRefused bytes read.OutOfMemory = Unit {0}
