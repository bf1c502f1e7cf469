-- Which fault of a run an error below it is, and what a fault says of a text.
use Rattle.std.specs.Prelude.{List, ℕ, ⊤}
use Rattle.byte_io.specs.declared.counted.ReadFault.{ReadFault}
use Rattle.byte_io.specs.declared.counted.ReadFault.TheVariants as read
use Rattle.fault_lines.specs.declared.reading.ReadFault.{ReadFault as FileFault}
use Rattle.fault_lines.specs.declared.reading.ReadFault.TheVariants as file
use Rattle.simfile.specs.Script.{IsBadLine}
use Rattle.simfile.specs.declared.faults.Reader.{Reader}
use Rattle.simfile.specs.declared.faults.RunFault.{RunFault}
use Rattle.simfile.specs.declared.faults.RunFault.TheVariants as fault

abbrev pub read_fault : Reader → ReadFault → RunFault
read_fault named read.Failed = fault.Read named
read_fault named read.OutOfMemory = fault.OutOfMemory

abbrev pub file_fault : FileFault → RunFault
file_fault file.BadText = fault.BadSchedule
file_fault file.OutOfMemory = fault.OutOfMemory

-- which line of the bytes is their lowest bad one; out of memory says nothing of them, and no other fault comes
abbrev pub NoScript : List ℕ → RunFault → Type 0
NoScript bytes (fault.BadLine n) = IsBadLine bytes n
NoScript bytes fault.OutOfMemory = ⊤
NoScript bytes (fault.Read by) = ⊥
NoScript bytes fault.Write = ⊥
NoScript bytes fault.NoSuchKernel = ⊥
NoScript bytes fault.BadSchedule = ⊥
NoScript bytes (fault.NotALaunch ticket) = ⊥
NoScript bytes (fault.CommandRefused ticket) = ⊥
