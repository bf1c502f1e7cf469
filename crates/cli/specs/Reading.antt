-- What a command reads, and why it wasn't read.
use Rattle.std.specs.Prelude.{◌≡◌, ◌⊎◌, ℕ, ⊤, Option, List}
use Rattle.host_commands.specs.declared.command.Command.{Command}
use Rattle.byte_io.specs.Sink.{CountsUp}
use Rattle.byte_io.specs.Source.{Are}
use Rattle.simfile.specs.Script.{IsScript, IsBadLine}
use Rattle.simfile.specs.declared.faults.Reader.{Reader}
use Rattle.simfile.specs.declared.faults.Reader.TheVariants as reader
use Rattle.simfile.specs.declared.faults.RunFault.{RunFault}
use Rattle.simfile.specs.declared.faults.RunFault.TheVariants as fault

-- why a reader wasn't read to its end: it failed, which was counted, or no memory was left
abbrev pub ReadFails : Reader → ℕ → ℕ → RunFault → Type 0
ReadFails named failures failures' why = (why ≡ fault.Read named) × CountsUp failures failures' ⊎ (why ≡ fault.OutOfMemory)

-- the bytes that are read are a script
pub record ReadsScript (rest : Option (List ℕ)) (commands : List Command) : Type 0 where
  pub bytes : List ℕ
  pub read : Are rest bytes
  pub script : IsScript bytes commands

-- the script's bytes have a bad line
pub record Misread (rest : Option (List ℕ)) (n : ℕ) : Type 0 where
  pub bytes : List ℕ
  pub read : Are rest bytes
  pub bad : IsBadLine bytes n

-- why no script was read
abbrev pub ScriptFails : Option (List ℕ) → ℕ → ℕ → RunFault → Type 0
ScriptFails rest failures failures' (fault.Read reader.First) = CountsUp failures failures'
ScriptFails rest failures failures' (fault.Read reader.Second) = ⊥
ScriptFails rest failures failures' (fault.BadLine n) = Misread rest n
ScriptFails rest failures failures' fault.OutOfMemory = ⊤
ScriptFails rest failures failures' fault.Write = ⊥
ScriptFails rest failures failures' fault.NoSuchKernel = ⊥
ScriptFails rest failures failures' fault.BadSchedule = ⊥
ScriptFails rest failures failures' (fault.NotALaunch ticket) = ⊥
ScriptFails rest failures failures' (fault.CommandRefused ticket) = ⊥
