-- A script that is read, and why it wasn't.
use Rattle.std.proofs.Common.{◌≡◌, ℕ, Option, List, Err, inl, inr}
use Rattle.byte_io.specs.Source.{Are, ReadsAll}
use Rattle.byte_io.specs.declared.counted.ReadFault.{ReadFault}
use Rattle.byte_io.specs.declared.counted.ReadFault.TheVariants as read
use Rattle.cli.specs.Reading.{ReadFails, ScriptFails}
use Rattle.simfile.specs.Faults.{NoScript, read_fault}
use Rattle.simfile.specs.declared.faults.Reader.{Reader}
use Rattle.simfile.specs.declared.faults.RunFault.{RunFault}
use Rattle.simfile.specs.declared.faults.RunFault.TheVariants as fault

-- a reader wasn't read to its end
pub read_fails : {A : Type 0} (items : A → List ℕ) (rest : Option (List ℕ)) (named : Reader) (failures failures' : ℕ) (e : ReadFault) (why : RunFault) → why ≡ read_fault named e
    → ReadsAll items rest failures (Err e) failures' → ReadFails named failures failures' why
read_fails items rest named failures failures' read.Failed why is h = inl (is, h)
read_fails items rest named failures failures' read.OutOfMemory why is h = inr is

-- bytes that were read are no script
pub no_script : (rest : Option (List ℕ)) (failures failures' : ℕ) (bytes : List ℕ) (why : RunFault) → Are rest bytes → NoScript bytes why → ScriptFails rest failures failures' why
no_script rest failures failures' bytes (fault.BadLine n) are h = record { bytes = bytes; read = are; bad = h }
no_script rest failures failures' bytes fault.OutOfMemory are h = tt
no_script rest failures failures' bytes (fault.Read by) are h = absurd h
no_script rest failures failures' bytes fault.Write are h = absurd h
no_script rest failures failures' bytes fault.NoSuchKernel are h = absurd h
no_script rest failures failures' bytes fault.BadSchedule are h = absurd h
no_script rest failures failures' bytes (fault.NotALaunch ticket) are h = absurd h
no_script rest failures failures' bytes (fault.CommandRefused ticket) are h = absurd h
