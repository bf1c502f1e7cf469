-- A source that is checked, and the line that tells what was found.
use Rattle.std.specs.Prelude.{◌≡◌, ℕ, Bool, true, false, Option, None, Some, Result, Ok, Err, is_ok, List, []}
use Rattle.clmodel.specs.Tree.{Program}
use Rattle.limits.specs.declared.Limits.{Limits}
use Rattle.host_commands.specs.Builds.{Builds}
use Rattle.host_commands.specs.declared.command.BuildFault.{BuildFault}
use Rattle.simfile.specs.declared.faults.Reader.TheVariants as reader
use Rattle.simfile.specs.declared.faults.RunFault.{RunFault}
use Rattle.simfile.specs.declared.faults.RunFault.TheVariants as fault
use Rattle.byte_io.specs.Sink.{Sink, Wrote, Stopped, CountsUp}
use Rattle.byte_io.specs.Source.{Are}
use Rattle.simfile.specs.Lines.{check_line}

abbrev pub fault_of : Result Program BuildFault → Option BuildFault
fault_of (Ok program) = None
fault_of (Err fault) = Some fault

-- what the source builds to was told in a line, of which nothing is held back
pub record Checked (limits : Limits) (rest : Option (List ℕ)) (old new : Sink) (good : Bool) : Type 0 where
  pub source : List ℕ
  pub built : Result Program BuildFault
  pub read : Are rest source
  pub builds : Builds limits source built
  pub wrote : Wrote old new (check_line (fault_of built))
  pub released : new.held ≡ []
  pub answer : good ≡ is_ok built

-- a write failed at the line of what the source builds to
pub record CheckUnwritten (limits : Limits) (rest : Option (List ℕ)) (old new : Sink) : Type 0 where
  pub source : List ℕ
  pub built : Result Program BuildFault
  pub read : Are rest source
  pub builds : Builds limits source built
  pub stopped : Stopped old new (check_line (fault_of built))

-- why a check came to no end, and what it left
abbrev pub Unchecked : Limits → Option (List ℕ) → ℕ → ℕ → Sink → Sink → RunFault → Type 0
Unchecked limits rest failures failures' old new (fault.Read reader.First) = CountsUp failures failures' × (new ≡ old)
Unchecked limits rest failures failures' old new (fault.Read reader.Second) = ⊥
Unchecked limits rest failures failures' old new fault.OutOfMemory = new ≡ old
Unchecked limits rest failures failures' old new fault.Write = CheckUnwritten limits rest old new
Unchecked limits rest failures failures' old new (fault.BadLine n) = ⊥
Unchecked limits rest failures failures' old new fault.NoSuchKernel = ⊥
Unchecked limits rest failures failures' old new fault.BadSchedule = ⊥
Unchecked limits rest failures failures' old new (fault.NotALaunch ticket) = ⊥
Unchecked limits rest failures failures' old new (fault.CommandRefused ticket) = ⊥

-- 0 where a source that was checked or dumped builds, else 2 (own)
abbrev pub source_status_of : Result Bool RunFault → ℕ
source_status_of (Ok true) = 0
source_status_of (Ok false) = 2
source_status_of (Err fault) = 2
