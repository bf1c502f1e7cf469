-- A source of which a kernel's code is told as text.
use Rattle.std.specs.Prelude.{◌≡◌, ℕ, Bool, true, false, Option, None, Some, Result, Ok, Err, List, []}
use Rattle.clmodel.specs.Setup.{kernel_number}
use Rattle.clmodel.specs.Tree.{Program}
use Rattle.limits.specs.declared.Limits.{Limits}
use Rattle.host_commands.specs.Builds.{Builds}
use Rattle.host_commands.specs.declared.command.BuildFault.{BuildFault}
use Rattle.byte_io.specs.Sink.{Sink, Wrote, Stopped, CountsUp}
use Rattle.byte_io.specs.Source.{Are}
use Rattle.lower.specs.Names.{LowersNamed}
use Rattle.regcode.specs.Listing.{Listing}
use Rattle.code_text.specs.Text.{text_of}
use Rattle.simfile.specs.Lines.{check_line}
use Rattle.simfile.specs.declared.faults.Reader.TheVariants as reader
use Rattle.simfile.specs.declared.faults.RunFault.{RunFault}
use Rattle.simfile.specs.declared.faults.RunFault.TheVariants as fault

-- the text of code of a program's kernel was written
pub record CodeWritten (program : Program) (kernel : List ℕ) (old new : Sink) : Type 0 where
  pub code : Listing
  pub lowered : LowersNamed program kernel code
  pub wrote : Wrote old new (text_of code.instructions)
  pub released : new.held ≡ []

-- a write failed, and a beginning of the text of code of a program's kernel was written
pub record Broke (program : Program) (kernel : List ℕ) (old new : Sink) : Type 0 where
  pub code : Listing
  pub lowered : LowersNamed program kernel code
  pub stopped : Stopped old new (text_of code.instructions)

-- the program has no such kernel, and nothing was written
pub record Lacks (program : Program) (kernel : List ℕ) (old new : Sink) : Type 0 where
  pub none : kernel_number program kernel ≡ None
  pub same : new ≡ old

-- why a kernel's code wasn't told, and what was written
abbrev pub CodeUnwritten : Program → List ℕ → Sink → Sink → RunFault → Type 0
CodeUnwritten program kernel old new (fault.Read by) = ⊥
CodeUnwritten program kernel old new fault.OutOfMemory = new ≡ old
CodeUnwritten program kernel old new fault.Write = Broke program kernel old new
CodeUnwritten program kernel old new (fault.BadLine n) = ⊥
CodeUnwritten program kernel old new fault.NoSuchKernel = Lacks program kernel old new
CodeUnwritten program kernel old new fault.BadSchedule = ⊥
CodeUnwritten program kernel old new (fault.NotALaunch ticket) = ⊥
CodeUnwritten program kernel old new (fault.CommandRefused ticket) = ⊥

-- what is told of what a source builds to: the code of the kernel, or the line of the source's fault
abbrev pub Tells : Result Program BuildFault → List ℕ → Sink → Sink → Bool → Type 0
Tells (Ok program) kernel old new good = CodeWritten program kernel old new × (good ≡ true)
Tells (Err fault) kernel old new good = Wrote old new (check_line (Some fault)) × (new.held ≡ []) × (good ≡ false)

-- what the source builds to was told, and nothing of it is held back
pub record Dumped (limits : Limits) (rest : Option (List ℕ)) (kernel : List ℕ) (old new : Sink) (good : Bool) : Type 0 where
  pub source : List ℕ
  pub built : Result Program BuildFault
  pub read : Are rest source
  pub builds : Builds limits source built
  pub tells : Tells built kernel old new good

-- a write failed at the code of the kernel, or at the line of the source's fault
abbrev pub Breaks : Result Program BuildFault → List ℕ → Sink → Sink → Type 0
Breaks (Ok program) kernel old new = Broke program kernel old new
Breaks (Err fault) kernel old new = Stopped old new (check_line (Some fault))

pub record Broken (limits : Limits) (rest : Option (List ℕ)) (kernel : List ℕ) (old new : Sink) : Type 0 where
  pub source : List ℕ
  pub built : Result Program BuildFault
  pub read : Are rest source
  pub builds : Builds limits source built
  pub breaks : Breaks built kernel old new

-- the source builds to a program without such a kernel, and nothing was written
pub record Missed (limits : Limits) (rest : Option (List ℕ)) (kernel : List ℕ) (old new : Sink) : Type 0 where
  pub source : List ℕ
  pub program : Program
  pub read : Are rest source
  pub builds : Builds limits source (Ok program)
  pub lacks : Lacks program kernel old new

-- why a dump came to no end, and what it left
abbrev pub Undumped : Limits → Option (List ℕ) → List ℕ → ℕ → ℕ → Sink → Sink → RunFault → Type 0
Undumped limits rest kernel failures failures' old new (fault.Read reader.First) = CountsUp failures failures' × (new ≡ old)
Undumped limits rest kernel failures failures' old new (fault.Read reader.Second) = ⊥
Undumped limits rest kernel failures failures' old new fault.OutOfMemory = new ≡ old
Undumped limits rest kernel failures failures' old new fault.Write = Broken limits rest kernel old new
Undumped limits rest kernel failures failures' old new fault.NoSuchKernel = Missed limits rest kernel old new
Undumped limits rest kernel failures failures' old new (fault.BadLine n) = ⊥
Undumped limits rest kernel failures failures' old new fault.BadSchedule = ⊥
Undumped limits rest kernel failures failures' old new (fault.NotALaunch ticket) = ⊥
Undumped limits rest kernel failures failures' old new (fault.CommandRefused ticket) = ⊥
