-- What an explanation says of a script and a schedule file (own).
use Rattle.std.specs.Prelude.{◌≡◌, ◌⊎◌, ℕ, Bool, true, false, ⊤, Ok, Err, List, codes, take, nat_eq, MatchOption, MatchBool}
use Rattle.std.specs.List.{ends_with}
use Rattle.clmodel.specs.Tree.{Program}
use Rattle.clmodel.specs.declared.fault.Fault.{Fault}
use Rattle.clmodel.specs.declared.schedule.EventRun.{EventRun}
use Rattle.byte_io.specs.Sink.{Sink, Stopped}
use Rattle.device.specs.Machine.{Machine, opening}
use Rattle.host_commands.specs.Builds.{Builds}
use Rattle.host_commands.specs.declared.command.BuildFault.{BuildFault}
use Rattle.host_commands.specs.declared.command.Command.{Command}
use Rattle.host_commands.specs.declared.command.Refusal.{Refusal}
use Rattle.host_commands.specs.declared.command.Reply.TheVariants as reply
use Rattle.fault_lines.specs.ScheduleFile.{IsScheduleFile, NoScheduleFile}
use Rattle.simfile.specs.Faults.{NoScript}
use Rattle.simfile.specs.Script.{IsScript, IsBadLine}
use Rattle.telling.specs.Judged.{NoLaunch, Refuses, Tells}
use Rattle.explaining.specs.Leading.{IsFirst, Leads, LeadsCleanly}
use Rattle.explaining.specs.declared.facts.Given.{Given}
use Rattle.simfile.specs.declared.faults.RunFault.{RunFault}
use Rattle.simfile.specs.declared.faults.RunFault.TheVariants as fault
use Rattle.limits.specs.declared.Configuration.{Configuration}
use Rattle.limits.specs.declared.Limits.{Limits}

-- a case that is judged on a new device, to which the commands before its ticket led
pub record IsTold (configuration : Configuration) (commands : List Command) (ticket : ℕ) (f : Fault) (runs : List EventRun) (answer : Bool) : Type 0 where
  pub machine : Machine
  pub done : List Bool
  pub led : Leads (opening configuration) (take ticket commands) machine done
  pub tells : Tells machine commands ticket f runs answer

-- the launch of a ticket is refused on a new device, to which the commands before it led
pub record IsRefusedThere (configuration : Configuration) (commands : List Command) (ticket : ℕ) : Type 0 where
  pub machine : Machine
  pub done : List Bool
  pub led : Leads (opening configuration) (take ticket commands) machine done
  pub refuses : Refuses machine commands ticket

-- why it wasn't
abbrev pub Unled : Configuration → List Command → ℕ → RunFault → Type 0
Unled configuration commands ticket (fault.Read by) = ⊥
Unled configuration commands ticket fault.Write = ⊥
Unled configuration commands ticket (fault.BadLine n) = ⊥
Unled configuration commands ticket fault.OutOfMemory = ⊤
Unled configuration commands ticket fault.NoSuchKernel = ⊥
Unled configuration commands ticket fault.BadSchedule = ⊥
Unled configuration commands ticket (fault.NotALaunch named) = (named ≡ ticket) × NoLaunch commands ticket
Unled configuration commands ticket (fault.CommandRefused named) = (named ≡ ticket) × IsRefusedThere configuration commands ticket

-- the answer to a script and a schedule file
pub record Explained (configuration : Configuration) (script schedule : List ℕ) (answer : Bool) : Type 0 where
  pub commands : List Command
  pub ticket : ℕ
  pub f : Fault
  pub runs : List EventRun
  pub is : IsScript script commands
  pub file : IsScheduleFile schedule ticket f runs
  pub told : IsTold configuration commands ticket f runs answer

-- why a script and a schedule file have no answer
pub record IsUntold (configuration : Configuration) (script schedule : List ℕ) (why : RunFault) : Type 0 where
  pub commands : List Command
  pub ticket : ℕ
  pub f : Fault
  pub runs : List EventRun
  pub is : IsScript script commands
  pub file : IsScheduleFile schedule ticket f runs
  pub untold : (NoLaunch commands ticket × (why ≡ fault.NotALaunch ticket)) ⊎ (IsRefusedThere configuration commands ticket × (why ≡ fault.CommandRefused ticket))

abbrev pub Unexplained : Configuration → List ℕ → List ℕ → RunFault → Type 0
Unexplained configuration script schedule (fault.Read by) = ⊥
Unexplained configuration script schedule fault.Write = ⊥
Unexplained configuration script schedule (fault.BadLine n) = IsBadLine script n
Unexplained configuration script schedule fault.OutOfMemory = ⊤
Unexplained configuration script schedule fault.NoSuchKernel = ⊥
Unexplained configuration script schedule fault.BadSchedule = NoScheduleFile schedule
Unexplained configuration script schedule (fault.NotALaunch ticket) = IsUntold configuration script schedule (fault.NotALaunch ticket)
Unexplained configuration script schedule (fault.CommandRefused ticket) = IsUntold configuration script schedule (fault.CommandRefused ticket)

-- a launch of a script has a fault, or a command is refused, and it is the first of both
pub record HasFirst (configuration : Configuration) (script : List ℕ) : Type 0 where
  pub commands : List Command
  pub ticket : ℕ
  pub machine : Machine
  pub is : IsScript script commands
  pub found : ((f : Fault) × (runs : List EventRun) × IsFirst (opening configuration) commands machine ticket (reply.Fault f runs))
      ⊎ ((why : Refusal) × IsFirst (opening configuration) commands machine ticket (reply.Refused why))

-- no reply to a script's commands is a fault or a refusal
pub record IsClean (configuration : Configuration) (script : List ℕ) : Type 0 where
  pub commands : List Command
  pub machine : Machine
  pub is : IsScript script commands
  pub led : LeadsCleanly (opening configuration) commands machine

abbrev pub Found : Configuration → List ℕ → Bool → Type 0
Found configuration script true = HasFirst configuration script
Found configuration script false = IsClean configuration script

-- true exactly where a source isn't built within limits
abbrev pub IsRefused : Limits → List ℕ → Bool → Type 0
IsRefused limits source true = (f : BuildFault) × Builds limits source (Err f)
IsRefused limits source false = (p : Program) × Builds limits source (Ok p)

-- a name that ends as that of a source does
abbrev pub is_source : List ℕ → Bool
is_source name = ends_with nat_eq name (codes ".cl")

-- the answer to what is given
abbrev pub Explains : Configuration → Given → Bool → Type 0
Explains configuration given answer =
    MatchBool (is_source given.name.now) (IsRefused configuration.limits given.script.now answer)
    (MatchOption given.schedule (Found configuration given.script.now answer) (λ schedule. Explained configuration given.script.now schedule.now answer))

-- why there is none
abbrev pub Unanswered : Configuration → Given → RunFault → Type 0
Unanswered configuration given why =
    MatchBool (is_source given.name.now) (why ≡ fault.OutOfMemory)
    (MatchOption given.schedule (NoScript given.script.now why) (λ schedule. Unexplained configuration given.script.now schedule.now why))

-- why there is none, and what was written: a beginning of a text where the writer failed, else nothing
abbrev pub Unwritten : Configuration → Given → Sink → Sink → RunFault → Type 0
Unwritten configuration given old new (fault.Read by) = ⊥
Unwritten configuration given old new fault.Write = (text : List ℕ) × Stopped old new text
Unwritten configuration given old new (fault.BadLine n) = Unanswered configuration given (fault.BadLine n) × (new ≡ old)
Unwritten configuration given old new fault.OutOfMemory = new ≡ old
Unwritten configuration given old new fault.NoSuchKernel = ⊥
Unwritten configuration given old new fault.BadSchedule = Unanswered configuration given fault.BadSchedule × (new ≡ old)
Unwritten configuration given old new (fault.NotALaunch ticket) = Unanswered configuration given (fault.NotALaunch ticket) × (new ≡ old)
Unwritten configuration given old new (fault.CommandRefused ticket) = Unanswered configuration given (fault.CommandRefused ticket) × (new ≡ old)
