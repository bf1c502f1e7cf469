-- What is written of a script, and why nothing is, or only a beginning (own).
use Rattle.std.specs.Prelude.{◌≡◌, ◌⊎◌, ◌||◌, ◌&&◌, ℕ, Bool, true, false, Option, None, Some, Result, Ok, Err, List, [], ◌++◌, nat_le, nat_lt, unwrap_or, MatchBool, if◌then◌else◌}
use Rattle.byte_io.specs.Sink.{Sink, Stopped, Wrote}
use Rattle.device.specs.Machine.{Machine, opening}
use Rattle.host_commands.specs.declared.command.Command.{Command}
use Rattle.simfile.specs.Script.{IsBadLine, IsScript}
use Rattle.simfile.specs.declared.faults.RunFault.{RunFault}
use Rattle.simfile.specs.declared.faults.RunFault.TheVariants as fault
use Rattle.exploring.specs.Commands.{TellsEach, behind, first_spot, launch_count}
use Rattle.exploring.specs.Lines.{missing_text}
use Rattle.exploring.specs.declared.facts.ExploreEnd.{ExploreEnd}
use Rattle.exploring.specs.declared.facts.ExploreOptions.{ExploreOptions}

-- before the first command
abbrev pub no_end : ExploreEnd
no_end = record { missing = false; faulted = false; refused = false }

-- what a script comes to in which the wanted launch isn't
abbrev pub missing_end : ExploreEnd
missing_end = record { missing = true; faulted = false; refused = false }

-- the number of the launch that has to be there: the wanted one, and the first where each is wanted
abbrev pub least : Option ℕ → ℕ
least wanted = unwrap_or wanted 1

-- whether a launch of this number is among so many
abbrev pub is_among : ℕ → ℕ → Bool
is_among number count = nat_le 1 number && nat_le number count

-- whether the wanted launch is behind, by the number of the next one
abbrev pub is_past : Option ℕ → ℕ → Bool
is_past None number = false
is_past (Some wanted) number = nat_lt wanted number

-- what was told of the first commands of a script
pub record HasBegun (options : ExploreOptions) (commands : List Command) (done : List Command) (end : ExploreEnd) (text : List ℕ) : Type 0 where
  pub rest : List Command
  pub split : commands ≡ done ++ rest
  pub new : Machine
  pub told : TellsEach options.launch first_spot (opening options.configuration) done new no_end end text

-- the same, and all that was wanted: it ends behind the wanted launch, or with the last command
pub record HasTold (options : ExploreOptions) (commands : List Command) (end : ExploreEnd) (text : List ℕ) : Type 0 where
  pub done : List Command
  pub begun : HasBegun options commands done end text
  pub all : (begun.rest ≡ []) ⊎ (is_past options.launch (behind first_spot done).number ≡ true)

-- that the wanted launch isn't there
pub record IsMissing (options : ExploreOptions) (commands : List Command) (end : ExploreEnd) (text : List ℕ) : Type 0 where
  pub ended : end ≡ missing_end
  pub told : text ≡ missing_text (least options.launch) (launch_count commands)

-- what is told of commands, by whether the wanted launch is among them
abbrev pub IsToldOf : ExploreOptions → List Command → ExploreEnd → List ℕ → Type 0
IsToldOf options commands end text =
    MatchBool (is_among (least options.launch) (launch_count commands)) (HasTold options commands end text) (IsMissing options commands end text)

-- a script, and what is told of it
pub record IsExploredScript (options : ExploreOptions) (script : List ℕ) (end : ExploreEnd) (text : List ℕ) : Type 0 where
  pub commands : List Command
  pub is : IsScript script commands
  pub told : IsToldOf options commands end text

-- a beginning of the commands, and what is told of them, or that the wanted launch isn't there
abbrev pub IsPart : ExploreOptions → List Command → List ℕ → Type 0
IsPart options commands text = (end : ExploreEnd) × (((done : List Command) × HasBegun options commands done end text) ⊎ IsMissing options commands end text)

-- Why commands weren't all told: memory was refused, behind what was told of the first of them; or a write failed, and
-- a beginning of what is told of the first of them was written.
abbrev pub Untold : ExploreOptions → List Command → (old new : Sink) → RunFault → Type 0
Untold options commands old new (fault.BadLine n) = ⊥
Untold options commands old new fault.OutOfMemory = (text : List ℕ) × IsPart options commands text × Wrote old new text
Untold options commands old new fault.Write = (text : List ℕ) × IsPart options commands text × Stopped old new text
Untold options commands old new (fault.Read by) = ⊥
Untold options commands old new fault.NoSuchKernel = ⊥
Untold options commands old new fault.BadSchedule = ⊥
Untold options commands old new (fault.NotALaunch ticket) = ⊥
Untold options commands old new (fault.CommandRefused ticket) = ⊥

-- a script whose commands weren't all told
pub record IsUntold (options : ExploreOptions) (script : List ℕ) (old new : Sink) (why : RunFault) : Type 0 where
  pub commands : List Command
  pub is : IsScript script commands
  pub untold : Untold options commands old new why

-- why a script has no answer, or only a beginning of one; nothing is written where the bytes are no script
abbrev pub Unexplored : ExploreOptions → List ℕ → (old new : Sink) → RunFault → Type 0
Unexplored options script old new (fault.BadLine n) = IsBadLine script n × (new ≡ old)
Unexplored options script old new fault.OutOfMemory = (new ≡ old) ⊎ IsUntold options script old new fault.OutOfMemory
Unexplored options script old new fault.Write = IsUntold options script old new fault.Write
Unexplored options script old new (fault.Read by) = ⊥
Unexplored options script old new fault.NoSuchKernel = ⊥
Unexplored options script old new fault.BadSchedule = ⊥
Unexplored options script old new (fault.NotALaunch ticket) = ⊥
Unexplored options script old new (fault.CommandRefused ticket) = ⊥

-- the status: 2 where a command was refused, the wanted launch isn't there, or it failed; else 1 where a fault was told
abbrev pub status_of : Result ExploreEnd RunFault → ℕ
status_of (Ok end) = if end.refused || end.missing then 2 else (if end.faulted then 1 else 0)
status_of (Err why) = 2
