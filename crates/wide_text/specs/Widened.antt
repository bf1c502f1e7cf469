-- What is written of a script, and why nothing is (own).
use Rattle.std.specs.Prelude.{◌≡◌, ℕ, Bool, true, false, not, ◌||◌, Ok, Err, Result, Option, List, [], ◌∷◌, ◌++◌, if◌then◌else◌}
use Rattle.std.specs.List.{list_any}
use Rattle.serde_json.specs.Written.{compact_text}
use Rattle.limits.specs.declared.Configuration.{Configuration}
use Rattle.host_commands.specs.declared.command.Command.{Command}
use Rattle.host_commands.specs.declared.command.Reply.{Reply}
use Rattle.host_commands.specs.declared.command.Reply.TheVariants as reply
use Rattle.byte_io.specs.Sink.{Sink, Stopped}
use Rattle.placed_scripts.specs.Placed.{IsTold as IsToldIn}
use Rattle.placed_scripts.specs.declared.placed.PlacedScript.{PlacedScript}
use Rattle.device.specs.Machine.{Machine, opening}
use Rattle.simfile.specs.Script.{IsBadLine, IsScript}
use Rattle.simfile.specs.declared.faults.RunFault.{RunFault}
use Rattle.simfile.specs.declared.faults.RunFault.TheVariants as fault
use Rattle.wide_scripts.specs.Scripts.{IsWideScript, Runs}
use Rattle.wide_sources.specs.Replies.{is_fault, is_refused}
use Rattle.wide_text.specs.Members.{report_data}
use Rattle.wide_text.specs.Told.{IsText, lines_of}
use Rattle.wide_text.specs.declared.data.Format.{Format}
use Rattle.wide_text.specs.declared.data.Format.TheVariants as format
use Rattle.wide_text.specs.declared.data.WideEnd.{WideEnd}
use Rattle.wide_text.specs.declared.data.WideReport.{WideReport}

abbrev pub is_ordered : Reply → Bool
is_ordered reply.Ordered = true
is_ordered reply.Done = false
is_ordered (reply.Data bytes) = false
is_ordered reply.Clean = false
is_ordered (reply.Fault fault schedule) = false
is_ordered (reply.Refused why) = false

-- what replies come to
abbrev pub end_of : List Reply → WideEnd
end_of replies = record { faulted = list_any is_fault replies; refused = list_any is_refused replies; ordered = list_any is_ordered replies }

-- no launch faulted or was ordered, and no command was refused
abbrev pub is_clean : WideEnd → Bool
is_clean end = not (end.faulted || end.refused || end.ordered)

-- the status, as a run's
abbrev pub status_of : Result WideEnd RunFault → ℕ
status_of (Ok end) = if end.refused then 2 else (if end.faulted then 1 else 0)
status_of (Err why) = 2

-- a report whose last line is that of these lines
pub record IsReport (is_clean : Bool) (free_lines read_lines : List ℕ) (report : WideReport) : Type 0 where
  pub clean : report.clean ≡ is_clean
  pub free : report.free.items ≡ free_lines
  pub reads : report.reads.items ≡ read_lines

-- the text in a format
abbrev pub IsTold : Format → List Reply → Bool → (free reads : List ℕ) → List ℕ → Type 0
IsTold format.Text replies clean free reads text = IsText replies clean free reads text
IsTold format.Json replies clean free reads text = (report : WideReport) × IsReport clean free reads report × (text ≡ compact_text (report_data report) ++ 10 ∷ [])

-- A script that was performed on a device of this configuration, with the lines of the writes and fills for all of
-- whose bytes its replies hold, and of the reads that may differ then. The lines are those of the text by which the
-- script is told.
pub record IsWidened (configuration : Configuration) (script : List ℕ) (written : Option PlacedScript) (how : Format) (end : WideEnd) (text : List ℕ) : Type 0 where
  pub commands : List Command
  pub by : PlacedScript
  pub replies : List Reply
  pub new : Machine
  pub free : List Bool
  pub reads : List Bool
  pub is : IsScript script commands
  pub lines : IsToldIn script commands written by
  pub ran : Runs (opening configuration) commands replies new
  pub wide : IsWideScript configuration free reads commands replies
  pub ended : end ≡ end_of replies
  pub told : IsTold how replies (is_clean end) (lines_of free by.places.now) (lines_of reads by.places.now) text

-- why nothing was told, or only a beginning of it: where the bytes are no script, or memory was refused, nothing was
-- written; no other fault comes
abbrev pub Unwidened : Configuration → List ℕ → Option PlacedScript → Format → (old new : Sink) → RunFault → Type 0
Unwidened configuration script written how old new (fault.BadLine n) = IsBadLine script n × (new ≡ old)
Unwidened configuration script written how old new fault.OutOfMemory = new ≡ old
Unwidened configuration script written how old new fault.Write = (end : WideEnd) × (text : List ℕ) × IsWidened configuration script written how end text × Stopped old new text
Unwidened configuration script written how old new (fault.Read by) = ⊥
Unwidened configuration script written how old new fault.NoSuchKernel = ⊥
Unwidened configuration script written how old new fault.BadSchedule = ⊥
Unwidened configuration script written how old new (fault.NotALaunch ticket) = ⊥
Unwidened configuration script written how old new (fault.CommandRefused ticket) = ⊥
