-- Commands that are heard, done and answered one by one.
use Rattle.std.specs.Prelude.{◌≡◌, ℕ, ◌+◌, List, [], ◌∷◌, ◌++◌}
use Rattle.std.specs.Io.KnownBytes.{Consumes}
use Rattle.device.specs.Machine.{Machine, Step, opening}
use Rattle.host_commands.specs.declared.command.Command.{Command}
use Rattle.host_commands.specs.declared.command.Reply.{Reply}
use Rattle.simfile.specs.declared.faults.Reader.TheVariants as reader
use Rattle.cli.specs.declared.session.RunEnd.{RunEnd}
use Rattle.simfile.specs.declared.faults.RunFault.{RunFault}
use Rattle.simfile.specs.declared.faults.RunFault.TheVariants as fault
use Rattle.cli.specs.Session.{Plays, end_of}
use Rattle.byte_io.specs.Pieces.{joined}
use Rattle.byte_io.specs.Sink.{Stopped, CountsUp}
use Rattle.byte_io.specs.Talk.{Event, Heard, heard, hearing, Conversation, Said}
use Rattle.serving.specs.Hearing.{EndsWith}
use Rattle.serving.specs.Turns.{greeting, FirstTellsNone, AreTurns, IsBad}
use Rattle.serving.specs.Serving.{up_to_most}
use Rattle.simfile.specs.declared.lines.Version.{Version}
use Rattle.simfile.specs.declared.lines.Version.TheVariants.{One}
use Rattle.simfile.specs.Script.{IsText, line_feeds}
use Rattle.simfile.specs.Lines.{lines}
use Rattle.limits.specs.declared.Configuration.{Configuration}

-- The whole talk: behind the line of the version a turn for each command, in which its text is heard and then the line
-- of its reply told; and at the end of the input nothing more. The replies are those of the machine's steps.
pub record Served (old new : Conversation) (configuration : Configuration) (outcome : RunEnd) : Type 0 where
  pub version : Version
  pub commands : List Command
  pub replies : List Reply
  pub last : Machine
  pub turns : List Event
  pub are : AreTurns version commands replies turns
  pub plays : Plays (opening configuration) commands replies last
  pub said : Said old new (greeting version ++ turns ++ Heard [] ∷ [])
  pub ended : EndsWith old new
  pub failures : new.failures ≡ old.failures
  pub end : outcome ≡ end_of replies

-- the commands so far were answered, and then pieces of the next one's text were heard, and nothing was told for them
pub record Begun (old new : Conversation) (configuration : Configuration) : Type 0 where
  pub version : Version
  pub commands : List Command
  pub replies : List Reply
  pub last : Machine
  pub turns : List Event
  pub pieces : List (List ℕ)
  pub are : AreTurns version commands replies turns
  pub plays : Plays (opening configuration) commands replies last
  pub said : Said old new (greeting version ++ turns ++ hearing pieces)

-- What was heard last is a bad line, and its number is one more than that of the lines before it. Of version 1, the
-- first line that was heard tells no version.
pub record Misheard (old new : Conversation) (configuration : Configuration) (n : ℕ) : Type 0 where
  pub begun : Begun old new configuration
  pub untold : begun.version ≡ One → FirstTellsNone (begun.turns ++ hearing begun.pieces)
  pub bad : IsBad begun.version begun.pieces
  pub number : n ≡ up_to_most (line_feeds (heard (greeting begun.version ++ begun.turns)) + 1)
  pub failures : new.failures ≡ old.failures

-- the last command's reply wasn't told, or only a beginning of its line
pub record ReplyUnwritten (old new : Conversation) (configuration : Configuration) : Type 0 where
  pub version : Version
  pub commands : List Command
  pub replies : List Reply
  pub last : Machine
  pub turns : List Event
  pub pieces : List (List ℕ)
  pub command : Command
  pub reply : Reply
  pub after : Machine
  pub are : AreTurns version commands replies turns
  pub plays : Plays (opening configuration) commands replies last
  pub tells : IsText version (joined pieces) command
  pub step : Step last command reply after
  pub talk : new.talk ≡ old.talk ++ (greeting version ++ turns ++ hearing pieces)
  pub taken : Consumes old.rest new.rest (heard (greeting version ++ turns ++ hearing pieces))
  pub stopped : Stopped old.sink new.sink (lines (replies ++ reply ∷ []))
  pub failures : new.failures ≡ old.failures

-- why a talk came to no good end, and what was heard and told until then
abbrev pub ServeFailed : Conversation → Conversation → Configuration → RunFault → Type 0
ServeFailed old new configuration (fault.Read reader.First) = Begun old new configuration × CountsUp old.failures new.failures
ServeFailed old new configuration (fault.Read reader.Second) = ⊥
ServeFailed old new configuration (fault.BadLine n) = Misheard old new configuration n
ServeFailed old new configuration fault.OutOfMemory = Begun old new configuration × (new.failures ≡ old.failures)
ServeFailed old new configuration fault.Write = ReplyUnwritten old new configuration
ServeFailed old new configuration fault.NoSuchKernel = ⊥
ServeFailed old new configuration fault.BadSchedule = ⊥
ServeFailed old new configuration (fault.NotALaunch ticket) = ⊥
ServeFailed old new configuration (fault.CommandRefused ticket) = ⊥
