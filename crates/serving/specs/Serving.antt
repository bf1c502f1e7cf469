-- What a server hears and tells in each of its calls (own).
use Rattle.std.specs.Prelude.{◌≡◌, ℕ, ◌+◌, ◌-◌, ◌^◌, min, Bool, true, false, None, List, [], ◌∷◌, ◌++◌}
use Rattle.byte_io.specs.Pieces.{joined}
use Rattle.byte_io.specs.Sink.{Stopped}
use Rattle.host_commands.specs.declared.command.Command.{Command}
use Rattle.host_commands.specs.declared.command.Reply.{Reply}
use Rattle.byte_io.specs.Talk.{Conversation, Heard, Told, hearing, Said}
use Rattle.serving.specs.Hearing.{IsHeardLine, EndsWith, HearFails, IsShort}
use Rattle.serving.specs.Turns.{greeting, TellsNone, IsBad}
use Rattle.serving.specs.declared.server.Server.{Server}
use Rattle.simfile.specs.declared.faults.RunFault.{RunFault}
use Rattle.simfile.specs.declared.faults.RunFault.TheVariants as fault
use Rattle.simfile.specs.declared.lines.Version.{Version}
use Rattle.simfile.specs.declared.lines.Version.TheVariants.{One}
use Rattle.simfile.specs.Lines.{line}
use Rattle.simfile.specs.Reading.{command_at}
use Rattle.simfile.specs.Script.{IsText, line_feeds, head}
use Rattle.simfile.specs.Stepwise.{IsWhole}

-- what a server has heard of the next command: a line, or the last of the input without its line feed
abbrev pub HasLine : Server → Type 0
HasLine server = IsHeardLine server.whole server.text.items

-- The line of the version was heard, where there is one, and a first line. It is of version 1 only where that line
-- tells no version.
pub record HeardOpening (old new : Conversation) (text : List ℕ) (version : Version) (whole : Bool) : Type 0 where
  pub said : Said old new (greeting version ++ Heard text ∷ [])
  pub untold : version ≡ One → TellsNone text
  pub failures : new.failures ≡ old.failures
  pub line : IsHeardLine whole text
  pub ended : line_feeds text ≡ 0 → EndsWith old new

-- the same, as the server that it makes has it
pub record Opened (old new : Conversation) (server : Server) : Type 0 where
  pub said : Said old new (greeting server.version ++ Heard server.text.items ∷ [])
  pub untold : server.version ≡ One → TellsNone server.text.items
  pub line : HasLine server
  pub ended : line_feeds server.text.items ≡ 0 → EndsWith old new
  pub failures : new.failures ≡ old.failures
  pub lines : server.lines ≡ line_feeds (head server.version)

-- hearing the first line failed
pub record NotOpened (old new : Conversation) (why : RunFault) : Type 0 where
  pub version : Version
  pub bytes : List ℕ
  pub said : Said old new (greeting version ++ Heard bytes ∷ [])
  pub fails : HearFails old.failures new.failures why

-- all of the text was heard, or the input ended before
abbrev pub IsRest : Bool → Version → List ℕ → List (List ℕ) → Type 0
IsRest true version line pieces = IsWhole line (joined pieces)
IsRest false version line pieces = (command_at version (line ++ joined pieces) ≡ None) × IsShort line pieces

-- what is left of a command's text was heard
pub record HeardRest (old new : Conversation) (server server' : Server) (whole : Bool) : Type 0 where
  pub pieces : List (List ℕ)
  pub said : Said old new (hearing pieces)
  pub text : server'.text.items ≡ server.text.items ++ joined pieces
  pub version : server'.version ≡ server.version
  pub lines : server'.lines ≡ server.lines
  pub failures : new.failures ≡ old.failures
  pub is : IsRest whole server.version server.text.items pieces

-- the text of a command was heard
pub record HeardCommand (old new : Conversation) (server server' : Server) (command : Command) : Type 0 where
  pub pieces : List (List ℕ)
  pub said : Said old new (hearing pieces)
  pub text : server'.text.items ≡ server.text.items ++ joined pieces
  pub tells : IsText server.version (server.text.items ++ joined pieces) command
  pub version : server'.version ≡ server.version
  pub lines : server'.lines ≡ server.lines
  pub failures : new.failures ≡ old.failures

-- there is no further command: the input has ended
pub record HeardNone (old new : Conversation) (server : Server) : Type 0 where
  pub same : new ≡ old
  pub empty : server.text.items ≡ []

-- a count that stops at the greatest number
abbrev pub up_to_most : ℕ → ℕ
up_to_most n = min n (2 ^ 64 - 1)

-- a bad line: what was heard is the text of no command
pub record HeardBad (old new : Conversation) (server : Server) (n : ℕ) : Type 0 where
  pub pieces : List (List ℕ)
  pub said : Said old new (hearing pieces)
  pub failures : new.failures ≡ old.failures
  pub bad : IsBad server.version (server.text.items ∷ pieces)
  pub number : n ≡ up_to_most (server.lines + 1)

-- hearing the rest of a command failed
pub record HeardPart (old new : Conversation) (why : RunFault) : Type 0 where
  pub pieces : List (List ℕ)
  pub said : Said old new (hearing pieces)
  pub fails : HearFails old.failures new.failures why

-- why there is no command, and what was heard
abbrev pub NoCommand : Conversation → Conversation → Server → RunFault → Type 0
NoCommand old new server (fault.Read by) = HeardPart old new (fault.Read by)
NoCommand old new server fault.OutOfMemory = HeardPart old new fault.OutOfMemory
NoCommand old new server (fault.BadLine n) = HeardBad old new server n
NoCommand old new server fault.Write = ⊥
NoCommand old new server fault.NoSuchKernel = ⊥
NoCommand old new server fault.BadSchedule = ⊥
NoCommand old new server (fault.NotALaunch ticket) = ⊥
NoCommand old new server (fault.CommandRefused ticket) = ⊥

-- a reply's line was told, and nothing of it is held back
pub record ToldReply (old new : Conversation) (server server' : Server) (reply : Reply) : Type 0 where
  pub said : Said old new (Told (line reply) ∷ [])
  pub released : new.sink.held ≡ []
  pub failures : new.failures ≡ old.failures
  pub text : server'.text ≡ server.text
  pub version : server'.version ≡ server.version
  pub lines : server'.lines ≡ server.lines

-- a beginning of the line was told
pub record ToldPart (old new : Conversation) (reply : Reply) : Type 0 where
  pub talk : new.talk ≡ old.talk
  pub rest : new.rest ≡ old.rest
  pub failures : new.failures ≡ old.failures
  pub stopped : Stopped old.sink new.sink (line reply)

-- why a reply wasn't told, and what was
abbrev pub NotTold : Conversation → Conversation → Reply → RunFault → Type 0
NotTold old new reply (fault.Read by) = ⊥
NotTold old new reply fault.OutOfMemory = new ≡ old
NotTold old new reply (fault.BadLine n) = ⊥
NotTold old new reply fault.Write = ToldPart old new reply
NotTold old new reply fault.NoSuchKernel = ⊥
NotTold old new reply fault.BadSchedule = ⊥
NotTold old new reply (fault.NotALaunch ticket) = ⊥
NotTold old new reply (fault.CommandRefused ticket) = ⊥

-- the first line of the next command was heard
pub record HeardNext (old new : Conversation) (server server' : Server) : Type 0 where
  pub said : Said old new (Heard server'.text.items ∷ [])
  pub line : HasLine server'
  pub ended : line_feeds server'.text.items ≡ 0 → EndsWith old new
  pub failures : new.failures ≡ old.failures
  pub version : server'.version ≡ server.version
  pub lines : server'.lines ≡ up_to_most (server.lines + line_feeds server.text.items)
