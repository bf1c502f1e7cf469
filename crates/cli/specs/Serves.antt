-- A talk so far, between two turns.
use Rattle.std.specs.Prelude.{◌≡◌, List, [], ◌∷◌, ◌++◌}
use Rattle.device.specs.Machine.{Machine, opening}
use Rattle.host_commands.specs.declared.command.Command.{Command}
use Rattle.host_commands.specs.declared.command.Reply.{Reply}
use Rattle.cli.specs.declared.session.RunEnd.{RunEnd}
use Rattle.cli.specs.Session.{Plays, end_of}
use Rattle.byte_io.specs.Talk.{Event, Heard, heard, Conversation, Said}
use Rattle.serving.specs.declared.server.Server.{Server}
use Rattle.serving.specs.Hearing.{EndsWith}
use Rattle.serving.specs.Turns.{greeting, FirstTellsNone, AreTurns}
use Rattle.serving.specs.Serving.{up_to_most}
use Rattle.simfile.specs.declared.lines.Version.TheVariants.{One}
use Rattle.simfile.specs.Script.{line_feeds}
use Rattle.limits.specs.declared.Configuration.{Configuration}

-- the commands so far were answered, and a first line of the next one was heard
pub record Serves (old now : Conversation) (configuration : Configuration) (server : Server) (machine : Machine) (end : RunEnd) : Type 0 where
  pub commands : List Command
  pub replies : List Reply
  pub turns : List Event
  pub are : AreTurns server.version commands replies turns
  pub plays : Plays (opening configuration) commands replies machine
  pub said : Said old now (greeting server.version ++ turns ++ Heard server.text.items ∷ [])
  pub untold : server.version ≡ One → FirstTellsNone (turns ++ Heard server.text.items ∷ [])
  pub ended : line_feeds server.text.items ≡ 0 → EndsWith old now
  pub failures : now.failures ≡ old.failures
  pub lines : server.lines ≡ up_to_most (line_feeds (heard (greeting server.version ++ turns)))
  pub counts : end ≡ end_of replies
