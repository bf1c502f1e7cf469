-- How the replies of a run are shown, as its command line asks for (own).
use Rattle.std.specs.Prelude.{◌≡◌, ℕ, Option, None, Some, List, map, if◌then◌else◌}
use Rattle.clnum.specs.declared.int_type.IntType.{IntType}
use Rattle.clsim.specs.declared.shows.ReplyStyle.{ReplyStyle}
use Rattle.host_commands.specs.declared.command.Command.{Command}
use Rattle.showing.specs.declared.lines.Shown.{Shown}
use Rattle.simfile.specs.Places.{AreAt}
use Rattle.simfile.specs.Script.{IsScript}
use Rattle.simfile.specs.declared.script.CommandPlace.{CommandPlace}
use Rattle.written_scripts.specs.declared.places.WrittenPlace.{WrittenPlace}

-- how the reply to the command of a line is shown, which names a type or none
abbrev pub shown_of : ReplyStyle → ℕ → Option IntType → Shown
shown_of style line kind = record { line = if style.lines then Some line else None; kind = if style.numbers then kind else None }

-- how those to the commands of a script of version 3 are shown, which stand at these places
abbrev pub written_shows : ReplyStyle → List WrittenPlace → List Shown
written_shows style places = map (λ place. shown_of style place.line place.kind) places

-- how those to the commands of a plain script are shown, which stand at these places
abbrev pub plain_shows : ReplyStyle → List CommandPlace → List Shown
plain_shows style places = map (λ place. shown_of style place.line None) places

-- these show the replies to the commands of a plain script
pub record ShowText (style : ReplyStyle) (text : List ℕ) (shows : List Shown) : Type 0 where
  pub commands : List Command
  pub places : List CommandPlace
  pub script : IsScript text commands
  pub at : AreAt text commands places
  pub are : shows ≡ plain_shows style places
