-- Where the commands of a script stand in it.
use Rattle.std.specs.Prelude.{◌≡◌, ℕ, ◌+◌, ◌≤◌, Some, List, [], ◌++◌, length, take, slice_get}
use Rattle.host_commands.specs.declared.command.Command.{Command}
use Rattle.text_lines.specs.Lines.{line_of}
use Rattle.simfile.specs.declared.lines.Version.{Version}
use Rattle.simfile.specs.declared.script.CommandPlace.{CommandPlace}
use Rattle.simfile.specs.Script.{Begins, IsText, head, line_feeds}

-- the place of a byte: its line, and the one behind it
pub record Locates (bytes : List ℕ) (byte : ℕ) (place : CommandPlace) : Type 0 where
  pub at : place.at ≡ byte
  pub line : place.line ≡ line_of bytes byte
  pub few : place.line ≤ byte + 1
  pub source_line : place.source_line ≡ place.line + 1

-- The text of the command of a number stands at this place: behind what its version begins with and behind the texts of
-- the commands before it. The line behind its first one is that in which the source of a program begins.
pub record StandsAt (bytes : List ℕ) (commands : List Command) (number : ℕ) (place : CommandPlace) : Type 0 where
  pub version : Version
  pub front : List ℕ
  pub text : List ℕ
  pub more : List ℕ
  pub command : Command
  pub split : bytes ≡ (head version ++ front) ++ (text ++ more)
  pub before : Begins version front (take number commands) []
  pub is : slice_get commands number ≡ Some command
  pub told : IsText version text command
  pub at : place.at ≡ length (head version ++ front)
  pub line : place.line ≡ line_feeds (head version ++ front) + 1
  pub source_line : place.source_line ≡ place.line + 1

-- each command has its place
pub record AreAt (bytes : List ℕ) (commands : List Command) (places : List CommandPlace) : Type 0 where
  pub count : length places ≡ length commands
  pub each : (number : ℕ) (place : CommandPlace) → slice_get places number ≡ Some place → StandsAt bytes commands number place
