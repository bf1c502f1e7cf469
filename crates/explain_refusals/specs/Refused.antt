-- A command that was refused, told (own).
use Rattle.std.specs.Prelude.{◌≡◌, ℕ, ◌+◌, Option, None, Some, List, ◌++◌, codes, decimal, slice_range, string_bytes}
use Rattle.std.specs.Str.Lossy.{utf8_lossy}
use Rattle.explanation.specs.Lines.{told_line}
use Rattle.refused_commands.specs.declared.told.RefusalReason.{RefusalReason}
use Rattle.refused_commands.specs.declared.told.RefusedCommand.{RefusedCommand}
use Rattle.explain_refusals.specs.declared.reasons.Found.{Found}
use Rattle.host_commands.specs.declared.command.Refusal.{Refusal}
use Rattle.simfile.specs.Lines.{refusal_word}
use Rattle.simfile.specs.declared.script.CommandPlace.{CommandPlace}
use Rattle.text_lines.specs.Lines.{EndsLine}

-- the reason that was found, if one was
abbrev pub reason_in : Option Found → Option RefusalReason
reason_in None = None
reason_in (Some found) = Some found.reason

-- The command of a number, which stands at a place of a script, and its refusal by number and name; with its line, the
-- one that begins where the text of the command does, and a word of it.
pub record TellsRefused (file bytes : List ℕ) (number : ℕ) (place : CommandPlace) (refused : Refusal) (reason : Option RefusalReason) (told : RefusedCommand) : Type 0 where
  pub script : string_bytes told.script ≡ utf8_lossy file
  pub command : told.command ≡ number
  pub refusal : refusal_word refused ≡ decimal told.number ++ codes " " ++ told.name.now
  pub line : told.spot.line ≡ place.line
  pub begins : told.spot.offset + 1 ≡ place.at + told.spot.column
  pub end : ℕ
  pub ends : EndsLine bytes place.at end
  pub text : string_bytes told.spot.text ≡ told_line (slice_range bytes place.at end)
  pub why : told.why ≡ reason
