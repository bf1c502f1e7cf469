-- Reading a line of a script of version 3, as a function, and what it adds to the plain text.
use Rattle.std.specs.Prelude.{◌≡◌, ℕ, ◌+◌, ◌<◌, ◌≤◌, Option, None, Some, option_map, List, [], ◌∷◌, ◌++◌, length}
use Rattle.host_commands.specs.declared.command.Command.{Command}
use Rattle.script_lines.specs.Plain.{plain}
use Rattle.script_lines.specs.Reading.{says_at}
use Rattle.simfile.specs.Script.{IsText}
use Rattle.simfile.specs.declared.lines.Version.TheVariants as version
use Rattle.text_lines.specs.Fronts.{◌>>=◌}
use Rattle.written_scripts.specs.Telling.{told_by, place_of}
use Rattle.written_scripts.specs.Written.{Tells, AreTold, IsBadAmong, IsPlainThird, commands_of}
use Rattle.written_scripts.specs.declared.files.NamedFile.{NamedFile}
use Rattle.written_scripts.specs.declared.places.PlainScript.{PlainScript}
use Rattle.written_scripts.specs.declared.places.Turned.{Turned}
use Rattle.written_scripts.specs.declared.places.Turned.TheVariants as turned
use Rattle.written_scripts.specs.declared.places.WrittenPlace.{WrittenPlace}

-- what the line of a number tells with the lines behind it, and how many of these it takes
unfoldable pub told_at : List NamedFile → ℕ → List ℕ → List (List ℕ) → Option (Option (Command × WrittenPlace) × ℕ)
told_at files number line behind = do
  said ← says_at (plain line)
  told ← told_by files said behind
  Some (option_map (λ c. (c, place_of number line said)) told.0, told.1)

-- what is told is added: a command's text and its place, or nothing
abbrev pub Grows : Option (Command × WrittenPlace) → PlainScript → PlainScript → Type 0
Grows None old new = (new.text.items ≡ old.text.items) × (new.places.items ≡ old.places.items)
Grows (Some told) old new =
    ((text : List ℕ) × IsText version.Three text told.0 × (new.text.items ≡ old.text.items ++ text)) × (new.places.items ≡ old.places.items ++ told.1 ∷ [])

-- the line tells something, which is added
pub record Adds (files : List NamedFile) (number : ℕ) (line : List ℕ) (behind : List (List ℕ)) (old new : PlainScript) (taken : ℕ) : Type 0 where
  pub told : Option (Command × WrittenPlace)
  pub tells : Tells files number line behind told taken
  pub within : taken ≤ length behind
  pub grows : Grows told old new
  pub few : length new.places.items ≤ 4096

-- whatever the line tells, it would be more than 4,096 commands
abbrev pub IsStop : List NamedFile → ℕ → List ℕ → List (List ℕ) → ℕ → Type 0
IsStop files number line behind count =
    (told : Option (Command × WrittenPlace)) (taken : ℕ) → Tells files number line behind told taken → 4096 < count + length (commands_of (told ∷ []))

-- the text is a plain script of version 3 of the commands that the lines behind the first one tell, at these places
pub record IsPlainAmong (files : List NamedFile) (lines : List (List ℕ)) (plain : PlainScript) : Type 0 where
  pub commands : List Command
  pub text : IsPlainThird plain.text.items commands
  pub told : AreTold files lines commands plain.places.items

-- what comes of the lines behind the first one
abbrev pub TurnsLines : List NamedFile → List (List ℕ) → Turned → Type 0
TurnsLines files lines (turned.Plain plain) = IsPlainAmong files lines plain
TurnsLines files lines (turned.BadLine number) = IsBadAmong files lines number
TurnsLines files lines turned.Other = ⊥
