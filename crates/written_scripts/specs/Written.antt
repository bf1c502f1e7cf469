-- A script of version 3: what its lines tell, one after another, and which line is bad (own).
use Rattle.std.specs.Prelude.{◌≡◌, ℕ, ◌+◌, ◌-◌, ◌<◌, ◌≤◌, IsTrue, Option, None, Some, option_map, List, [], ◌∷◌, ◌++◌, length, drop}
use Rattle.clmodel.specs.Setup.{same_text}
use Rattle.host_commands.specs.declared.command.Command.{Command}
use Rattle.script_lines.specs.Plain.{plain, first_line}
use Rattle.script_lines.specs.Says.{Says}
use Rattle.script_lines.specs.declared.says.LineSays.{LineSays}
use Rattle.simfile.specs.Script.{Begins, head}
use Rattle.simfile.specs.declared.lines.Version.TheVariants.{Three}
use Rattle.written_scripts.specs.Lines.{lines_of}
use Rattle.written_scripts.specs.Telling.{told_by, place_of}
use Rattle.written_scripts.specs.declared.files.NamedFile.{NamedFile}
use Rattle.written_scripts.specs.declared.places.PlainScript.{PlainScript}
use Rattle.written_scripts.specs.declared.places.Turned.{Turned}
use Rattle.written_scripts.specs.declared.places.Turned.TheVariants as turned
use Rattle.written_scripts.specs.declared.places.WrittenPlace.{WrittenPlace}

-- The line of a number, with those behind it, tells a command and its place, or says nothing, and takes so many of the
-- lines behind it.
pub record Tells (files : List NamedFile) (number : ℕ) (line : List ℕ) (behind : List (List ℕ)) (told : Option (Command × WrittenPlace)) (taken : ℕ) : Type 0 where
  pub said : LineSays
  pub command : Option Command
  pub says : Says line said
  pub makes : told_by files said behind ≡ Some (command, taken)
  pub placed : told ≡ option_map (λ c. (c, place_of number line said)) command

-- The lines, the last of which has the number `last`, tell these, one after another, and then the rest.
abbrev pub BeginsWritten : List NamedFile → ℕ → List (List ℕ) → List (Option (Command × WrittenPlace)) → List (List ℕ) → Type 0
BeginsWritten files last lines [] rest = lines ≡ rest
BeginsWritten files last lines (told ∷ more) rest =
    (line : List ℕ) × (behind : List (List ℕ)) × (taken : ℕ) × (lines ≡ line ∷ behind) × Tells files (last - length behind) line behind told taken × BeginsWritten files last (drop taken behind) more rest

-- the commands that are told
abbrev pub commands_of : List (Option (Command × WrittenPlace)) → List Command
commands_of [] = []
commands_of (None ∷ tolds) = commands_of tolds
commands_of (Some told ∷ tolds) = told.0 ∷ commands_of tolds

-- their places
abbrev pub places_of : List (Option (Command × WrittenPlace)) → List WrittenPlace
places_of [] = []
places_of (None ∷ tolds) = places_of tolds
places_of (Some told ∷ tolds) = told.1 ∷ places_of tolds

-- a script of version 3, with these lines behind its first one
pub record IsThird (script : List ℕ) (lines : List (List ℕ)) : Type 0 where
  pub first : List ℕ
  pub split : lines_of script ≡ first ∷ lines
  pub version : IsTrue (same_text (plain first) first_line)

-- these lines, behind the first one, tell at most 4,096 commands, at these places
pub record AreTold (files : List NamedFile) (lines : List (List ℕ)) (commands : List Command) (places : List WrittenPlace) : Type 0 where
  pub tolds : List (Option (Command × WrittenPlace))
  pub begins : BeginsWritten files (length lines + 1) lines tolds []
  pub are : commands ≡ commands_of tolds
  pub at : places ≡ places_of tolds
  pub few : length commands ≤ 4096

-- the line of this number is the lowest bad one of these, which stand behind the first one: what stands before it tells
-- commands, and no more of the lines does
pub record IsBadAmong (files : List NamedFile) (lines : List (List ℕ)) (number : ℕ) : Type 0 where
  pub tolds : List (Option (Command × WrittenPlace))
  pub rest : List (List ℕ)
  pub begins : BeginsWritten files (length lines + 1) lines tolds rest
  pub few : length (commands_of tolds) ≤ 4096
  pub longest : (others : List (Option (Command × WrittenPlace))) (more : List (List ℕ)) → BeginsWritten files (length lines + 1) lines others more → length (commands_of others) ≤ 4096 → length rest ≤ length more
  pub some : 0 < length rest
  pub is : number + length rest ≡ length lines + 2

-- a script of version 3 tells these commands, at these places
pub record AreWrittenAt (files : List NamedFile) (script : List ℕ) (commands : List Command) (places : List WrittenPlace) : Type 0 where
  pub lines : List (List ℕ)
  pub third : IsThird script lines
  pub told : AreTold files lines commands places

-- a script of version 3 tells these commands
abbrev pub IsWritten : List NamedFile → List ℕ → List Command → Type 0
IsWritten files script commands = (places : List WrittenPlace) × AreWrittenAt files script commands places

-- the line of this number is the lowest bad one of a script of version 3
pub record IsBadWritten (files : List NamedFile) (script : List ℕ) (number : ℕ) : Type 0 where
  pub lines : List (List ℕ)
  pub third : IsThird script lines
  pub bad : IsBadAmong files lines number

-- a text whose first line isn't that of version 3
abbrev pub IsOther : List ℕ → Type 0
IsOther script = (lines : List (List ℕ)) → IsThird script lines → ⊥

-- a plain script of version 3: a first line that says so, and the texts of at most 4,096 commands, one after another
abbrev pub IsPlainThird : List ℕ → List Command → Type 0
IsPlainThird text commands = (lines : List ℕ) × (text ≡ head Three ++ lines) × Begins Three lines commands [] × (length commands ≤ 4096)

-- the text is a plain script of version 3 of the commands that the script tells, which stand in that one at these
-- places
pub record IsPlain (files : List NamedFile) (script : List ℕ) (plain : PlainScript) : Type 0 where
  pub commands : List Command
  pub text : IsPlainThird plain.text.items commands
  pub written : AreWrittenAt files script commands plain.places.items

-- what comes of a script: its plain text, its lowest bad line, or nothing, where it isn't of version 3
abbrev pub Turns : List NamedFile → List ℕ → Turned → Type 0
Turns files script (turned.Plain plain) = IsPlain files script plain
Turns files script (turned.BadLine number) = IsBadWritten files script number
Turns files script turned.Other = IsOther script

-- a plain script of version 3 of these commands came of it
abbrev pub IsTextOf : List Command → Turned → Type 0
IsTextOf commands (turned.Plain plain) = IsPlainThird plain.text.items commands
IsTextOf commands (turned.BadLine number) = ⊥
IsTextOf commands turned.Other = ⊥
