-- The command that a line of version 3 makes with the lines behind it, and with the files that a script names (own).
use Rattle.std.specs.Prelude.{ℕ, ◌+◌, ◌*◌, ◌<◌, ◌^◌, ⊤, ◌&&◌, nat_lt, nat_le, Option, None, Some, List, [], ◌∷◌, length, take, if◌then◌else◌}
use Rattle.clmodel.specs.Setup.{same_text}
use Rattle.clnum.specs.declared.int_type.IntType.{IntType}
use Rattle.host_commands.specs.declared.command.Command.{Command}
use Rattle.host_commands.specs.declared.command.Command.TheVariants as command
use Rattle.script_lines.specs.Numbers.{size_of}
use Rattle.script_lines.specs.Plain.{comment_of}
use Rattle.script_lines.specs.declared.says.LineSays.{LineSays}
use Rattle.script_lines.specs.declared.says.LineSays.TheVariants as says
use Rattle.simfile.specs.Script.{line_feeds}
use Rattle.text_lines.specs.Fronts.{◌>>=◌}
use Rattle.written_scripts.specs.Lines.{lines_text, ended, first_end}
use Rattle.written_scripts.specs.declared.files.NamedFile.{NamedFile}
use Rattle.written_scripts.specs.declared.places.WrittenPlace.{WrittenPlace}

-- the text of the first file of this path
abbrev pub text_at : List NamedFile → List ℕ → Option (List ℕ)
text_at [] path = None
text_at (file ∷ files) path = if same_text file.path path then Some file.text else text_at files path

-- a program of a source of 1 to 65,536 lines, for which so many lines behind its own were taken
unfoldable pub program_of : List ℕ → List ℕ → ℕ → Option (Option Command × ℕ)
program_of name source taken =
    if nat_lt 0 (line_feeds source) && nat_le (line_feeds source) 65536 then Some (Some (command.Program name source), taken) else None

-- a program whose source is the next so many lines
unfoldable pub of_lines : List ℕ → ℕ → List (List ℕ) → Option (Option Command × ℕ)
of_lines name count behind = if nat_le count (length behind) then program_of name (lines_text (take count behind)) count else None

-- a program whose source is the lines in front of the first one that is this word, which is taken too
unfoldable pub of_lines_until : List ℕ → List ℕ → List (List ℕ) → Option (Option Command × ℕ)
of_lines_until name word behind = do
  count ← first_end word behind
  program_of name (lines_text (take count behind)) (count + 1)

-- a program whose source is that of a file
unfoldable pub of_file : List NamedFile → List ℕ → List ℕ → Option (Option Command × ℕ)
of_file files name path = do
  text ← text_at files path
  program_of name (ended text) 0

-- What a line makes that says this: a command, or none, and how many of the lines behind it are taken. It makes nothing
-- where these lines, or the file, aren't there, or where a source is too long.
abbrev pub told_by : List NamedFile → LineSays → List (List ℕ) → Option (Option Command × ℕ)
told_by files says.Nothing behind = Some (None, 0)
told_by files (says.Command told) behind = Some (Some told, 0)
told_by files (says.ReadNumbers buffer offset kind count) behind = Some (Some (command.Read buffer offset (count * size_of kind)), 0)
told_by files (says.SourceLines name count) behind = of_lines name count behind
told_by files (says.SourceUntil name word) behind = of_lines_until name word behind
told_by files (says.SourceFile name path) behind = of_file files name path

-- the type of the numbers that a reply has, where the line says one
abbrev pub kind_of : LineSays → Option IntType
kind_of (says.ReadNumbers buffer offset kind count) = Some kind
kind_of _ = None

-- the path of the file that has the source of a line's program, where the line names one
abbrev pub file_of : LineSays → Option (List ℕ)
file_of (says.SourceFile name path) = Some path
file_of _ = None

-- the place of a line that says this
abbrev pub place_of : ℕ → List ℕ → LineSays → WrittenPlace
place_of number line said = record { line = number; kind = kind_of said; called = comment_of line; file = file_of said }

-- the bytes of numbers that are read are below 2^64
abbrev pub Fits : LineSays → Type 0
Fits (says.ReadNumbers buffer offset kind count) = count * size_of kind < 2 ^ 64
Fits _ = ⊤
