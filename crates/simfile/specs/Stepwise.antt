-- A script that is read line by line: how many lines a command's text has, and what more lines change.
use Rattle.std.specs.Prelude.{◌≡◌, ℕ, ◌<◌, ◌&&◌, nat_lt, nat_le, Option, Some, None, List, [], ◌++◌, codes, if◌then◌else◌}
use Rattle.std.specs.Option.{MatchOption}
use Rattle.host_commands.specs.declared.command.Command.{Command}
use Rattle.simfile.specs.declared.lines.Version.{Version}
use Rattle.simfile.specs.declared.lines.Version.TheVariants as version
use Rattle.text_lines.specs.Fronts.{◌>>=◌, after, before, number_at}
use Rattle.simfile.specs.Reading.{name_at, command_at}
use Rattle.simfile.specs.Script.{AreLines, head, line_feeds}

-- a line tells a version: it is the first one of a script of version 2 or 3
abbrev pub TellsVersion : List ℕ → Version → Type 0
TellsVersion line version.One = ⊥
TellsVersion line version.Two = line ≡ head version.Two
TellsVersion line version.Three = line ≡ head version.Three

-- how many source lines follow the line of a program, 1 to 65,536
unfoldable pub source_lines : List ℕ → Option ℕ
source_lines line = do
  bytes ← after (codes "program ") line
  name ← before 32 (name_at bytes)
  count ← before 10 (number_at name.1)
  if nat_lt 0 count.0 && nat_le count.0 65536 then Some count.0 else None

-- a line, and behind the line of a program its source lines, all of them
abbrev pub IsWhole : List ℕ → List ℕ → Type 0
IsWhole line source = AreLines line 1 × MatchOption (source_lines line) (source ≡ []) (λ n. AreLines source n)

-- a command that is read of such lines takes all of them
abbrev pub WholeRead : Type 0
WholeRead = (version : Version) (line source : List ℕ) (c : Command) (rest : List ℕ) → IsWhole line source → command_at version (line ++ source) ≡ Some (c, rest) → rest ≡ []

-- where no command is read of such lines, none is read whatever follows
abbrev pub WholeNone : Type 0
WholeNone = (version : Version) (line source more : List ℕ) → IsWhole line source → command_at version (line ++ source) ≡ None → command_at version ((line ++ source) ++ more) ≡ None

-- no command is read where no line ends
abbrev pub NoLine : Type 0
NoLine = (version : Version) (bytes : List ℕ) → line_feeds bytes ≡ 0 → command_at version bytes ≡ None

-- no command is read of a program's line with fewer source lines than it says
abbrev pub TooFew : Type 0
TooFew = (version : Version) (line source : List ℕ) (n : ℕ) → AreLines line 1 → source_lines line ≡ Some n → line_feeds source < n → command_at version (line ++ source) ≡ None
