-- The talk of commands and replies: each reply is told before the next command is heard (own).
use Rattle.std.specs.Prelude.{◌≡◌, ◌⊎◌, ℕ, ⊤, List, [], ◌∷◌, ◌++◌}
use Rattle.byte_io.specs.Pieces.{joined}
use Rattle.host_commands.specs.declared.command.Command.{Command}
use Rattle.host_commands.specs.declared.command.Reply.{Reply}
use Rattle.byte_io.specs.Talk.{Event, Heard, Told, hearing}
use Rattle.serving.specs.Hearing.{IsShort}
use Rattle.simfile.specs.declared.lines.Version.{Version}
use Rattle.simfile.specs.declared.lines.Version.TheVariants as version
use Rattle.simfile.specs.Lines.{line}
use Rattle.simfile.specs.Script.{IsText, head}
use Rattle.simfile.specs.Stepwise.{TellsVersion, IsWhole}

-- the line of a version is heard, and nothing is told for it
abbrev pub greeting : Version → List Event
greeting version.One = []
greeting version.Two = Heard (head version.Two) ∷ []
greeting version.Three = Heard (head version.Three) ∷ []

-- a line that tells no version
abbrev pub TellsNone : List ℕ → Type 0
TellsNone line = (version : Version) → TellsVersion line version → ⊥

-- the first line that is heard tells no version
abbrev pub FirstTellsNone : List Event → Type 0
FirstTellsNone [] = ⊤
FirstTellsNone (Heard line ∷ events) = TellsNone line
FirstTellsNone (Told line ∷ events) = ⊤

-- a turn for each command: its text is heard, in pieces, and then its reply's line is told
abbrev pub AreTurns : Version → List Command → List Reply → List Event → Type 0
AreTurns version [] [] events = events ≡ []
AreTurns version (c ∷ cs) (r ∷ rs) events =
    (pieces : List (List ℕ)) × (more : List Event) × (events ≡ hearing pieces ++ Told (line r) ∷ more) × IsText version (joined pieces) c
    × AreTurns version cs rs more
AreTurns version [] (r ∷ rs) events = ⊥
AreTurns version (c ∷ cs) [] events = ⊥

-- no command's text lies in front
abbrev pub BeginsNone : Version → List ℕ → Type 0
BeginsNone version bytes = (c : Command) (text rest : List ℕ) → bytes ≡ text ++ rest → IsText version text c → ⊥

-- what was heard of a command is one line, and behind that of a program its source lines
abbrev pub IsAll : List (List ℕ) → Type 0
IsAll [] = ⊥
IsAll (line ∷ pieces) = IsWhole line (joined pieces)

-- the input has ended in the midst of a command's text
abbrev pub IsPart : List (List ℕ) → Type 0
IsPart [] = ⊥
IsPart (line ∷ pieces) = IsShort line pieces

-- No command's text begins what was heard, and nothing was heard behind what shows it: a line, with its source lines
-- where it is that of a program, with which no command's text begins whatever follows; or less, where the input ended.
pub record IsBad (version : Version) (pieces : List (List ℕ)) : Type 0 where
  pub none : BeginsNone version (joined pieces)
  pub final : IsAll pieces × ((more : List ℕ) → BeginsNone version (joined pieces ++ more)) ⊎ IsPart pieces
