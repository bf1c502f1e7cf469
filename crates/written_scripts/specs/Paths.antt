-- Which files a script of version 3 names, before any is read (own).
use Rattle.std.specs.Prelude.{ℕ, ◌+◌, suc, zero, nat_le, Option, None, Some, option_map, List, [], ◌∷◌, ◌++◌, length, drop, if◌then◌else◌}
use Rattle.clmodel.specs.Setup.{same_text}
use Rattle.script_lines.specs.Plain.{plain, first_line}
use Rattle.script_lines.specs.Reading.{says_at}
use Rattle.script_lines.specs.declared.says.LineSays.{LineSays}
use Rattle.script_lines.specs.declared.says.LineSays.TheVariants as says
use Rattle.text_lines.specs.Fronts.{or_else, ◌>>=◌}
use Rattle.written_scripts.specs.Lines.{lines_of, first_end}

-- how many of the lines behind it a line takes that says this, where they are there
abbrev pub taken_by : LineSays → List (List ℕ) → Option ℕ
taken_by (says.SourceLines name count) behind = if nat_le count (length behind) then Some count else None
taken_by (says.SourceUntil name word) behind = option_map (λ n. n + 1) (first_end word behind)
taken_by _ behind = Some 0

-- the path that a line names which says this
abbrev pub path_of : LineSays → Option (List ℕ)
path_of (says.SourceFile name path) = Some path
path_of _ = None

abbrev pub listed : Option (List ℕ) → List (List ℕ)
listed None = []
listed (Some path) = path ∷ []

-- what a line names, and how many lines behind it are taken, where it says anything
unfoldable pub names_at : List ℕ → List (List ℕ) → Option (Option (List ℕ) × ℕ)
names_at line behind = do
  said ← says_at (plain line)
  taken ← taken_by said behind
  Some (path_of said, taken)

-- the paths that at most n lines name, which take others behind them, up to one that says nothing of what lines say
abbrev pub paths_from : ℕ → List (List ℕ) → List (List ℕ)
paths_from zero lines = []
paths_from (suc n) [] = []
paths_from (suc n) (line ∷ behind) = or_else (names_at line behind) (λ named. listed named.0 ++ paths_from n (drop named.1 behind)) []

-- the paths of these lines, behind the first one, where that is the line of version 3
abbrev pub paths_among : List (List ℕ) → List (List ℕ)
paths_among [] = []
paths_among (first ∷ lines) = if same_text (plain first) first_line then paths_from (length lines) lines else []

-- the paths that a script names, in their order
abbrev pub paths_of : List ℕ → List (List ℕ)
paths_of script = paths_among (lines_of script)
