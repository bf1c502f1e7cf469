-- A script of version 3 as its user wrote it, by whose lines it is told (own).
use Rattle.std.specs.Prelude.{◌≡◌, ℕ, ◌+◌, ◌-◌, ◌^◌, Bool, ⊤, Option, None, Some, List, map, min, if◌then◌else◌}
use Rattle.std.specs.Option.{is_some}
use Rattle.placed_scripts.specs.declared.placed.PlacedScript.{PlacedScript}
use Rattle.simfile.specs.declared.script.CommandPlace.{CommandPlace}
use Rattle.written_scripts.specs.declared.places.WrittenPlace.{WrittenPlace}
use Rattle.clsim.specs.declared.own_lines.OwnLines.{OwnLines}

-- it is lent as this one
pub record IsLent (own : OwnLines) (written : PlacedScript) : Type 0 where
  pub text : written.text.now ≡ own.text.items
  pub places : written.places.now ≡ own.places.items
  pub files : written.files.now ≡ own.files.items

-- where there is one, it is lent
abbrev pub AreLent : Option OwnLines → Option PlacedScript → Type 0
AreLent None None = ⊤
AreLent (Some own) (Some written) = IsLent own written
AreLent None (Some written) = ⊥
AreLent (Some own) None = ⊥

-- the line in which a source begins: the one behind that of its command, or the first one of a file
abbrev pub begins_at : ℕ → Bool → ℕ
begins_at line in_file = if in_file then 1 else min (line + 1) (2 ^ 64 - 1)

-- the lines of a place: that of a command, and that in which its source begins
abbrev pub lines_at : CommandPlace → ℕ × ℕ
lines_at place = (place.line, place.source_line)

-- those of a command in a script of version 3
abbrev pub lines_of : WrittenPlace → ℕ × ℕ
lines_of place = (place.line, begins_at place.line (is_some place.file))

-- the commands of a script of version 3 have these lines
abbrev pub AreOwn : List WrittenPlace → List CommandPlace → Type 0
AreOwn written places = map lines_at places ≡ map lines_of written

-- a file has a name for each command whose line names one
abbrev pub AreNamed : List WrittenPlace → List (Option (List ℕ)) → Type 0
AreNamed written files = map is_some files ≡ map (λ place. is_some place.file) written

-- a script of version 3 itself, whose commands stand at these places
abbrev pub IsOwnOf : List ℕ → List WrittenPlace → Option OwnLines → Type 0
IsOwnOf script written None = ⊥
IsOwnOf script written (Some own) = (own.text.items ≡ script) × AreOwn written own.places.items × AreNamed written own.files.items
