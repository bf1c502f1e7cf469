-- A script as it is told (own): by the text that its user wrote, or by its own.
use Rattle.std.specs.Prelude.{◌≡◌, ℕ, Option, None, Some, List, [], length, min, slice_get, nat_eq, if◌then◌else◌}
use Rattle.host_commands.specs.declared.command.Command.{Command}
use Rattle.simfile.specs.Places.{AreAt}
use Rattle.simfile.specs.declared.script.CommandPlace.{CommandPlace}
use Rattle.placed_scripts.specs.declared.placed.PlacedScript.{PlacedScript}

-- another text in place of a script's own, where it has as many places
abbrev pub chosen : PlacedScript → PlacedScript → PlacedScript
chosen own written = if nat_eq (length written.places.now) (length own.places.now) then written else own

-- the text that is given, where it has as many places, or else a script's own
abbrev pub told_by : PlacedScript → Option PlacedScript → PlacedScript
told_by own None = own
told_by own (Some written) = chosen own written

-- How a script is told in which the commands stand at these places: by the text that is given, where it has as many
-- places, or else by its own.
pub record IsToldBy (script : List ℕ) (places : List CommandPlace) (written : Option PlacedScript) (told : PlacedScript) : Type 0 where
  pub own : PlacedScript
  pub text : own.text.now ≡ script
  pub placed : own.places.now ≡ places
  pub files : own.files.now ≡ []
  pub is : told ≡ told_by own written
  pub count : length told.places.now ≡ length places

-- how a script of these commands is told
abbrev pub IsTold : List ℕ → List Command → Option PlacedScript → PlacedScript → Type 0
IsTold script commands written told = (places : List CommandPlace) × AreAt script commands places × IsToldBy script places written told

-- each command has its place
abbrev pub HasPlaces : PlacedScript → List Command → Type 0
HasPlaces told commands = length told.places.now ≡ length commands

-- a place in a text, or its end, where the place is behind that
abbrev pub within : List ℕ → CommandPlace → CommandPlace
within text place = record { at = min place.at (length text); line = place.line; source_line = place.source_line }

-- the command of this number is told at this place of the text
abbrev pub IsPlaced : PlacedScript → ℕ → CommandPlace → Type 0
IsPlaced told number place = (given : CommandPlace) × (slice_get told.places.now number ≡ Some given) × (place ≡ within told.text.now given)

abbrev pub file_in : Option (Option (List ℕ)) → Option (List ℕ)
file_in None = None
file_in (Some named) = named

-- the name of the file that has the source of the command of a number, where one is named
abbrev pub file_at : List (Option (List ℕ)) → ℕ → Option (List ℕ)
file_at files number = file_in (slice_get files number)

abbrev pub name_or : Option (List ℕ) → List ℕ → List ℕ
name_or None name = name
name_or (Some file) name = file

-- the name of the file in which that source stands, in a script of this name
abbrev pub source_name : PlacedScript → List ℕ → ℕ → List ℕ
source_name told name number = name_or (file_at told.files.now number) name
