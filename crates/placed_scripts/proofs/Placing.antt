-- How a script is told: each of its commands has a place there.
use Rattle.std.proofs.Common.{◌≡◌, ℕ, List, Option, ◌∙◌, subst, sym}
use Rattle.host_commands.specs.declared.command.Command.{Command}
use Rattle.placed_scripts.specs.Placed.{HasPlaces, IsTold, IsToldBy}
use Rattle.placed_scripts.specs.declared.placed.PlacedScript.{PlacedScript}
use Rattle.simfile.specs.Places.{AreAt}
use Rattle.simfile.specs.declared.script.CommandPlace.{CommandPlace}

pub has_places : (script : List ℕ) (commands : List Command) (written : Option PlacedScript) (told : PlacedScript) → IsTold script commands written told → HasPlaces told commands
has_places script commands written told (places, placed, by) = by.count ∙ placed.count

-- a script that was read, and is told by these places
pub is_told :
    (script : List ℕ) (commands same : List Command) (places given : List CommandPlace) (written : Option PlacedScript) (told : PlacedScript) → AreAt script commands places → same ≡ commands
    → given ≡ places → IsToldBy script given written told → IsTold script same written told
is_told script commands same places given written told placed copied lent by =
    (given, subst (λ (l : List Command). AreAt script l given) (sym copied) (subst (λ (l : List CommandPlace). AreAt script commands l) (sym lent) placed), by)
