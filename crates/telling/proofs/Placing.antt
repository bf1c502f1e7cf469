-- Where the source of a launch's program stands.
use Rattle.std.proofs.Common.{◌≡◌, ℕ, Bool, Some, List, inr}
use Rattle.std.specs.Prelude.{slice_get}
use Rattle.host_commands.specs.declared.command.Command.{Command}
use Rattle.launch_facts.specs.Commands.{IsSource}
use Rattle.launch_facts.specs.declared.commands.ProgramSource.{ProgramSource}
use Rattle.placed_scripts.specs.declared.placed.PlacedScript.{PlacedScript}
use Rattle.simfile.specs.declared.script.CommandPlace.{CommandPlace}
use Rattle.telling.specs.Told.{IsSourceOf}

-- a source that was found begins in the line that the place of its program's command tells
pub placed :
    (script : PlacedScript) (commands : List Command) (done : List Bool) (kernel : List ℕ) (source : ProgramSource)
    → IsSource commands done kernel source.kernel_command source.program.now source.function.now source.text.now source.program_command
    → ((place : CommandPlace) × (slice_get script.places.now source.program_command ≡ Some place) × (source.first_line ≡ place.source_line)) → IsSourceOf script commands done kernel source
placed script commands done kernel source is line = inr (is, line)
