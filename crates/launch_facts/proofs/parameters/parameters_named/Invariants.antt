use Rattle.std.proofs.Common.{◌≡◌, false, slice_get}
use Rattle.std.specs.Option.{option_map_or}
use Rattle.std.specs.List.{All}
use Rattle.launch_facts.specs.Parameters.{is_named, AreChosen, TellsOf, indexes}
use Rattle.launch_facts.proofs.parameters.parameters_named.Given as goal

abbrev pub invariant-loop-index : goal.invariant-loop-index
invariant-loop-index l = AreChosen (λ j is. is ≡ option_map_or (is_named l.names l.name) (slice_get l.parameters j) false) l.index (indexes l.found.items) × All (TellsOf l.byte l.parameters l.names) l.found.items
