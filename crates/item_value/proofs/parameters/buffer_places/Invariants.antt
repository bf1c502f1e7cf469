use Rattle.std.proofs.Common.{◌≡◌, take, map}
use Rattle.item_value.specs.Arguments.{buffer_place}
use Rattle.item_value.proofs.parameters.buffer_places.Given as goal

abbrev pub invariant-loop-argument : goal.invariant-loop-argument
invariant-loop-argument l = l.places.items ≡ map (buffer_place l.buffers) (take l.argument-index l.arguments)
