use Rattle.std.proofs.Common.{◌≡◌, take}
use Rattle.clmodel.specs.Typing.Functions.{names}
use Rattle.cltypes.specs.Views.{functions_of, known}
use Rattle.cltypes.proofs.context_before.Given as goal

abbrev pub invariant-loop-function : goal.invariant-loop-function
invariant-loop-function l = l.context ≡ known l.fn.limits (names (functions_of (take l.function-index l.functions)))
