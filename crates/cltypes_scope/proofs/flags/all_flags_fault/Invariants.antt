use Rattle.std.proofs.Common.{◌≡◌, take}
use Rattle.clmodel.specs.Tree.{terms}
use Rattle.clmodel.specs.Typing.Faults.{flags_faults}
use Rattle.clmodel.specs.Typing.Least.{least}
use Rattle.cltypes_scope.proofs.flags.all_flags_fault.Given as goal

-- `least` is the least fault of the arguments so far
abbrev pub invariant-loop-argument : goal.invariant-loop-argument
invariant-loop-argument l = l.least ≡ least (flags_faults (terms (take l.argument-index l.arguments)))
