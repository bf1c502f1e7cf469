use Rattle.std.proofs.Common.{◌≡◌, None, take}
use Rattle.clmodel.specs.Typing.Functions.{names, signatures, functions_faults}
use Rattle.clmodel.specs.Typing.Least.{first}
use Rattle.cltypes.specs.Limits.{IsSummary}
use Rattle.cltypes.specs.Views.{functions_of}
use Rattle.cltypes.proofs.check_functions.Given as goal

-- the functions so far have no fault, and they are those before the next
abbrev pub invariant-loop-function : goal.invariant-loop-function
invariant-loop-function l = record {
  limited : l.context.limits ≡ l.fn.limits;
  named : l.context.all ≡ names (functions_of l.functions);
  before : signatures (functions_of (take l.function-index l.functions)) ≡ l.context.before;
  summed : IsSummary l.summaries (functions_of (take l.function-index l.functions));
  faultless : first (functions_faults l.fn.limits (names (functions_of l.functions)) (functions_of (take l.function-index l.functions))) ≡ None;
}
