use Rattle.std.proofs.Common.{◌≡◌, None, take}
use Rattle.clmodel.specs.Typing.Functions.{with_params, params_faults}
use Rattle.clmodel.specs.Typing.Least.{first}
use Rattle.cltypes.proofs.functions.declare_parameters.Given as goal

-- the parameters so far are declared, with no fault
abbrev pub invariant-loop-parameter : goal.invariant-loop-parameter
invariant-loop-parameter l = record {
  faultless : first (params_faults l.fn.context (take l.parameter-index l.parameters)) ≡ None;
  declared : l.context ≡ with_params l.fn.context (take l.parameter-index l.parameters);
}
