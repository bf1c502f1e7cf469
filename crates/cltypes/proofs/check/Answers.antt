use Rattle.std.proofs.Common.{refl}
use Rattle.std.proofs.lemmas.Result.{err_from_is_err_and, IfOk-from_err}
use Rattle.clmodel.specs.Tree.{program}
use Rattle.cltypes.proofs.Texts.{answered, answered_typed, answered_well, typed_somewhere, if_err_by}
use Rattle.cltypes.proofs.check.Goals as goal

pub returns-in_err-check_functions : goal.returns-in_err-check_functions
returns-in_err-check_functions c =
    let r = c.from_residual.result in
    let f = c.in_err-check_functions.field-0.0 in
    let exit = err_from_is_err_and r c.from_residual.ensures.1 in
    record {
      typed = IfOk-from_err r _ c.from_residual.ensures.0;
      fault = if_err_by r f _ exit (answered c.args.limits c.args.tree c.deref.result.now f c.deref.ensures.value (c.in_err-check_functions.ensures {u = tt}));
      typed_only = λ h. if_err_by r f _ exit (answered_typed c.args.limits c.args.tree c.deref.result.now f c.deref.ensures.value (c.in_err-check_functions.ensures {u = tt}) h);
    }

pub invariant_of-result : goal.invariant_of-result
invariant_of-result c = record { typed = ∣ typed_somewhere c.args.limits (program c.args.tree) (answered_well c.args.limits c.args.tree c.deref.result.now c.deref.ensures.value (c.in_ok-check_functions.ensures {u = tt})) ∣₁ }

pub returns : goal.returns
returns c = record {
  typed = (refl, answered_well c.args.limits c.args.tree c.deref.result.now c.deref.ensures.value (c.in_ok-check_functions.ensures {u = tt}));
  fault = tt;
  typed_only = λ h. tt;
}
