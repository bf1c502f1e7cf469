use Rattle.std.proofs.Common.{refl, inl}
use Rattle.std.proofs.lemmas.Result.{err_from_is_err_and}
use Rattle.clsim.proofs.explain_files.explain_script.Goals as goal

pub returns-in_err-script-clause-untold : goal.returns-in_err-script-clause-untold
returns-in_err-script-clause-untold g c =
    let p = err_from_is_err_and c.from_residual.result c.from_residual.ensures.1 in
    rw (p.1, p.2) (inl (c.in_err-script.ensures.failed, refl))
