use Rattle.std.proofs.Common.{refl, inr}
use Rattle.std.proofs.lemmas.Result.{err_from_is_err_and}
use Rattle.clsim.proofs.WideLemmas.{stopped}
use Rattle.clsim.proofs.explain_files.explain_with.Goals as goal

pub returns-in_err-put_all-clause-untold : goal.returns-in_err-put_all-clause-untold
returns-in_err-put_all-clause-untold g c =
    let p = err_from_is_err_and c.from_residual-in_err-put_all.result c.from_residual-in_err-put_all.ensures.1 in
    rw (p.1, p.2) (inr (refl, stopped c.args.options _ _ _ _ _ _ _ _ c.in_ok-answer.answer c.in_ok-answer.ensures.told c.in_err-put_all.ensures.whole))
