use Rattle.std.proofs.Common.{subst, List, ℕ}
use Rattle.std.proofs.lemmas.Result.{err_from_is_err_and}
use Rattle.serving.proofs.Commands.{opening_one, not_opened_later, tells_none}
use Rattle.simfile.specs.Stepwise.{TellsVersion}
use Rattle.serving.proofs.server.hear_opening.Goals as goal

pub returns-in_default-clause-heard : goal.returns-in_default-clause-heard
returns-in_default-clause-heard g c = opening_one c.requires (tells_none c.as_slice.ensures.value c.in_default.ensures.only) c.in_ok-first.ensures.heard

pub returns-in_err-second-clause-failed : goal.returns-in_err-second-clause-failed
returns-in_err-second-clause-failed g c =
    let p = err_from_is_err_and c.from_residual-in_err-second.result c.from_residual-in_err-second.ensures.1 in
    let tells = subst (λ (l : List ℕ). TellsVersion l c.in-Some.version) c.as_slice.ensures.value c.in-Some.ensures.found in
    rw (p.1, p.2) (not_opened_later c.in-Some.version _ c.requires c.in_ok-first.ensures.heard tells c.in_err-second.ensures.failed)
