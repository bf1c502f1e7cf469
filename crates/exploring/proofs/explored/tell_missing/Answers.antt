use Rattle.std.proofs.Common.{ap₂, inr, refl}
use Rattle.std.proofs.lemmas.Result.{err_from_is_err_and}
use Rattle.exploring.specs.Explored.{missing_end}
use Rattle.exploring.specs.Lines.{missing_text}
use Rattle.exploring.proofs.explored.tell_missing.Goals as goal

pub returns-in_err-write_missing-clause-failed : goal.returns-in_err-write_missing-clause-failed
returns-in_err-write_missing-clause-failed g c =
    let p = err_from_is_err_and c.from_residual.result c.from_residual.ensures.1 in
    rw (p.1, p.2)
    (λ commands counted.
    (missing_text c.least.result c.args.count, (missing_end, inr (record { ended = refl; told = ap₂ missing_text c.least.ensures counted })), c.in_err-write_missing.ensures))

pub returns-clause-told : goal.returns-clause-told
returns-clause-told g c = λ commands counted.
    (missing_text c.least.result c.args.count, record { ended = refl; told = ap₂ missing_text c.least.ensures counted }, c.in_ok-write_missing.ensures)
