use Rattle.std.proofs.Common.{sym, ◌∙◌}
use Rattle.std.proofs.lemmas.Slice.Eq.{bytes_eq-Decides}
use Rattle.explain_refusals.proofs.copies.is_same.Goals as goal

pub returns : goal.returns
returns c = λ same. (bytes_eq-Decides c.args.name.now c.args.other.now).0 (sym c.eq.ensures ∙ same)
