use Rattle.std.proofs.Common.{◌∙◌, ap, inl, inr, refl, subst, sym}
use Rattle.std.proofs.lemmas.Bool.{false≢true}
use Rattle.std.specs.Prelude.{IsTrue}
use Rattle.page_log.specs.Tally.{lower_hit}
use Rattle.page_log.proofs.Walks.{counted}
use Rattle.page_log.proofs.tally.Tally.with.Goals as goal
use Rattle.page_log.proofs.tally.Tally.with.Goals.{then-is_same, else-is_same}

pub returns : goal.returns
returns c log k =
    counted c.args.rule c.args.x.now c.args.earlier.now log c.args.self _ c.requires.shared
    (c.lower_hit.ensures ∙ ap (λ o. lower_hit o c.args.self.found) c.hit_with.ensures)
    (λ e. elim c.if-is_same.branch [ then-is_same w ↦ inl (c.is_same.ensures.same w.if-is_same.true) | else-is_same w ↦ inr (subst IsTrue w.result-is e) ])
    (λ e. elim c.if-is_same.branch [ then-is_same w ↦ absurd (false≢true (sym e ∙ w.result-is ∙ w.if-is_same.true)) | else-is_same w ↦ (c.is_same.ensures.other w.if-is_same.false, sym w.result-is ∙ e) ])
    refl k
