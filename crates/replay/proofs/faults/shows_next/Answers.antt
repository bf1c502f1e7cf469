use Rattle.std.proofs.Common.{rules, to_z, of_z, w64, ◌≡◌, ◌∙◌, inl, inr, refl, ap, sym, subst}
use Rattle.std.specs.Bool.{Decides}
use Rattle.std.proofs.lemmas.Bool.{false≢true}
use Rattle.std.proofs.lemmas.Result.{IfOk-weaker}
use Rattle.clmodel.specs.Law.{Shows}
use Rattle.clmodel.specs.declared.fault.Fault.TheVariants as fault
use Rattle.replay.specs.Spots.{is_conflict}
use Rattle.replay.proofs.Showing.{fails_shown}
use Rattle.replay.proofs.faults.shows_next.Goals as goal

pub unreachable-requires : goal.unreachable-requires
unreachable-requires g c = absurd (false≢true (sym c.requires.next ∙ ap is_conflict c.in-Conflict.is))

pub returns-in-Divergence : goal.returns-in-Divergence
returns-in-Divergence g c =
    let l = g.D.Described.launch c.args.launch.now in
    IfOk-weaker c.shows_divergence.result _ _
    (λ answer h. λ r s at. subst (λ f. Decides answer (Shows l s f)) (sym c.in-Divergence.is) (h r s at))
    c.shows_divergence.ensures

pub returns-in-Unset : goal.returns-in-Unset
returns-in-Unset g c =
    let l = g.D.Described.launch c.args.launch.now in
    IfOk-weaker c.shows_unset.result _ _
    (λ answer h. λ r s at. subst (λ f. Decides answer (Shows l s f)) (sym c.in-Unset.is) (h r s at))
    c.shows_unset.ensures

pub returns-in-Bounds : goal.returns-in-Bounds
returns-in-Bounds g c =
    let l = g.D.Described.launch c.args.launch.now in
    let told = c.in-Bounds in
    let back : to_z w64 (of_z w64 told.element) ≡ told.element = search rules in
    IfOk-weaker c.shows_bounds.result _ _
    (λ answer h. λ r s at.
    subst (λ f. Decides answer (Shows l s f)) (ap (λ z. fault.Bounds told.item told.kind told.location z) back ∙ sym told.is) (h r s at))
    c.shows_bounds.ensures

pub returns-in-PrivateBounds : goal.returns-in-PrivateBounds
returns-in-PrivateBounds g c =
    let l = g.D.Described.launch c.args.launch.now in
    let f = c.args.fault.now in
    IfOk-weaker c.shows_failure.result _ _
    (λ answer h. λ r s at.
    elim c.in-PrivateBounds.is [
      | inl w ↦ fails_shown l s f _ _ answer w.2 refl (h r s at)
      | inr (inl w) ↦ fails_shown l s f _ _ answer w.1 refl (h r s at)
      | inr (inr (inl w)) ↦ fails_shown l s f _ _ answer w.2 refl (h r s at)
      | inr (inr (inr (inl w))) ↦ fails_shown l s f _ _ answer w refl (h r s at)
      | inr (inr (inr (inr (inl w)))) ↦ fails_shown l s f _ _ answer w refl (h r s at)
      | inr (inr (inr (inr (inr w)))) ↦ fails_shown l s f _ _ answer w refl (h r s at)
    ])
    c.shows_failure.ensures
