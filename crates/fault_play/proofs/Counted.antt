-- The access by which an event leads from a state to another, and the numbers of its mark.
use Rattle.std.proofs.Common.{◌≡◌, ℕ, Bool, true, false, nat_lt, Option, None, Some, ◌∷◌, refl, sym, ap, ◌∙◌, subst}
use Rattle.std.specs.Prelude.{if◌then◌else◌}
use Rattle.std.specs.Option.{IfSome, option_map}
use Rattle.std.proofs.lemmas.Option.{IfSome_then}
use Rattle.clmodel.specs.Cells.{answer_to, effect, found}
use Rattle.clmodel.specs.Launch.{Launch}
use Rattle.clmodel.specs.Run.{State, Memory, access_at, access_of, accessed, item_step, next_action, step}
use Rattle.clmodel.specs.declared.access.Operation.{Operation}
use Rattle.clmodel.specs.declared.access.Region.{Region}
use Rattle.clmodel.specs.declared.action.Action.{Action}
use Rattle.clmodel.specs.declared.action.Action.TheVariants as action
use Rattle.clmodel.specs.declared.schedule.Event.{Event}
use Rattle.clmodel.specs.declared.schedule.Event.TheVariants as event
use Rattle.clmodel.proofs.Steps.{none_some, some_inj}
use Rattle.fault_play.specs.Accesses.{HasNumber, IsAbout, IsNext, region_at}
use Rattle.fault_play.specs.Marks.{HasThere, IsCounted}
use Rattle.fault_play.specs.declared.marks.Mark.{Mark}
use Rattle.fault_play.specs.declared.marks.PendingAccess.{PendingAccess}

-- ---- what an access does to the log

logged :
    (l : Launch) (s t : State) (k : ℕ) (r : Region) (op : Operation) (first : ℕ) (o : Option ℕ)
    → option_map (accessed l s k r first op) (option_map (λ x. record { answer = answer_to op x; cells = effect op x (s.memory r) first }) o) ≡ Some t
    → t.log ≡ access_of l s k r first op ∷ s.log
logged l s t k r op first None h = absurd (none_some t h)
logged l s t k r op first (Some x) h =
    sym (ap (λ z. z.log) (some_inj (accessed l s k r first op (record { answer = answer_to op x; cells = effect op x (s.memory r) first })) t h))

stepped :
    (l : Launch) (s t : State) (k : ℕ) (a : Action) (b : Bool) → nat_lt k l.items ≡ b → next_action l s k ≡ a → (if b then item_step l s k (next_action l s k) else None) ≡ Some t
    → item_step l s k a ≡ Some t
stepped l s t k a true below acts h = ap (item_step l s k) (sym acts) ∙ h
stepped l s t k a false below acts h = absurd (none_some t h)

acted :
    (l : Launch) (s t : State) (access : PendingAccess) → IsNext l s access.item access → step l s (event.Item access.item) ≡ Some t
    → t.log ≡ access_of l s access.item (region_at l access) access.first access.operation ∷ s.log
unfolding step
acted l s t access next goes =
    let k = access.item in
    let r = region_at l access in
    let there = stepped l s t k (action.Access access.object next.element access.operation) (nat_lt k l.items) refl next.acts goes in
    logged l s t k r access.operation access.first (found access.operation (s.memory r) access.first) (ap (access_at l s k r access.operation) (sym next.begins) ∙ there)

-- ---- the numbers of a mark

-- an access of the item of an event
pub about_item :
    (l : Launch) (s : State) (e : Event) (item : ℕ) (access : PendingAccess) → e ≡ event.Item item → IsNext l s item access → IsAbout l s e access
about_item l s e item access is h = (is ∙ ap (λ n. event.Item n) (sym h.by_item), subst (λ n. IsNext l s n access) (sym h.by_item) h)

there_is :
    (l : Launch) (s t : State) (e : Event) (found : Option PendingAccess) (m : Memory) (x : ℕ) → IfSome found (IsAbout l s e) → step l s e ≡ Some t
    → HasNumber l m found x → HasThere s t m x
there_is l s t e found m x about goes (access, is, same) =
    let next = subst (λ o. IfSome o (IsAbout l s e)) is about in
    (access_of l s access.item (region_at l access) access.first access.operation, acted l s t access next.1 (ap (step l s) (sym next.0) ∙ goes), same)

pub counted :
    (l : Launch) (s t : State) (mark : Mark) (found : Option PendingAccess) → IfSome found (IsAbout l s mark.event) → step l s mark.event ≡ Some t
    → IfSome mark.found (HasNumber l s.memory found) → IfSome mark.left (HasNumber l t.memory found) → IsCounted s t mark
counted l s t mark found about goes finds leaves = record {
  found = IfSome_then mark.found finds (λ x h. there_is l s t mark.event found s.memory x about goes h);
  left = IfSome_then mark.left leaves (λ x h. there_is l s t mark.event found t.memory x about goes h);
}
