-- What the next actions of items say of a fault.
use Rattle.std.proofs.Common.{◌≡◌, ℕ, ℤ, Bool, true, false, Option, None, Some, refl, sym, ap, ◌∙◌, subst, eqb-true, eq-eqb}
use Rattle.std.specs.Prelude.{IsTrue, nat_eq}
use Rattle.std.specs.Option.{option_eq}
use Rattle.std.specs.Bool.{Decides}
use Rattle.std.proofs.lemmas.Bool.{false≢true}
use Rattle.clmodel.specs.Cells.{lowest_unset, reads, size_of}
use Rattle.clmodel.specs.Launch.{Launch, group_of, kind_of, location_of, region_of}
use Rattle.clmodel.specs.Law.{Fails, Shows, fault_of}
use Rattle.clmodel.specs.Run.{State, byte_at, next_action, same_stop, stop_of}
use Rattle.clmodel.specs.declared.access.AccessKind.{AccessKind}
use Rattle.clmodel.specs.declared.access.Object.{Object}
use Rattle.clmodel.specs.declared.access.Operation.{Operation}
use Rattle.clmodel.specs.declared.action.Action.{Action}
use Rattle.clmodel.specs.declared.action.Action.TheVariants as action
use Rattle.clmodel.specs.declared.action.Cause.{Cause}
use Rattle.clmodel.specs.declared.action.Stop.{Stop}
use Rattle.clmodel.specs.declared.fault.Fault.{Fault}
use Rattle.clmodel.specs.declared.fault.Fault.TheVariants as fault
use Rattle.clmodel.specs.declared.fault.Location.{Location}
use Rattle.clmodel.proofs.Steps.{none_some, some_inj}
use Rattle.replay.specs.Nexts.{access_of, cause_of, TellsNext, StopsAt, ReadsUnset}
use Rattle.replay.specs.declared.nexts.NextAccess.{NextAccess}

pub never : {P : Type 0} → (P → ⊥) → Decides false P
never h = (λ e. absurd (false≢true e), λ p. absurd (h p))

-- ---- stops

pub stops :
    (l : Launch) (s : State) (item : ℕ) (stop told : Stop) (answer : Bool) → (IsTrue answer → stop ≡ told) → (answer ≡ false → stop ≡ told → ⊥)
    → TellsNext stop_of l s item (Some stop) → Decides answer (StopsAt l s item told)
stops l s item stop told true same other (below, at) = (λ e. (below, at ∙ ap Some (same refl)), λ h. refl)
stops l s item stop told false same other (below, at) = never (λ (h : StopsAt l s item told). other refl (some_inj stop told (sym at ∙ h.1)))

pub no_stop : (l : Launch) (s : State) (item : ℕ) (told : Stop) → TellsNext stop_of l s item None → StopsAt l s item told → ⊥
no_stop l s item told none (below, at) = none_some told (sym (none below) ∙ at)

pub diverges :
    (l : Launch) (s : State) (item : ℕ) (stop : Stop) (other : ℕ) (other_stop : Stop) (answer : Bool) → group_of l item ≡ group_of l other → same_stop stop other_stop ≡ false
    → StopsAt l s item stop → Decides answer (StopsAt l s other other_stop) → Decides answer (Shows l s (fault.Divergence item stop other other_stop))
diverges l s item stop other other_stop answer group apart (below, at) there = (
  λ e. let o = there.0 e in (below, o.0, group, at, o.1, apart),
  λ (a, b, c, d, e, f). there.1 (b, e),
)

-- ---- accesses

access_is : (a : Action) (next : NextAccess) → access_of a ≡ Some next → a ≡ action.Access next.object next.element next.operation
access_is (action.Access object element operation) next e =
    let r = some_inj (record { object = object; element = element; operation = operation }) next e in ap (λ (n : NextAccess). action.Access n.object n.element n.operation) r
access_is (action.Barrier instance fences) next e = absurd (none_some next e)
access_is action.End next e = absurd (none_some next e)
access_is (action.Fault cause) next e = absurd (none_some next e)

-- the access of an item is the one that is told
one_access :
    (l : Launch) (s : State) (item : ℕ) (next : NextAccess) (object : Object) (element : ℤ) (operation : Operation) → TellsNext access_of l s item (Some next)
    → next_action l s item ≡ action.Access object element operation → next ≡ record { object = object; element = element; operation = operation }
one_access l s item next object element operation (below, at) acts = some_inj next (record { object = object; element = element; operation = operation }) (sym at ∙ ap access_of acts)

pub no_bounds :
    (l : Launch) (s : State) (item : ℕ) (kind : AccessKind) (place : Location) (element : ℤ) → TellsNext access_of l s item None → Shows l s (fault.Bounds item kind place element) → ⊥
no_bounds l s item kind place element none (object, operation, below, acts, k, at, out) =
    none_some (record { object = object; element = element; operation = operation }) (sym (none below) ∙ ap access_of acts)

pub never_bounds :
    (l : Launch) (s : State) (item : ℕ) (kind : AccessKind) (place : Location) (element : ℤ) (next : NextAccess) → TellsNext access_of l s item (Some next)
    → (next.element ≡ element → kind_of next.operation ≡ kind → byte_at l item next.object next.element next.operation ≡ None → ⊥) → Shows l s (fault.Bounds item kind place element) → ⊥
never_bounds l s item kind place element next tells other (object, operation, below, acts, k, at, out) =
    let same = one_access l s item next object element operation tells acts in
    other (ap (λ (n : NextAccess). n.element) same) (ap (λ (n : NextAccess). kind_of n.operation) same ∙ k)
    (ap (λ (n : NextAccess). byte_at l item n.object n.element n.operation) same ∙ out)

pub bounds :
    (l : Launch) (s : State) (item : ℕ) (kind : AccessKind) (place : Location) (element : ℤ) (next : NextAccess) (answer : Bool) → TellsNext access_of l s item (Some next)
    → next.element ≡ element → kind_of next.operation ≡ kind → byte_at l item next.object next.element next.operation ≡ None
    → Decides answer (location_of l (region_of (group_of l item) next.object) ≡ place) → Decides answer (Shows l s (fault.Bounds item kind place element))
bounds l s item kind place element next answer tells e k out there = (
  λ h. (
    next.object,
    next.operation,
    tells.0,
    access_is (next_action l s item) next tells.1 ∙ ap (λ z. action.Access next.object z next.operation) e,
    k,
    there.0 h,
    ap (λ z. byte_at l item next.object z next.operation) (sym e) ∙ out,
  ),
  λ (object, operation, below, acts, k2, at, out2).
      there.1 (ap (λ (n : NextAccess). location_of l (region_of (group_of l item) n.object)) (one_access l s item next object element operation tells acts) ∙ at),
)

pub no_unset :
    (l : Launch) (s : State) (item : ℕ) (kind : AccessKind) (place : Location) (byte : ℕ) → TellsNext access_of l s item None → Shows l s (fault.Unset item kind place byte) → ⊥
no_unset l s item kind place byte none (object, element, operation, first, below, acts, k, at, begins, r, lowest) =
    none_some (record { object = object; element = element; operation = operation }) (sym (none below) ∙ ap access_of acts)

pub never_unset :
    (l : Launch) (s : State) (item : ℕ) (kind : AccessKind) (place : Location) (byte : ℕ) (next : NextAccess) → TellsNext access_of l s item (Some next)
    → (kind_of next.operation ≡ kind → ReadsUnset l s item next byte → ⊥) → Shows l s (fault.Unset item kind place byte) → ⊥
never_unset l s item kind place byte next tells other (object, element, operation, first, below, acts, k, at, begins, r, lowest) =
    let same = one_access l s item next object element operation tells acts in
    other (ap (λ (n : NextAccess). kind_of n.operation) same ∙ k)
    (subst (λ (n : NextAccess). ReadsUnset l s item n byte) (sym same) (first, begins, r, lowest))

pub unset :
    (l : Launch) (s : State) (item : ℕ) (kind : AccessKind) (place : Location) (byte : ℕ) (next : NextAccess) (answer : Bool) → TellsNext access_of l s item (Some next)
    → kind_of next.operation ≡ kind → ReadsUnset l s item next byte → Decides answer (location_of l (region_of (group_of l item) next.object) ≡ place)
    → Decides answer (Shows l s (fault.Unset item kind place byte))
unset l s item kind place byte next answer tells k (first, begins, r, lowest) there = (
  λ h. (next.object, next.element, next.operation, first, tells.0, access_is (next_action l s item) next tells.1, k, there.0 h, begins, r, lowest),
  λ (object, element, operation, first2, below, acts, k2, at, begins2, r2, lowest2).
      there.1 (ap (λ (n : NextAccess). location_of l (region_of (group_of l item) n.object)) (one_access l s item next object element operation tells acts) ∙ at),
)

-- the lowest unset byte that an access reads
pub reads_byte :
    (l : Launch) (s : State) (item : ℕ) (next : NextAccess) (byte first : ℕ) (lowest : Option ℕ) (answer : Bool) → byte_at l item next.object next.element next.operation ≡ Some first
    → reads next.operation ≡ true → lowest ≡ lowest_unset (s.memory (region_of (group_of l item) next.object)) first (size_of next.operation) → Decides answer (lowest ≡ Some byte)
    → Decides answer (ReadsUnset l s item next byte)
reads_byte l s item next byte first lowest answer begins r found there = (
  λ e. (first, begins, r, sym found ∙ there.0 e),
  λ (first2, begins2, r2, lowest2).
      there.1 (found ∙ ap (λ n. lowest_unset (s.memory (region_of (group_of l item) next.object)) n (size_of next.operation)) (some_inj first first2 (sym begins ∙ begins2)) ∙ lowest2),
)

pub reads_none : (l : Launch) (s : State) (item : ℕ) (next : NextAccess) (byte : ℕ) → byte_at l item next.object next.element next.operation ≡ None → ReadsUnset l s item next byte → ⊥
reads_none l s item next byte out (first, begins, r, lowest) = none_some first (sym out ∙ begins)

-- ---- failures

cause_is : (a : Action) (c : Cause) → cause_of a ≡ Some c → a ≡ action.Fault c
cause_is (action.Access object element operation) c e = absurd (none_some c e)
cause_is (action.Barrier instance fences) c e = absurd (none_some c e)
cause_is action.End c e = absurd (none_some c e)
cause_is (action.Fault d) c e = ap action.Fault (some_inj d c e)

pub fails :
    (l : Launch) (s : State) (item : ℕ) (c : Cause) (f : Fault) (answer : Bool) → TellsNext cause_of l s item (Some c) → Decides answer (fault_of l item c ≡ f)
    → Decides answer (Fails l s item f)
fails l s item c f answer tells there = (
  λ h. (c, tells.0, cause_is (next_action l s item) c tells.1, there.0 h),
  λ (d, below, acts, e). there.1 (ap (fault_of l item) (some_inj c d (sym tells.1 ∙ ap cause_of acts)) ∙ e),
)

pub no_failure : (l : Launch) (s : State) (item : ℕ) (f : Fault) → TellsNext cause_of l s item None → Fails l s item f → ⊥
no_failure l s item f none (d, below, acts, e) = none_some d (sym (none below) ∙ ap cause_of acts)

-- a fault of an item that can do nothing more is shown where it fails so
pub fails_shown :
    (l : Launch) (s : State) (f g : Fault) (item : ℕ) (answer : Bool) → f ≡ g → Shows l s g ≡ Fails l s item g → Decides answer (Fails l s item f) → Decides answer (Shows l s f)
fails_shown l s f g item answer is same h = subst (λ z. Decides answer (Shows l s z)) (sym is) (subst (Decides answer) (sym same) (subst (λ z. Decides answer (Fails l s item z)) is h))

-- a number that may be there is this one
pub same_byte : (found : Option ℕ) (byte : ℕ) (answer : Bool) → answer ≡ option_eq nat_eq found (Some byte) → Decides answer (found ≡ Some byte)
same_byte None byte answer e = (λ h. absurd (false≢true (sym e ∙ h)), λ h. absurd (none_some byte h))
same_byte (Some x) byte answer e = (λ h. ap Some (eqb-true x byte (sym e ∙ h)), λ h. e ∙ eq-eqb x byte (some_inj x byte h))
