-- Conflicts of a group's accesses with those of the groups below.
use Rattle.std.proofs.Common.{◌≡◌, ℕ, zero, suc, Bool, true, false, ◌&&◌, ◌==◌, if◌then◌else◌, ◌⊎◌, Option, Some, None, refl, sym, ap, ap₂, ◌∙◌, subst, inl, inr, List, [], ◌∷◌, ◌++◌}
use Rattle.std.proofs.lemmas.Bool.{and_parts, eqb-true, true≢false}
use Rattle.std.specs.Option.{option_map}
use Rattle.clmodel.specs.Cells.{byte_count, covers}
use Rattle.clmodel.specs.Launch.{Launch, same_region, group_of, clash, both_store, left_at, conflict}
use Rattle.clmodel.specs.Run.{or_else}
use Rattle.clmodel.specs.Law.{Logged, conflict_on, conflict_from, newest_conflict}
use Rattle.clmodel.specs.declared.access.Access.{Access}
use Rattle.clmodel.specs.declared.access.AccessKind.{AccessKind}
use Rattle.clmodel.specs.declared.access.AccessKind.TheVariants as kind
use Rattle.clmodel.specs.declared.access.Region.{Region}
use Rattle.clmodel.specs.declared.access.Clash.{Clash}
use Rattle.clmodel.specs.declared.access.Conflict as conflict_type
use Rattle.clmodel.proofs.Steps.{or_else_none, none_some, map_none, or_else_nothing, or_else_assoc}
use Rattle.clmodel.proofs.Swaps.{same_region-true}
use Rattle.clmodel.proofs.Conflicts.{no_clash, no_newest}
use Rattle.joining.specs.Memory.{at_byte}
use Rattle.joining.specs.Crossings.{crossing}

-- on one byte the conflicts with the lower groups come first
pub on_append : (judge : Access → Access → ℕ → Option Clash) (x : Access) (byte : ℕ) (own lower : List Access)
    → conflict_on judge x byte (own ++ lower) ≡ or_else (conflict_on judge x byte lower) (conflict_on judge x byte own)
on_append judge x byte [] lower = sym (or_else_nothing (conflict_on judge x byte lower))
on_append judge x byte (z ∷ own) lower =
    let here : Option conflict_type.Conflict = option_map (λ clash. record { earlier = z; later = x; byte = byte; clash = clash }) (judge z x byte) in
    ap (λ o. or_else o here) (on_append judge x byte own lower) ∙ or_else_assoc (conflict_on judge x byte lower) (conflict_on judge x byte own) here

from_own : (judge : Access → Access → ℕ → Option Clash) (x : Access) (own lower : List Access) (byte count : ℕ) → conflict_from judge x lower byte count ≡ None
    → conflict_from judge x (own ++ lower) byte count ≡ conflict_from judge x own byte count
from_own judge x own lower byte zero h = refl
from_own judge x own lower byte (suc count) h =
    let r = or_else_none (conflict_on judge x byte lower) (conflict_from judge x lower (suc byte) count) h in
    ap₂ or_else (on_append judge x byte own lower ∙ ap (λ o. or_else o (conflict_on judge x byte own)) r.0) (from_own judge x own lower (suc byte) count r.1)

from_lower : (judge : Access → Access → ℕ → Option Clash) (x : Access) (own lower : List Access) (byte count : ℕ) → conflict_from judge x (own ++ lower) byte count ≡ None
    → conflict_from judge x lower byte count ≡ None
from_lower judge x own lower byte zero h = refl
from_lower judge x own lower byte (suc count) h =
    let r = or_else_none (conflict_on judge x byte (own ++ lower)) (conflict_from judge x (own ++ lower) (suc byte) count) h in
    let q = or_else_none (conflict_on judge x byte lower) (conflict_on judge x byte own) (sym (on_append judge x byte own lower) ∙ r.0) in
    ap₂ or_else q.0 (from_lower judge x own lower (suc byte) count r.1)

-- where nothing crosses, the newest conflict is the group's own
pub newest_over : (l : Launch) (lower own : List Access) → newest_conflict l lower ≡ None → crossing l lower own ≡ None → newest_conflict l (own ++ lower) ≡ newest_conflict l own
newest_over l lower [] h none = h
newest_over l lower (x ∷ own) h none =
    let r = or_else_none (crossing l lower own) _ none in
    from_own (conflict l) x own lower x.first (byte_count x.width) (map_none _ (conflict_from (conflict l) x lower x.first (byte_count x.width)) r.1)

-- an access that crosses is a newest conflict
pub crossing_newest : (l : Launch) (lower own : List Access) (x : Access) (f : conflict_type.Conflict) → conflict_from (conflict l) x lower x.first (byte_count x.width) ≡ Some f
    → (report : conflict_type.Conflict) × (newest_conflict l (x ∷ own ++ lower) ≡ Some report)
crossing_newest l lower own x f h = go (newest_conflict l (x ∷ own ++ lower)) refl
  where
    go : (o : Option conflict_type.Conflict) → newest_conflict l (x ∷ own ++ lower) ≡ o → (report : conflict_type.Conflict) × (newest_conflict l (x ∷ own ++ lower) ≡ Some report)
    go None is = absurd (none_some f (sym (from_lower (conflict l) x own lower x.first (byte_count x.width) is) ∙ h))
    go (Some report) is = (report, is)

-- where nothing crosses, no access of the group conflicts with one of theirs
pub no_cross : (l : Launch) (lower own : List Access) → crossing l lower own ≡ None → (x y : Access) → Logged own x → Logged lower y → (byte : ℕ) → conflict l y x byte ≡ None
no_cross l lower [] h x y p q byte = absurd p
no_cross l lower (z ∷ own) h x y (inl p) q byte =
    let r = or_else_none (crossing l lower own) _ h in
    subst (λ e. conflict l y e byte ≡ None) p (no_newest l z lower (map_none _ (conflict_from (conflict l) z lower z.first (byte_count z.width)) r.1) y q byte)
no_cross l lower (z ∷ own) h x y (inr p) q byte = no_cross l lower own (or_else_none (crossing l lower own) _ h).0 x y p q byte

-- both are stores of a uniform launch
abbrev pub BothStores : Launch → AccessKind → AccessKind → Type 0
BothStores l k k2 = (l.uniform ≡ true) × (k ≡ kind.Store) × (k2 ≡ kind.Store)

both_stores : (k k2 : AccessKind) → both_store k k2 ≡ true → (k ≡ kind.Store) × (k2 ≡ kind.Store)
both_stores kind.Load k2 h = absurd (true≢false (sym h))
both_stores kind.Store kind.Load h = absurd (true≢false (sym h))
both_stores kind.Store kind.Store h = (refl, refl)
both_stores kind.Store (kind.Update d) h = absurd (true≢false (sym h))
both_stores kind.Store kind.Fetch h = absurd (true≢false (sym h))
both_stores (kind.Update c) k2 h = absurd (true≢false (sym h))
both_stores kind.Fetch k2 h = absurd (true≢false (sym h))

-- they are stores of a uniform launch, or don't clash
stores_or : (l : Launch) (k k2 : AccessKind) (same : Bool) → (if both_store k k2 && l.uniform && same then None else clash k k2) ≡ None → BothStores l k k2 ⊎ (clash k k2 ≡ None)
stores_or l k k2 same h = go (both_store k k2 && l.uniform && same) refl h
  where
    go : (b : Bool) → (both_store k k2 && l.uniform && same) ≡ b → (if b then None else clash k k2) ≡ None → BothStores l k k2 ⊎ (clash k k2 ≡ None)
    go false e none = inr none
    go true e none =
        let p = and_parts (both_store k k2) l.uniform (and_parts (both_store k k2 && l.uniform) same e).0 in
        let q = both_stores k k2 p.0 in
        inl (p.1, q.0, q.1)

-- two accesses of different groups at one byte that do not conflict
pub meet : (l : Launch) (x y : Access) (space : Region) (byte : ℕ) → (group_of l y.item ≡ group_of l x.item → ⊥) → at_byte space byte y ≡ true → at_byte space byte x ≡ true
    → conflict l y x byte ≡ None → BothStores l y.kind x.kind ⊎ (clash y.kind x.kind ≡ None)
meet l x y space byte ne a b h =
    let p : (same_region space y.region ≡ true) × (covers y.first (byte_count y.width) byte ≡ true) = and_parts (same_region space y.region) (covers y.first (byte_count y.width) byte) a in
    let q : (same_region space x.region ≡ true) × (covers x.first (byte_count x.width) byte ≡ true) = and_parts (same_region space x.region) (covers x.first (byte_count x.width) byte) b in
    stores_or l y.kind x.kind (left_at y byte == left_at x byte)
    (no_clash l y x byte h
    (record {
      items = λ e. ne (ap (group_of l) e);
      intervals = λ e. absurd (ne (eqb-true (group_of l y.item) (group_of l x.item) e));
      regions = sym (same_region-true space y.region p.0) ∙ same_region-true space x.region q.0;
      first_covers = p.1;
      second_covers = q.1;
    }))
