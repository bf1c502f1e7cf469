-- Accesses that kept ones cover.
use Rattle.std.proofs.Common.{◌≡◌, ℕ, ◌+◌, ◌-◌, ◌<◌, ◌≤◌, ◌⊎◌, Bool, true, false, not, ◌&&◌, ◌||◌, ◌==◌, if◌then◌else◌, Option, None, Some, List, [], ◌∷◌, ◌++◌, refl, sym, ap, ◌∙◌, subst, inl, inr, arith, eqb-true}
use Rattle.std.proofs.lemmas.Bool.{and_parts, and_from, cases_eq, ne_eqb}
use Rattle.clmodel.specs.Cells.{byte_count, covers}
use Rattle.clmodel.specs.Launch.{same_region, unordered, share, clash, both_store, left_at, same_store, clash_at, within_group, conflict_between}
use Rattle.clmodel.specs.Run.{or_else}
use Rattle.clmodel.specs.declared.access.Access.{Access}
use Rattle.clmodel.specs.declared.access.Clash.{Clash}
use Rattle.clmodel.specs.declared.access.Rule.{Rule}
use Rattle.clmodel.proofs.Steps.{or_else_none, map_none, decided}
use Rattle.clmodel.proofs.CellLaws.{covers_parts}
use Rattle.access_list.specs.Log.{hit_between, hit_on}
use Rattle.access_list.specs.declared.log.Entry.{Entry}
use Rattle.access_list.specs.declared.log.Hit.{Hit}
use Rattle.group_log.specs.Covers.{CoversAt, Covers}

-- ---- conflicts by their parts

pub no_conflict : (g : Rule) (x y : Access) (byte : ℕ) → (unordered g x y ≡ true → share x y byte ≡ true → clash_at g x y byte ≡ None) → conflict_between g x y byte ≡ None
unfolding conflict_between
no_conflict g x y byte h =
    decided (unordered g x y && share x y byte)
    (λ e. let r : (unordered g x y ≡ true) × (share x y byte ≡ true) = and_parts (unordered g x y) (share x y byte) e in
    ap (λ b. if b then clash_at g x y byte else None) e ∙ h r.0 r.1)
    (λ e. ap (λ b. if b then clash_at g x y byte else None) e)

pub no_clash : (g : Rule) (x y : Access) (byte : ℕ) → conflict_between g x y byte ≡ None → unordered g x y ≡ true → share x y byte ≡ true → clash_at g x y byte ≡ None
unfolding conflict_between
no_clash g x y byte h u s = sym (ap (λ b. if b then clash_at g x y byte else None) (and_from (unordered g x y) (share x y byte) u s)) ∙ h

-- an access of another item than both
pub other_item : (g : Rule) (a z : Access) (i byte : ℕ) → (a.item ≡ z.item → ⊥) → conflict_between g a z byte ≡ None → conflict_between g (record a { item = i }) z byte ≡ None
other_item g a z i byte ne h =
    no_conflict g (record a { item = i }) z byte
    (λ u s. no_clash g a z byte h
    (and_from (not (a.item == z.item)) (not g.one_group || (a.interval == z.interval)) (ap not (ne_eqb a.item z.item ne)) (and_parts (not (i == z.item)) (not g.one_group || (a.interval == z.interval)) u).1) s)

-- an access of which two items made the same covers that of any other item
pub covers_item : (u : Bool) (kept : List Entry) (a : Access) (i j : ℕ) → (a.item ≡ j → ⊥) → Covers u kept a → Covers u kept (record a { item = j }) → Covers u kept (record a { item = i })
covers_item u kept a i j ne first other byte z none = go (cases_eq a.item z.access.item)
  where
    go : (a.item ≡ z.access.item) ⊎ (a.item ≡ z.access.item → ⊥) → conflict_between (within_group u) (record a { item = i }) z.access byte ≡ None
    go (inl e) = other_item (within_group u) (record a { item = j }) z.access i byte (λ s. ne (e ∙ sym s)) (other byte z none)
    go (inr n) = other_item (within_group u) a z.access i byte n (first byte z none)

-- stores that leave the same byte clash alike there
same_left : (g : Rule) (a z : Access) (v byte : ℕ) → left_at (record a { value = v }) byte ≡ left_at a byte → clash_at g a z byte ≡ None → clash_at g (record a { value = v }) z byte ≡ None
same_left g a z v byte e h = ap (λ l. if both_store a.kind z.kind && g.uniform && (l == left_at z byte) then None else clash a.kind z.kind) e ∙ h

pub first_at : (x z : Access) (byte : ℕ) → share x z byte ≡ true → (x.first ≤ byte) × (byte < x.first + byte_count x.width)
first_at x z byte p =
    let r : ((same_region x.region z.region && covers x.first (byte_count x.width) byte) ≡ true) × (covers z.first (byte_count z.width) byte ≡ true) = and_parts _ _ p in
    let s : (same_region x.region z.region ≡ true) × (covers x.first (byte_count x.width) byte ≡ true) = and_parts _ _ r.0 in
    covers_parts x.first (byte_count x.width) byte s.1

-- an access each byte of which its item's kept ones left, or left two of
pub covers_left :
    (u : Bool) (kept : List Entry) (a : Access) (v : ℕ) (differs : ℕ → Bool) → Covers u kept a
    → ((k : ℕ) → differs k ≡ true → (value : ℕ) → CoversAt u kept (record a { value = value }) (a.first + k))
    → ((k : ℕ) → k < byte_count a.width → (differs k ≡ true) ⊎ (left_at (record a { value = v }) (a.first + k) ≡ left_at a (a.first + k)))
    → Covers u kept (record a { value = v })
covers_left u kept a v differs first more h byte z none =
    no_conflict (within_group u) (record a { value = v }) z.access byte
    (λ o s. let p : (a.first ≤ byte) × (byte < a.first + byte_count a.width) = first_at (record a { value = v }) z.access byte s in
    let e : a.first + (byte - a.first) ≡ byte = omega (arith, p.0) in
    go o s e (h (byte - a.first) (omega (arith, p.0, p.1))))
  where
    go : unordered (within_group u) (record a { value = v }) z.access ≡ true → share (record a { value = v }) z.access byte ≡ true → a.first + (byte - a.first) ≡ byte
        → (differs (byte - a.first) ≡ true) ⊎ (left_at (record a { value = v }) (a.first + (byte - a.first)) ≡ left_at a (a.first + (byte - a.first)))
        → clash_at (within_group u) (record a { value = v }) z.access byte ≡ None
    go o s e (inl d) =
        no_clash (within_group u) (record a { value = v }) z.access byte
        (subst (λ b. CoversAt u kept (record a { value = v }) b) e (more (byte - a.first) d v) z none) o s
    go o s e (inr l) =
        same_left (within_group u) a z.access v byte (subst (λ b. left_at (record a { value = v }) b ≡ left_at a b) e l)
        (no_clash (within_group u) a z.access byte (first byte z none) o s)

-- ---- with one access more

pub on_push : (g : Rule) (z : Entry) (byte : ℕ) (log : List Entry) (e : Entry) → hit_on g z byte (log ++ e ∷ []) ≡ or_else (hit_on g z byte log) (hit_between g e z byte)
on_push g z byte [] e = go (hit_between g e z byte)
  where
    go : (o : Option Hit) → or_else o None ≡ or_else None o
    go None = refl
    go (Some h) = refl
on_push g z byte (y ∷ log) e = ap (or_else (hit_between g y z byte)) (on_push g z byte log e) ∙ go (hit_between g y z byte)
  where
    go : (o : Option Hit) → or_else o (or_else (hit_on g z byte log) (hit_between g e z byte)) ≡ or_else (or_else o (hit_on g z byte log)) (hit_between g e z byte)
    go None = refl
    go (Some h) = refl

no_hit : (g : Rule) (e z : Entry) (byte : ℕ) → hit_between g e z byte ≡ None → conflict_between g e.access z.access byte ≡ None
no_hit g e z byte h = map_none (λ clash. record { clash = clash; earlier = e; later = z; byte = byte }) (conflict_between g e.access z.access byte) h

pub before_push : (u : Bool) (kept : List Entry) (e z : Entry) (byte : ℕ) → hit_on (within_group u) z byte (kept ++ e ∷ []) ≡ None
    → (hit_on (within_group u) z byte kept ≡ None) × (conflict_between (within_group u) e.access z.access byte ≡ None)
before_push u kept e z byte h =
    let r : (hit_on (within_group u) z byte kept ≡ None) × (hit_between (within_group u) e z byte ≡ None) =
    or_else_none (hit_on (within_group u) z byte kept) (hit_between (within_group u) e z byte) (sym (on_push (within_group u) z byte kept e) ∙ h) in
    (r.0, no_hit (within_group u) e z byte r.1)

pub still_covers : (u : Bool) (kept : List Entry) (e : Entry) (x : Access) (byte : ℕ) → CoversAt u kept x byte → CoversAt u (kept ++ e ∷ []) x byte
still_covers u kept e x byte h z none = h z (before_push u kept e z byte none).0

pub covers_own : (u : Bool) (kept : List Entry) (e : Entry) (x : Access) → e.access ≡ x → Covers u (kept ++ e ∷ []) x
covers_own u kept e x s byte z none = subst (λ a. conflict_between (within_group u) a z.access byte ≡ None) s (before_push u kept e z byte none).1

-- of two stores that leave different bytes one clashes with whatever clashes with a third of their kind
two_left : (u : Bool) (a z : Access) (v w byte : ℕ) → (left_at (record a { value = v }) byte ≡ left_at a byte → ⊥)
    → clash_at (within_group u) a z byte ≡ None → clash_at (within_group u) (record a { value = v }) z byte ≡ None → clash_at (within_group u) (record a { value = w }) z byte ≡ None
two_left u a z v w byte ne first later = go (tested (clash a.kind z.kind) (same_store (within_group u) a z byte) first)
  where
    tested : (c : Option Clash) (l : Bool) → (if l then None else c) ≡ None → (c ≡ None) ⊎ (l ≡ true)
    tested c true h = inr refl
    tested c false h = inl h

    whatever : (b : Bool) → (if b then None else clash a.kind z.kind) ≡ clash_at (within_group u) (record a { value = w }) z byte → clash a.kind z.kind ≡ None → clash_at (within_group u) (record a { value = w }) z byte ≡ None
    whatever true e h = sym e
    whatever false e h = sym e ∙ h

    last : (both_store a.kind z.kind && u && (left_at a byte == left_at z byte)) ≡ true → (both_store a.kind z.kind && u && (left_at (record a { value = v }) byte == left_at z byte)) ≡ true → ⊥
    last p q =
        let r : ((both_store a.kind z.kind && u) ≡ true) × ((left_at a byte == left_at z byte) ≡ true) = and_parts _ _ p in
        let s : ((both_store a.kind z.kind && u) ≡ true) × ((left_at (record a { value = v }) byte == left_at z byte) ≡ true) = and_parts _ _ q in
        ne (eqb-true (left_at (record a { value = v }) byte) (left_at z byte) s.1 ∙ sym (eqb-true (left_at a byte) (left_at z byte) r.1))

    kinds : clash a.kind z.kind ≡ None → clash_at (within_group u) (record a { value = w }) z byte ≡ None
    kinds h = whatever (same_store (within_group u) (record a { value = w }) z byte) refl h

    second : (same_store (within_group u) a z byte ≡ true) → (clash a.kind z.kind ≡ None) ⊎ (same_store (within_group u) (record a { value = v }) z byte ≡ true) → clash_at (within_group u) (record a { value = w }) z byte ≡ None
    second p (inl h) = kinds h
    second p (inr q) = absurd (last p q)

    go : (clash a.kind z.kind ≡ None) ⊎ (same_store (within_group u) a z byte ≡ true) → clash_at (within_group u) (record a { value = w }) z byte ≡ None
    go (inl h) = kinds h
    go (inr p) = second p (tested (clash a.kind z.kind) (same_store (within_group u) (record a { value = v }) z byte) later)

pub covers_any : (u : Bool) (kept : List Entry) (e : Entry) (a : Access) (v byte : ℕ) → e.access ≡ record a { value = v } → Covers u kept a
    → (left_at (record a { value = v }) byte ≡ left_at a byte → ⊥) → (w : ℕ) → CoversAt u (kept ++ e ∷ []) (record a { value = w }) byte
covers_any u kept e a v byte s first ne w z none =
    let r : (hit_on (within_group u) z byte kept ≡ None) × (conflict_between (within_group u) e.access z.access byte ≡ None) = before_push u kept e z byte none in
    no_conflict (within_group u) (record a { value = w }) z.access byte
    (λ o h.
    two_left u a z.access v w byte ne (no_clash (within_group u) a z.access byte (first byte z r.0) o h)
    (no_clash (within_group u) (record a { value = v }) z.access byte (subst (λ x. conflict_between (within_group u) x z.access byte ≡ None) s r.1) o h))
