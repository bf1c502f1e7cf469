-- The accesses that are kept for other groups stand for all of them.
use Rattle.std.proofs.Common.{◌≡◌, ℕ, zero, suc, ◌⊎◌, Bool, true, false, if◌then◌else◌, Some, List, [], ◌∷◌, ◌++◌, map, reverse, refl, sym, ap, ◌∙◌, subst, inl, inr, eqb-true}
use Rattle.std.specs.Prelude.{Result, Ok, Err, IfOk}
use Rattle.std.specs.declared.alloc.AllocError.{AllocError}
use Rattle.std.proofs.lemmas.Bool.{false≢true, and_parts}
use Rattle.std.proofs.lemmas.List.{append-nil}
use Rattle.clmodel.specs.Cells.{byte_count, covers}
use Rattle.clmodel.specs.Launch.{same_region}
use Rattle.clmodel.proofs.Steps.{none_some, some_inj, decided}
use Rattle.clmodel.specs.declared.access.Access.{Access}
use Rattle.clmodel.specs.declared.access.Region.{Region}
use Rattle.clmodel.specs.declared.access.Region.TheVariants as region
use Rattle.joining.specs.Memory.{at_byte}
use Rattle.shadow.specs.Lasting.{AbsorbedAt, Absorbed, StandsFor, EndsWith, StandsWith}
use Rattle.shadow.specs.Seen.{seen, seen_with, mark_of}
use Rattle.access_list.specs.Log.{in_buffer, Log, logged}
use Rattle.shadow.proofs.Absorbing.{onto}
use Rattle.shadow.proofs.Listing.{onto_is}
use Rattle.shadow.specs.declared.group_accesses.AccessSummary.{AccessSummary}
use Rattle.access_list.specs.declared.log.Entry.{Entry}
use Rattle.group_log.specs.Lasting.{all_of, short_of, last_of, made, Stays, LeavesOut}
use Rattle.group_log.specs.declared.group.GroupLog.{GroupLog}

-- ---- what stays

absorbed_at :
    (earlier : List Access) (x : Access) (r : Region) (number byte : ℕ) → x.region ≡ r → AbsorbedAt r earlier x → same_region (region.Buffer number) x.region ≡ true
    → at_byte (region.Buffer number) byte x ≡ true → seen_with (seen (region.Buffer number) byte earlier) (mark_of x byte) ≡ seen (region.Buffer number) byte earlier
absorbed_at earlier x (region.Local g n) number byte same h one at = absurd (false≢true (sym (ap (same_region (region.Buffer number)) same) ∙ one))
absorbed_at earlier x (region.Buffer m) number byte same h one at =
    subst (λ z. at_byte (region.Buffer z) byte x ≡ true → seen_with (seen (region.Buffer z) byte earlier) (mark_of x byte) ≡ seen (region.Buffer z) byte earlier)
    (sym (eqb-true number m (sym (ap (same_region (region.Buffer number)) same) ∙ one))) (h byte) at

-- an access that is absorbed changes nothing of what is kept
pub absorbed_stays : (earlier : List Access) (x : Access) → Absorbed earlier x → Stays earlier x
absorbed_stays earlier x h number byte =
    decided (at_byte (region.Buffer number) byte x)
    (λ e. ap (λ b. if b then seen_with (seen (region.Buffer number) byte earlier) (mark_of x byte) else seen (region.Buffer number) byte earlier) e
    ∙ absorbed_at earlier x x.region number byte refl h (and_parts (same_region (region.Buffer number) x.region) (covers x.first (byte_count x.width) byte) e).0 e)
    (λ e. ap (λ b. if b then seen_with (seen (region.Buffer number) byte earlier) (mark_of x byte) else seen (region.Buffer number) byte earlier) e)

pub stays_absorbed : (earlier : List Access) (x : Access) → Stays earlier x → Absorbed earlier x
stays_absorbed earlier x h = go x.region
  where
    go : (r : Region) → AbsorbedAt r earlier x
    go (region.Local group number) = tt
    go (region.Buffer number) = λ byte at. sym (ap (λ b. if b then seen_with (seen (region.Buffer number) byte earlier) (mark_of x byte) else seen (region.Buffer number) byte earlier) at) ∙ h number byte

-- ---- all of them

pub stands : (earlier : List Access) (items : List (Entry × Bool)) → LeavesOut earlier items → StandsFor earlier (short_of items) (all_of items)
stands earlier [] h = refl
stands earlier ((x, true) ∷ items) h = inr (short_of items, refl, stands (x.access ∷ earlier) items (λ k y e. h (suc k) y e))
stands earlier ((x, false) ∷ items) h = inl (stays_absorbed earlier x.access (h zero x refl), stands (x.access ∷ earlier) items (λ k y e. h (suc k) y e))

-- ---- one more

pub made_more : (earlier : List Access) (items : List (Entry × Bool)) (n : Entry × Bool) → made earlier (items ++ n ∷ []) ≡ n.0.access ∷ made earlier items
made_more earlier [] n = refl
made_more earlier (m ∷ items) n = made_more (m.0.access ∷ earlier) items n

pub short_more : (items : List (Entry × Bool)) (x : Entry) (f : Bool) → short_of (items ++ (x, f) ∷ []) ≡ (if f then short_of items ++ x ∷ [] else short_of items)
short_more [] x true = refl
short_more [] x false = refl
short_more ((y, true) ∷ items) x true = ap (λ l. y ∷ l) (short_more items x true)
short_more ((y, true) ∷ items) x false = ap (λ l. y ∷ l) (short_more items x false)
short_more ((y, false) ∷ items) x f = short_more items x f

pub last_more : (last : Bool) (items : List (Entry × Bool)) (x : Entry) (f : Bool) → last_of last (items ++ (x, f) ∷ []) ≡ f
last_more last [] x f = refl
last_more last (m ∷ items) x f = last_more m.1 items x f

pub all_more : (items : List (Entry × Bool)) (x : Entry) (f : Bool) → all_of (items ++ (x, f) ∷ []) ≡ all_of items ++ x ∷ []
all_more [] x f = refl
all_more (m ∷ items) x f = ap (λ l. m.0 ∷ l) (all_more items x f)

pub left_out_more :
    (earlier : List Access) (items : List (Entry × Bool)) (x : Entry) (f : Bool) → LeavesOut earlier items → (f ≡ false → Stays (made earlier items) x.access) → LeavesOut earlier (items ++ (x, f) ∷ [])
left_out_more earlier [] x f h s zero y e =
    subst (λ z. Stays earlier z.access) {x = x} {y = y} (ap (λ n. n.0) (some_inj (x, f) (y, false) e)) (s (ap (λ n. n.1) (some_inj (x, f) (y, false) e)))
left_out_more earlier [] x f h s (suc k) y e = absurd (none_some (y, false) e)
left_out_more earlier (m ∷ items) x f h s zero y e = h zero y e
left_out_more earlier (m ∷ items) x f h s (suc k) y e = left_out_more (m.0.access ∷ earlier) items x f (λ j z d. h (suc j) z d) s k y e

left_out_less :
    (earlier : List Access) (items : List (Entry × Bool)) (n : Entry × Bool) → LeavesOut earlier (items ++ n ∷ [])
    → LeavesOut earlier items × (n.1 ≡ false → Stays (made earlier items) n.0.access)
left_out_less earlier [] n h = (λ k y e. absurd (none_some (y, false) e), λ f. h zero n.0 (ap (λ b. Some (n.0, b)) f))
left_out_less earlier (m ∷ items) n h =
    let rest : LeavesOut (m.0.access ∷ earlier) items × (n.1 ≡ false → Stays (made (m.0.access ∷ earlier) items) n.0.access) =
    left_out_less (m.0.access ∷ earlier) items n (λ j z d. h (suc j) z d) in
    (front rest.0, rest.1)
  where
    front : LeavesOut (m.0.access ∷ earlier) items → LeavesOut earlier (m ∷ items)
    front rest zero y e = h zero y e
    front rest (suc k) y e = rest k y e

-- ---- the list that other groups ask

made_onto : (earlier : List Access) (items : List (Entry × Bool)) → made earlier items ≡ onto (all_of items) earlier
made_onto earlier [] = refl
made_onto earlier (m ∷ items) = made_onto (m.0.access ∷ earlier) items

made_is : (items : List (Entry × Bool)) → made [] items ≡ map (λ (e : Entry). e.access) (reverse (all_of items))
made_is items = made_onto [] items ∙ onto_is (all_of items) [] ∙ append-nil (map (λ (e : Entry). e.access) (reverse (all_of items)))

ends :
    (front : List (Entry × Bool)) (x : Entry) (f : Bool) → LeavesOut [] front → (f ≡ false → Stays (made [] front) x.access) → EndsWith f (short_of (front ++ (x, f) ∷ [])) (all_of front) x
ends front x true h s = (short_of front, short_more front x true, stands [] front h)
ends front x false h s = (
  subst (λ z. StandsFor [] z (all_of front)) (sym (short_more front x false)) (stands [] front h),
  subst (λ l. Absorbed l x.access) (made_is front) (stays_absorbed (made [] front) x.access (s refl)),
)

split : (items : List (Entry × Bool)) → (items ≡ []) ⊎ ((front : List (Entry × Bool)) × (x : Entry) × (f : Bool) × (items ≡ front ++ (x, f) ∷ []))
split [] = inl refl
split (m ∷ items) = inr (go m items)
  where
    go : (m : Entry × Bool) (items : List (Entry × Bool)) → (front : List (Entry × Bool)) × (x : Entry) × (f : Bool) × (m ∷ items ≡ front ++ (x, f) ∷ [])
    go m [] = ([], m.0, m.1, refl)
    go m (n ∷ items) = let r = go n items in (m ∷ r.0, r.1, r.2, ap (λ l. m ∷ l) r.3)

-- what is kept for other groups stands for all accesses
pub short_stands : (items : List (Entry × Bool)) → LeavesOut [] items → StandsWith (last_of false items) (short_of items) (all_of items)
short_stands items h = go (split items)
  where
    go : (items ≡ []) ⊎ ((front : List (Entry × Bool)) × (x : Entry) × (f : Bool) × (items ≡ front ++ (x, f) ∷ [])) → StandsWith (last_of false items) (short_of items) (all_of items)
    go (inl e) = inl (ap short_of e, ap all_of e)
    go (inr (front, x, f, e)) =
        let r : LeavesOut [] front × (f ≡ false → Stays (made [] front) x.access) = left_out_less [] front (x, f) (subst (LeavesOut []) e h) in
        subst (λ z. StandsWith (last_of false z) (short_of z) (all_of z)) (sym e)
        (inr (
          all_of front,
          x,
          all_more front x f,
          subst (λ b. EndsWith b (short_of (front ++ (x, f) ∷ [])) (all_of front) x) (sym (last_more false front x f)) (ends front x f r.0 r.1),
        ))

-- the same of a log, and of a list that is made of it
pub log_stands : (l : GroupLog) → StandsWith l.lasting.has_last l.lasting.entries.items (all_of l.whole.items)
log_stands l =
    subst (λ b. StandsWith b l.lasting.entries.items (all_of l.whole.items)) (sym l.has_last)
    (subst (λ s. StandsWith (last_of false l.whole.items) s (all_of l.whole.items)) (sym l.entries) (short_stands l.whole.items l.left_out))

pub list_stands :
    (l : GroupLog) (r : Result AccessSummary AllocError) → IfOk r (λ list. list.entries.items ≡ l.lasting.entries.items) → IfOk r (λ list. list.has_last ≡ l.lasting.has_last)
    → IfOk r (λ list. StandsWith list.has_last list.entries.items (all_of l.whole.items))
list_stands l (Ok list) entries last =
    subst (λ b. StandsWith b list.entries.items (all_of l.whole.items)) (sym last) (subst (λ s. StandsWith l.lasting.has_last s (all_of l.whole.items)) (sym entries) (log_stands l))
list_stands l (Err error) entries last = tt

-- ---- one access more of a log

-- an access of local memory changes nothing of what is kept for other groups
pub local_stays : (earlier : List Access) (x : Access) → in_buffer x.region ≡ false → Stays earlier x
local_stays earlier x h = absorbed_stays earlier x (go x.region h)
  where
    go : (r : Region) → in_buffer r ≡ false → AbsorbedAt r earlier x
    go (region.Buffer n) e = absurd (false≢true (sym e))
    go (region.Local g n) e = tt

pub none_left_out : LeavesOut [] []
none_left_out k x e = absurd (none_some (x, false) e)

abbrev pub log_of : GroupLog → Log
log_of l = logged (all_of l.whole.items) l.local.interval l.global.interval l.global.uniform
