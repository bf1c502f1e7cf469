-- The entries of a log, one after another.
use Rattle.std.proofs.Common.{◌≡◌, Bool, ℕ, ◌+◌, ◌<◌, ◌≤◌, ◌⊎◌, None, Some, List, [], ◌∷◌, ◌++◌, length, take, map, refl, sym, ap, ◌∙◌, subst, inl, inr, arith, add-one, get_or}
use Rattle.std.specs.Prelude.{slice_get}
use Rattle.std.proofs.lemmas.Bool.{cases_lt}
use Rattle.std.proofs.lemmas.Grind.{flat_map-append}
use Rattle.std.proofs.lemmas.List.{append-nil, reverse-append}
use Rattle.std.proofs.lemmas.Option.{slice_get-get_or}
use Rattle.clmodel.specs.declared.access.Access.{Access}
use Rattle.clmodel.proofs.Steps.{some_inj, map_none, map_some}
use Rattle.group_run.specs.Logs.{accesses_of}
use Rattle.access_list.specs.declared.log.Entry.{Entry}
use Rattle.group_join.specs.Changes.{AreChanged, access_changes, changes_of}
use Rattle.shadow.specs.Seen.{met_at}
use Rattle.shadow.proofs.Listing.{take_next}
use Rattle.group_join.proofs.Changing.{changed_more}
use Rattle.group_join.specs.Conflicts.{conflict_at}
use Rattle.group_join.specs.Meetings.{MissUpTo, IsFirstMet}
use Rattle.group_join.specs.declared.meetings.FirstConflict.{FirstConflict}

pub entry_at : (xs : List Entry) (i : ℕ) (x : Entry) → i < length xs → x ≡ get_or xs i x → slice_get xs i ≡ Some x
entry_at xs i x h e = slice_get-get_or xs i x h ∙ ap Some (sym e)

pub take_one : (xs : List Entry) (i : ℕ) (x : Entry) → slice_get xs i ≡ Some x → take (i + 1) xs ≡ take i xs ++ x ∷ []
take_one xs i x h = ap (λ n. take n xs) (add-one i) ∙ take_next xs i x h

pub miss_more :
    (u : Bool) (xs : List Entry) (kept : List Access) (i : ℕ) (x : Entry) → slice_get xs i ≡ Some x → met_at u x.access.region x.access kept ≡ None → MissUpTo u xs kept i
    → MissUpTo u xs kept (i + 1)
miss_more u xs kept i x h n m k e b q = go (cases_lt k i)
  where
    go : (k < i) ⊎ (i ≤ k) → met_at u e.access.region e.access kept ≡ None
    go (inl a) = m k e a q
    go (inr a) =
        let s : k ≡ i = omega (arith, a, b) in
        let y : x ≡ e = some_inj x e (sym h ∙ ap (slice_get xs) (sym s) ∙ q) in subst (λ (z : Entry). met_at u z.access.region z.access kept ≡ None) y n

-- an entry without a conflict doesn't meet
pub miss_at : (u last : Bool) (xs : List Entry) (kept : List Access) (i : ℕ) (x : Entry) → conflict_at u last xs kept i x ≡ None → met_at u x.access.region x.access kept ≡ None
miss_at u last xs kept i x h = map_none _ (met_at u x.access.region x.access kept) h

-- an entry with a conflict is the first that meets where none before it does
pub first_at :
    (u last : Bool) (xs : List Entry) (kept : List Access) (i : ℕ) (x : Entry) (met : FirstConflict) → slice_get xs i ≡ Some x → MissUpTo u xs kept i → conflict_at u last xs kept i x ≡ Some met
    → IsFirstMet u last xs kept (Some met)
first_at u last xs kept i x met h m c =
    let found = map_some _ (met_at u x.access.region x.access kept) met c in
    subst (λ (z : FirstConflict). IsFirstMet u last xs kept (Some z)) found.2 (i, h, m, found.1, refl)

pub accesses_more : (xs : List Entry) (i : ℕ) (x : Entry) → slice_get xs i ≡ Some x → accesses_of (take (i + 1) xs) ≡ x.access ∷ accesses_of (take i xs)
accesses_more xs i x h = ap accesses_of (take_one xs i x h) ∙ ap (map (λ (y : Entry). y.access)) (reverse-append (take i xs) (x ∷ []))

-- the changes of one more entry
pub changes_more :
    (value : ℕ → Access → ℕ → ℕ) (first mid last : List (List ℕ)) (xs : List Entry) (i : ℕ) (x : Entry) → slice_get xs i ≡ Some x → AreChanged first mid (changes_of value (take i xs))
    → AreChanged mid last (access_changes value x.access) → AreChanged first last (changes_of value (take (i + 1) xs))
changes_more value first mid last xs i x h some one =
    subst (AreChanged first last)
    (ap (λ z. changes_of value (take i xs) ++ z) (sym (append-nil (access_changes value x.access)))
    ∙ sym (flat_map-append (λ (e : Entry). access_changes value e.access) (take i xs) (x ∷ []))
    ∙ ap (changes_of value) (sym (take_one xs i x h)))
    (changed_more first mid last (changes_of value (take i xs)) (access_changes value x.access) some one)
