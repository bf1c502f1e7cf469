-- Updates that are kept before any change, and are found again when the changes are made.
use Rattle.std.proofs.Common.{◌≡◌, ℕ, suc, ◌+◌, ◌<◌, ◌≤◌, ◌⊎◌, ◌==◌, true, false, is_some, Option, None, Some, List, [], ◌∷◌, ◌++◌, length, take, drop, refl, sym, ap, ◌∙◌, subst, inl, inr, arith, eq-eqb, get_or}
use Rattle.std.specs.Prelude.{slice_get}
use Rattle.std.proofs.lemmas.Bool.Decides.{eqb_tells}
use Rattle.std.proofs.lemmas.List.{drop-drop, drop_more, length-take-le}
use Rattle.clmodel.specs.declared.access.Access.{Access}
use Rattle.clmodel.proofs.Steps.{if_true, if_false}
use Rattle.access_list.specs.declared.log.Entry.{Entry}
use Rattle.group_join.specs.declared.changes.JoinedUpdate.{JoinedUpdate}
use Rattle.group_join.specs.Changes.{IsKept, AreUpdates, kept_at, next_after}
use Rattle.group_join.specs.Comparing.{with_update}
use Rattle.group_join.proofs.Entries.{take_one}

-- ---- no update

-- of accesses of which nothing is kept
pub updates_none : (value : ℕ → Access → ℕ → ℕ) (own : List (List (Option ℕ))) → ((x : Access) → IsKept value own x None) → (place : ℕ) (xs : List Entry) → AreUpdates value own place xs []
updates_none value own h place [] = refl
updates_none value own h place (x ∷ xs) = inl (h x.access, updates_none value own h (suc place) xs)

-- ---- one more access

skipped :
    (value : ℕ → Access → ℕ → ℕ) (own : List (List (Option ℕ))) (place : ℕ) (xs : List Entry) (x : Entry) (updates : List JoinedUpdate) → AreUpdates value own place xs updates
    → IsKept value own x.access None → AreUpdates value own place (xs ++ x ∷ []) updates
skipped value own place [] x updates h k = inl (k, h)
skipped value own place (y ∷ xs) x updates (inl h) k = inl (h.0, skipped value own (suc place) xs x updates h.1 k)
skipped value own place (y ∷ xs) x updates (inr (v, later, e, q, h)) k = inr (v, later, e, q, skipped value own (suc place) xs x later h k)

pushed :
    (value : ℕ → Access → ℕ → ℕ) (own : List (List (Option ℕ))) (place : ℕ) (xs : List Entry) (x : Entry) (updates : List JoinedUpdate) (update : JoinedUpdate)
    → AreUpdates value own place xs updates → update.place ≡ place + length xs → IsKept value own x.access (Some update.value)
    → AreUpdates value own place (xs ++ x ∷ []) (updates ++ update ∷ [])
pushed value own place [] x updates update h p k =
    let here : update.place ≡ place = omega (arith, p) in
    inr (update.value, [], ap (λ us. us ++ update ∷ []) h ∙ ap (λ n. record { place = n; value = update.value } ∷ []) here, k, refl)
pushed value own place (y ∷ xs) x updates update (inl h) p k = inl (h.0, pushed value own (suc place) xs x updates update h.1 (omega (arith, p)) k)
pushed value own place (y ∷ xs) x updates update (inr (v, later, e, q, h)) p k =
    inr (v, later ++ update ∷ [], ap (λ us. us ++ update ∷ []) e, q, pushed value own (suc place) xs x later update h (omega (arith, p)) k)

-- an access of which nothing is kept
pub updates_skip :
    (value : ℕ → Access → ℕ → ℕ) (own : List (List (Option ℕ))) (xs : List Entry) (i : ℕ) (x : Entry) (updates : List JoinedUpdate) → slice_get xs i ≡ Some x
    → IsKept value own x.access None → AreUpdates value own 0 (take i xs) updates → AreUpdates value own 0 (take (i + 1) xs) updates
updates_skip value own xs i x updates at k h =
    subst (λ ys. AreUpdates value own 0 ys updates) (sym (take_one xs i x at)) (skipped value own 0 (take i xs) x updates h k)

-- an access of which a number is kept
pub updates_push :
    (value : ℕ → Access → ℕ → ℕ) (own : List (List (Option ℕ))) (xs : List Entry) (i v : ℕ) (x : Entry) (old new : List JoinedUpdate) → i < length xs → slice_get xs i ≡ Some x
    → new ≡ old ++ record { place = i; value = v } ∷ [] → IsKept value own x.access (Some v) → AreUpdates value own 0 (take i xs) old → AreUpdates value own 0 (take (i + 1) xs) new
updates_push value own xs i v x old new b at e k h =
    let long : length (take i xs) ≡ i = length-take-le i xs (omega (arith, b)) in
    subst (AreUpdates value own 0 (take (i + 1) xs)) (sym e)
    (subst (λ ys. AreUpdates value own 0 ys (old ++ record { place = i; value = v } ∷ [])) (sym (take_one xs i x at))
    (pushed value own 0 (take i xs) x old (record { place = i; value = v }) h (omega (arith, long)) k))

-- an access of which this is kept
pub updates_more :
    (value : ℕ → Access → ℕ → ℕ) (own : List (List (Option ℕ))) (xs : List Entry) (i : ℕ) (x : Entry) (old new : List JoinedUpdate) (kept : Option ℕ) → i < length xs → slice_get xs i ≡ Some x
    → new ≡ with_update old i kept → IsKept value own x.access kept → AreUpdates value own 0 (take i xs) old → AreUpdates value own 0 (take (i + 1) xs) new
updates_more value own xs i x old new None b at e k h = subst (AreUpdates value own 0 (take (i + 1) xs)) (sym e) (updates_skip value own xs i x old at k h)
updates_more value own xs i x old new (Some v) b at e k h = updates_push value own xs i v x old new b at e k h

-- ---- the next access

-- the first of them is of no earlier place
first_place :
    (value : ℕ → Access → ℕ → ℕ) (own : List (List (Option ℕ))) (place : ℕ) (xs : List Entry) (update : JoinedUpdate) (updates : List JoinedUpdate)
    → AreUpdates value own place xs (update ∷ updates) → place ≤ update.place
first_place value own place [] update updates h = absurd (cc h)
first_place value own place (x ∷ xs) update updates (inl h) = omega (arith, first_place value own (suc place) xs update updates h.1)
first_place value own place (x ∷ xs) update updates (inr (v, later, e, q, h)) =
    let here : update.place ≡ place = ap (λ us. first_of us update.place) e in omega (arith, here)
  where
    first_of : List JoinedUpdate → ℕ → ℕ
    first_of [] n = n
    first_of (u ∷ us) n = u.place

none_here :
    (value : ℕ → Access → ℕ → ℕ) (own : List (List (Option ℕ))) (place : ℕ) (xs : List Entry) (updates : List JoinedUpdate) → AreUpdates value own (suc place) xs updates → kept_at place updates ≡ None
none_here value own place xs [] h = refl
none_here value own place xs (update ∷ updates) h = go (eqb_tells update.place place)
  where
    go : (((update.place == place) ≡ true) × (update.place ≡ place)) ⊎ (((update.place == place) ≡ false) × (update.place ≡ place → ⊥)) → kept_at place (update ∷ updates) ≡ None
    go (inl e) = absurd (omega (arith, e.1, first_place value own (suc place) xs update updates h))
    go (inr e) = if_false (update.place == place) (Some update.value) None e.0

some_here : (place v : ℕ) (later updates : List JoinedUpdate) → updates ≡ record { place = place; value = v } ∷ later → kept_at place updates ≡ Some v
some_here place v later updates e = ap (kept_at place) e ∙ if_true (place == place) (Some v) None (eq-eqb place place refl)

-- what is found of the first access is what is kept of it
first_kept :
    (value : ℕ → Access → ℕ → ℕ) (own : List (List (Option ℕ))) (place : ℕ) (x : Entry) (xs : List Entry) (updates : List JoinedUpdate) → AreUpdates value own place (x ∷ xs) updates
    → IsKept value own x.access (kept_at place updates)
first_kept value own place x xs updates (inl h) = subst (IsKept value own x.access) (sym (none_here value own place xs updates h.1)) h.0
first_kept value own place x xs updates (inr (v, later, e, q, h)) = subst (IsKept value own x.access) (sym (some_here place v later updates e)) q

-- the others are those of the later accesses, where nothing was found of the first and where a number was
then_same :
    (value : ℕ → Access → ℕ → ℕ) (own : List (List (Option ℕ))) (place : ℕ) (x : Entry) (xs : List Entry) (updates : List JoinedUpdate) → AreUpdates value own place (x ∷ xs) updates
    → kept_at place updates ≡ None → AreUpdates value own (suc place) xs updates
then_same value own place x xs updates (inl h) k = h.1
then_same value own place x xs updates (inr (v, later, e, q, h)) k = absurd (cc (some_here place v later updates e, k))

then_fewer :
    (value : ℕ → Access → ℕ → ℕ) (own : List (List (Option ℕ))) (place v : ℕ) (x : Entry) (xs : List Entry) (updates : List JoinedUpdate) → AreUpdates value own place (x ∷ xs) updates
    → kept_at place updates ≡ Some v → AreUpdates value own (suc place) xs (drop 1 updates)
then_fewer value own place v x xs updates (inl h) k = absurd (cc (none_here value own place xs updates h.1, k))
then_fewer value own place v x xs updates (inr (w, later, e, q, h)) k = subst (AreUpdates value own (suc place) xs) (sym (ap (drop 1) e)) h

-- the accesses from a place on
from_here : (xs : List Entry) (i : ℕ) (x : Entry) → i < length xs → x ≡ get_or xs i x → drop i xs ≡ x ∷ drop (i + 1) xs
from_here xs i x b e = drop_more xs i x b ∙ ap (λ (y : Entry). y ∷ drop (i + 1) xs) (sym e)

pub kept_here :
    (value : ℕ → Access → ℕ → ℕ) (own : List (List (Option ℕ))) (xs : List Entry) (i next : ℕ) (x : Entry) (updates : List JoinedUpdate) (kept : Option ℕ) → i < length xs → x ≡ get_or xs i x
    → kept ≡ kept_at i (drop next updates) → AreUpdates value own i (drop i xs) (drop next updates) → IsKept value own x.access kept
kept_here value own xs i next x updates kept b e k h =
    subst (IsKept value own x.access) (sym k)
    (first_kept value own i x (drop (i + 1) xs) (drop next updates) (subst (λ ys. AreUpdates value own i ys (drop next updates)) (from_here xs i x b e) h))

pub after_none :
    (value : ℕ → Access → ℕ → ℕ) (own : List (List (Option ℕ))) (xs : List Entry) (i next : ℕ) (x : Entry) (updates : List JoinedUpdate) (kept : Option ℕ) → i < length xs → x ≡ get_or xs i x
    → kept ≡ kept_at i (drop next updates) → is_some kept ≡ false → AreUpdates value own i (drop i xs) (drop next updates)
    → AreUpdates value own (i + 1) (drop (i + 1) xs) (drop next updates)
after_none value own xs i next x updates (Some v) b e k n h = absurd (cc n)
after_none value own xs i next x updates None b e k n h =
    let one : suc i ≡ i + 1 = omega arith in
    subst (λ n. AreUpdates value own n (drop (i + 1) xs) (drop next updates)) one
    (then_same value own i x (drop (i + 1) xs) (drop next updates) (subst (λ ys. AreUpdates value own i ys (drop next updates)) (from_here xs i x b e) h) (sym k))

pub after_some :
    (value : ℕ → Access → ℕ → ℕ) (own : List (List (Option ℕ))) (xs : List Entry) (i next : ℕ) (x : Entry) (updates : List JoinedUpdate) (kept : Option ℕ) → i < length xs → x ≡ get_or xs i x
    → kept ≡ kept_at i (drop next updates) → is_some kept ≡ true → AreUpdates value own i (drop i xs) (drop next updates)
    → AreUpdates value own (i + 1) (drop (i + 1) xs) (drop (next + 1) updates)
after_some value own xs i next x updates None b e k n h = absurd (cc n)
after_some value own xs i next x updates (Some v) b e k n h =
    let one : suc i ≡ i + 1 = omega arith in
    subst (λ n. AreUpdates value own n (drop (i + 1) xs) (drop (next + 1) updates)) one
    (subst (AreUpdates value own (suc i) (drop (i + 1) xs)) (drop-drop 1 next updates)
    (then_fewer value own i v x (drop (i + 1) xs) (drop next updates) (subst (λ ys. AreUpdates value own i ys (drop next updates)) (from_here xs i x b e) h) (sym k)))

pub after_next :
    (value : ℕ → Access → ℕ → ℕ) (own : List (List (Option ℕ))) (xs : List Entry) (i next : ℕ) (x : Entry) (updates : List JoinedUpdate) (kept : Option ℕ) → i < length xs → x ≡ get_or xs i x
    → kept ≡ kept_at i (drop next updates) → AreUpdates value own i (drop i xs) (drop next updates)
    → AreUpdates value own (i + 1) (drop (i + 1) xs) (drop (next_after next kept) updates)
after_next value own xs i next x updates None b e k h = after_none value own xs i next x updates None b e k refl h
after_next value own xs i next x updates (Some v) b e k h = after_some value own xs i next x updates (Some v) b e k refl h

pub next_within : (next i : ℕ) (kept : Option ℕ) → next ≤ i → next_after next kept ≤ i + 1
next_within next i None h = omega (arith, h)
next_within next i (Some v) h = omega (arith, h)
