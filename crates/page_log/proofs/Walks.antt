-- Walks from the newest access of a list to the oldest, past those that share no page with one.
use Rattle.std.proofs.Common.{◌≡◌, ℕ, zero, suc, ◌+◌, ◌-◌, ◌<◌, ◌≤◌, ◌⊎◌, Bool, true, false, cond, Some, List, [], ◌∷◌, ◌++◌, length, drop, refl, sym, ap, ◌∙◌, subst, inl, inr, arith, zero-add, add_comm}
use Rattle.std.specs.Prelude.{All, IsTrue, slice_get, slice_index_or}
use Rattle.std.specs.HashMap.{HashMap, get}
use Rattle.std.specs.Option.{unwrap_or}
use Rattle.std.proofs.lemmas.Bool.{false≢true, cases_lt}
use Rattle.std.proofs.lemmas.List.{get_or_push, get_or_append_left}
use Rattle.std.proofs.lemmas.List.Sums.{sum_by-cons}
use Rattle.clmodel.proofs.Steps.{decided}
use Rattle.std.proofs.lemmas.Option.{slice_get_within, same_Some, get_or_from_slice_get}
use Rattle.clmodel.specs.declared.access.Access.{Access}
use Rattle.clmodel.specs.declared.access.Rule.{Rule}
use Rattle.access_list.specs.Log.{IsThere, hit}
use Rattle.access_list.specs.declared.log.Entry.{Entry}
use Rattle.page_log.specs.Pages.{share_page, IsOnOnePage, page_of, begins_in, same_page, newest_of, count_on_page, IsNewest, IsIndexed}
use Rattle.page_log.specs.Tally.{IsTally, lower_hit, hit_with}
use Rattle.page_log.specs.declared.pages.Page.{Page}
use Rattle.page_log.specs.declared.tally.Tally.{Tally}
use Rattle.page_log.proofs.Joined.{headed}
use Rattle.page_log.proofs.Sharing.{apart_none, own_shares, shares_as_begins, one_page}

-- ---- one access more

count_more : (x : Access) (y : Entry) (log : List Entry) → count_on_page x (y ∷ log) ≡ cond (share_page x y.access) 1 0 + count_on_page x log
count_more x y log = sum_by-cons (λ (e : Entry). cond (share_page x e.access) 1 0) y log

-- one that shares no page is passed over
passed : (g : Rule) (x y : Entry) (log : List Entry) (t : Tally) → share_page x.access y.access ≡ false → IsTally g x log t → IsTally g x (y ∷ log) t
passed g x y log t h k = record {
  found = k.found ∙ sym (headed g x y log ∙ ap (λ o. lower_hit o (hit g x log)) (apart_none g x y h));
  there = λ e. inr (k.there e);
  new = λ e w. others e w;
  compared = k.compared ∙ sym (count_more x.access y log ∙ ap (λ (b : Bool). cond b 1 0 + count_on_page x.access log) h ∙ zero-add (count_on_page x.access log));
}
  where
    others : t.is_there ≡ false → (y.access ≡ x.access) ⊎ IsThere log x.access → ⊥
    others e (inl s) = false≢true (sym h ∙ ap (share_page x.access) s ∙ own_shares x.access)
    others e (inr w) = k.new e w

-- one that shares a page is compared and counted
pub counted :
    (g : Rule) (x y : Entry) (log : List Entry) (t n : Tally) → share_page x.access y.access ≡ true → n.found ≡ lower_hit (hit_with g x y) t.found
    → (IsTrue n.is_there → (y.access ≡ x.access) ⊎ IsTrue t.is_there) → (n.is_there ≡ false → (y.access ≡ x.access → ⊥) × (t.is_there ≡ false))
    → n.compared ≡ t.compared + 1 → IsTally g x log t → IsTally g x (y ∷ log) n
counted g x y log t n h found there new compared k = record {
  found = found ∙ ap (lower_hit (hit_with g x y)) k.found ∙ sym (headed g x y log);
  there = λ e. those (there e);
  new = λ e w. others (new e) w;
  compared =
      compared ∙ ap (λ m. m + 1) k.compared ∙ add_comm (count_on_page x.access log) 1
      ∙ sym (count_more x.access y log ∙ ap (λ (b : Bool). cond b 1 0 + count_on_page x.access log) h);
}
  where
    those : (y.access ≡ x.access) ⊎ IsTrue t.is_there → (y.access ≡ x.access) ⊎ IsThere log x.access
    those (inl s) = inl s
    those (inr e) = inr (k.there e)

    others : (y.access ≡ x.access → ⊥) × (t.is_there ≡ false) → (y.access ≡ x.access) ⊎ IsThere log x.access → ⊥
    others f (inl s) = f.0 s
    others f (inr w) = k.new f.1 w

drop_at : (log : List Entry) (i : ℕ) (y : Entry) → slice_get log i ≡ Some y → drop i log ≡ y ∷ drop (suc i) log
drop_at [] i y h = cc
drop_at (z ∷ log) zero y h = ap (λ w. w ∷ log) (same_Some z y h)
drop_at (z ∷ log) (suc i) y h = drop_at log i y h

-- there is one access at a place
pub one_at : (log : List Entry) (i j : ℕ) (a b : Entry) → slice_get log i ≡ Some a → slice_get log j ≡ Some b → i ≡ j → a ≡ b
one_at log i j a b p q e = same_Some a b (sym p ∙ ap (slice_get log) e ∙ q)

pub there_is : (log : List Entry) (i : ℕ) → i < length log → (y : Entry) × (slice_get log i ≡ Some y)
there_is [] i h = absurd (omega (arith, h))
there_is (y ∷ log) zero h = (y, refl)
there_is (y ∷ log) (suc i) h = there_is log i (omega (arith, h))

-- so are all between two places where none shares one
pub skipped : (g : Rule) (x : Entry) (log : List Entry) (t : Tally) (n place : ℕ) → n ≤ length log → IsNewest (share_page x.access) log n place
    → IsTally g x (drop n log) t → IsTally g x (drop place log) t
skipped g x log t n place b w k = go (n - place) (omega (arith, w.within)) (subst (λ i. IsTally g x (drop i log) t) {x = n} {y = place + (n - place)} (omega (arith, w.within)) k)
  where
    one : (i : ℕ) → place ≤ i → i < n → IsTally g x (drop (suc i) log) t → IsTally g x (drop i log) t
    one i lo hi k =
        let y : (y : Entry) × (slice_get log i ≡ Some y) = there_is log i (omega (arith, hi, b)) in
        subst (λ l. IsTally g x l t) (sym (drop_at log i y.0 y.1)) (passed g x y.0 (drop (suc i) log) t (w.others i y.0 lo hi y.1) k)

    go : (d : ℕ) → place + d ≤ n → IsTally g x (drop (place + d) log) t → IsTally g x (drop place log) t
    go zero h k = subst (λ i. IsTally g x (drop i log) t) {x = place + 0} {y = place} (omega arith) k
    go (suc d) h k =
        go d (omega (arith, h))
        (one (place + d) (omega arith) (omega (arith, h)) (subst (λ i. IsTally g x (drop i log) t) {x = place + suc d} {y = suc (place + d)} (omega arith) k))

-- one step of a walk
pub stepped : (g : Rule) (x y : Entry) (log : List Entry) (t : Tally) (i place : ℕ) → slice_get log i ≡ Some y → IsTally g x (y ∷ drop (i + 1) log) t
    → IsNewest (share_page x.access) log i place → IsTally g x (drop place log) t
stepped g x y log t i place e k w =
    skipped g x log t i place (omega (arith, slice_get_within log i y e)) w
    (subst (λ l. IsTally g x l t) (ap (λ n. y ∷ drop n log) {x = i + 1} {y = suc i} (omega arith) ∙ sym (drop_at log i y e)) k)

-- ---- links

-- a test that says the same of each access finds the same
newest_as : (p q : Access → Bool) (log : List Entry) (n place : ℕ) → ((i : ℕ) (y : Entry) → slice_get log i ≡ Some y → q y.access ≡ p y.access)
    → IsNewest p log n place → IsNewest q log n place
newest_as p q log n place f w = record {
  within = w.within;
  such = λ i y a e. f i y e ∙ w.such i y a e;
  others = λ i y a b e. f i y e ∙ w.others i y a b e;
}

pub all_at : (P : Entry → Type 0) (log : List Entry) (i : ℕ) (y : Entry) → All P log → slice_get log i ≡ Some y → P y
all_at P log i y h e = subst P (get_or_from_slice_get log i y y e) (h i y (slice_get_within log i y e))

-- a link finds what shares the page of an access that begins in the same
pub linked : (x : Access) (page : Page) (log : List Entry) (n place : ℕ) → IsOnOnePage x → All (λ (y : Entry). IsOnOnePage y.access) log → page ≡ page_of x
    → IsNewest (begins_in page) log n place → IsNewest (share_page x) log n place
linked x page log n place p all e w =
    newest_as (begins_in page) (share_page x) log n place
    (λ i y g. shares_as_begins x y.access p (all_at (λ (y : Entry). IsOnOnePage y.access) log i y all g) ∙ ap (λ q. begins_in q y.access) (sym e))
    w

-- ---- one access more at the end

last_get : (log : List Entry) (x y : Entry) → slice_get (log ++ x ∷ []) (length log) ≡ Some y → x ≡ y
last_get [] x y e = same_Some x y e
last_get (z ∷ log) x y e = last_get log x y e

front_get : (log : List Entry) (x y : Entry) (i : ℕ) → i < length log → slice_get (log ++ x ∷ []) i ≡ Some y → slice_get log i ≡ Some y
front_get [] x y i h e = absurd (omega (arith, h))
front_get (z ∷ log) x y zero h e = e
front_get (z ∷ log) x y (suc i) h e = front_get log x y i (omega (arith, h)) e

-- what is newest of the first n stays
kept : (p : Access → Bool) (log : List Entry) (x : Entry) (n place : ℕ) → n ≤ length log → IsNewest p log n place → IsNewest p (log ++ x ∷ []) n place
kept p log x n place b w = record {
  within = w.within;
  such = λ i y a e. w.such i y a (front_get log x y i (omega (arith, a, b, w.within)) e);
  others = λ i y lo hi e. w.others i y lo hi (front_get log x y i (omega (arith, hi, b)) e);
}

grown : (log : List Entry) (x : Entry) → length (log ++ x ∷ []) ≡ length log + 1
grown [] x = omega arith
grown (y ∷ log) x = omega (arith, grown log x)

-- the added one is the newest that is such
newest_itself : (p : Access → Bool) (log : List Entry) (x : Entry) → p x.access ≡ true → IsNewest p (log ++ x ∷ []) (length (log ++ x ∷ [])) (length log + 1)
newest_itself p log x h = record {
  within = omega (arith, grown log x);
  such = λ i y a e. subst (λ z. p z.access ≡ true) (last_get log x y (subst (λ j. slice_get (log ++ x ∷ []) j ≡ Some y) {x = i} {y = length log} (omega (arith, a)) e)) h;
  others = λ i y lo hi e. absurd (omega (arith, lo, hi, grown log x));
}

-- the added one is passed over
newest_before : (p : Access → Bool) (log : List Entry) (x : Entry) (place : ℕ) → p x.access ≡ false → IsNewest p log (length log) place
    → IsNewest p (log ++ x ∷ []) (length (log ++ x ∷ [])) place
newest_before p log x place h w = record {
  within = omega (arith, w.within, grown log x);
  such = λ i y a e. w.such i y a (front_get log x y i (omega (arith, a, w.within)) e);
  others = λ i y lo hi e. place_of i y lo hi e (cases_lt i (length log));
}
  where
    place_of : (i : ℕ) (y : Entry) → place ≤ i → i < length (log ++ x ∷ []) → slice_get (log ++ x ∷ []) i ≡ Some y → (i < length log) ⊎ (length log ≤ i) → p y.access ≡ false
    place_of i y lo hi e (inl b) = w.others i y lo b (front_get log x y i b e)
    place_of i y lo hi e (inr b) =
        subst (λ z. p z.access ≡ false)
        (last_get log x y (subst (λ j. slice_get (log ++ x ∷ []) j ≡ Some y) {x = i} {y = length log} (omega (arith, b, hi, grown log x)) e)) h

-- an index with one access more
pub indexed : {S : Type 0} (log : List Entry) (x : Entry) (m n : HashMap Page ℕ S) (older : List ℕ) → IsIndexed log m older
    → get same_page n (page_of x.access) ≡ Some (length log + 1) → ((q : Page) → same_page (page_of x.access) q ≡ false → get same_page n q ≡ get same_page m q)
    → IsIndexed (log ++ x ∷ []) n (older ++ newest_of m (page_of x.access) ∷ [])
indexed log x m n older k own others = record {
  long = pushed older (newest_of m (page_of x.access)) ∙ ap (λ l. l + 1) k.long ∙ sym (grown log x);
  newest_are = λ q. newest q (decided (same_page (page_of x.access) q) inl inr);
  older_are = λ i y e. link i y e (cases_lt i (length log));
}
  where
    pushed : (xs : List ℕ) (z : ℕ) → length (xs ++ z ∷ []) ≡ length xs + 1
    pushed [] z = omega arith
    pushed (w ∷ xs) z = omega (arith, pushed xs z)

    newest : (q : Page) → (same_page (page_of x.access) q ≡ true) ⊎ (same_page (page_of x.access) q ≡ false)
        → IsNewest (begins_in q) (log ++ x ∷ []) (length (log ++ x ∷ [])) (newest_of n q)
    newest q (inl t) =
        subst (IsNewest (begins_in q) (log ++ x ∷ []) (length (log ++ x ∷ [])))
        (sym (ap (newest_of n) (sym (one_page (page_of x.access) q t)) ∙ ap (λ o. unwrap_or o 0) own)) (newest_itself (begins_in q) log x t)
    newest q (inr f) =
        subst (IsNewest (begins_in q) (log ++ x ∷ []) (length (log ++ x ∷ []))) (sym (ap (λ o. unwrap_or o 0) (others q f)))
        (newest_before (begins_in q) log x (newest_of m q) f (k.newest_are q))

    link : (i : ℕ) (y : Entry) → slice_get (log ++ x ∷ []) i ≡ Some y → (i < length log) ⊎ (length log ≤ i)
        → IsNewest (begins_in (page_of y.access)) (log ++ x ∷ []) i (slice_index_or (older ++ newest_of m (page_of x.access) ∷ []) i 0)
    link i y e (inl b) =
        subst (IsNewest (begins_in (page_of y.access)) (log ++ x ∷ []) i) (sym (get_or_append_left older (newest_of m (page_of x.access) ∷ []) 0 i (omega (arith, b, k.long))))
        (kept (begins_in (page_of y.access)) log x i (slice_index_or older i 0) (omega (arith, b)) (k.older_are i y (front_get log x y i b e)))
    link i y e (inr b) =
        let j : i ≡ length log = omega (arith, b, slice_get_within (log ++ x ∷ []) i y e, grown log x) in
        let z : x ≡ y = last_get log x y (subst (λ j. slice_get (log ++ x ∷ []) j ≡ Some y) j e) in
        subst (λ n. IsNewest (begins_in (page_of y.access)) (log ++ x ∷ []) n (slice_index_or (older ++ newest_of m (page_of x.access) ∷ []) n 0)) (sym j)
        (subst (IsNewest (begins_in (page_of y.access)) (log ++ x ∷ []) (length log)) (sym (get_or_push older (newest_of m (page_of x.access)) 0 (length log) k.long))
        (kept (begins_in (page_of y.access)) log x (length log) (newest_of m (page_of x.access)) (omega arith)
        (subst (λ (w : Entry). IsNewest (begins_in (page_of w.access)) log (length log) (newest_of m (page_of x.access))) z (k.newest_are (page_of x.access)))))
