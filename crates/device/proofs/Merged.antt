-- Schedules in runs that are as long as can be.
use Rattle.std.proofs.Common.{◌≡◌, ℕ, zero, suc, List, [], ◌∷◌, ◌++◌, replicate, refl, ap, ap₂, sym, ◌∙◌, subst, arith}
use Rattle.clmodel.specs.Outcome.{BeginsApart, IsMerged, events_of}
use Rattle.clmodel.specs.declared.schedule.Event.{Event}
use Rattle.clmodel.specs.declared.schedule.Event.TheVariants as event
use Rattle.clmodel.specs.declared.schedule.EventRun.{EventRun}
use Rattle.clmodel.specs.declared.schedule.EventRun.TheVariants as run

pub same_head : {A : Type 0} (x y : A) (xs ys : List A) → x ∷ xs ≡ y ∷ ys → x ≡ y
same_head x y xs ys e = cc

pub same_tail : {A : Type 0} (x y : A) (xs ys : List A) → x ∷ xs ≡ y ∷ ys → xs ≡ ys
same_tail x y xs ys e = cc

item_of : (i j : ℕ) → event.Item i ≡ event.Item j → i ≡ j
item_of i j e = cc

no_release : (i g : ℕ) → event.Item i ≡ event.Release g → ⊥
no_release i g e = cc

group_of : (g h : ℕ) → event.Release g ≡ event.Release h → g ≡ h
group_of g h e = cc

none_of : (x : Event) (xs : List Event) → [] ≡ x ∷ xs → ⊥
none_of x xs e = cc

not_begun : (item : ℕ) (a : List EventRun) (rest : List Event) → BeginsApart item a → IsMerged a → events_of a ≡ event.Item item ∷ rest → ⊥
not_begun item [] rest apart merged e = none_of (event.Item item) rest e
not_begun item (run.Item other zero ∷ a) rest apart merged e = absurd (omega (arith, merged.0))
not_begun item (run.Item other (suc count) ∷ a) rest apart merged e =
    apart (sym (item_of other item (same_head (event.Item other) (event.Item item) (replicate count (event.Item other) ++ events_of a) rest e)))
not_begun item (run.Release g ∷ a) rest apart merged e = no_release item g (sym (same_head (event.Release g) (event.Item item) (events_of a) rest e))

-- two beginnings by one item are as long
same_counts : (item n m : ℕ) (a b : List EventRun) → BeginsApart item a → IsMerged a → BeginsApart item b → IsMerged b
    → replicate n (event.Item item) ++ events_of a ≡ replicate m (event.Item item) ++ events_of b → (n ≡ m) × (events_of a ≡ events_of b)
same_counts item zero zero a b p q r s e = (refl, e)
same_counts item zero (suc m) a b p q r s e = absurd (not_begun item a (replicate m (event.Item item) ++ events_of b) p q e)
same_counts item (suc n) zero a b p q r s e = absurd (not_begun item b (replicate n (event.Item item) ++ events_of a) r s (sym e))
same_counts item (suc n) (suc m) a b p q r s e =
    let rest =
    same_counts item n m a b p q r s
    (same_tail (event.Item item) (event.Item item) (replicate n (event.Item item) ++ events_of a) (replicate m (event.Item item) ++ events_of b) e) in
    (ap suc rest.0, rest.1)

-- a list of events is one schedule in runs that are as long as can be
pub one_schedule : (a b : List EventRun) → IsMerged a → IsMerged b → events_of a ≡ events_of b → a ≡ b
one_schedule [] [] p q e = refl
one_schedule [] (run.Item j zero ∷ b) p q e = absurd (omega (arith, q.0))
one_schedule [] (run.Item j (suc m) ∷ b) p q e = absurd (none_of (event.Item j) (replicate m (event.Item j) ++ events_of b) e)
one_schedule [] (run.Release h ∷ b) p q e = absurd (none_of (event.Release h) (events_of b) e)
one_schedule (run.Item i zero ∷ a) b p q e = absurd (omega (arith, p.0))
one_schedule (run.Item i (suc n) ∷ a) [] p q e = absurd (none_of (event.Item i) (replicate n (event.Item i) ++ events_of a) (sym e))
one_schedule (run.Item i (suc n) ∷ a) (run.Item j zero ∷ b) p q e = absurd (omega (arith, q.0))
one_schedule (run.Item i (suc n) ∷ a) (run.Item j (suc m) ∷ b) p q e =
    let same = item_of i j (same_head (event.Item i) (event.Item j) (replicate n (event.Item i) ++ events_of a) (replicate m (event.Item j) ++ events_of b) e) in
    let rest =
    same_counts i n m a b p.1 p.2 (subst (λ k. BeginsApart k b) (sym same) q.1) q.2
    (same_tail (event.Item i) (event.Item j) (replicate n (event.Item i) ++ events_of a) (replicate m (event.Item j) ++ events_of b) e
    ∙ ap (λ k. replicate m (event.Item k) ++ events_of b) (sym same)) in
    ap₂ (λ r rs. r ∷ rs) (ap₂ (λ k l. run.Item k (suc l)) same rest.0) (one_schedule a b p.2 q.2 rest.1)
one_schedule (run.Item i (suc n) ∷ a) (run.Release h ∷ b) p q e =
    absurd (no_release i h (same_head (event.Item i) (event.Release h) (replicate n (event.Item i) ++ events_of a) (events_of b) e))
one_schedule (run.Release g ∷ a) [] p q e = absurd (none_of (event.Release g) (events_of a) (sym e))
one_schedule (run.Release g ∷ a) (run.Item j zero ∷ b) p q e = absurd (omega (arith, q.0))
one_schedule (run.Release g ∷ a) (run.Item j (suc m) ∷ b) p q e =
    absurd (no_release j g (sym (same_head (event.Release g) (event.Item j) (events_of a) (replicate m (event.Item j) ++ events_of b) e)))
one_schedule (run.Release g ∷ a) (run.Release h ∷ b) p q e =
    ap₂ (λ r rs. r ∷ rs) (ap run.Release (group_of g h (same_head (event.Release g) (event.Release h) (events_of a) (events_of b) e)))
    (one_schedule a b p q (same_tail (event.Release g) (event.Release h) (events_of a) (events_of b) e))
