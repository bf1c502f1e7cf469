-- Runs with further runs.
use Rattle.std.proofs.Common.{◌≡◌, ℕ, zero, suc, ◌+◌, ◌-◌, ◌<◌, ◌≤◌, List, [], ◌∷◌, ◌++◌, length, replicate, take, drop, min, refl, sym, ap, ap₂, ◌∙◌, subst, arith, add-one, Some, ◌⊎◌, inl, inr}
use Rattle.std.specs.Prelude.{Contains, slice_get, if◌then◌else◌, Result, Ok, Err, OnOk, is_ok}
use Rattle.clmodel.proofs.Steps.{none_some, some_inj}
use Rattle.std.proofs.lemmas.List.{append_assoc, append-nil}
use Rattle.std.proofs.lemmas.List.Elements.{Contains-append_right}
use Rattle.clmodel.specs.Outcome.{events_of, BeginsApart, IsMerged}
use Rattle.group_run.specs.Runs.{EndsWith}
use Rattle.group_run.proofs.Merging.{events_of-append, begins_before, ends_with}
use Rattle.group_join.specs.Runs.{Adds, IsFirstOf, MayFollow}
use Rattle.clmodel.specs.declared.schedule.Event.{Event}
use Rattle.clmodel.specs.declared.schedule.Event.TheVariants as event
use Rattle.clmodel.specs.declared.schedule.EventRun.{EventRun}
use Rattle.clmodel.specs.declared.schedule.EventRun.TheVariants as run

-- runs that follow one another
pub merged_tail : (r : EventRun) (more : List EventRun) → IsMerged (r ∷ more) → IsMerged (r ∷ []) × IsMerged more
merged_tail (run.Item item count) more h = ((h.0, tt, tt), h.2)
merged_tail (run.Release group) more h = (tt, h)

-- runs behind runs that they may follow
merged_behind : (old more : List EventRun) → IsMerged old → MayFollow old more → IsMerged (old ++ more)
merged_behind [] more m f = f.merged
merged_behind (run.Item item count ∷ []) more m f = (m.0, f.apart item refl, f.merged)
merged_behind (run.Item item count ∷ (x ∷ old)) more m f =
    (m.0, begins_before item x old (old ++ more) m.1, merged_behind (x ∷ old) more m.2 (record { merged = f.merged; apart = f.apart }))
merged_behind (run.Release group ∷ []) more m f = f.merged
merged_behind (run.Release group ∷ (x ∷ old)) more m f = merged_behind (x ∷ old) more m (record { merged = f.merged; apart = f.apart })

-- what a call that puts them there has done
pub adds_all :
    {A E : Type 0} (r : Result A E) (old more new : List EventRun) → MayFollow old more → new ≡ (if is_ok r then old ++ more else old) → OnOk r (Adds old new more (events_of more))
adds_all (Ok a) old more new f e =
    subst (λ z. Adds old z more (events_of more)) (sym e) (record { events = events_of-append old more; merged = λ m n. merged_behind old more m f })
adds_all (Err x) old more new f e = tt

-- the first of the runs alone may follow, and then the others
follows_first : (old : List EventRun) (r : EventRun) (more : List EventRun) → MayFollow old (r ∷ more) → MayFollow old (r ∷ [])
follows_first old r more f = record { merged = (merged_tail r more f.merged).0; apart = λ item e. begins_before item r more [] (f.apart item e) }

apart_next : (item : ℕ) (r : EventRun) (more : List EventRun) → EndsWith item (r ∷ []) → IsMerged (r ∷ more) → BeginsApart item more
apart_next item (run.Item other count) more e m = subst (λ z. BeginsApart z more) (sym e) m.1
apart_next item (run.Release group) more e m = absurd e

follows_next : (old : List EventRun) (r : EventRun) (more : List EventRun) → MayFollow old (r ∷ more) → MayFollow (old ++ r ∷ []) more
follows_next old r more f =
    record { merged = (merged_tail r more f.merged).1; apart = λ item e. apart_next item r more (ends_with old r item e) f.merged }

-- ---- events of runs

first_contained : (item count : ℕ) (rest : List Event) → 0 < count → Contains (replicate count (event.Item item) ++ rest) (event.Item item)
first_contained item zero rest b = absurd (omega (arith, b))
first_contained item (suc count) rest b = (0, omega arith, refl)

-- where runs end with one of an item, they have an event of it
pub ends_contained : (item : ℕ) (runs : List EventRun) → IsMerged runs → EndsWith item runs → Contains (events_of runs) (event.Item item)
ends_contained item [] m e = absurd e
ends_contained item (run.Item other count ∷ []) m e =
    subst (λ z. Contains (events_of (run.Item other count ∷ [])) (event.Item z)) (sym e) (first_contained other count [] m.0)
ends_contained item (run.Item other count ∷ (x ∷ runs)) m e =
    Contains-append_right (replicate count (event.Item other)) (events_of (x ∷ runs)) (event.Item item) (ends_contained item (x ∷ runs) m.2 e)
ends_contained item (run.Release group ∷ []) m e = absurd e
ends_contained item (run.Release group ∷ (x ∷ runs)) m e =
    Contains-append_right (event.Release group ∷ []) (events_of (x ∷ runs)) (event.Item item) (ends_contained item (x ∷ runs) m e)

-- runs without an event of an item don't begin with one of it
pub begins_apart : (item : ℕ) (runs : List EventRun) → IsMerged runs → (Contains (events_of runs) (event.Item item) → ⊥) → BeginsApart item runs
begins_apart item [] m f = tt
begins_apart item (run.Item other count ∷ runs) m f =
    λ e. f (subst (λ z. Contains (events_of (run.Item other count ∷ runs)) (event.Item z)) (sym e) (first_contained other count (events_of runs) m.0))
begins_apart item (run.Release group ∷ runs) m f = tt

-- ---- the first events of runs

-- take of a repeated event
taken_all : (count most : ℕ) (e : Event) (rest : List Event) → take most (replicate count e ++ rest) ≡ replicate (min count most) e ++ take (most - min count most) rest
taken_all zero most e rest =
    let none : 0 ≡ min 0 most = omega arith in
    let all : most ≡ most - min 0 most = omega arith in ap (λ n. replicate n e ++ take most rest) none ∙ ap (λ n. replicate (min 0 most) e ++ take n rest) all
taken_all (suc count) zero e rest =
    let none : 0 ≡ min (suc count) 0 = omega arith in
    let all : 0 ≡ 0 - min (suc count) 0 = omega arith in ap (λ n. replicate n e ++ take 0 rest) none ∙ ap (λ n. replicate (min (suc count) 0) e ++ take n rest) all
taken_all (suc count) (suc most) e rest =
    let more : suc (min count most) ≡ min (suc count) (suc most) = omega arith in
    let fewer : most - min count most ≡ suc most - min (suc count) (suc most) = omega arith in
    ap (λ z. e ∷ z) (taken_all count most e rest)
    ∙ ap (λ n. replicate n e ++ take (most - min count most) rest) more
    ∙ ap (λ n. replicate (min (suc count) (suc most)) e ++ take n rest) fewer

-- a run of an item, or its first events
pub first_of_item : (item count most : ℕ) → 0 < most → IsFirstOf (run.Item item count) most (run.Item item (min count most)) (min count most)
first_of_item item count most b =
    record {
      some = omega arith;
      events = λ rest.
          ap (take most) (append_assoc (replicate count (event.Item item)) [] rest)
          ∙ taken_all count most (event.Item item) rest
          ∙ ap (λ z. z ++ take (most - min count most) rest) (sym (append-nil (replicate (min count most) (event.Item item))));
      follows = λ old f. record { merged = (let c = f.merged.0 in omega (arith, c, b), tt, tt); apart = f.apart };
      all = λ h. let e : min count most ≡ count = omega (arith, h) in ap (run.Item item) e;
    }

pub first_of_release : (group most : ℕ) → 0 < most → IsFirstOf (run.Release group) most (run.Release group) 1
first_of_release group zero b = absurd (omega (arith, b))
first_of_release group (suc most) b =
    record {
      some = omega arith;
      events = λ rest. let e : most ≡ suc most - 1 = omega arith in ap (λ n. event.Release group ∷ take n rest) e;
      follows = λ old f. f;
      all = λ h. refl;
    }

drop_next : (more : List EventRun) (k : ℕ) (r : EventRun) → slice_get more k ≡ Some r → drop k more ≡ r ∷ drop (suc k) more
drop_next [] k r h = absurd (none_some r h)
drop_next (x ∷ more) zero r h = ap (λ z. z ∷ more) (some_inj x r h)
drop_next (x ∷ more) (suc k) r h = drop_next more k r h

-- the first runs were added, and `left` events of the rest are to be added: where there are any, the rest may follow
pub record AddsPart (first new more : List EventRun) (k left count : ℕ) : Type 0 where
  pub events : events_of new ++ take left (events_of (drop k more)) ≡ events_of first ++ take count (events_of more)
  pub merged : IsMerged first → IsMerged new
  pub follows : 0 < left → MayFollow new (drop k more)

pub part_step :
    (first mid more : List EventRun) (k left count : ℕ) (r f : EventRun) (taken : ℕ) → slice_get more k ≡ Some r → 0 < left → AddsPart first mid more k left count → IsFirstOf r left f taken
    → AddsPart first (mid ++ f ∷ []) more (k + 1) (left - taken) count
part_step first mid more k left count r f taken e b h i =
    record {
      events =
          ap₂ (λ x j. x ++ take (left - taken) (events_of (drop j more))) (events_of-append mid (f ∷ [])) (add-one k)
          ∙ append_assoc (events_of mid) (events_of (f ∷ [])) (take (left - taken) (events_of (drop (suc k) more)))
          ∙ ap (λ z. events_of mid ++ z)
          (sym (i.events (events_of (drop (suc k) more))) ∙ ap (take left) (sym (events_of-append (r ∷ []) (drop (suc k) more)) ∙ ap events_of (sym (drop_next more k r e))))
          ∙ h.events;
      merged = λ m. merged_behind mid (f ∷ []) (h.merged m) (i.follows mid (follows_first mid r (drop (suc k) more) here));
      follows = λ some.
          let whole : f ≡ r = i.all (omega (arith, some)) in
          subst (λ j. MayFollow (mid ++ f ∷ []) (drop j more)) (sym (add-one k))
          (subst (λ z. MayFollow (mid ++ z ∷ []) (drop (suc k) more)) (sym whole) (follows_next mid r (drop (suc k) more) here));
    }
  where
    here : MayFollow mid (r ∷ drop (suc k) more)
    here = subst (MayFollow mid) (drop_next more k r e) (h.follows b)

pub part_none : (first more : List EventRun) (count : ℕ) → MayFollow first more → AddsPart first first more 0 count count
part_none first more count f = record { events = refl; merged = λ m. m; follows = λ b. f }

drop_all : (more : List EventRun) (k : ℕ) → length more ≤ k → drop k more ≡ []
drop_all [] zero h = refl
drop_all [] (suc k) h = refl
drop_all (x ∷ more) zero h = absurd (omega (arith, h))
drop_all (x ∷ more) (suc k) h = drop_all more k (omega (arith, h))

take_nil : (n : ℕ) → ◌≡◌ {A = List Event} (take n []) []
take_nil zero = refl
take_nil (suc n) = refl

-- nothing is left to add, or no runs are left
pub part_end : (first new more : List EventRun) (k left count : ℕ) → (left ≡ 0) ⊎ (length more ≤ k) → AddsPart first new more k left count → Adds first new more (take count (events_of more))
part_end first new more k left count s h =
    record { events = sym (append-nil (events_of new)) ∙ ap (λ z. events_of new ++ z) (sym (nothing s)) ∙ h.events; merged = λ m n. h.merged m }
  where
    nothing : (left ≡ 0) ⊎ (length more ≤ k) → take left (events_of (drop k more)) ≡ []
    nothing (inl e) = ap (λ n. take n (events_of (drop k more))) e
    nothing (inr b) = ap (λ z. take left (events_of z)) (drop_all more k b) ∙ take_nil left
