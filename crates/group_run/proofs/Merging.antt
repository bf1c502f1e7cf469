-- Runs with one event more.
use Rattle.std.proofs.Common.{◌≡◌, ℕ, zero, suc, ◌+◌, ◌<◌, ◌≤◌, List, [], ◌∷◌, ◌++◌, length, set, replicate, refl, sym, ap, ◌∙◌, subst, arith, length-append}
use Rattle.std.proofs.lemmas.List.{append_assoc, append-nil, replicate_more, length-replicate}
use Rattle.clmodel.specs.Outcome.{events_of, BeginsApart, IsMerged}
use Rattle.group_run.specs.Runs.{EndsWith, AddsEvent}
use Rattle.clmodel.specs.declared.schedule.Event.TheVariants as event
use Rattle.clmodel.specs.declared.schedule.EventRun.{EventRun}
use Rattle.clmodel.specs.declared.schedule.EventRun.TheVariants as run

pub events_of-append : (xs ys : List EventRun) → events_of (xs ++ ys) ≡ events_of xs ++ events_of ys
events_of-append [] ys = refl
events_of-append (run.Item item count ∷ xs) ys =
    ap (λ z. replicate count (event.Item item) ++ z) (events_of-append xs ys)
    ∙ sym (append_assoc (replicate count (event.Item item)) (events_of xs) (events_of ys))
events_of-append (run.Release group ∷ xs) ys = ap (λ z. event.Release group ∷ z) (events_of-append xs ys)

-- a run's first event stays where more runs follow
pub begins_before : (item : ℕ) (r : EventRun) (xs ys : List EventRun) → BeginsApart item (r ∷ xs) → BeginsApart item (r ∷ ys)
begins_before item (run.Item other count) xs ys h = h
begins_before item (run.Release group) xs ys h = h

pub merged_append :
    (runs : List EventRun) (r : EventRun) → IsMerged runs → IsMerged (r ∷ []) → ((item : ℕ) → EndsWith item runs → BeginsApart item (r ∷ [])) → IsMerged (runs ++ r ∷ [])
merged_append [] r m n f = n
merged_append (run.Item item count ∷ []) r m n f = (m.0, f item refl, n)
merged_append (run.Item item count ∷ (x ∷ runs)) r m n f = (m.0, begins_before item x runs (runs ++ r ∷ []) m.1, merged_append (x ∷ runs) r m.2 n f)
merged_append (run.Release group ∷ []) r m n f = n
merged_append (run.Release group ∷ (x ∷ runs)) r m n f = merged_append (x ∷ runs) r m n f

pub merged_grow : (runs : List EventRun) (item n m : ℕ) → 0 < m → IsMerged (runs ++ run.Item item n ∷ []) → IsMerged (runs ++ run.Item item m ∷ [])
merged_grow [] item n m p h = (p, tt, tt)
merged_grow (run.Item other count ∷ []) item n m p h = (h.0, h.1, (p, tt, tt))
merged_grow (run.Item other count ∷ (x ∷ runs)) item n m p h =
    (h.0, begins_before other x (runs ++ run.Item item n ∷ []) (runs ++ run.Item item m ∷ []) h.1, merged_grow (x ∷ runs) item n m p h.2)
merged_grow (run.Release group ∷ []) item n m p h = (p, tt, tt)
merged_grow (run.Release group ∷ (x ∷ runs)) item n m p h = merged_grow (x ∷ runs) item n m p h

-- a run of its own
pub adds_item : (runs : List EventRun) (item : ℕ) → (EndsWith item runs → ⊥) → AddsEvent runs (runs ++ run.Item item 1 ∷ []) (event.Item item)
adds_item runs item h =
    record {
      events = events_of-append runs (run.Item item 1 ∷ []);
      merged = λ m. merged_append runs (run.Item item 1) m (omega arith, tt, tt) (λ other e q. h (subst (λ z. EndsWith z runs) q e));
    }

-- one event more of the last run
pub adds_more : (runs : List EventRun) (item count : ℕ) → AddsEvent (runs ++ run.Item item count ∷ []) (runs ++ run.Item item (count + 1) ∷ []) (event.Item item)
adds_more runs item count =
    record {
      events =
          events_of-append runs (run.Item item (count + 1) ∷ [])
          ∙ ap (λ z. events_of runs ++ z) (append-nil (replicate (count + 1) (event.Item item)) ∙ sym (replicate_more count (event.Item item)) ∙ ap (λ z. z ++ event.Item item ∷ []) (sym (append-nil (replicate count (event.Item item)))))
          ∙ sym (append_assoc (events_of runs) (replicate count (event.Item item) ++ []) (event.Item item ∷ []))
          ∙ ap (λ z. z ++ event.Item item ∷ []) (sym (events_of-append runs (run.Item item count ∷ [])));
      merged = merged_grow runs item count (count + 1) (omega arith);
    }

pub adds_release : (runs : List EventRun) (group : ℕ) → AddsEvent runs (runs ++ run.Release group ∷ []) (event.Release group)
adds_release runs group =
    record {
      events = events_of-append runs (run.Release group ∷ []);
      merged = λ m. merged_append runs (run.Release group) m tt (λ other e. tt);
    }

-- a run has no more events than all
pub count_fits : (runs : List EventRun) (item count : ℕ) → count ≤ length (events_of (runs ++ run.Item item count ∷ []))
count_fits runs item count =
    omega (
      arith,
      ap length (events_of-append runs (run.Item item count ∷ [])),
      length-append (events_of runs) (replicate count (event.Item item) ++ []),
      length-append (replicate count (event.Item item)) [],
      length-replicate count (event.Item item),
    )

-- the last of a list of runs
pub ends_with : (runs : List EventRun) (r : EventRun) (item : ℕ) → EndsWith item (runs ++ r ∷ []) → EndsWith item (r ∷ [])
ends_with [] r item h = h
ends_with (run.Item other count ∷ []) r item h = h
ends_with (run.Item other count ∷ (x ∷ runs)) r item h = ends_with (x ∷ runs) r item h
ends_with (run.Release group ∷ []) r item h = h
ends_with (run.Release group ∷ (x ∷ runs)) r item h = ends_with (x ∷ runs) r item h

-- the last of a list in place of another
pub set_last : (runs : List EventRun) (r q : EventRun) (n : ℕ) → n + 1 ≡ length (runs ++ r ∷ []) → set (runs ++ r ∷ []) n q ≡ runs ++ q ∷ []
set_last [] r q zero e = refl
set_last [] r q (suc n) e = absurd (omega (arith, e))
set_last (x ∷ runs) r q zero e = absurd (omega (arith, e, length-append runs (r ∷ [])))
set_last (x ∷ runs) r q (suc n) e = ap (λ z. x ∷ z) (set_last runs r q n (omega (arith, e)))
