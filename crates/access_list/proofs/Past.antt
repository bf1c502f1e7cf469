-- Entries of earlier intervals neither conflict with an access nor are equal to it: a walk may begin behind them.
use Rattle.std.proofs.Common.{◌≡◌, ℕ, zero, suc, ◌<◌, Bool, true, false, nat_eq, not, if◌then◌else◌, None, List, [], ◌∷◌, ◌++◌, length, ◌≤◌, ◌+◌, take, drop, refl, sym, ap, ◌∙◌, subst, inl, inr, arith}
use Rattle.std.specs.Prelude.{All}
use Rattle.std.proofs.lemmas.Bool.{false≢true, and_right, ne_eqb}
use Rattle.std.proofs.lemmas.List.{take-append-le}
use Rattle.std.proofs.lemmas.List.Elements.{All-head, All-tail, All-same, All-push}
use Rattle.clmodel.specs.Cells.{byte_count}
use Rattle.clmodel.specs.Launch.{same_region, within_group, conflict_between}
use Rattle.clmodel.specs.Run.{or_else, by_region}
use Rattle.clmodel.specs.declared.access.Access.{Access}
use Rattle.clmodel.specs.declared.access.Region.{Region}
use Rattle.clmodel.specs.declared.access.Region.TheVariants as region
use Rattle.clmodel.proofs.Steps.{decided}
use Rattle.access_list.specs.Log.{in_buffer, hit_on, hit_from, hit, IsThere}
use Rattle.access_list.specs.Past.{IsBefore}
use Rattle.access_list.specs.declared.log.Entry.{Entry}
use Rattle.access_list.proofs.Hits.{ordered, other_region, past_over}

-- before the interval of an access, or in the other memory
abbrev pub IsPast : Entry → Entry → Type 0
IsPast x = IsBefore (in_buffer x.access.region) x.access.interval

pub one_memory : (a b : Region) → same_region a b ≡ true → in_buffer a ≡ in_buffer b
one_memory (region.Buffer a) (region.Buffer b) h = refl
one_memory (region.Buffer a) (region.Local h b) e = absurd (false≢true e)
one_memory (region.Local g a) (region.Buffer b) e = absurd (false≢true e)
one_memory (region.Local g a) (region.Local h b) e = refl

-- accesses of two intervals don't conflict
pub other_interval : (u : Bool) (x y : Access) (byte : ℕ) → (y.interval ≡ x.interval → ⊥) → conflict_between (within_group u) y x byte ≡ None
other_interval u x y byte n =
    ordered (within_group u) y x byte (and_right (not (nat_eq y.item x.item)) (nat_eq y.interval x.interval) (ne_eqb y.interval x.interval n))

no_conflict : (u : Bool) (x y : Entry) (byte : ℕ) → IsPast x y → conflict_between (within_group u) y.access x.access byte ≡ None
no_conflict u x y byte h =
    decided (same_region y.access.region x.access.region)
    (λ e. other_interval u x.access y.access byte (λ s. omega (arith, s, h (one_memory y.access.region x.access.region e))))
    (other_region (within_group u) y.access x.access byte)

same_on :
    (u : Bool) (x : Entry) (byte n : ℕ) (log : List Entry) → All (IsPast x) (take n log)
    → hit_on (within_group u) x byte log ≡ hit_on (within_group u) x byte (drop n log)
same_on u x byte zero log h = refl
same_on u x byte (suc n) [] h = refl
same_on u x byte (suc n) (y ∷ log) h =
    past_over (within_group u) x byte y log (no_conflict u x y byte (All-head (IsPast x) y (take n log) h)) ∙ same_on u x byte n log (All-tail (IsPast x) y (take n log) h)

-- the conflict is that with the entries behind
same_hit : (u : Bool) (x : Entry) (n : ℕ) (log : List Entry) → All (IsPast x) (take n log) → hit (within_group u) x log ≡ hit (within_group u) x (drop n log)
unfolding hit
same_hit u x n log h = go x.access.first (byte_count x.access.width)
  where
    go : (byte count : ℕ) → hit_from (within_group u) x log byte count ≡ hit_from (within_group u) x (drop n log) byte count
    go byte zero = refl
    go byte (suc count) =
        ap (λ o. or_else o (hit_from (within_group u) x log (suc byte) count)) (same_on u x byte n log h) ∙ ap (or_else (hit_on (within_group u) x byte (drop n log))) (go (suc byte) count)

not_same : (x y : Entry) → IsPast x y → y.access ≡ x.access → ⊥
not_same x y h e = omega (arith, ap (λ (a : Access). a.interval) e, h (ap (λ (a : Access). in_buffer a.region) e))

-- an access that is there is among the entries behind
still_there : (x : Entry) (n : ℕ) (log : List Entry) → All (IsPast x) (take n log) → IsThere log x.access → IsThere (drop n log) x.access
still_there x zero log h t = t
still_there x (suc n) [] h t = elim t [ ]
still_there x (suc n) (y ∷ log) h (inl e) = absurd (not_same x y (All-head (IsPast x) y (take n log) h) e)
still_there x (suc n) (y ∷ log) h (inr t) = still_there x n log (All-tail (IsPast x) y (take n log) h) t

-- A walk through the rest of a log for an access that is the kept one.
pub record Walk (e x : Entry) (n : ℕ) (log rest : List Entry) : Type 0 where
  pub kept : e ≡ x
  pub rest_is : rest ≡ drop n log
  pub past : All (IsPast x) (take n log)

pub walked : {e x : Entry} {log all : List Entry} (n : ℕ) → e ≡ x → all ≡ log → All (IsPast x) (take n log) → Walk e x n log (drop n all)
walked n kept same past = record { kept = kept; rest_is = ap (drop n) same; past = past }

pub walk_finds : {e x : Entry} {n : ℕ} {log rest : List Entry} (u : Bool) → Walk e x n log rest → hit (within_group u) e rest ≡ hit (within_group u) x log
walk_finds {x = x} {n = n} {log = log} {rest = rest} u w = ap (λ y. hit (within_group u) y rest) w.kept ∙ ap (hit (within_group u) x) w.rest_is ∙ sym (same_hit u x n log w.past)

pub walk_sees : {e x : Entry} {n : ℕ} {log rest all : List Entry} → Walk e x n log rest → all ≡ log → IsThere all e.access → IsThere log x.access
walk_sees {e = e} {log = log} w a t = subst (λ (y : Entry). IsThere log y.access) w.kept (subst (λ l. IsThere l e.access) a t)

pub walk_misses : {e x : Entry} {n : ℕ} {log rest : List Entry} → Walk e x n log rest → IsThere log x.access → IsThere rest e.access
walk_misses {x = x} {n = n} {log = log} {rest = rest} w t =
    subst (λ (y : Entry). IsThere rest y.access) (sym w.kept) (subst (λ l. IsThere l x.access) (sym w.rest_is) (still_there x n log w.past t))

-- ---- what a push leaves: the entries with one more, or as they were

pub all_pushed : (P : Entry → Type 0) (old new : List Entry) (x : Entry) (ok : Bool) → new ≡ (if ok then old ++ x ∷ [] else old) → All P old → P x → All P new
all_pushed P old new x true e h p = All-same P new (old ++ x ∷ []) e (All-push P old x h p)
all_pushed P old new x false e h p = All-same P new old e h

pub front_pushed : (P : Entry → Type 0) (n : ℕ) (old new : List Entry) (x : Entry) (ok : Bool) → new ≡ (if ok then old ++ x ∷ [] else old)
    → n ≤ length old → All P (take n old) → All P (take n new)
front_pushed P n old new x true e l h = All-same P (take n new) (take n old) (ap (take n) e ∙ take-append-le n old (x ∷ []) l) h
front_pushed P n old new x false e l h = All-same P (take n new) (take n old) (ap (take n) e) h

-- an access of the running interval was made before the next one
pub local_before : (r : Region) (global local : ℕ) → in_buffer r ≡ false → by_region r global local < local + 1
local_before (region.Buffer a) global local e = absurd (false≢true (sym e))
local_before (region.Local g a) global local e = omega arith

pub global_before : (r : Region) (global local : ℕ) → in_buffer r ≡ true → by_region r global local < global + 1
global_before (region.Buffer a) global local e = omega arith
global_before (region.Local g a) global local e = absurd (false≢true e)
