-- Accesses of one sort don't race.
use Rattle.std.proofs.Common.{◌≡◌, ℕ, zero, suc, ◌-◌, ◌<◌, ◌≤◌, Bool, true, false, not, ◌&&◌, ◌||◌, ◌==◌, nat_lt, if◌then◌else◌, ◌⊎◌, inl, inr, Option, None, Some, List, [], ◌∷◌, refl, sym, ap, ap₂, ◌∙◌, arith, ltb-true}
use Rattle.std.specs.Option.{option_map}
use Rattle.std.proofs.lemmas.Bool.{and_parts, eq-eqb, eqb-true, false≢true, ne_eqb, or_cases}
use Rattle.clmodel.specs.Cells.{byte_count, byte_of}
use Rattle.clmodel.specs.Launch.{Launch, both_store, class_number, clash, clash_at, conflict, conflict_between, group_of, left_at, rule_of, same_store, share, unordered}
use Rattle.clmodel.specs.Law.{Logged, conflict_from, conflict_on}
use Rattle.clmodel.specs.Run.{or_else}
use Rattle.clmodel.specs.declared.access.Access.{Access}
use Rattle.clmodel.specs.declared.access.AccessKind.{AccessKind}
use Rattle.clmodel.specs.declared.access.AccessKind.TheVariants as kind
use Rattle.clmodel.specs.declared.access.Clash.{Clash}
use Rattle.clmodel.specs.declared.access.Clash.TheVariants.{Order}
use Rattle.clmodel.specs.declared.access.Rule.{Rule}
use Rattle.clmodel.proofs.Steps.{decided}
use Rattle.ordered_runs.specs.Ordered.{newest_race, only_race, race}
use Rattle.race_filter.specs.Sorts.{IsKept, IsOf, IsStoreOf, is_atomic, is_load, is_store, is_store_of, lets, lets_behind, lets_by}
use Rattle.race_filter.specs.declared.kept.Kept.{Kept}
use Rattle.race_filter.specs.declared.kept.Written.{Written}
use Rattle.race_filter.specs.declared.sort.Sort.{Sort}

-- ---- by their kinds

where_so : (b : Bool) (o : Option Clash) → only_race o ≡ None → only_race (if b then o else None) ≡ None
where_so true o h = h
where_so false o h = refl

unless : (b : Bool) (o : Option Clash) → only_race o ≡ None → only_race (if b then None else o) ≡ None
unless true o h = refl
unless false o h = h

no_order : (b : Bool) → only_race (if b then None else Some Order) ≡ None
no_order true = refl
no_order false = refl

loads_calm : (k j : AccessKind) → is_load k ≡ true → is_load j ≡ true → only_race (clash k j) ≡ None
loads_calm kind.Load kind.Load p q = refl
loads_calm kind.Load kind.Store p q = absurd (false≢true q)
loads_calm kind.Load (kind.Update d) p q = absurd (false≢true q)
loads_calm kind.Load kind.Fetch p q = absurd (false≢true q)
loads_calm kind.Store j p q = absurd (false≢true p)
loads_calm (kind.Update c) j p q = absurd (false≢true p)
loads_calm kind.Fetch j p q = absurd (false≢true p)

atomic_calm : (k j : AccessKind) → is_atomic k ≡ true → is_atomic j ≡ true → only_race (clash k j) ≡ None
atomic_calm (kind.Update c) (kind.Update d) p q = no_order (class_number c == class_number d)
atomic_calm (kind.Update c) kind.Fetch p q = refl
atomic_calm kind.Fetch (kind.Update d) p q = refl
atomic_calm kind.Fetch kind.Fetch p q = refl
atomic_calm (kind.Update c) kind.Load p q = absurd (false≢true q)
atomic_calm (kind.Update c) kind.Store p q = absurd (false≢true q)
atomic_calm kind.Fetch kind.Load p q = absurd (false≢true q)
atomic_calm kind.Fetch kind.Store p q = absurd (false≢true q)
atomic_calm kind.Load j p q = absurd (false≢true p)
atomic_calm kind.Store j p q = absurd (false≢true p)

-- two whose kinds don't race
kinds_calm : (l : Launch) (y x : Access) (byte : ℕ) → only_race (clash y.kind x.kind) ≡ None → race l y x byte ≡ None
unfolding conflict conflict_between
kinds_calm l y x byte h =
    let rule : Rule = rule_of l y x in
    where_so (unordered rule y x && share y x byte) (clash_at rule y x byte) (unless (same_store rule y x byte) (clash y.kind x.kind) h)

-- two of one item
item_calm : (l : Launch) (y x : Access) (byte : ℕ) → y.item ≡ x.item → race l y x byte ≡ None
unfolding conflict conflict_between
item_calm l y x byte e =
    let rule : Rule = rule_of l y x in
    ap (λ (b : Bool). only_race (if (not b && (not rule.one_group || (y.interval == x.interval))) && share y x byte then clash_at rule y x byte else None)) (eq-eqb y.item x.item e)

-- two of one group in different intervals: a barrier orders them
ordered_calm : (l : Launch) (y x : Access) (byte : ℕ) → group_of l y.item ≡ group_of l x.item → (y.interval == x.interval) ≡ false → race l y x byte ≡ None
unfolding conflict conflict_between
ordered_calm l y x byte same other =
    let rule : Rule = rule_of l y x in
    ap₂
    (λ (g i : Bool). only_race (if (not (y.item == x.item) && (not g || i)) && share y x byte then clash_at rule y x byte else None))
    (eq-eqb (group_of l y.item) (group_of l x.item) same) other
    ∙ none (not (y.item == x.item)) (share y x byte) (clash_at rule y x byte)
  where
    none : (a b : Bool) (o : Option Clash) → only_race (if (a && false) && b then o else None) ≡ None
    none true b o = refl
    none false b o = refl

-- two that share no byte
pub apart_calm : (l : Launch) (y x : Access) (byte : ℕ) → share y x byte ≡ false → race l y x byte ≡ None
unfolding conflict conflict_between
apart_calm l y x byte h =
    let rule : Rule = rule_of l y x in
    ap (λ (b : Bool). only_race (if unordered rule y x && b then clash_at rule y x byte else None)) h ∙ none (unordered rule y x) (clash_at rule y x byte)
  where
    none : (b : Bool) (o : Option Clash) → only_race (if b && false then o else None) ≡ None
    none true o = refl
    none false o = refl

-- one that is let by the sort of others
pub sort_calm : (l : Launch) (s : Sort) (y x : Access) (byte : ℕ) → IsOf s y → lets s x ≡ true → race l y x byte ≡ None
sort_calm l s y x byte is h = first (or_cases ((s.is_one && (s.item == x.item)) || (s.are_loads && is_load x.kind)) (s.are_atomic && is_atomic x.kind) h)
  where
    own : (s.is_one && (s.item == x.item)) ≡ true → race l y x byte ≡ None
    own e =
        let p = and_parts s.is_one (s.item == x.item) e in
        item_calm l y x byte (is.one p.0 ∙ eqb-true s.item x.item p.1)

    loads : (s.are_loads && is_load x.kind) ≡ true → race l y x byte ≡ None
    loads e =
        let p = and_parts s.are_loads (is_load x.kind) e in
        kinds_calm l y x byte (loads_calm y.kind x.kind (is.loads p.0) p.1)

    atomic : (s.are_atomic && is_atomic x.kind) ≡ true → race l y x byte ≡ None
    atomic e =
        let p = and_parts s.are_atomic (is_atomic x.kind) e in
        kinds_calm l y x byte (atomic_calm y.kind x.kind (is.atomic p.0) p.1)

    second : ((s.is_one && (s.item == x.item)) ≡ true) ⊎ ((s.are_loads && is_load x.kind) ≡ true) → race l y x byte ≡ None
    second (inl e) = own e
    second (inr e) = loads e

    first : (((s.is_one && (s.item == x.item)) || (s.are_loads && is_load x.kind)) ≡ true) ⊎ ((s.are_atomic && is_atomic x.kind) ≡ true) → race l y x byte ≡ None
    first (inl e) = second (or_cases (s.is_one && (s.item == x.item)) (s.are_loads && is_load x.kind) e)
    first (inr e) = atomic e

-- ---- by what they write

pub a_store : (j : AccessKind) → is_store j ≡ true → j ≡ kind.Store
a_store kind.Store h = refl
a_store kind.Load h = absurd (false≢true h)
a_store (kind.Update c) h = absurd (false≢true h)
a_store kind.Fetch h = absurd (false≢true h)

pub store_of : (w : Written) (x : Access) → is_store_of (Some w) x ≡ true → IsStoreOf w x
store_of w x h =
    let p : (is_store x.kind ≡ true) × (((w.first == x.first) && (w.value == x.value)) ≡ true) = and_parts _ _ h in
    let q : ((w.first == x.first) ≡ true) × ((w.value == x.value) ≡ true) = and_parts _ _ p.1 in
    record { stores = a_store x.kind p.0; first = sym (eqb-true w.first x.first q.0); value = sym (eqb-true w.value x.value q.1) }

-- two stores of one value at one byte, in a uniform launch
stores_calm : (l : Launch) (w : Written) (y x : Access) (byte : ℕ) → l.uniform ≡ true → IsStoreOf w y → IsStoreOf w x → race l y x byte ≡ None
unfolding conflict conflict_between
stores_calm l w y x byte uniform of_y of_x =
    let rule : Rule = rule_of l y x in
    where_so (unordered rule y x && share y x byte) (clash_at rule y x byte) (none (same_store rule y x byte) (clash y.kind x.kind) same)
  where
    none : (b : Bool) (o : Option Clash) → b ≡ true → only_race (if b then None else o) ≡ None
    none true o h = refl
    none false o h = absurd (false≢true h)

    both : (k j : AccessKind) → k ≡ kind.Store → j ≡ kind.Store → both_store k j ≡ true
    both k j p q = ap₂ both_store p q

    bytes : left_at y byte ≡ left_at x byte
    bytes = ap₂ (λ (f v : ℕ). byte_of (byte - f) v) (of_y.first ∙ sym of_x.first) (of_y.value ∙ sym of_x.value)

    same : same_store (rule_of l y x) y x byte ≡ true
    same =
        ap₂ (λ (a b : Bool). a && b && (left_at y byte == left_at x byte)) (both y.kind x.kind of_y.stores of_x.stores) uniform
        ∙ eq-eqb (left_at y byte) (left_at x byte) bytes

-- one that is let by what is kept of others
pub kept_calm :
    (l : Launch) (group : ℕ) (uniform : Bool) (k : Kept) (y x : Access) (byte : ℕ) → l.uniform ≡ uniform → group_of l x.item ≡ group → IsKept l k y → lets_by group uniform k x ≡ true
    → race l y x byte ≡ None
kept_calm l group uniform k y x byte alike own is h = first (or_cases (lets k.all x || lets_behind group k x) (uniform && is_store_of k.written x) h)
  where
    at_other : group_of l y.item ≡ group_of l x.item → (y.interval ≡ x.interval → ⊥) → race l y x byte ≡ None
    at_other same other = ordered_calm l y x byte same (ne_eqb y.interval x.interval other)

    beside : group_of l y.item ≡ group_of l x.item → k.interval ≡ x.interval → lets k.newest x ≡ true → race l y x byte ≡ None
    beside same at lets_it =
        decided (y.interval == x.interval) (λ t. sort_calm l k.newest y x byte (is.newest (eqb-true y.interval x.interval t ∙ sym at)) lets_it)
        (λ f. ordered_calm l y x byte same f)

    behind : lets_behind group k x ≡ true → race l y x byte ≡ None
    behind b =
        let p : ((k.is_one_group && (k.group == group)) ≡ true) × ((nat_lt k.interval x.interval || ((k.interval == x.interval) && lets k.newest x)) ≡ true) = and_parts _ _ b in
        let q : (k.is_one_group ≡ true) × ((k.group == group) ≡ true) = and_parts _ _ p.0 in
        let same : group_of l y.item ≡ group_of l x.item = is.group q.0 ∙ eqb-true k.group group q.1 ∙ sym own in
        go same (or_cases (nat_lt k.interval x.interval) ((k.interval == x.interval) && lets k.newest x) p.1)
      where
        go :
            group_of l y.item ≡ group_of l x.item → (nat_lt k.interval x.interval ≡ true) ⊎ (((k.interval == x.interval) && lets k.newest x) ≡ true)
            → race l y x byte ≡ None
        go same (inl e) =
            let lower : k.interval < x.interval = ltb-true k.interval x.interval e in
            let upto : y.interval ≤ k.interval = is.before in
            at_other same (λ at. omega (arith, lower, upto, at))
        go same (inr e) =
            let r : ((k.interval == x.interval) ≡ true) × (lets k.newest x ≡ true) = and_parts _ _ e in
            beside same (eqb-true k.interval x.interval r.0) r.1

    either : (lets k.all x ≡ true) ⊎ (lets_behind group k x ≡ true) → race l y x byte ≡ None
    either (inl e) = sort_calm l k.all y x byte is.all e
    either (inr e) = behind e

    stored : (o : Option Written) → k.written ≡ o → l.uniform ≡ true → is_store_of o x ≡ true → race l y x byte ≡ None
    stored None e u s = absurd (false≢true s)
    stored (Some w) e u s = stores_calm l w y x byte u (is.written w e) (store_of w x s)

    first : ((lets k.all x || lets_behind group k x) ≡ true) ⊎ ((uniform && is_store_of k.written x) ≡ true) → race l y x byte ≡ None
    first (inl e) = either (or_cases (lets k.all x) (lets_behind group k x) e)
    first (inr e) =
        let p : (uniform ≡ true) × (is_store_of k.written x ≡ true) = and_parts uniform (is_store_of k.written x) e in
        stored k.written refl (alike ∙ p.0) p.1

-- ---- the newest access of a log

-- no earlier access races with it
abbrev pub IsCalm : Launch → Access → List Access → Type 0
IsCalm l x log = (y : Access) (byte : ℕ) → Logged log y → race l y x byte ≡ None

calm_on : (l : Launch) (x : Access) (byte : ℕ) (log : List Access) → IsCalm l x log → conflict_on (race l) x byte log ≡ None
calm_on l x byte [] h = refl
calm_on l x byte (y ∷ log) h =
    ap₂ (λ a o. or_else a (option_map (λ clash. record { earlier = y; later = x; byte = byte; clash = clash }) o)) (calm_on l x byte log (λ z b w. h z b (inr w))) (h y byte (inl refl))

calm_from : (l : Launch) (x : Access) (log : List Access) (byte count : ℕ) → IsCalm l x log → conflict_from (race l) x log byte count ≡ None
calm_from l x log byte zero h = refl
calm_from l x log byte (suc count) h = ap₂ (λ a b. or_else a b) (calm_on l x byte log h) (calm_from l x log (suc byte) count h)

pub calm_newest : (l : Launch) (x : Access) (log : List Access) → IsCalm l x log → newest_race l (x ∷ log) ≡ None
calm_newest l x log h = calm_from l x log x.first (byte_count x.width) h
