-- The two accesses of a log that a fault tells as a conflict, and the spots of the log.
use Rattle.std.proofs.Common.{◌≡◌, ℕ, zero, suc, ◌<◌, ◌⊎◌, ◌==◌, ◌&&◌, Bool, true, false, if◌then◌else◌, Option, None, Some, List, [], ◌∷◌, ◌++◌, length, refl, sym, ap, ap₂, ◌∙◌, subst, inl, inr, arith, eqb-true, eq-eqb}
use Rattle.std.specs.Prelude.{slice_get, reverse, is_some}
use Rattle.std.specs.Bool.{Decides}
use Rattle.std.proofs.lemmas.Bool.{and_parts, and_from, cases_eq, false≢true}
use Rattle.std.proofs.lemmas.List.{reverse-reverse, reverse-append}
use Rattle.clmodel.specs.Cells.{byte_count, covers}
use Rattle.clmodel.specs.Launch.{Launch, clash, both_store, left_at, same_store, clash_at, group_of, location_of, rule_of, unordered, share, conflict_between, conflict}
use Rattle.clmodel.specs.Law.{Logged, Shows}
use Rattle.clmodel.specs.Run.{State}
use Rattle.clmodel.specs.declared.access.Access.{Access}
use Rattle.clmodel.specs.declared.access.AccessKind.{AccessKind}
use Rattle.clmodel.specs.declared.access.Clash.{Clash}
use Rattle.clmodel.specs.declared.access.Region.{Region}
use Rattle.clmodel.specs.declared.access.Region.TheVariants as region
use Rattle.clmodel.specs.declared.access.Rule.{Rule}
use Rattle.clmodel.specs.declared.fault.Fault.{Fault}
use Rattle.clmodel.specs.declared.fault.Fault.TheVariants as fault
use Rattle.clmodel.specs.declared.fault.Location.{Location}
use Rattle.clmodel.specs.declared.fault.Location.TheVariants as location
use Rattle.clmodel.proofs.Conflicts.{Meet, no_clash, no_conflict}
use Rattle.clmodel.proofs.Steps.{none_some, some_inj, if_some, if_true}
use Rattle.clmodel.proofs.Swaps.{cases_region}
use Rattle.clmodel.proofs.Logs.{logged_front, logged_back}
use Rattle.replay.specs.Spots.{Finds, IsOther, IsPairOf, MeetAt, number_in}
use Rattle.replay.specs.declared.conflicts.ObjectInterval.{ObjectInterval}
use Rattle.replay.specs.declared.conflicts.Pair.{Pair}

-- ---- a log by places

logged_in : (log : List Access) (x : Access) → Logged log x → (k : ℕ) × (slice_get log k ≡ Some x)
logged_in [] x h = absurd h
logged_in (y ∷ log) x (inl e) = (0, ap Some e)
logged_in (y ∷ log) x (inr h) = let r = logged_in log x h in (suc r.0, r.1)

logged_at : (log : List Access) (k : ℕ) (x : Access) → slice_get log k ≡ Some x → Logged log x
logged_at [] k x e = absurd (none_some x e)
logged_at (y ∷ log) zero x e = inl (some_inj y x e)
logged_at (y ∷ log) (suc k) x e = inr (logged_at log k x e)

logged_reverse : (log : List Access) (x : Access) → Logged log x → Logged (reverse log) x
logged_reverse [] x h = absurd h
logged_reverse (y ∷ log) x h = subst (λ z. Logged z x) (sym (reverse-append (y ∷ []) log)) (go (logged_reverse log x) h)
  where
    go : (Logged log x → Logged (reverse log) x) → (y ≡ x) ⊎ Logged log x → Logged (reverse log ++ y ∷ []) x
    go rest (inl e) = subst (Logged (reverse log ++ y ∷ [])) e (logged_back (reverse log) (y ∷ []) y (inl refl))
    go rest (inr h) = logged_front (reverse log) (y ∷ []) x (rest h)

-- ---- two accesses that conflict

-- what is decided holds where it isn't refuted
stable : {A : Type 0} → A ⊎ (A → ⊥) → ((A → ⊥) → ⊥) → A
stable (inl a) h = a
stable (inr n) h = absurd (h n)

cases_true : (b : Bool) → (b ≡ true) ⊎ (b ≡ true → ⊥)
cases_true true = inl refl
cases_true false = inr (λ e. false≢true e)

-- two accesses that conflict meet: they aren't without a conflict
conflict_meets : (l : Launch) (x y : Access) (byte : ℕ) (c : Clash) → conflict l x y byte ≡ Some c → Meet (rule_of l x y) x y byte
conflict_meets l x y byte c h = record {
  items = λ e. met (λ m. m.items e);
  intervals = λ e. stable (cases_eq x.interval y.interval) (λ ne. met (λ m. ne (m.intervals e)));
  regions = stable (cases_region x.region y.region) (λ ne. met (λ m. ne m.regions));
  first_covers = stable (cases_true (covers x.first (byte_count x.width) byte)) (λ ne. met (λ m. ne m.first_covers));
  second_covers = stable (cases_true (covers y.first (byte_count y.width) byte)) (λ ne. met (λ m. ne m.second_covers));
}
  where
    met : (Meet (rule_of l x y) x y byte → ⊥) → ⊥
    met apart = none_some c (sym (no_conflict l x y byte (λ m. absurd (apart m))) ∙ h)

-- two accesses that clash aren't stores that may meet
clashing : (same : Bool) (o : Option Clash) (c : Clash) → (if same then None else o) ≡ Some c → (o ≡ Some c) × (same ≡ false)
clashing true o c h = absurd (none_some c h)
clashing false o c h = (h, refl)

clash_made : (same : Bool) (o : Option Clash) (c : Clash) → o ≡ Some c → same ≡ false → (if same then None else o) ≡ Some c
clash_made true o c h e = absurd (false≢true (sym e))
clash_made false o c h e = h

-- a conflict is a clash of two accesses that meet, unless both are stores that may
conflict_is :
    (l : Launch) (x y : Access) (byte : ℕ) (c : Clash) → conflict l x y byte ≡ Some c
    → Meet (rule_of l x y) x y byte × (clash x.kind y.kind ≡ Some c) × (same_store (rule_of l x y) x y byte ≡ false)
unfolding conflict conflict_between
conflict_is l x y byte c h =
    let r = if_some (unordered (rule_of l x y) x y && share x y byte) (clash_at (rule_of l x y) x y byte) c h in
    let q = clashing (same_store (rule_of l x y) x y byte) (clash x.kind y.kind) c r.1 in
    (conflict_meets l x y byte c h, q.0, q.1)

-- a test that never leaves out what there is
some_if : {A : Type 0} (b : Bool) (o : Option A) (a : A) → ((if b then o else None) ≡ None → o ≡ None) → o ≡ Some a → (if b then o else None) ≡ Some a
some_if true o a h e = e
some_if false o a h e = absurd (none_some a (sym (h refl) ∙ e))

conflict_made :
    (l : Launch) (x y : Access) (byte : ℕ) (c : Clash) → Meet (rule_of l x y) x y byte → clash x.kind y.kind ≡ Some c → same_store (rule_of l x y) x y byte ≡ false
    → conflict l x y byte ≡ Some c
unfolding conflict conflict_between
conflict_made l x y byte c m e apart =
    some_if (unordered (rule_of l x y) x y && share x y byte) (clash_at (rule_of l x y) x y byte) c (λ none. no_clash l x y byte none m)
    (clash_made (same_store (rule_of l x y) x y byte) (clash x.kind y.kind) c e apart)

-- stores that may meet are those that left the same byte, where the two partners are stores of a uniform launch
apart_stores :
    (l : Launch) (x y : Access) (byte : ℕ) (u : Bool) → u ≡ (both_store x.kind y.kind && l.uniform) → (u ≡ true → left_at x byte ≡ left_at y byte → ⊥)
    → same_store (rule_of l x y) x y byte ≡ false
apart_stores l x y byte u is other = go (same_store (rule_of l x y) x y byte) refl
  where
    go : (b : Bool) → same_store (rule_of l x y) x y byte ≡ b → b ≡ false
    go true e =
        let r : ((both_store x.kind y.kind && l.uniform) ≡ true) × ((left_at x byte == left_at y byte) ≡ true) =
        and_parts (both_store x.kind y.kind && l.uniform) (left_at x byte == left_at y byte) e in
        absurd (other (is ∙ r.0) (eqb-true (left_at x byte) (left_at y byte) r.1))
    go false e = refl

other_stores :
    (l : Launch) (x y : Access) (byte : ℕ) (u : Bool) → u ≡ (both_store x.kind y.kind && l.uniform) → same_store (rule_of l x y) x y byte ≡ false
    → u ≡ true → left_at x byte ≡ left_at y byte → ⊥
other_stores l x y byte u is apart e q =
    false≢true (sym apart
    ∙ and_from (both_store x.kind y.kind && l.uniform) (left_at x byte == left_at y byte) (sym is ∙ e) (eq-eqb (left_at x byte) (left_at y byte) q))

-- ---- the number of an object

abbrev number_of : Region → ℕ
number_of (region.Buffer number) = number
number_of (region.Local group number) = number

numbered : (l : Launch) (r : Region) → number_in (location_of l r) r ≡ Some (number_of r)
numbered l (region.Buffer number) = refl
numbered l (region.Local group number) = if_true (group == group) (Some number) None (eq-eqb group group refl)

in_group : (told g h n m k : ℕ) → (if g == told then Some n else None) ≡ Some k → (if h == told then Some m else None) ≡ Some k → region.Local g n ≡ region.Local h m
in_group told g h n m k p q =
    let a : ((g == told) ≡ true) × (◌≡◌ {A = Option ℕ} (Some n) (Some k)) = if_some (g == told) (Some n) k p in
    let b : ((h == told) ≡ true) × (◌≡◌ {A = Option ℕ} (Some m) (Some k)) = if_some (h == told) (Some m) k q in
    ap₂ region.Local (eqb-true g told a.0 ∙ sym (eqb-true h told b.0)) (some_inj n k a.1 ∙ sym (some_inj m k b.1))

one_region : (place : Location) (r s : Region) (n : ℕ) → number_in place r ≡ Some n → number_in place s ≡ Some n → r ≡ s
one_region (location.Buffer name) (region.Buffer a) (region.Buffer b) n p q = ap region.Buffer (some_inj a n p ∙ sym (some_inj b n q))
one_region (location.Buffer name) (region.Buffer a) (region.Local h b) n p q = absurd (none_some n q)
one_region (location.Buffer name) (region.Local g a) s n p q = absurd (none_some n p)
one_region (location.Local told name) (region.Buffer a) s n p q = absurd (none_some n p)
one_region (location.Local told name) (region.Local g a) (region.Buffer b) n p q = absurd (none_some n q)
one_region (location.Local told name) (region.Local g a) (region.Local h b) n p q = in_group told g h a b n p q

-- ---- the conflict

at_true : (b : Bool) (n m k : ℕ) → b ≡ true → (if b then n else 0) ≡ k → (if b then m else 0) ≡ k → n ≡ m
at_true true n m k h p q = p ∙ sym q
at_true false n m k h p q = absurd (false≢true h)

at_both : (b : Bool) (n m : ℕ) → (b ≡ true → n ≡ m) → (if b then m else 0) ≡ (if b then n else 0)
at_both true n m h = sym (h refl)
at_both false n m h = refl

-- what is found where there is one is such a one
found_by : {A : Type 0} {Such : A → Type 0} (o : Option A) → Finds o Such → (a : A) → Such a → (b : A) × (o ≡ Some b) × Such b
found_by None none a h = absurd (none a h)
found_by (Some b) is a h = (b, refl, is)

at_length : (xs : List Access) (k : ℕ) (x : Access) → slice_get xs k ≡ Some x → k < length xs
at_length [] k x e = absurd (none_some x e)
at_length (y ∷ xs) zero x e = omega arith
at_length (y ∷ xs) (suc k) x e = let h = at_length xs k x e in omega (arith, h)

-- the spots of the one partner, and an access of the other at one of them, tell the two accesses that conflict
pub paired :
    (l : Launch) (log : List Access) (c : Clash) (item : ℕ) (kind : AccessKind) (other : ℕ) (other_kind : AccessKind) (place : Location) (byte : ℕ) (rule : Rule)
    (among : ObjectInterval → ℕ → Option ℕ) (found : Option Pair) → rule.one_group ≡ (group_of l item == group_of l other) → rule.uniform ≡ (both_store kind other_kind && l.uniform) → (item ≡ other → ⊥) → clash kind other_kind ≡ Some c
    → ((q : ObjectInterval) (w : ℕ) → Finds (among q w) (IsOther item kind place byte rule log (length log) q w)) → Finds found (MeetAt l other other_kind place byte rule among log)
    → Finds found (IsPairOf l (fault.Conflict c item kind other other_kind place byte) log)
paired l log c item kind other other_kind place byte rule among found groups stores apart clashes spots meets = go found meets
  where
    f : Fault
    f = fault.Conflict c item kind other other_kind place byte

    forth : (pair : Pair) → MeetAt l other other_kind place byte rule among log pair → IsPairOf l f log pair
    forth pair (y, at_y, (q, is, is_y, lies)) = made (subst (λ o. Finds o (IsOther item kind place byte rule log (length log) q (left_at y byte))) is (spots q (left_at y byte)))
      where
        made : IsOther item kind place byte rule log (length log) q (left_at y byte) pair.first → IsPairOf l f log pair
        made (x, below, at_x, is_x, left) =
            let regions : x.region ≡ y.region = one_region place x.region y.region q.number is_x.numbered is_y.numbered in (
              x,
              y,
              at_x,
              at_y,
              is_x.of_item,
              is_x.of_kind,
              is_y.of_item,
              is_y.of_kind,
              ap (location_of l) regions ∙ lies,
              conflict_made l x y byte c
                  (record {
                    items = λ e. apart (sym is_x.of_item ∙ e ∙ is_y.of_item);
                    intervals = λ e. at_true rule.one_group x.interval y.interval q.interval (groups ∙ ap₂ (λ a b. group_of l a == group_of l b) (sym is_x.of_item) (sym is_y.of_item) ∙ e) is_x.in_interval is_y.in_interval;
                    regions = regions;
                    first_covers = is_x.on_byte;
                    second_covers = is_y.on_byte;
                  })
                  (ap₂ clash is_x.of_kind is_y.of_kind ∙ clashes)
                  (apart_stores l x y byte rule.uniform (stores ∙ ap₂ (λ a b. both_store a b && l.uniform) (sym is_x.of_kind) (sym is_y.of_kind)) left),
            )

    back : (pair : Pair) → IsPairOf l f log pair → (one : Pair) × MeetAt l other other_kind place byte rule among log one
    back pair (x, y, at_x, at_y, item_x, kind_x, item_y, kind_y, at, conflicts) =
        let r = conflict_is l x y byte c conflicts in
        let q : ObjectInterval = record { number = number_of x.region; interval = if rule.one_group then x.interval else 0 } in
        let number : number_in place x.region ≡ Some (number_of x.region) = ap (λ z. number_in z x.region) (sym at) ∙ numbered l x.region in
        let met =
        found_by (among q (left_at y byte)) (spots q (left_at y byte)) pair.first (
          x,
          at_length log pair.first x at_x,
          at_x,
          record { of_item = item_x; of_kind = kind_x; on_byte = r.0.first_covers; numbered = number; in_interval = refl },
          other_stores l x y byte rule.uniform (stores ∙ ap₂ (λ a b. both_store a b && l.uniform) (sym kind_x) (sym kind_y)) r.2,
        ) in (
          record { first = met.0; second = pair.second },
          (
            y,
            at_y,
            (
              q,
              met.1,
              record {
                of_item = item_y;
                of_kind = kind_y;
                on_byte = r.0.second_covers;
                numbered = ap (number_in place) (sym r.0.regions) ∙ number;
                in_interval = at_both rule.one_group x.interval y.interval (λ e. r.0.intervals (ap₂ (λ a b. group_of l a == group_of l b) item_x item_y ∙ sym groups ∙ e));
              },
              ap (location_of l) (sym r.0.regions) ∙ at,
            ),
          ),
        )

    go : (o : Option Pair) → Finds o (MeetAt l other other_kind place byte rule among log) → Finds o (IsPairOf l f log)
    go None none = λ pair h. let met = back pair h in none met.0 met.1
    go (Some pair) h = forth pair h

-- what the two accesses of a pair have alike
pub pair_needs :
    (l : Launch) (log : List Access) (c : Clash) (item : ℕ) (kind : AccessKind) (other : ℕ) (other_kind : AccessKind) (place : Location) (byte : ℕ) (pair : Pair)
    → IsPairOf l (fault.Conflict c item kind other other_kind place byte) log pair → (item ≡ other → ⊥) × (clash kind other_kind ≡ Some c)
pair_needs l log c item kind other other_kind place byte pair (x, y, at_x, at_y, item_x, kind_x, item_y, kind_y, at, conflicts) =
    let r = conflict_is l x y byte c conflicts in (λ e. r.0.items (item_x ∙ e ∙ sym item_y), ap₂ clash (sym kind_x) (sym kind_y) ∙ r.1)

-- a log has such a pair exactly where the state shows the conflict
pub shown :
    (l : Launch) (log : List Access) (s : State) (c : Clash) (item : ℕ) (kind : AccessKind) (other : ℕ) (other_kind : AccessKind) (place : Location) (byte : ℕ) (found : Option Pair)
    → log ≡ reverse s.log → Finds found (IsPairOf l (fault.Conflict c item kind other other_kind place byte) log)
    → Decides (is_some found) (Shows l s (fault.Conflict c item kind other other_kind place byte))
shown l log s c item kind other other_kind place byte found order finds = (λ e. forth found finds e, λ h. back found finds h)
  where
    f : Fault
    f = fault.Conflict c item kind other other_kind place byte

    in_log : (k : ℕ) (x : Access) → slice_get log k ≡ Some x → Logged s.log x
    in_log k x e = subst (λ z. Logged z x) (ap reverse order ∙ reverse-reverse s.log) (logged_reverse log x (logged_at log k x e))

    place_in : (x : Access) → Logged s.log x → (k : ℕ) × (slice_get log k ≡ Some x)
    place_in x h = logged_in log x (subst (λ z. Logged z x) (sym order) (logged_reverse s.log x h))

    forth : (o : Option Pair) → Finds o (IsPairOf l f log) → is_some o ≡ true → Shows l s f
    forth None h e = absurd (false≢true e)
    forth (Some pair) (x, y, at_x, at_y, item_x, kind_x, item_y, kind_y, at, conflicts) e =
        (x, y, in_log pair.first x at_x, in_log pair.second y at_y, item_x, kind_x, item_y, kind_y, at, conflicts)

    back : (o : Option Pair) → Finds o (IsPairOf l f log) → Shows l s f → is_some o ≡ true
    back None none (x, y, in_x, in_y, item_x, kind_x, item_y, kind_y, at, conflicts) =
        let px = place_in x in_x in
        let py = place_in y in_y in absurd (none (record { first = px.0; second = py.0 }) (x, y, px.1, py.1, item_x, kind_x, item_y, kind_y, at, conflicts))
    back (Some pair) finds h = refl
