-- What it says of two accesses that they have no conflict.
use Rattle.std.proofs.Common.{◌≡◌, ℕ, zero, suc, ◌+◌, ◌-◌, ◌<◌, ◌≤◌, ◌⊎◌, Bool, true, false, not, ◌&&◌, ◌||◌, ◌==◌, if◌then◌else◌, Option, None, Some, List, [], ◌∷◌, refl, sym, ap, ap₂, ◌∙◌, subst, inl, inr, arith, eqb-true, eq-eqb, ne_eqb}
use Rattle.std.specs.Option.{option_map}
use Rattle.std.proofs.lemmas.Bool.{and_parts, and_from, false≢true, cases_eq}
use Rattle.clmodel.specs.Cells.{byte_count, byte_of, covers}
use Rattle.clmodel.specs.Launch.{Launch, same_region, class_number, clash, both_store, left_at, same_store, clash_at, group_of, rule_of, unordered, share, conflict_between, conflict}
use Rattle.clmodel.specs.Run.{State, interval_of, access_of}
use Rattle.clmodel.specs.Law.{Logged, conflict_on, conflict_from}
use Rattle.clmodel.specs.declared.access.Access.{Access}
use Rattle.clmodel.specs.declared.access.AccessKind.{AccessKind}
use Rattle.clmodel.specs.declared.access.AccessKind.TheVariants as kind
use Rattle.clmodel.specs.declared.access.Clash.{Clash}
use Rattle.clmodel.specs.declared.access.Clash.TheVariants.{Race, Order}
use Rattle.clmodel.specs.declared.access.Class.{Class}
use Rattle.clmodel.specs.declared.access.Class.TheVariants as class
use Rattle.clmodel.specs.declared.access.Conflict as conflict_type
use Rattle.clmodel.specs.declared.access.Operation.{Operation}
use Rattle.clmodel.specs.declared.access.Region.{Region}
use Rattle.clmodel.specs.declared.access.Rule.{Rule}
use Rattle.clmodel.specs.declared.access.Operation.TheVariants.{Load, Store, Update, Fetch}
use Rattle.clmodel.proofs.Steps.{none_some, if_true, or_else_none, region_for, ItemStep, map_none}
use Rattle.clmodel.proofs.CellLaws.{covers_parts, Agree, Compatible}
use Rattle.clmodel.proofs.Swaps.{same_region_self, same_region-true, Free}

none_if : {A : Type 0} (b : Bool) (o : Option A) → (if b then o else None) ≡ None → b ≡ true → o ≡ None
none_if true o h e = h
none_if false o h e = absurd (false≢true e)

if_none : {A : Type 0} (b : Bool) (o : Option A) → (b ≡ true → o ≡ None) → (if b then o else None) ≡ None
if_none true o h = h refl
if_none false o h = refl

-- ---- the test of a conflict, part by part

-- two accesses that by their rule no barrier orders, and that are both at this byte
pub record Meet (rule : Rule) (x y : Access) (byte : ℕ) : Type 0 where
  pub items : x.item ≡ y.item → ⊥
  pub intervals : rule.one_group ≡ true → x.interval ≡ y.interval
  pub regions : x.region ≡ y.region
  pub first_covers : covers x.first (byte_count x.width) byte ≡ true
  pub second_covers : covers y.first (byte_count y.width) byte ≡ true

not_parts : (a b : Bool) → not a ≡ true → a ≡ true → ⊥
not_parts true b h e = false≢true h
not_parts false b h e = false≢true e

pub or_at : (a b : Bool) → (not a || b) ≡ true → a ≡ true → b ≡ true
or_at true b h e = h
or_at false b h e = absurd (false≢true e)

pub or_made : (a b : Bool) → (a ≡ true → b ≡ true) → (not a || b) ≡ true
or_made true b h = h refl
or_made false b h = refl

not_made : (a : Bool) → (a ≡ true → ⊥) → not a ≡ true
not_made true h = absurd (h refl)
not_made false h = refl

and_three : (a b c : Bool) → (a && b && c) ≡ true → (a ≡ true) × (b ≡ true) × (c ≡ true)
and_three true true true h = (refl, refl, refl)
and_three true true false h = absurd (false≢true h)
and_three true false c h = absurd (false≢true h)
and_three false b c h = absurd (false≢true h)

and_three_from : (a b c : Bool) → a ≡ true → b ≡ true → c ≡ true → (a && b && c) ≡ true
and_three_from true true true p q r = refl
and_three_from true true false p q r = absurd (false≢true r)
and_three_from true false c p q r = absurd (false≢true q)
and_three_from false b c p q r = absurd (false≢true p)

meet_parts : (rule : Rule) (x y : Access) (byte : ℕ) → (unordered rule x y && share x y byte) ≡ true → Meet rule x y byte
meet_parts rule x y byte h =
    let r : (unordered rule x y ≡ true) × (share x y byte ≡ true) = and_parts (unordered rule x y) (share x y byte) h in
    let u : (not (x.item == y.item) ≡ true) × ((not rule.one_group || (x.interval == y.interval)) ≡ true)
    = and_parts (not (x.item == y.item)) (not rule.one_group || (x.interval == y.interval)) r.0 in
    let s : (same_region x.region y.region ≡ true) × (covers x.first (byte_count x.width) byte ≡ true) × (covers y.first (byte_count y.width) byte ≡ true)
    = and_three (same_region x.region y.region) (covers x.first (byte_count x.width) byte) (covers y.first (byte_count y.width) byte) r.1 in
    record {
      items = λ e. not_parts (x.item == y.item) true u.0 (eq-eqb x.item y.item e);
      intervals = λ e. eqb-true x.interval y.interval (or_at rule.one_group (x.interval == y.interval) u.1 e);
      regions = same_region-true x.region y.region s.0;
      first_covers = s.1;
      second_covers = s.2;
    }

meet_from : (rule : Rule) (x y : Access) (byte : ℕ) → Meet rule x y byte → (unordered rule x y && share x y byte) ≡ true
meet_from rule x y byte m =
    and_from (unordered rule x y) (share x y byte)
    (and_from (not (x.item == y.item)) (not rule.one_group || (x.interval == y.interval)) (not_made (x.item == y.item) (λ e. m.items (eqb-true x.item y.item e)))
    (or_made rule.one_group (x.interval == y.interval) (λ e. eq-eqb x.interval y.interval (m.intervals e))))
    (and_three_from (same_region x.region y.region) (covers x.first (byte_count x.width) byte) (covers y.first (byte_count y.width) byte)
    (ap (same_region x.region) (sym m.regions) ∙ same_region_self x.region) m.first_covers m.second_covers)

-- two accesses that meet without a conflict don't clash
pub no_clash : (l : Launch) (x y : Access) (byte : ℕ) → conflict l x y byte ≡ None → Meet (rule_of l x y) x y byte → clash_at (rule_of l x y) x y byte ≡ None
unfolding conflict conflict_between
no_clash l x y byte h m = none_if (unordered (rule_of l x y) x y && share x y byte) (clash_at (rule_of l x y) x y byte) h (meet_from (rule_of l x y) x y byte m)

-- two accesses have no conflict if they don't clash where they meet
pub no_conflict : (l : Launch) (x y : Access) (byte : ℕ) → (Meet (rule_of l x y) x y byte → clash_at (rule_of l x y) x y byte ≡ None) → conflict l x y byte ≡ None
unfolding conflict conflict_between
no_conflict l x y byte h = if_none (unordered (rule_of l x y) x y && share x y byte) (clash_at (rule_of l x y) x y byte) (λ e. h (meet_parts (rule_of l x y) x y byte e))

-- ---- both ways round

pub same_class : (c d : Class) → (if class_number c == class_number d then None else Some Order) ≡ None → class_number c ≡ class_number d
same_class c d h = go (class_number c == class_number d) refl h
  where
    go : (b : Bool) → (class_number c == class_number d) ≡ b → ◌≡◌ {A = Option Clash} (if b then None else Some Order) None → class_number c ≡ class_number d
    go true e h = eqb-true (class_number c) (class_number d) e
    go false e h = absurd (none_some Order (sym h))

abbrev pub class_of : ℕ → Class
class_of zero = class.Add
class_of (suc zero) = class.And
class_of (suc (suc zero)) = class.Or
class_of (suc (suc (suc zero))) = class.Xor
class_of (suc (suc (suc (suc zero)))) = class.SignedMin
class_of (suc (suc (suc (suc (suc zero))))) = class.UnsignedMin
class_of (suc (suc (suc (suc (suc (suc zero)))))) = class.SignedMax
class_of (suc (suc (suc (suc (suc (suc (suc n))))))) = class.UnsignedMax

pub class_of-number : (c : Class) → class_of (class_number c) ≡ c
unfolding class_of
class_of-number class.Add = refl
class_of-number class.And = refl
class_of-number class.Or = refl
class_of-number class.Xor = refl
class_of-number class.SignedMin = refl
class_of-number class.UnsignedMin = refl
class_of-number class.SignedMax = refl
class_of-number class.UnsignedMax = refl

pub clash_sym : (a b : AccessKind) → clash a b ≡ None → clash b a ≡ None
clash_sym kind.Load kind.Load h = refl
clash_sym kind.Load kind.Store h = absurd (none_some Race (sym h))
clash_sym kind.Load (kind.Update d) h = absurd (none_some Race (sym h))
clash_sym kind.Load kind.Fetch h = absurd (none_some Race (sym h))
clash_sym kind.Store b h = absurd (none_some Race (sym h))
clash_sym (kind.Update c) kind.Load h = absurd (none_some Race (sym h))
clash_sym (kind.Update c) kind.Store h = absurd (none_some Race (sym h))
clash_sym (kind.Update c) (kind.Update d) h =
    if_true (class_number d == class_number c) None (Some Order) (eq-eqb (class_number d) (class_number c) (sym (same_class c d h)))
clash_sym (kind.Update c) kind.Fetch h = absurd (none_some Order (sym h))
clash_sym kind.Fetch kind.Load h = absurd (none_some Race (sym h))
clash_sym kind.Fetch kind.Store h = absurd (none_some Race (sym h))
clash_sym kind.Fetch (kind.Update d) h = absurd (none_some Order (sym h))
clash_sym kind.Fetch kind.Fetch h = absurd (none_some Order (sym h))

pub eqb_sym : (a b : ℕ) → (a == b) ≡ (b == a)
eqb_sym a b = go (cases_eq a b)
  where
    go : (a ≡ b) ⊎ (a ≡ b → ⊥) → (a == b) ≡ (b == a)
    go (inl e) = eq-eqb a b e ∙ sym (eq-eqb b a (sym e))
    go (inr ne) = ne_eqb a b ne ∙ sym (ne_eqb b a (λ e. ne (sym e)))

both_store_sym : (a b : AccessKind) → both_store a b ≡ both_store b a
both_store_sym kind.Load kind.Load = refl
both_store_sym kind.Load kind.Store = refl
both_store_sym kind.Load (kind.Update d) = refl
both_store_sym kind.Load kind.Fetch = refl
both_store_sym kind.Store kind.Load = refl
both_store_sym kind.Store kind.Store = refl
both_store_sym kind.Store (kind.Update d) = refl
both_store_sym kind.Store kind.Fetch = refl
both_store_sym (kind.Update c) kind.Load = refl
both_store_sym (kind.Update c) kind.Store = refl
both_store_sym (kind.Update c) (kind.Update d) = refl
both_store_sym (kind.Update c) kind.Fetch = refl
both_store_sym kind.Fetch kind.Load = refl
both_store_sym kind.Fetch kind.Store = refl
both_store_sym kind.Fetch (kind.Update d) = refl
both_store_sym kind.Fetch kind.Fetch = refl

none_either : {A : Type 0} (b : Bool) (o : Option A) → (if b then None else o) ≡ None → (b ≡ true) ⊎ (o ≡ None)
none_either true o h = inl refl
none_either false o h = inr h

none_made : {A : Type 0} (b : Bool) (o : Option A) → (b ≡ true) ⊎ (o ≡ None) → (if b then None else o) ≡ None
none_made true o h = refl
none_made false o (inl e) = absurd (false≢true e)
none_made false o (inr e) = e

-- rules of one launch hold for both ways round
same_store_sym : (l : Launch) (x y : Access) (byte : ℕ) → same_store (rule_of l x y) x y byte ≡ same_store (rule_of l y x) y x byte
same_store_sym l x y byte = ap₂ (λ a b. a && l.uniform && b) (both_store_sym x.kind y.kind) (eqb_sym (left_at x byte) (left_at y byte))

clash_at_sym : (l : Launch) (x y : Access) (byte : ℕ) → clash_at (rule_of l x y) x y byte ≡ None → clash_at (rule_of l y x) y x byte ≡ None
clash_at_sym l x y byte h = none_made (same_store (rule_of l y x) y x byte) (clash y.kind x.kind) (go (none_either (same_store (rule_of l x y) x y byte) (clash x.kind y.kind) h))
  where
    go : (same_store (rule_of l x y) x y byte ≡ true) ⊎ (clash x.kind y.kind ≡ None) → (same_store (rule_of l y x) y x byte ≡ true) ⊎ (clash y.kind x.kind ≡ None)
    go (inl e) = inl (sym (same_store_sym l x y byte) ∙ e)
    go (inr e) = inr (clash_sym x.kind y.kind e)

meet_sym : (l : Launch) (x y : Access) (byte : ℕ) → Meet (rule_of l x y) x y byte → Meet (rule_of l y x) y x byte
meet_sym l x y byte m =
    record {
      items = λ e. m.items (sym e);
      intervals =
          λ e. sym (m.intervals (eq-eqb (group_of l x.item) (group_of l y.item) (sym (eqb-true (group_of l y.item) (group_of l x.item) e))));
      regions = sym m.regions;
      first_covers = m.second_covers;
      second_covers = m.first_covers;
    }

pub conflict_sym : (l : Launch) (x y : Access) (byte : ℕ) → conflict l x y byte ≡ None → conflict l y x byte ≡ None
conflict_sym l x y byte h = no_conflict l y x byte (λ m. clash_at_sym l x y byte (no_clash l x y byte h (meet_sym l y x byte m)))

pub no_conflict_self : (l : Launch) (x : Access) (byte : ℕ) → conflict l x x byte ≡ None
no_conflict_self l x byte = no_conflict l x x byte (λ m. absurd (m.items refl))

-- ---- two accesses of one state

-- operations whose accesses don't conflict on a byte agree on it
agree :
    (l : Launch) (s : State) (i : ℕ) (r : Region) (first : ℕ) (op : Operation) (j : ℕ) (r2 : Region) (first2 : ℕ) (op2 : Operation) (byte : ℕ)
    → clash_at (rule_of l (access_of l s i r first op) (access_of l s j r2 first2 op2)) (access_of l s i r first op) (access_of l s j r2 first2 op2) byte ≡ None
    → Agree op first op2 first2 byte
agree l s i r first (Load width) j r2 first2 (Load width2) byte h = tt
agree l s i r first (Load width) j r2 first2 (Store width2 value) byte h = absurd (none_some Race (sym h))
agree l s i r first (Load width) j r2 first2 (Update d operand) byte h = absurd (none_some Race (sym h))
agree l s i r first (Load width) j r2 first2 (Fetch op operand) byte h = absurd (none_some Race (sym h))
agree l s i r first (Store width value) j r2 first2 (Load width2) byte h = absurd (none_some Race (sym h))
agree l s i r first (Store width value) j r2 first2 (Store width2 value2) byte h =
    go (none_either (l.uniform && (byte_of (byte - first) value == byte_of (byte - first2) value2)) (Some Race) h)
  where
    go :
        ((l.uniform && (byte_of (byte - first) value == byte_of (byte - first2) value2)) ≡ true) ⊎ (◌≡◌ {A = Option Clash} (Some Race) None)
        → byte_of (byte - first) value ≡ byte_of (byte - first2) value2
    go (inl e) =
        eqb-true (byte_of (byte - first) value) (byte_of (byte - first2) value2)
        (and_parts l.uniform (byte_of (byte - first) value == byte_of (byte - first2) value2) e).1
    go (inr e) = absurd (none_some Race (sym e))
agree l s i r first (Store width value) j r2 first2 (Update d operand) byte h = absurd (none_some Race (sym h))
agree l s i r first (Store width value) j r2 first2 (Fetch op operand) byte h = absurd (none_some Race (sym h))
agree l s i r first (Update c operand) j r2 first2 (Load width) byte h = absurd (none_some Race (sym h))
agree l s i r first (Update c operand) j r2 first2 (Store width value) byte h = absurd (none_some Race (sym h))
agree l s i r first (Update c operand) j r2 first2 (Update d operand2) byte h = sym (class_of-number c) ∙ ap class_of (same_class c d h) ∙ class_of-number d
agree l s i r first (Update c operand) j r2 first2 (Fetch op operand2) byte h = absurd (none_some Order (sym h))
agree l s i r first (Fetch op operand) j r2 first2 (Load width) byte h = absurd (none_some Race (sym h))
agree l s i r first (Fetch op operand) j r2 first2 (Store width value) byte h = absurd (none_some Race (sym h))
agree l s i r first (Fetch op operand) j r2 first2 (Update d operand2) byte h = absurd (none_some Order (sym h))
agree l s i r first (Fetch op operand) j r2 first2 (Fetch op2 operand2) byte h = absurd (none_some Order (sym h))

-- what an item's access would be logged as
abbrev pub entry_of : (l : Launch) (s : State) (i : ℕ) (t : State) → ItemStep l s i t → Access
entry_of l s i t p = access_of l s i (region_for l i p.object) p.first p.operation

-- two accesses of one state that have no conflict agree on each byte that both cover
pub free_at :
    (l : Launch) (s : State) (i : ℕ) (r : Region) (first : ℕ) (op : Operation) (j : ℕ) (r2 : Region) (first2 : ℕ) (op2 : Operation) → (i ≡ j → ⊥)
    → ((byte : ℕ) → conflict l (access_of l s i r first op) (access_of l s j r2 first2 op2) byte ≡ None) → r ≡ r2 → Compatible op first op2 first2
free_at l s i r first op j r2 first2 op2 ne calm same byte a b =
    agree l s i r first op j r2 first2 op2 byte
    (no_clash l (access_of l s i r first op) (access_of l s j r2 first2 op2) byte (calm byte)
    (record {
      items = ne;
      intervals = λ e. ap₂ (interval_of s) (eqb-true (group_of l i) (group_of l j) e) same;
      regions = same;
      first_covers = a;
      second_covers = b;
    }))

-- so do the accesses of two events that are possible in it
pub free_from :
    (l : Launch) (s : State) (i : ℕ) (t : State) (j : ℕ) (u : State) (p : ItemStep l s i t) (q : ItemStep l s j u) → (i ≡ j → ⊥)
    → ((byte : ℕ) → conflict l (entry_of l s i t p) (entry_of l s j u q) byte ≡ None) → Free l s i t j u p q
free_from l s i t j u p q ne calm =
    free_at l s i (region_for l i p.object) p.first p.operation j (region_for l j q.object) q.first q.operation ne calm

-- ---- logs without conflicts

-- no two accesses of a log conflict
abbrev pub Harmless : Launch → List Access → Type 0
Harmless l log = (x y : Access) (byte : ℕ) → Logged log x → Logged log y → conflict l x y byte ≡ None

on_byte : (l : Launch) (x : Access) (byte : ℕ) (log : List Access) → conflict_on (conflict l) x byte log ≡ None → (y : Access) → Logged log y → conflict l y x byte ≡ None
on_byte l x byte (z ∷ log) h y w =
    go w (or_else_none (conflict_on (conflict l) x byte log) (option_map (λ c. record { earlier = z; later = x; byte = byte; clash = c }) (conflict l z x byte)) h)
    (on_byte l x byte log)
  where
    go :
        (z ≡ y) ⊎ Logged log y
        → (conflict_on (conflict l) x byte log ≡ None)
        × (◌≡◌ {A = Option conflict_type.Conflict} (option_map (λ c. record { earlier = z; later = x; byte = byte; clash = c }) (conflict l z x byte)) None)
        → (conflict_on (conflict l) x byte log ≡ None → (y : Access) → Logged log y → conflict l y x byte ≡ None) → conflict l y x byte ≡ None
    go (inl e) r ih =
        subst (λ a. conflict l a x byte ≡ None) e
        (map_none {B = conflict_type.Conflict} (λ c. record { earlier = z; later = x; byte = byte; clash = c }) (conflict l z x byte) r.1)
    go (inr v) r ih = ih r.0 y v
on_byte l x byte [] h y w = absurd w

from_byte :
    (l : Launch) (x : Access) (log : List Access) (first count : ℕ) → conflict_from (conflict l) x log first count ≡ None → (y : Access) → Logged log y → (byte : ℕ)
    → first ≤ byte → byte < first + count → conflict l y x byte ≡ None
from_byte l x log first zero h y w byte a b = absurd (omega (arith, a, b))
from_byte l x log first (suc count) h y w byte a b = go (cases_eq first byte) (or_else_none (conflict_on (conflict l) x first log) (conflict_from (conflict l) x log (suc first) count) h) (from_byte l x log (suc first) count)
  where
    go :
        (first ≡ byte) ⊎ (first ≡ byte → ⊥)
        → (conflict_on (conflict l) x first log ≡ None) × (conflict_from (conflict l) x log (suc first) count ≡ None)
        → (conflict_from (conflict l) x log (suc first) count ≡ None → (y : Access) → Logged log y → (byte : ℕ) → suc first ≤ byte → byte < suc first + count → conflict l y x byte ≡ None)
        → conflict l y x byte ≡ None
    go (inl e) r ih = subst (λ k. conflict l y x k ≡ None) e (on_byte l x first log r.0 y w)
    go (inr ne) r ih = ih r.1 y w byte (omega (arith, a, ne)) (omega (arith, b))

-- an access without a conflict with those of a log conflicts with none of them
pub no_newest : (l : Launch) (x : Access) (log : List Access) → conflict_from (conflict l) x log x.first (byte_count x.width) ≡ None → (y : Access) → Logged log y → (byte : ℕ) → conflict l y x byte ≡ None
no_newest l x log h y w byte =
    no_conflict l y x byte
    (λ m.
    let r : (x.first ≤ byte) × (byte < x.first + byte_count x.width) = covers_parts x.first (byte_count x.width) byte m.second_covers in
    no_clash l y x byte (from_byte l x log x.first (byte_count x.width) h y w byte r.0 r.1) m)

-- an access without a conflict with an earlier one leaves a log without conflicts
pub harmless_more :
    (l : Launch) (x : Access) (log : List Access) → conflict_from (conflict l) x log x.first (byte_count x.width) ≡ None → Harmless l log → Harmless l (x ∷ log)
harmless_more l x log h calm = both
  where
    with_earlier : (y : Access) (byte : ℕ) → Logged log y → conflict l y x byte ≡ None
    with_earlier y byte w =
        no_conflict l y x byte
        (λ m.
        let r : (x.first ≤ byte) × (byte < x.first + byte_count x.width) = covers_parts x.first (byte_count x.width) byte m.second_covers in
        no_clash l y x byte (from_byte l x log x.first (byte_count x.width) h y w byte r.0 r.1) m)

    both : (y z : Access) (byte : ℕ) → Logged (x ∷ log) y → Logged (x ∷ log) z → conflict l y z byte ≡ None
    both y z byte (inl e) (inl d) = subst (λ a. conflict l a z byte ≡ None) e (subst (λ a. conflict l x a byte ≡ None) d (no_conflict_self l x byte))
    both y z byte (inl e) (inr w) = subst (λ a. conflict l a z byte ≡ None) e (conflict_sym l z x byte (with_earlier z byte w))
    both y z byte (inr v) (inl d) = subst (λ a. conflict l y a byte ≡ None) d (with_earlier y byte v)
    both y z byte (inr v) (inr w) = calm y z byte v w
