-- What is kept of bytes tells the conflicts of an access of another group's item.
use Rattle.std.proofs.Common.{◌≡◌, ℕ, zero, suc, ◌+◌, ◌<◌, ◌≤◌, ◌==◌, Bool, true, false, not, ◌&&◌, ◌||◌, ◌⊎◌, if◌then◌else◌, Option, None, Some, List, [], ◌∷◌, refl, sym, ap, ap₂, ◌∙◌, subst, inl, inr, arith, eqb-true, eq-eqb, length, get_or}
use Rattle.std.proofs.lemmas.List.{get_or-map, get_or_past}
use Rattle.clmodel.specs.declared.access.Region.TheVariants as region
use Rattle.std.specs.Option.{option_map}
use Rattle.std.proofs.lemmas.Bool.{and_parts, and_from, or_left, or_right, cases_eq, false≢true, ne_eqb}
use Rattle.std.proofs.Math.Bool.{or_comm, or_self}
use Rattle.clmodel.specs.Cells.{byte_count, covers}
use Rattle.clmodel.specs.Launch.{same_region, class_number, clash, both_store, left_at, clash_at, share, across_groups, conflict_between}
use Rattle.clmodel.specs.Run.{or_else}
use Rattle.clmodel.specs.Law.{conflict_on, conflict_from}
use Rattle.clmodel.specs.declared.access.Access.{Access}
use Rattle.clmodel.specs.declared.access.AccessKind.{AccessKind}
use Rattle.clmodel.specs.declared.access.AccessKind.TheVariants as kind
use Rattle.clmodel.specs.declared.access.Clash.{Clash}
use Rattle.clmodel.specs.declared.access.Clash.TheVariants.{Race}
use Rattle.clmodel.specs.declared.access.Region.{Region}
use Rattle.clmodel.specs.declared.access.Conflict as conflict_type
use Rattle.clmodel.proofs.Steps.{none_some, or_else_nothing, or_else_map}
use Rattle.clmodel.proofs.CellLaws.{covers_from}
use Rattle.clmodel.proofs.Conflicts.{eqb_sym}
use Rattle.joining.specs.Memory.{writes, at_byte, wrote}
use Rattle.access_list.specs.Kinds.{kind_number}
use Rattle.access_list.proofs.Agreeing.{class_small, agree_number, not_eight, number_agrees}
use Rattle.shadow.specs.Seen.{one_sort, seen_with, is_written, left_by, mark_of, seen, mark_clash, met, against, against_from, meeting_of, meeting, Remembers, OfOthers, cell, cell_in, buffer_cells}
use Rattle.shadow.specs.declared.pages.Pages.{Pages}
use Rattle.shadow.specs.declared.seen.Mark.{Mark}
use Rattle.shadow.specs.declared.seen.Meeting.{Meeting}
use Rattle.shadow.specs.declared.seen.Seen.{Seen}
use Rattle.shadow.specs.declared.seen.Seen.TheVariants.{Untouched, Touched, Mixed}

-- ---- one access more

-- a mark has a byte left where it is of a store alone
abbrev pub Plain : Mark → Type 0
Plain m = (kind_number m.kind ≡ 9) ⊎ (m.left ≡ 0)

left_plain : (k : AccessKind) (left : ℕ) → (kind_number k ≡ 9) ⊎ (left_by k left ≡ 0)
left_plain kind.Load left = inr refl
left_plain kind.Store left = inl refl
left_plain (kind.Update c) left = inr refl
left_plain kind.Fetch left = inr refl

pub mark_plain : (x : Access) (byte : ℕ) → Plain (mark_of x byte)
mark_plain x byte = left_plain x.kind (left_at x byte)

-- the two that are kept are of different sorts
abbrev pub Apart : Seen → Type 0
Apart Untouched = Unit {0}
Apart (Touched a) = Plain a
Apart (Mixed a b) = Plain a × Plain b × (one_sort a b ≡ false)

with_apart : (s : Seen) (m : Mark) → Plain m → Apart s → Apart (seen_with s m)
with_apart Untouched m plain h = plain
with_apart (Touched a) m plain h = go (one_sort a m) refl
  where
    go : (b : Bool) → one_sort a m ≡ b → Apart (if one_sort a m then Touched a else Mixed a m)
    go true e = subst (λ (z : Bool). Apart (if z then Touched a else Mixed a m)) (sym e) h
    go false e = subst (λ (z : Bool). Apart (if z then Touched a else Mixed a m)) (sym e) (h, plain, e)
with_apart (Mixed a b) m plain h = h

either_apart : (s : Seen) (m : Mark) (b : Bool) → Plain m → Apart s → Apart (if b then seen_with s m else s)
either_apart s m true plain h = with_apart s m plain h
either_apart s m false plain h = h

pub seen_apart : (at : Region) (byte : ℕ) (log : List Access) → Apart (seen at byte log)
seen_apart at byte [] = tt
seen_apart at byte (x ∷ log) = either_apart (seen at byte log) (mark_of x byte) (at_byte at byte x) (mark_plain x byte) (seen_apart at byte log)

-- ---- marks that pass one another

not_nine : (n : ℕ) → n < 8 → n ≡ 9 → ⊥
not_nine n b e = omega (arith, b, e)

both_nine : (k k2 : AccessKind) → both_store k k2 ≡ true → (kind_number k ≡ 9) × (kind_number k2 ≡ 9)
both_nine kind.Load k2 h = absurd (false≢true h)
both_nine kind.Store kind.Load h = absurd (false≢true h)
both_nine kind.Store kind.Store h = (refl, refl)
both_nine kind.Store (kind.Update d) h = absurd (false≢true h)
both_nine kind.Store kind.Fetch h = absurd (false≢true h)
both_nine (kind.Update c) k2 h = absurd (false≢true h)
both_nine kind.Fetch k2 h = absurd (false≢true h)

nine_both : (k k2 : AccessKind) → kind_number k ≡ 9 → kind_number k2 ≡ 9 → both_store k k2 ≡ true
nine_both kind.Load k2 e f = absurd (omega (arith, e))
nine_both kind.Store kind.Load e f = absurd (omega (arith, f))
nine_both kind.Store kind.Store e f = refl
nine_both kind.Store (kind.Update d) e f = absurd (not_nine (class_number d) (class_small d) f)
nine_both kind.Store kind.Fetch e f = absurd (omega (arith, f))
nine_both (kind.Update c) k2 e f = absurd (not_nine (class_number c) (class_small c) e)
nine_both kind.Fetch k2 e f = absurd (omega (arith, e))

-- each kind clashes with a store's
store_clashes : (k k2 : AccessKind) → kind_number k2 ≡ 9 → clash k k2 ≡ None → ⊥
store_clashes k kind.Load e h = absurd (omega (arith, e))
store_clashes kind.Load kind.Store e h = none_some Race (sym h)
store_clashes kind.Store kind.Store e h = none_some Race (sym h)
store_clashes (kind.Update c) kind.Store e h = none_some Race (sym h)
store_clashes kind.Fetch kind.Store e h = none_some Race (sym h)
store_clashes k (kind.Update d) e h = not_nine (class_number d) (class_small d) e
store_clashes k kind.Fetch e h = absurd (omega (arith, e))

-- stores of a uniform launch that leave the same byte
abbrev pub SameStore : Bool → Mark → Mark → Type 0
SameStore u a z = (u ≡ true) × (kind_number a.kind ≡ 9) × (kind_number z.kind ≡ 9) × (a.left ≡ z.left)

-- what passes: such stores, or kinds that don't clash
pub passes : (u : Bool) (a z : Mark) → mark_clash u a z ≡ None → SameStore u a z ⊎ (clash a.kind z.kind ≡ None)
passes u a z h = go (both_store a.kind z.kind && u && (a.left == z.left)) refl h
  where
    go : (b : Bool) → (both_store a.kind z.kind && u && (a.left == z.left)) ≡ b → (if b then None else clash a.kind z.kind) ≡ None → SameStore u a z ⊎ (clash a.kind z.kind ≡ None)
    go false e none = inr none
    go true e none =
        let p = and_parts (both_store a.kind z.kind && u) (a.left == z.left) e in
        let q = and_parts (both_store a.kind z.kind) u p.0 in
        let r = both_nine a.kind z.kind q.0 in
        inl (q.1, r.0, r.1, eqb-true a.left z.left p.1)

pub store_passes : (u : Bool) (a z : Mark) → SameStore u a z → mark_clash u a z ≡ None
store_passes u a z s =
    ap (λ (b : Bool). if b then None else clash a.kind z.kind)
    (and_from (both_store a.kind z.kind && u) (a.left == z.left)
    (and_from (both_store a.kind z.kind) u (nine_both a.kind z.kind s.1 s.2) s.0)
    (eq-eqb a.left z.left s.3))

pub kind_passes : (u : Bool) (a z : Mark) → clash a.kind z.kind ≡ None → mark_clash u a z ≡ None
kind_passes u a z h = go (both_store a.kind z.kind && u && (a.left == z.left))
  where
    go : (b : Bool) → (if b then None else clash a.kind z.kind) ≡ None
    go true = refl
    go false = h

-- what passes one of a sort passes the others
pub sort_passes : (u : Bool) (a m z : Mark) → one_sort a m ≡ true → mark_clash u a z ≡ None → mark_clash u m z ≡ None
sort_passes u a m z e h = go (passes u a z h)
  where
    p : ((kind_number a.kind == kind_number m.kind) ≡ true) × ((a.left == m.left) ≡ true)
    p = and_parts (kind_number a.kind == kind_number m.kind) (a.left == m.left) e

    same : kind_number a.kind ≡ kind_number m.kind
    same = eqb-true (kind_number a.kind) (kind_number m.kind) p.0

    go : SameStore u a z ⊎ (clash a.kind z.kind ≡ None) → mark_clash u m z ≡ None
    go (inl s) = store_passes u m z (s.0, sym same ∙ s.1, s.2, sym (eqb-true a.left m.left p.1) ∙ s.3)
    go (inr c) = kind_passes u m z (number_agrees a.kind m.kind z.kind c (sym same ∙ agree_number a.kind z.kind c))

-- marks of one kind that have the same byte left are of one sort
pub sort_from : (a b : Mark) → kind_number a.kind ≡ kind_number b.kind → a.left ≡ b.left → one_sort a b ≡ true
sort_from a b e f =
    and_from (kind_number a.kind == kind_number b.kind) (a.left == b.left) (eq-eqb (kind_number a.kind) (kind_number b.kind) e) (eq-eqb a.left b.left f)

plain_left : (m : Mark) → Plain m → (kind_number m.kind ≡ 9 → ⊥) → m.left ≡ 0
plain_left m (inl e) ne = absurd (ne e)
plain_left m (inr e) ne = e

-- what passes two is of one sort with both
pub passes_both : (u : Bool) (a b z : Mark) → Plain a → Plain b → mark_clash u a z ≡ None → mark_clash u b z ≡ None → one_sort a b ≡ true
passes_both u a b z plain_a plain_b h i = go (passes u a z h) (passes u b z i)
  where
    not_store : (m : Mark) → clash m.kind z.kind ≡ None → kind_number m.kind ≡ 9 → ⊥
    not_store m c e = store_clashes m.kind z.kind (sym (agree_number m.kind z.kind c) ∙ e) c

    go : SameStore u a z ⊎ (clash a.kind z.kind ≡ None) → SameStore u b z ⊎ (clash b.kind z.kind ≡ None) → one_sort a b ≡ true
    go (inl s) (inl t) = sort_from a b (s.1 ∙ sym t.1) (s.3 ∙ sym t.3)
    go (inl s) (inr c) = absurd (store_clashes b.kind z.kind s.2 c)
    go (inr c) (inl s) = absurd (store_clashes a.kind z.kind s.2 c)
    go (inr c) (inr d) =
        sort_from a b (agree_number a.kind z.kind c ∙ sym (agree_number b.kind z.kind d))
        (plain_left a plain_a (not_store a c) ∙ sym (plain_left b plain_b (not_store b d)))

-- ---- what is met

-- a mark of a sort that is kept already is met only where the one that is kept is
same_sort : (u : Bool) (z : Mark) (byte : ℕ) (a m : Mark) → one_sort a m ≡ true → met u z byte a ≡ or_else (met u z byte a) (met u z byte m)
same_sort u z byte a m e = go (mark_clash u a z) refl
  where
    go : (o : Option Clash) → mark_clash u a z ≡ o → met u z byte a ≡ or_else (met u z byte a) (met u z byte m)
    go (Some c) h =
        ap (option_map (λ c. record { clash = c; mark = a; byte = byte })) h
        ∙ sym (ap (λ o. or_else (option_map (λ c. record { clash = c; mark = a; byte = byte }) o) (met u z byte m)) h)
    go None h =
        ap (option_map (λ c. record { clash = c; mark = a; byte = byte })) h
        ∙ sym (ap (option_map (λ c. record { clash = c; mark = m; byte = byte })) (sort_passes u a m z e h))
        ∙ sym (ap (λ o. or_else (option_map (λ c. record { clash = c; mark = a; byte = byte }) o) (met u z byte m)) h)

-- of two sorts one is met
one_is_met : (u : Bool) (z : Mark) (byte : ℕ) (a b m : Mark) → Plain a → Plain b → one_sort a b ≡ false
    → or_else (met u z byte a) (met u z byte b) ≡ or_else (or_else (met u z byte a) (met u z byte b)) (met u z byte m)
one_is_met u z byte a b m plain_a plain_b apart = go (mark_clash u a z) refl (mark_clash u b z) refl
  where
    at : Option Clash → Option Clash → Option Meeting
    at o p = or_else (option_map (λ c. record { clash = c; mark = a; byte = byte }) o) (option_map (λ c. record { clash = c; mark = b; byte = byte }) p)

    go : (o : Option Clash) → mark_clash u a z ≡ o → (p : Option Clash) → mark_clash u b z ≡ p
        → at (mark_clash u a z) (mark_clash u b z) ≡ or_else (at (mark_clash u a z) (mark_clash u b z)) (met u z byte m)
    go (Some c) h p i = ap₂ at h i ∙ sym (ap₂ (λ x y. or_else (at x y) (met u z byte m)) h i)
    go None h (Some c) i = ap₂ at h i ∙ sym (ap₂ (λ x y. or_else (at x y) (met u z byte m)) h i)
    go None h None i = absurd (false≢true (sym apart ∙ passes_both u a b z plain_a plain_b h i))

-- what an access meets of a byte with one access more
pub against_more : (u : Bool) (z : Mark) (byte : ℕ) (s : Seen) (m : Mark) → Apart s → against u z byte (seen_with s m) ≡ or_else (against u z byte s) (met u z byte m)
against_more u z byte Untouched m h = refl
against_more u z byte (Touched a) m h = go (one_sort a m) refl
  where
    go : (b : Bool) → one_sort a m ≡ b → against u z byte (if one_sort a m then Touched a else Mixed a m) ≡ or_else (met u z byte a) (met u z byte m)
    go true e = ap (λ (y : Bool). against u z byte (if y then Touched a else Mixed a m)) e ∙ same_sort u z byte a m e
    go false e = ap (λ (y : Bool). against u z byte (if y then Touched a else Mixed a m)) e
against_more u z byte (Mixed a b) m h = one_is_met u z byte a b m h.0 h.1 h.2

-- ---- whether a byte was written

kind_writes : (k : AccessKind) → writes k ≡ not (kind_number k == 8)
kind_writes kind.Load = refl
kind_writes kind.Store = refl
kind_writes (kind.Update c) = sym (ap not (ne_eqb (class_number c) 8 (not_eight (class_number c) (class_small c))))
kind_writes kind.Fetch = refl

-- a load has no byte left
load_left : (m : Mark) → Plain m → kind_number m.kind ≡ 8 → m.left ≡ 0
load_left m plain e = plain_left m plain (λ nine. absurd (omega (arith, e, nine)))

-- of two sorts one writes
one_writes : (a b : Mark) → Plain a → Plain b → one_sort a b ≡ false → (writes a.kind || writes b.kind) ≡ true
one_writes a b plain_a plain_b apart = go (cases_eq (kind_number a.kind) 8) (cases_eq (kind_number b.kind) 8)
  where
    go : (kind_number a.kind ≡ 8) ⊎ (kind_number a.kind ≡ 8 → ⊥) → (kind_number b.kind ≡ 8) ⊎ (kind_number b.kind ≡ 8 → ⊥) → (writes a.kind || writes b.kind) ≡ true
    go (inl h) (inl i) = absurd (false≢true (sym apart ∙ sort_from a b (h ∙ sym i) (load_left a plain_a h ∙ sym (load_left b plain_b i))))
    go (inr h) _ = or_left (writes a.kind) (writes b.kind) (kind_writes a.kind ∙ ap not (ne_eqb (kind_number a.kind) 8 h))
    go (inl h) (inr i) = or_right (writes a.kind) (writes b.kind) (kind_writes b.kind ∙ ap not (ne_eqb (kind_number b.kind) 8 i))

written_with : (s : Seen) (m : Mark) → Apart s → is_written (seen_with s m) ≡ (writes m.kind || is_written s)
written_with Untouched m h = or_comm false (writes m.kind)
written_with (Touched a) m h = go (one_sort a m) refl
  where
    go : (b : Bool) → one_sort a m ≡ b → is_written (if one_sort a m then Touched a else Mixed a m) ≡ (writes m.kind || writes a.kind)
    go true e =
        let number : kind_number a.kind ≡ kind_number m.kind =
        eqb-true (kind_number a.kind) (kind_number m.kind) (and_parts (kind_number a.kind == kind_number m.kind) (a.left == m.left) e).0 in
        let same : writes m.kind ≡ writes a.kind = kind_writes m.kind ∙ ap (λ n. not (n == 8)) (sym number) ∙ sym (kind_writes a.kind) in
        ap (λ (z : Bool). is_written (if z then Touched a else Mixed a m)) e ∙ sym (ap (λ (z : Bool). z || writes a.kind) same ∙ or_self (writes a.kind))
    go false e = ap (λ (z : Bool). is_written (if z then Touched a else Mixed a m)) e ∙ or_comm (writes a.kind) (writes m.kind)
written_with (Mixed a b) m h =
    let some = one_writes a b h.0 h.1 h.2 in some ∙ sym (or_right (writes m.kind) (writes a.kind || writes b.kind) some)

and_true : (b : Bool) → (b && true) ≡ b
and_true true = refl
and_true false = refl

and_false : (b : Bool) → (b && false) ≡ false
and_false true = refl
and_false false = refl

-- the marks of a byte tell whether it was written
pub written : (at : Region) (byte : ℕ) (log : List Access) → is_written (seen at byte log) ≡ wrote log at byte
written at byte [] = refl
written at byte (x ∷ log) = go (written at byte log) (at_byte at byte x) refl
  where
    go : is_written (seen at byte log) ≡ wrote log at byte → (b : Bool) → at_byte at byte x ≡ b
        → is_written (if at_byte at byte x then seen_with (seen at byte log) (mark_of x byte) else seen at byte log) ≡ ((writes x.kind && at_byte at byte x) || wrote log at byte)
    go older true e =
        ap (λ (z : Bool). is_written (if z then seen_with (seen at byte log) (mark_of x byte) else seen at byte log)) e
        ∙ written_with (seen at byte log) (mark_of x byte) (seen_apart at byte log)
        ∙ ap₂ (λ (u w : Bool). u || w) (sym (and_true (writes x.kind))) older
        ∙ sym (ap (λ (z : Bool). (writes x.kind && z) || wrote log at byte) e)
    go older false e =
        ap (λ (z : Bool). is_written (if z then seen_with (seen at byte log) (mark_of x byte) else seen at byte log)) e
        ∙ older
        ∙ ap (λ (z : Bool). z || wrote log at byte) (sym (and_false (writes x.kind)))
        ∙ sym (ap (λ (z : Bool). (writes x.kind && z) || wrote log at byte) e)

-- ---- the conflict of an access

-- whether two regions are one, whichever is named first
pub region_swapped : (a b : Region) → same_region a b ≡ same_region b a
region_swapped (region.Buffer a) (region.Buffer b) = eqb_sym a b
region_swapped (region.Buffer a) (region.Local h b) = refl
region_swapped (region.Local g a) (region.Buffer b) = refl
region_swapped (region.Local g a) (region.Local h b) = ap₂ (λ (x y : Bool). x && y) (eqb_sym g h) (eqb_sym a b)

-- how an access conflicts with one of another item on a byte that it is at
judged_bits : (same mine there : Bool) (o : Option Clash) → mine ≡ true
    → (if (true && true) && (same && there && mine) then o else None) ≡ (if same && there then o else None)
judged_bits true mine true o e = ap (λ (z : Bool). if z then o else None) e
judged_bits true mine false o e = refl
judged_bits false mine there o e = refl

judged : (u : Bool) (x y : Access) (byte : ℕ) → (y.item ≡ x.item → ⊥) → covers x.first (byte_count x.width) byte ≡ true
    → conflict_between (across_groups u) y x byte ≡ (if at_byte x.region byte y then clash_at (across_groups u) y x byte else None)
unfolding conflict_between
judged u x y byte ne here =
    ap (λ (z : Bool). if (not z && true) && share y x byte then clash_at (across_groups u) y x byte else None) (ne_eqb y.item x.item ne)
    ∙ judged_bits (same_region y.region x.region) (covers x.first (byte_count x.width) byte) (covers y.first (byte_count y.width) byte) (clash_at (across_groups u) y x byte) here
    ∙ ap (λ (z : Bool). if z && covers y.first (byte_count y.width) byte then clash_at (across_groups u) y x byte else None) (region_swapped y.region x.region)

-- marks clash as the accesses do
pub kinds_clash : (u : Bool) (k k2 : AccessKind) (a b : ℕ)
    → (if both_store k k2 && u && (left_by k a == left_by k2 b) then None else clash k k2) ≡ (if both_store k k2 && u && (a == b) then None else clash k k2)
kinds_clash u kind.Load k2 a b = refl
kinds_clash u kind.Store kind.Load a b = refl
kinds_clash u kind.Store kind.Store a b = refl
kinds_clash u kind.Store (kind.Update d) a b = refl
kinds_clash u kind.Store kind.Fetch a b = refl
kinds_clash u (kind.Update c) k2 a b = refl
kinds_clash u kind.Fetch k2 a b = refl

marks_clash : (u : Bool) (y x : Access) (byte : ℕ) → mark_clash u (mark_of y byte) (mark_of x byte) ≡ clash_at (across_groups u) y x byte
marks_clash u y x byte = kinds_clash u y.kind x.kind (left_at y byte) (left_at x byte)

told : (x y : Access) (byte : ℕ) (o : Option Clash)
    → option_map meeting_of (option_map (λ c. record { earlier = y; later = x; byte = byte; clash = c }) o) ≡ option_map (λ c. record { clash = c; mark = mark_of y byte; byte = byte }) o
told x y byte None = refl
told x y byte (Some c) = refl

pub on_byte : (u : Bool) (x : Access) (byte : ℕ) (log : List Access) → OfOthers x.item log → covers x.first (byte_count x.width) byte ≡ true
    → against u (mark_of x byte) byte (seen x.region byte log) ≡ option_map meeting_of (conflict_on (conflict_between (across_groups u)) x byte log)
on_byte u x byte [] others here = refl
on_byte u x byte (y ∷ log) others here =
    go (on_byte u x byte log (λ z m. others z (inr m)) here) (at_byte x.region byte y) refl
    ∙ sym (or_else_map meeting_of older (option_map (λ c. record { earlier = y; later = x; byte = byte; clash = c }) (conflict_between (across_groups u) y x byte))
    ∙ ap (or_else (option_map meeting_of older))
    (told x y byte (conflict_between (across_groups u) y x byte) ∙ ap here_met (judged u x y byte (others y (inl refl)) here)))
  where
    older : Option conflict_type.Conflict
    older = conflict_on (conflict_between (across_groups u)) x byte log

    mine : Mark
    mine = mark_of x byte

    here_met : Option Clash → Option Meeting
    here_met = option_map (λ c. record { clash = c; mark = mark_of y byte; byte = byte })

    go : against u mine byte (seen x.region byte log) ≡ option_map meeting_of older → (b : Bool) → at_byte x.region byte y ≡ b
        → against u mine byte (if at_byte x.region byte y then seen_with (seen x.region byte log) (mark_of y byte) else seen x.region byte log)
        ≡ or_else (option_map meeting_of older) (here_met (if at_byte x.region byte y then clash_at (across_groups u) y x byte else None))
    go before true e =
        ap (λ (z : Bool). against u mine byte (if z then seen_with (seen x.region byte log) (mark_of y byte) else seen x.region byte log)) e
        ∙ against_more u mine byte (seen x.region byte log) (mark_of y byte) (seen_apart x.region byte log)
        ∙ ap₂ or_else before (ap here_met (marks_clash u y x byte))
        ∙ sym (ap (λ (z : Bool). or_else (option_map meeting_of older) (here_met (if z then clash_at (across_groups u) y x byte else None))) e)
    go before false e =
        ap (λ (z : Bool). against u mine byte (if z then seen_with (seen x.region byte log) (mark_of y byte) else seen x.region byte log)) e
        ∙ before
        ∙ sym (or_else_nothing (option_map meeting_of older))
        ∙ sym (ap (λ (z : Bool). or_else (option_map meeting_of older) (here_met (if z then clash_at (across_groups u) y x byte else None))) e)

pub on_bytes : (u : Bool) (x : Access) (log : List Access) (cells : ℕ → Seen) → OfOthers x.item log → ((byte : ℕ) → cells byte ≡ seen x.region byte log)
    → (first count : ℕ) → x.first ≤ first → first + count ≤ x.first + byte_count x.width
    → against_from u x cells first count ≡ option_map meeting_of (conflict_from (conflict_between (across_groups u)) x log first count)
on_bytes u x log cells others kept first zero a b = refl
on_bytes u x log cells others kept first (suc count) a b =
    ap₂ or_else
    (ap (against u (mark_of x first) first) (kept first) ∙ on_byte u x first log others (covers_from x.first (byte_count x.width) first a (omega (arith, b))))
    (on_bytes u x log cells others kept (suc first) count (omega (arith, a)) (omega (arith, b)))
    ∙ sym (or_else_map meeting_of (conflict_on (conflict_between (across_groups u)) x first log) (conflict_from (conflict_between (across_groups u)) x log (suc first) count))

-- ---- cells in lists

-- a buffer's cells, and a buffer that has none
pub cells_there : (buffers : List Pages) (n : ℕ) (p : Pages) → n < length buffers → p ≡ get_or buffers n p → cell (buffer_cells buffers) n ≡ cell_in p.apart.items p.pages.items
cells_there buffers n p b e =
    get_or-map (λ (q : Pages). cell_in q.apart.items q.pages.items) buffers n p (λ _. Untouched) b ∙ sym (ap (λ (q : Pages). cell_in q.apart.items q.pages.items) e)

shorter : (buffers : List Pages) (n : ℕ) → length buffers ≤ n → length (buffer_cells buffers) ≤ n
shorter [] n b = b
shorter (v ∷ buffers) zero b = absurd (omega (arith, b))
shorter (v ∷ buffers) (suc n) b = let r : length (buffer_cells buffers) ≤ n = shorter buffers n (omega (arith, b)) in omega (arith, r)

pub cells_gone : (buffers : List Pages) (n : ℕ) → length buffers ≤ n → cell (buffer_cells buffers) n ≡ (λ _. Untouched)
cells_gone buffers n b = get_or_past (buffer_cells buffers) n (λ _. Untouched) (shorter buffers n b)

pub nothing_met : (u : Bool) (x : Access) (cells : ℕ → Seen) → ((byte : ℕ) → cells byte ≡ Untouched) → (first count : ℕ) → against_from u x cells first count ≡ None
nothing_met u x cells none first zero = refl
nothing_met u x cells none first (suc count) = ap₂ or_else (ap (against u (mark_of x first) first) (none first)) (nothing_met u x cells none (suc first) count)

-- the cells of a region's bytes
abbrev pub KeepsAt : (ℕ → Seen) → Region → List Access → Type 0
KeepsAt cells at log = (byte : ℕ) → cells byte ≡ seen at byte log

pub keeps_at : (buffers : List Pages) (log : List Access) (n : ℕ) (at : Region) (cells : ℕ → Seen) → Remembers (buffer_cells buffers) log → at ≡ region.Buffer n → cell (buffer_cells buffers) n ≡ cells
    → KeepsAt cells at log
keeps_at buffers log n at cells h e f byte = ap (λ (c : ℕ → Seen). c byte) (sym f) ∙ h n byte ∙ ap (λ z. seen z byte log) (sym e)

pub met_whole : (u : Bool) (x : Access) (log : List Access) (cells : ℕ → Seen) (count : ℕ) → OfOthers x.item log → KeepsAt cells x.region log → count ≡ byte_count x.width
    → against_from u x cells x.first count ≡ meeting u x log
met_whole u x log cells count others kept e =
    ap (against_from u x cells x.first) e ∙ on_bytes u x log cells others kept x.first (byte_count x.width) (omega arith) (omega arith)
