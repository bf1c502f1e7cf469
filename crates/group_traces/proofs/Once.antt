-- Bytes that were accessed once each, with an access more.
use Rattle.std.proofs.Common.{◌≡◌, ℕ, ◌+◌, ◌%◌, ◌<◌, ◌==◌, Bool, true, false, not, if◌then◌else◌, length, get_or, set, refl, sym, ap, ap₂, ◌∙◌, arith, eq-eqb}
use Rattle.std.proofs.lemmas.List.{get_or-set_same, get_or-set_other}
use Rattle.clmodel.specs.declared.access.Access.{Access}
use Rattle.clmodel.specs.declared.access.AccessKind.{AccessKind}
use Rattle.clmodel.proofs.Steps.{decided, if_true, if_false}
use Rattle.shadow.specs.Seen.{one_sort, mark_of}
use Rattle.shadow.specs.declared.seen.Mark.{Mark}
use Rattle.shadow.proofs.Absorbing.{sort_self}
use Rattle.group_traces.specs.Traces.{untouched, first_in, trace_with, single_mark, single_byte, HoldsByte}
use Rattle.group_traces.specs.declared.single.Singles.{Singles}
use Rattle.group_traces.proofs.Parts.{AreWith, uncovered, with_more}

-- ---- one byte

-- the same access once more
again : (i : ℕ) (m : Mark) → trace_with (first_in i m false) i m ≡ first_in i m false
again i m =
    if_true (i == i)
    (record { interval = i; mark = m; touched = true; many = not (m.item == m.item); mixed = not (one_sort m m); several = not (one_sort m m) })
    (first_in i m (not (one_sort m m))) (eq-eqb i i refl)
    ∙ ap₂ (λ (a b : Bool). record { interval = i; mark = m; touched = true; many = not a; mixed = not b; several = not b }) (eq-eqb m.item m.item refl) (sort_self m)

-- a byte that is still accessed once
pub held : (s : Singles) (k i : ℕ) (m : Mark) → s.who.interval ≡ i → HoldsByte s k m → trace_with (single_byte s k) i m ≡ first_in i m false
held s k i m e h =
    decided (get_or s.how.touched k false)
    (λ t.
    ap (λ z. trace_with z i m)
    (if_true (get_or s.how.touched k false) (first_in s.who.interval (single_mark s k) false) untouched t ∙ ap (λ n. first_in n (single_mark s k) false) e ∙ ap (λ z. first_in i z false) (h t))
    ∙ again i m)
    (λ t. ap (λ z. trace_with z i m) (if_false (get_or s.how.touched k false) (first_in s.who.interval (single_mark s k) false) untouched t))

-- a byte that is put, and the others
pub put_here : (s : Singles) (k : ℕ) (m : Mark) → k < length s.how.touched → k < length s.who.items → k < length s.how.left → s.how.kind ≡ m.kind
    → single_byte (record { how = record s.how { touched = set s.how.touched k true; left = set s.how.left k m.left }; who = record s.who { items = set s.who.items k m.item } }) k ≡ first_in s.who.interval m false
put_here s k m a b d e =
    if_true (get_or (set s.how.touched k true) k false) (first_in s.who.interval (record { item = get_or (set s.who.items k m.item) k 0; kind = s.how.kind; left = get_or (set s.how.left k m.left) k 0 }) false) untouched
    (get_or-set_same s.how.touched k true false a)
    ∙ ap (λ n. first_in s.who.interval (record { item = n; kind = s.how.kind; left = get_or (set s.how.left k m.left) k 0 }) false) (get_or-set_same s.who.items k m.item 0 b)
    ∙ ap (λ n. first_in s.who.interval (record { item = m.item; kind = s.how.kind; left = n }) false) (get_or-set_same s.how.left k m.left 0 d)
    ∙ ap (λ (n : AccessKind). first_in s.who.interval (record { item = m.item; kind = n; left = m.left }) false) e

pub put_other : (s : Singles) (k j : ℕ) (m : Mark) → (j ≡ k → ⊥)
    → single_byte (record { how = record s.how { touched = set s.how.touched k true; left = set s.how.left k m.left }; who = record s.who { items = set s.who.items k m.item } }) j ≡ single_byte s j
put_other s k j m ne =
    ap (λ (b : Bool). if b then first_in s.who.interval (record { item = get_or (set s.who.items k m.item) j 0; kind = s.how.kind; left = get_or (set s.how.left k m.left) j 0 }) false else untouched)
    (get_or-set_other s.how.touched k j true false ne)
    ∙ ap (λ n. if get_or s.how.touched j false then first_in s.who.interval (record { item = n; kind = s.how.kind; left = get_or (set s.how.left k m.left) j 0 }) false else untouched)
    (get_or-set_other s.who.items k j m.item 0 ne)
    ∙ ap (λ n. if get_or s.how.touched j false then first_in s.who.interval (record { item = get_or s.who.items j 0; kind = s.how.kind; left = n }) false else untouched) (get_or-set_other s.how.left k j m.left 0 ne)

-- a byte that has this mark holds it
pub holds_mark : (s : Singles) (k : ℕ) (m : Mark) → get_or s.who.items k 0 ≡ m.item → get_or s.how.left k 0 ≡ m.left → s.how.kind ≡ m.kind → single_mark s k ≡ m
holds_mark s k m a b e =
    ap (λ n. record { item = n; kind = s.how.kind; left = get_or s.how.left k 0 }) a ∙ ap (λ n. record { item = m.item; kind = s.how.kind; left = n }) b
    ∙ ap (λ (n : AccessKind). record { item = m.item; kind = n; left = m.left }) e

-- ---- one byte more

pub single_more :
    (x : Access) (first count byte : ℕ) (old now new : Singles) → first + count ≡ byte → first % 4 + count < 4 → HoldsByte old (byte % 4) (mark_of x byte) → old.who.interval ≡ x.interval → now.who.interval ≡ old.who.interval
    → single_byte new (byte % 4) ≡ first_in now.who.interval (mark_of x byte) false → ((j : ℕ) → (j ≡ byte % 4 → ⊥) → single_byte new j ≡ single_byte now j)
    → AreWith x first count (single_byte old) (single_byte now) → AreWith x first (count + 1) (single_byte old) (single_byte new)
single_more x first count byte old now new at fits holds i j here others were =
    with_more x first count byte (single_byte old) (single_byte now) (single_byte new) at fits
    (here ∙ ap (λ n. first_in n (mark_of x byte) false) (j ∙ i)
    ∙ sym (ap (λ t. trace_with t x.interval (mark_of x byte)) (were (byte % 4) (omega arith) ∙ uncovered x first count byte (single_byte old (byte % 4)) at fits) ∙ held old (byte % 4) x.interval (mark_of x byte) i holds))
    others were
