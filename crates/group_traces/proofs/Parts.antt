-- Bytes of a word that an access is added to, one after another.
use Rattle.std.proofs.Common.{◌≡◌, ℕ, ◌+◌, ◌-◌, ◌%◌, ◌<◌, ◌≤◌, ◌⊎◌, Bool, if◌then◌else◌, List, length, get_or, set, sym, ap, ◌∙◌, inl, inr, arith}
use Rattle.std.proofs.lemmas.Bool.{cases_eq, cases_lt}
use Rattle.std.proofs.lemmas.List.{get_or-set_same, get_or-set_other}
use Rattle.clmodel.specs.Cells.{covers}
use Rattle.clmodel.specs.declared.access.Access.{Access}
use Rattle.clmodel.proofs.CellLaws.{covers_from}
use Rattle.clmodel.proofs.Steps.{if_true, if_false}
use Rattle.shadow.specs.Seen.{mark_of}
use Rattle.shadow.proofs.Marking.{covers_not}
use Rattle.group_traces.specs.Traces.{untouched, trace_with, part_with}
use Rattle.group_traces.specs.declared.trace.Trace.{Trace}

-- the byte of an access's part that comes next is the last of a part that is one longer
covers_more : (first count k : ℕ) → (k ≡ first + count → ⊥) → covers first (count + 1) k ≡ covers first count k
covers_more first count k ne = go (cases_lt k first) (cases_lt k (first + count))
  where
    go : (k < first) ⊎ (first ≤ k) → (k < first + count) ⊎ (first + count ≤ k) → covers first (count + 1) k ≡ covers first count k
    go (inl h) _ = covers_not first (count + 1) k (inl h) ∙ sym (covers_not first count k (inl h))
    go (inr h) (inl l) = covers_from first (count + 1) k h (omega (arith, l)) ∙ sym (covers_from first count k h l)
    go (inr h) (inr l) = covers_not first (count + 1) k (inr (omega (arith, l, ne))) ∙ sym (covers_not first count k (inr l))

-- what is kept of four bytes, with an access at so many of them
abbrev pub AreWith : Access → ℕ → ℕ → (ℕ → Trace) → (ℕ → Trace) → Type 0
AreWith x first count old new = (k : ℕ) → k < 4 → new k ≡ part_with x first count k (old k)

-- a byte that isn't one of them
pub uncovered : (x : Access) (first count byte : ℕ) (t : Trace) → first + count ≡ byte → first % 4 + count < 4 → part_with x first count (byte % 4) t ≡ t
uncovered x first count byte t at fits =
    if_false (covers (first % 4) count (byte % 4)) (trace_with t x.interval (mark_of x (first - first % 4 + byte % 4))) t (covers_not (first % 4) count (byte % 4) (inr (omega (arith, at, fits))))

pub with_none : (x : Access) (first count : ℕ) (old : ℕ → Trace) → count ≡ 0 → AreWith x first count old old
with_none x first count old e k small =
    sym (if_false (covers (first % 4) count k) (trace_with (old k) x.interval (mark_of x (first - first % 4 + k))) (old k) (covers_not (first % 4) count k (out (cases_lt k (first % 4)))))
  where
    out : (k < first % 4) ⊎ (first % 4 ≤ k) → (k < first % 4) ⊎ (first % 4 + count ≤ k)
    out (inl h) = inl h
    out (inr h) = inr (omega (arith, h, e))

-- with one byte more
pub with_more :
    (x : Access) (first count byte : ℕ) (old now new : ℕ → Trace) → first + count ≡ byte → first % 4 + count < 4 → new (byte % 4) ≡ trace_with (now (byte % 4)) x.interval (mark_of x byte)
    → ((k : ℕ) → (k ≡ byte % 4 → ⊥) → new k ≡ now k) → AreWith x first count old now → AreWith x first (count + 1) old new
with_more x first count byte old now new at fits is others were k small = go (cases_eq k (byte % 4))
  where
    place : byte % 4 ≡ first % 4 + count
    place = omega (arith, at, fits)

    mark : ℕ → Trace
    mark b = trace_with (old k) x.interval (mark_of x b)

    go : (k ≡ byte % 4) ⊎ (k ≡ byte % 4 → ⊥) → new k ≡ part_with x first (count + 1) k (old k)
    go (inl e) =
        ap new e
        ∙ is
        ∙ ap (λ j. trace_with (now j) x.interval (mark_of x byte)) (sym e)
        ∙ ap (λ z. trace_with z x.interval (mark_of x byte)) (were k small ∙ ap (λ j. part_with x first count j (old k)) e ∙ uncovered x first count byte (old k) at fits)
        ∙ ap mark {x = byte} {y = first - first % 4 + k} (omega (arith, e, place, at))
        ∙ sym (if_true (covers (first % 4) (count + 1) k) (mark (first - first % 4 + k)) (old k) (covers_from (first % 4) (count + 1) k (omega (arith, e, place)) (omega (arith, e, place))))
    go (inr ne) =
        others k ne
        ∙ were k small
        ∙ ap (λ (b : Bool). if b then mark (first - first % 4 + k) else old k) (sym (covers_more (first % 4) count k (λ e. ne (e ∙ sym place))))

-- the same of a list of them
abbrev pub ArePart : Access → ℕ → ℕ → List Trace → List Trace → Type 0
ArePart x first count old new = (k : ℕ) → k < 4 → get_or new k untouched ≡ part_with x first count k (get_or old k untouched)

pub part_more :
    (x : Access) (first count byte : ℕ) (old new : List Trace) (t : Trace) → first + count ≡ byte → first % 4 + count < 4 → length new ≡ 4 → t ≡ trace_with (get_or new (byte % 4) untouched) x.interval (mark_of x byte)
    → ArePart x first count old new → ArePart x first (count + 1) old (set new (byte % 4) t)
part_more x first count byte old new t at fits long is were =
    with_more x first count byte (λ k. get_or old k untouched) (λ k. get_or new k untouched) (λ k. get_or (set new (byte % 4) t) k untouched) at fits
    (get_or-set_same new (byte % 4) t untouched (omega (arith, long)) ∙ is) (λ k ne. get_or-set_other new (byte % 4) k t untouched ne) were
