-- What the words of an access's cell say of its bytes.
use Rattle.std.proofs.Common.{◌≡◌, ℕ, ◌+◌, ◌*◌, ◌/◌, ◌%◌, ◌^◌, ◌<◌, ◌≤◌, ◌⊎◌, ◌&&◌, Bool, true, List, sym, ap, ◌∙◌, subst, inl, inr, arith}
use Rattle.std.proofs.lemmas.Bool.{and_parts, cases_eq, cases_lt}
use Rattle.clmodel.specs.Cells.{byte_count, covers}
use Rattle.clmodel.specs.declared.access.Access.{Access}
use Rattle.clmodel.proofs.CellLaws.{covers_parts}
use Rattle.shadow.specs.Seen.{byte_mark, mark_of}
use Rattle.shadow.specs.declared.seen.Mark.{Mark}
use Rattle.shadow.specs.declared.words.WordMark.{WordMark}
use Rattle.group_traces.specs.Traces.{untouched, word_byte}
use Rattle.group_traces.specs.Cells.{word_trace, cell_at, word_at, placed_trace, at_key, key_of, trace_of, IsOwn, IsNear}
use Rattle.group_traces.specs.declared.cell.Apart.{Apart}
use Rattle.group_traces.specs.declared.cell.TracedWord.{TracedWord}
use Rattle.group_traces.specs.declared.cell.TracedWord.TheVariants as word
use Rattle.group_traces.specs.declared.trace.Trace.{Trace}
use Rattle.group_traces.specs.declared.traces.Traces.{Traces}
use Rattle.group_traces.specs.declared.word.WordTrace.{WordTrace}
use Rattle.group_traces.proofs.Placing.{own_cell}
use Rattle.group_traces.proofs.Written.{one_word, part_at, next_word}

-- an access of at most four bytes is near in one word, and a wider one in two
pub near_one : (x : Access) (count : ℕ) → IsNear x → count ≡ byte_count x.width → count ≤ 4 → x.first % 4 + count ≤ 4
near_one x count near e small = go near.1
  where
    go : (x.first % 4 + byte_count x.width ≤ 4) ⊎ ((byte_count x.width ≡ 8) × (x.first % 8 ≡ 0)) → x.first % 4 + count ≤ 4
    go (inl h) = omega (arith, h, e)
    go (inr h) = absurd (omega (arith, h.0, e, small))

pub near_two : (x : Access) (count : ℕ) → IsNear x → count ≡ byte_count x.width → 4 < count → (byte_count x.width ≡ 8) × (x.first % 8 ≡ 0)
near_two x count near e wide = go near.1
  where
    go : (x.first % 4 + byte_count x.width ≤ 4) ⊎ ((byte_count x.width ≡ 8) × (x.first % 8 ≡ 0)) → (byte_count x.width ≡ 8) × (x.first % 8 ≡ 0)
    go (inl h) = absurd (omega (arith, h, e, wide))
    go (inr h) = h

-- its first bytes are of one word
pub near_part : (x : Access) (count part : ℕ) → IsNear x → count ≡ byte_count x.width → part ≤ 4 → part ≤ count → x.first % 4 + part ≤ 4
near_part x count part near e small less = go near.1
  where
    go : (x.first % 4 + byte_count x.width ≤ 4) ⊎ ((byte_count x.width ≡ 8) × (x.first % 8 ≡ 0)) → x.first % 4 + part ≤ 4
    go (inl h) = omega (arith, h, e, less)
    go (inr h) = omega (arith, h.1, small)

-- its bytes are of one cell
near_cell : (x : Access) (byte : ℕ) → IsNear x → covers x.first (byte_count x.width) byte ≡ true → byte / 32 ≡ x.first / 32
near_cell x byte near c = go near.1
  where
    r : (x.first ≤ byte) × (byte < x.first + byte_count x.width)
    r = covers_parts x.first (byte_count x.width) byte c

    go : (x.first % 4 + byte_count x.width ≤ 4) ⊎ ((byte_count x.width ≡ 8) × (x.first % 8 ≡ 0)) → byte / 32 ≡ x.first / 32
    go (inl h) = omega (arith, h, r.0, r.1)
    go (inr h) = omega (arith, h.0, h.1, r.0, r.1)

-- what holds of a byte without accesses holds where the cell isn't there
pub seen_none :
    (P : ℕ → Trace → Type 0) (t : Traces) (number : ℕ) (x : Access) → IsNear x → ((b : ℕ) → at_key t (key_of number x.first) b ≡ untouched) → ((byte : ℕ) → P byte untouched)
    → (byte : ℕ) → covers x.first (byte_count x.width) byte ≡ true → P byte (trace_of t number byte)
seen_none P t number x near none h byte c =
    subst (P byte)
    (sym (ap (λ q. at_key t (q * 2 ^ 32 + number) (byte % 32)) {x = byte / 32} {y = x.first / 32} (near_cell x byte near c) ∙ none (byte % 32))) (h byte)

-- a byte of a word, by the cell
at_word :
    (t : Traces) (number i first byte : ℕ) → IsOwn t (key_of number first) i → byte / 4 ≡ first / 4
    → trace_of t number byte ≡ word_trace t.apart.items (cell_at t.cells.items i).key (first % 32 / 4) (word_at (cell_at t.cells.items i) (first % 32 / 4)) (byte % 4)
at_word t number i first byte own same =
    let w = one_word first byte same in
    ap (λ q. at_key t (q * 2 ^ 32 + number) (byte % 32)) {x = byte / 32} {y = first / 32} w.0
    ∙ ap (placed_trace t.cells.items t.apart.items (key_of number first) (byte % 32)) own.there
    ∙ own_cell t.apart.items (key_of number first) (cell_at t.cells.items i) (byte % 32) own.own
    ∙ ap (λ q. word_trace t.apart.items q (byte % 32 / 4) (word_at (cell_at t.cells.items i) (byte % 32 / 4)) (byte % 32 % 4)) (sym own.own)
    ∙ ap (λ n. word_trace t.apart.items (cell_at t.cells.items i).key n (word_at (cell_at t.cells.items i) n) (byte % 32 % 4)) {x = byte % 32 / 4} {y = first % 32 / 4} w.1
    ∙ ap (word_trace t.apart.items (cell_at t.cells.items i).key (first % 32 / 4) (word_at (cell_at t.cells.items i) (first % 32 / 4))) (part_at byte)

-- what holds of some bytes of a word by its cell
abbrev pub InPart : (ℕ → Trace → Type 0) → Traces → ℕ → ℕ → ℕ → Type 0
InPart P t i first count =
    (byte : ℕ) → first ≤ byte → byte < first + count
    → P byte (word_trace t.apart.items (cell_at t.cells.items i).key (first % 32 / 4) (word_at (cell_at t.cells.items i) (first % 32 / 4)) (byte % 4))

pub in_part : (P : ℕ → Trace → Type 0) (t : Traces) (number i first count : ℕ) → IsOwn t (key_of number first) i → first % 4 + count ≤ 4 → InPart P t i first count
    → (byte : ℕ) → first ≤ byte → byte < first + count → P byte (trace_of t number byte)
in_part P t number i first count own fits h byte lo hi = subst (P byte) (sym (at_word t number i first byte own (omega (arith, fits, lo, hi)))) (h byte lo hi)

-- an access to one word
pub seen_one :
    (P : ℕ → Trace → Type 0) (t : Traces) (number i count : ℕ) (x : Access) → IsOwn t (key_of number x.first) i → IsNear x → count ≡ byte_count x.width → count ≤ 4 → InPart P t i x.first count
    → (byte : ℕ) → covers x.first (byte_count x.width) byte ≡ true → P byte (trace_of t number byte)
seen_one P t number i count x own near e small h byte c =
    let r = covers_parts x.first (byte_count x.width) byte c in
    in_part P t number i x.first count own (near_one x count near e small) h byte r.0 (omega (arith, r.1, e))

-- an access to two words
pub seen_two :
    (P : ℕ → Trace → Type 0) (t : Traces) (number i count : ℕ) (x : Access) → IsOwn t (key_of number x.first) i → IsNear x → count ≡ byte_count x.width → 4 < count
    → InPart P t i x.first 4 → InPart P t i (x.first + 4) 4 → (byte : ℕ) → covers x.first (byte_count x.width) byte ≡ true → P byte (trace_of t number byte)
seen_two P t number i count x own near e wide low high byte c = go (cases_lt byte (x.first + 4))
  where
    two : (byte_count x.width ≡ 8) × (x.first % 8 ≡ 0)
    two = near_two x count near e wide

    r : (x.first ≤ byte) × (byte < x.first + byte_count x.width)
    r = covers_parts x.first (byte_count x.width) byte c

    go : (byte < x.first + 4) ⊎ (x.first + 4 ≤ byte) → P byte (trace_of t number byte)
    go (inl h) = in_part P t number i x.first 4 own (omega (arith, two.1)) low byte r.0 h
    go (inr h) =
        in_part P t number i (x.first + 4) 4 (subst (λ k. IsOwn t k i) (sym (next_word number x.first two.1).0) own) (omega (arith, two.1)) high byte h (omega (arith, r.1, two.0))

-- ---- bytes one after another

-- what holds of each byte so far and of the next, where it is seen to
pub all_with :
    (P : ℕ → Type 0) (first byte : ℕ) (old one new : Bool) → (old ≡ true → (b : ℕ) → first ≤ b → b < byte → P b) → (one ≡ true → P byte) → new ≡ (old && one)
    → new ≡ true → (b : ℕ) → first ≤ b → b < byte + 1 → P b
all_with P first byte old one new h p is e b lo hi = go (cases_eq b byte)
  where
    r : (old ≡ true) × (one ≡ true)
    r = and_parts old one (sym is ∙ e)

    go : (b ≡ byte) ⊎ (b ≡ byte → ⊥) → P b
    go (inl s) = subst P (sym s) (p r.1)
    go (inr ne) = h r.0 b lo (omega (arith, hi, ne))

-- what holds of each byte of a word of which all four were accessed at once
pub whole_byte :
    (P : Trace → Mark → Type 0) (apart : List Apart) (key n : ℕ) (w : TracedWord) (v : WordTrace) (x : Access) (first count byte : ℕ) (mark : WordMark) → first % 4 + count ≤ 4 → count ≡ 4 → w ≡ word.Whole v
    → (count ≡ 4 → (k : ℕ) → k < 4 → byte_mark mark k ≡ mark_of x (first + k)) → first ≤ byte → byte < first + count → ((k : ℕ) → k < 4 → P (word_byte v k) (byte_mark mark k))
    → P (word_trace apart key n w (byte % 4)) (mark_of x byte)
whole_byte P apart key n w v x first count byte mark fits all is marks lo hi h =
    subst (λ (u : TracedWord). P (word_trace apart key n u (byte % 4)) (mark_of x byte)) (sym is)
    (subst (P (word_byte v (byte % 4))) (marks all (byte % 4) (omega arith) ∙ ap (mark_of x) {x = first + byte % 4} {y = byte} (omega (arith, fits, all, lo, hi))) (h (byte % 4) (omega arith)))
