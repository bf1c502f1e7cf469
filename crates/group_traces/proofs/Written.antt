-- An access that is added to a word, or to two, is added at each of its bytes.
use Rattle.std.proofs.Common.{◌≡◌, ℕ, ◌+◌, ◌-◌, ◌*◌, ◌/◌, ◌%◌, ◌^◌, ◌<◌, ◌≤◌, ◌⊎◌, ◌==◌, ◌&&◌, Bool, true, false, if◌then◌else◌, refl, sym, ap, ap₂, ◌∙◌, inl, inr, arith, eq-eqb}
use Rattle.std.proofs.lemmas.Bool.{and_from, and_left, and_right, cases_eq, cases_lt, ne_eqb}
use Rattle.std.proofs.lemmas.Nat.{same_from_place}
use Rattle.clmodel.specs.Cells.{byte_count, covers}
use Rattle.clmodel.specs.declared.access.Access.{Access}
use Rattle.clmodel.proofs.CellLaws.{covers_from, covers_parts}
use Rattle.clmodel.proofs.Steps.{if_true, if_false}
use Rattle.shadow.specs.Seen.{byte_mark, half_start, mark_of}
use Rattle.shadow.specs.declared.words.WordMark.{WordMark}
use Rattle.shadow.proofs.Marking.{covers_not}
use Rattle.group_traces.specs.Traces.{trace_with, part_with}
use Rattle.group_traces.specs.Cells.{at_key, key_of, trace_of, IsWritten, IsMarked, IsSame}
use Rattle.group_traces.specs.declared.trace.Trace.{Trace}
use Rattle.group_traces.specs.declared.traces.Traces.{Traces}

-- ---- places

-- keys that are equal are of one object and one cell
pub one_place : (n m a b : ℕ) → n < 2 ^ 32 → m < 2 ^ 32 → key_of n a ≡ key_of m b → (n ≡ m) × (a / 32 ≡ b / 32)
one_place n m a b p q e = let r = same_from_place (a / 32) n (b / 32) m (2 ^ 32) p q e in (r.1, r.0)

-- a byte is in the word of another
abbrev pub InWord : ℕ → ℕ → Type 0
InWord first byte = (byte / 32 ≡ first / 32) × (byte % 32 / 4 ≡ first % 32 / 4)

word_number : (byte : ℕ) → byte / 4 ≡ byte / 32 * 8 + byte % 32 / 4
word_number byte = omega arith

pub one_word : (first byte : ℕ) → byte / 4 ≡ first / 4 → InWord first byte
one_word first byte e = (omega (arith, e), omega (arith, e))

pub word_one : (first byte : ℕ) → InWord first byte → byte / 4 ≡ first / 4
word_one first byte h = word_number byte ∙ ap₂ (λ a b. a * 8 + b) h.0 h.1 ∙ sym (word_number first)

pub covered_word : (first count byte : ℕ) → first % 4 + count ≤ 4 → covers first count byte ≡ true → byte / 4 ≡ first / 4
covered_word first count byte b c = let r = covers_parts first count byte c in omega (arith, b, r.0, r.1)

-- ---- what a word's part says of a byte

pub part_at : (byte : ℕ) → byte % 32 % 4 ≡ byte % 4
part_at byte = omega arith

-- a byte of it that the part covers, and one that it doesn't
part_in : (x : Access) (first count byte : ℕ) (t : Trace) → first % 4 + count ≤ 4 → covers first count byte ≡ true → part_with x first count (byte % 32 % 4) t ≡ trace_with t x.interval (mark_of x byte)
part_in x first count byte t b c =
    let r = covers_parts first count byte c in
    let w : byte / 4 ≡ first / 4 = covered_word first count byte b c in
    ap (λ k. part_with x first count k t) (part_at byte)
    ∙ if_true (covers (first % 4) count (byte % 4)) (trace_with t x.interval (mark_of x (first - first % 4 + byte % 4))) t
    (covers_from (first % 4) count (byte % 4) (omega (arith, w, r.0)) (omega (arith, w, r.0, r.1)))
    ∙ ap (λ k. trace_with t x.interval (mark_of x k)) {x = first - first % 4 + byte % 4} {y = byte} (omega (arith, w))

part_out : (x : Access) (first count byte : ℕ) (t : Trace) → byte / 4 ≡ first / 4 → covers first count byte ≡ false → part_with x first count (byte % 32 % 4) t ≡ t
part_out x first count byte t w c =
    ap (λ k. part_with x first count k t) (part_at byte)
    ∙ if_false (covers (first % 4) count (byte % 4)) (trace_with t x.interval (mark_of x (first - first % 4 + byte % 4))) t (go (covers (first % 4) count (byte % 4)) refl)
  where
    go : (b : Bool) → covers (first % 4) count (byte % 4) ≡ b → b ≡ false
    go false e = refl
    go true e =
        let r = covers_parts (first % 4) count (byte % 4) e in
        sym (covers_from first count byte (omega (arith, w, r.0)) (omega (arith, w, r.0, r.1))) ∙ c

-- ---- a word that is written

-- what a word that is written says of a byte of an object
pub written_byte :
    (f g : ℕ → ℕ → Trace) (x : Access) (number n first count byte : ℕ) → number < 2 ^ 32 → n < 2 ^ 32 → first % 4 + count ≤ 4
    → IsWritten f g (key_of number first) (first % 32 / 4) (part_with x first count)
    → g (key_of n byte) (byte % 32)
    ≡ (if (n == number) && covers first count byte then trace_with (f (key_of n byte) (byte % 32)) x.interval (mark_of x byte) else f (key_of n byte) (byte % 32))
written_byte f g x number n first count byte small near fits w = w (key_of n byte) (byte % 32) ∙ go (cases_eq n number) (cases_eq (byte / 4) (first / 4)) (covers first count byte) refl
  where
    key : ℕ
    key = key_of number first

    t : Trace
    t = f (key_of n byte) (byte % 32)

    test : Bool
    test = (key_of n byte == key_of number first) && (byte % 32 / 4 == first % 32 / 4)

    goal : Type 0
    goal = (if (key_of n byte == key_of number first) && (byte % 32 / 4 == first % 32 / 4) then part_with x first count (byte % 32 % 4) t else t)
        ≡ (if (n == number) && covers first count byte then trace_with t x.interval (mark_of x byte) else t)

    inside : n ≡ number → byte / 4 ≡ first / 4 → ((key_of n byte == key_of number first) && (byte % 32 / 4 == first % 32 / 4)) ≡ true
    inside e h =
        let p = one_word first byte h in
        and_from (key_of n byte == key_of number first) (byte % 32 / 4 == first % 32 / 4)
        (eq-eqb (key_of n byte) (key_of number first) (ap₂ (λ a b. a * 2 ^ 32 + b) p.0 e)) (eq-eqb (byte % 32 / 4) (first % 32 / 4) p.1)

    outside : (n ≡ number → byte / 4 ≡ first / 4 → ⊥) → ((key_of n byte == key_of number first) && (byte % 32 / 4 == first % 32 / 4)) ≡ false
    outside ne = at (cases_eq (key_of n byte) (key_of number first)) (cases_eq (byte % 32 / 4) (first % 32 / 4))
      where
        at : (key_of n byte ≡ key_of number first) ⊎ (key_of n byte ≡ key_of number first → ⊥) → (byte % 32 / 4 ≡ first % 32 / 4) ⊎ (byte % 32 / 4 ≡ first % 32 / 4 → ⊥)
            → ((key_of n byte == key_of number first) && (byte % 32 / 4 == first % 32 / 4)) ≡ false
        at (inl e) (inl h) = let p = one_place n number byte first near small e in absurd (ne p.0 (word_one first byte (p.1, h)))
        at (inl e) (inr h) = and_right (key_of n byte == key_of number first) (byte % 32 / 4 == first % 32 / 4) (ne_eqb (byte % 32 / 4) (first % 32 / 4) h)
        at (inr h) _ = and_left (key_of n byte == key_of number first) (byte % 32 / 4 == first % 32 / 4) (ne_eqb (key_of n byte) (key_of number first) h)

    go : (n ≡ number) ⊎ (n ≡ number → ⊥) → (byte / 4 ≡ first / 4) ⊎ (byte / 4 ≡ first / 4 → ⊥) → (c : Bool) → covers first count byte ≡ c → goal
    go (inl e) (inl h) true c =
        if_true ((key_of n byte == key_of number first) && (byte % 32 / 4 == first % 32 / 4)) (part_with x first count (byte % 32 % 4) t) t (inside e h)
        ∙ part_in x first count byte t fits c
        ∙ sym (if_true ((n == number) && covers first count byte) (trace_with t x.interval (mark_of x byte)) t (and_from (n == number) (covers first count byte) (eq-eqb n number e) c))
    go (inl e) (inl h) false c =
        if_true ((key_of n byte == key_of number first) && (byte % 32 / 4 == first % 32 / 4)) (part_with x first count (byte % 32 % 4) t) t (inside e h)
        ∙ part_out x first count byte t h c
        ∙ sym (if_false ((n == number) && covers first count byte) (trace_with t x.interval (mark_of x byte)) t (and_right (n == number) (covers first count byte) c))
    go (inl e) (inr h) true c = absurd (h (covered_word first count byte fits c))
    go (inl e) (inr h) false c =
        if_false ((key_of n byte == key_of number first) && (byte % 32 / 4 == first % 32 / 4)) (part_with x first count (byte % 32 % 4) t) t (outside (λ _ k. h k))
        ∙ sym (if_false ((n == number) && covers first count byte) (trace_with t x.interval (mark_of x byte)) t (and_right (n == number) (covers first count byte) c))
    go (inr ne) h c d =
        if_false ((key_of n byte == key_of number first) && (byte % 32 / 4 == first % 32 / 4)) (part_with x first count (byte % 32 % 4) t) t (outside (λ k _. ne k))
        ∙ sym (if_false ((n == number) && covers first count byte) (trace_with t x.interval (mark_of x byte)) t (and_left (n == number) (covers first count byte) (ne_eqb n number ne)))

-- ---- an access

-- where what is kept was the same before
pub marked_same : (old made new : Traces) (x : Access) (number : ℕ) → IsSame old made → IsMarked made new number x → IsMarked old new number x
marked_same old made new x number same marked n byte near =
    marked n byte near
    ∙ ap (λ t. if (n == number) && covers x.first (byte_count x.width) byte then trace_with t x.interval (mark_of x byte) else t) (same (key_of n byte) (byte % 32))

-- to one word
pub marked_one : (old mid new : Traces) (x : Access) (number count : ℕ) → number < 2 ^ 32 → count ≡ byte_count x.width → x.first % 4 + count ≤ 4 → IsSame old mid
    → IsWritten (at_key mid) (at_key new) (key_of number x.first) (x.first % 32 / 4) (part_with x x.first count) → IsMarked old new number x
marked_one old mid new x number count small e fits same w =
    marked_same old mid new x number same
    (λ n byte near.
    written_byte (at_key mid) (at_key new) x number n x.first count byte small near fits w
    ∙ ap (λ k. if (n == number) && covers x.first k byte then trace_with (trace_of mid n byte) x.interval (mark_of x byte) else trace_of mid n byte) e)

-- bytes of the low and of the high word of eight
two_parts : (f g h : ℕ → ℕ → Trace) (x : Access) (number n first byte : ℕ)
    → (t : Trace)
    → (g (key_of n byte) (byte % 32) ≡ (if (n == number) && covers first 4 byte then trace_with t x.interval (mark_of x byte) else t))
    → (h (key_of n byte) (byte % 32)
    ≡ (if (n == number) && covers (first + 4) 4 byte then trace_with (g (key_of n byte) (byte % 32)) x.interval (mark_of x byte) else g (key_of n byte) (byte % 32)))
    → h (key_of n byte) (byte % 32) ≡ (if (n == number) && covers first 8 byte then trace_with t x.interval (mark_of x byte) else t)
two_parts f g h x number n first byte t low high = high ∙ go (n == number) refl (cases_lt byte first) (cases_lt byte (first + 4)) (cases_lt byte (first + 8))
  where
    u : Trace
    u = g (key_of n byte) (byte % 32)

    marked : Trace → Trace
    marked z = trace_with z x.interval (mark_of x byte)

    goal : Type 0
    goal = (if (n == number) && covers (first + 4) 4 byte then marked u else u) ≡ (if (n == number) && covers first 8 byte then marked t else t)

    high_in : (n == number) ≡ true → covers (first + 4) 4 byte ≡ true → (if (n == number) && covers (first + 4) 4 byte then marked u else u) ≡ marked u
    high_in e c = if_true ((n == number) && covers (first + 4) 4 byte) (marked u) u (and_from (n == number) (covers (first + 4) 4 byte) e c)

    high_out : covers (first + 4) 4 byte ≡ false → (if (n == number) && covers (first + 4) 4 byte then marked u else u) ≡ u
    high_out c = if_false ((n == number) && covers (first + 4) 4 byte) (marked u) u (and_right (n == number) (covers (first + 4) 4 byte) c)

    low_in : (n == number) ≡ true → covers first 4 byte ≡ true → u ≡ marked t
    low_in e c = low ∙ if_true ((n == number) && covers first 4 byte) (marked t) t (and_from (n == number) (covers first 4 byte) e c)

    low_out : covers first 4 byte ≡ false → u ≡ t
    low_out c = low ∙ if_false ((n == number) && covers first 4 byte) (marked t) t (and_right (n == number) (covers first 4 byte) c)

    all_in : (n == number) ≡ true → covers first 8 byte ≡ true → (if (n == number) && covers first 8 byte then marked t else t) ≡ marked t
    all_in e c = if_true ((n == number) && covers first 8 byte) (marked t) t (and_from (n == number) (covers first 8 byte) e c)

    all_out : covers first 8 byte ≡ false → (if (n == number) && covers first 8 byte then marked t else t) ≡ t
    all_out c = if_false ((n == number) && covers first 8 byte) (marked t) t (and_right (n == number) (covers first 8 byte) c)

    go : (b : Bool) → (n == number) ≡ b → (byte < first) ⊎ (first ≤ byte) → (byte < first + 4) ⊎ (first + 4 ≤ byte) → (byte < first + 8) ⊎ (first + 8 ≤ byte) → goal
    go false e _ _ _ =
        if_false ((n == number) && covers (first + 4) 4 byte) (marked u) u (and_left (n == number) (covers (first + 4) 4 byte) e)
        ∙ low ∙ if_false ((n == number) && covers first 4 byte) (marked t) t (and_left (n == number) (covers first 4 byte) e)
        ∙ sym (if_false ((n == number) && covers first 8 byte) (marked t) t (and_left (n == number) (covers first 8 byte) e))
    go true e (inl a) _ _ =
        high_out (covers_not (first + 4) 4 byte (inl (omega (arith, a)))) ∙ low_out (covers_not first 4 byte (inl a)) ∙ sym (all_out (covers_not first 8 byte (inl a)))
    go true e (inr a) (inl b) _ =
        high_out (covers_not (first + 4) 4 byte (inl b)) ∙ low_in e (covers_from first 4 byte a b) ∙ sym (all_in e (covers_from first 8 byte a (omega (arith, b))))
    go true e (inr a) (inr b) (inl c) =
        high_in e (covers_from (first + 4) 4 byte b (omega (arith, c)))
        ∙ ap marked (low_out (covers_not first 4 byte (inr b)))
        ∙ sym (all_in e (covers_from first 8 byte a c))
    go true e (inr a) (inr b) (inr c) =
        high_out (covers_not (first + 4) 4 byte (inr (omega (arith, c)))) ∙ low_out (covers_not first 4 byte (inr b)) ∙ sym (all_out (covers_not first 8 byte (inr c)))

-- to two words
pub marked_two : (old mid low new : Traces) (x : Access) (number : ℕ) → number < 2 ^ 32 → byte_count x.width ≡ 8 → x.first % 8 ≡ 0 → IsSame old mid
    → IsWritten (at_key mid) (at_key low) (key_of number x.first) (x.first % 32 / 4) (part_with x x.first 4)
    → IsWritten (at_key low) (at_key new) (key_of number (x.first + 4)) ((x.first + 4) % 32 / 4) (part_with x (x.first + 4) 4) → IsMarked old new number x
marked_two old mid low new x number small eight even same w v =
    marked_same old mid new x number same
    (λ n byte near.
    two_parts (at_key mid) (at_key low) (at_key new) x number n x.first byte (trace_of mid n byte)
    (written_byte (at_key mid) (at_key low) x number n x.first 4 byte small near (omega (arith, even)) w)
    (written_byte (at_key low) (at_key new) x number n (x.first + 4) 4 byte small near (omega (arith, even)) v)
    ∙ ap (λ k. if (n == number) && covers x.first k byte then trace_with (trace_of mid n byte) x.interval (mark_of x byte) else trace_of mid n byte) (sym eight))

-- the second word of eight bytes is in the cell of the first
pub next_word : (number first : ℕ) → first % 8 ≡ 0 → (key_of number (first + 4) ≡ key_of number first) × ((first + 4) % 32 / 4 ≡ first % 32 / 4 + 1)
next_word number first even =
    let same : (first + 4) / 32 ≡ first / 32 = omega (arith, even) in
    (ap (λ k. k * 2 ^ 32 + number) same, omega (arith, even))

pub apart_words : (first : ℕ) → first % 8 ≡ 0 → first % 32 / 4 ≡ (first + 4) % 32 / 4 → ⊥
apart_words first even e = let next : (first + 4) % 32 / 4 ≡ first % 32 / 4 + 1 = (next_word 0 first even).1 in omega (arith, e, next)

-- ---- what the marks of an access say of its words

pub low_mark : (x : Access) (mark : WordMark) → ((k : ℕ) → k < 4 → byte_mark mark k ≡ mark_of x (x.first + (half_start false + k))) → (k : ℕ) → k < 4 → byte_mark mark k ≡ mark_of x (x.first + k)
low_mark x mark h k small = h k small ∙ ap (mark_of x) {x = x.first + (0 + k)} {y = x.first + k} (omega arith)

pub high_mark : (x : Access) (mark : WordMark) → ((k : ℕ) → k < 4 → byte_mark mark k ≡ mark_of x (x.first + (half_start true + k))) → (k : ℕ) → k < 4 → byte_mark mark k ≡ mark_of x (x.first + 4 + k)
high_mark x mark h k small = h k small ∙ ap (mark_of x) {x = x.first + (4 + k)} {y = x.first + 4 + k} (omega arith)
