-- Bytes that are marked: one, those of a word, and more.
use Rattle.std.proofs.Common.{◌≡◌, ℕ, ◌+◌, ◌*◌, ◌/◌, ◌%◌, ◌<◌, ◌≤◌, ◌==◌, Bool, true, false, ◌||◌, if◌then◌else◌, None, List, ◌⊎◌, inl, inr, refl, sym, ap, ap₂, ◌∙◌, eq-eqb, zero, suc, arith, subst, length, get_or, set, [], ◌∷◌, ◌++◌}
use Rattle.std.specs.Prelude.{Vec}
use Rattle.std.specs.declared.alloc.Global.{Global}
use Rattle.std.proofs.lemmas.Bool.{cases_eq, cases_lt, ne_eqb, or_parts, false≢true}
use Rattle.std.proofs.lemmas.List.{get_or-set_same, get_or-set_other, get_or_past, get_or_default, length-append}
use Rattle.clmodel.specs.Cells.{covers}
use Rattle.clmodel.specs.Run.{or_else}
use Rattle.clmodel.specs.declared.access.Access.{Access}
use Rattle.clmodel.proofs.CellLaws.{covers_parts, covers_from}
use Rattle.clmodel.proofs.Steps.{if_true, if_false}
use Rattle.shadow.specs.Seen.{seen_with, is_new, mark_of, against, against_from, byte_mark, bytes_at, own_seen, byte_seen, IsApart, word_in, cell_in, IsMarked}
use Rattle.shadow.specs.declared.seen.Mark.{Mark}
use Rattle.shadow.specs.declared.seen.Seen.{Seen}
use Rattle.shadow.specs.declared.seen.Seen.TheVariants.{Untouched}
use Rattle.shadow.specs.declared.words.MarkedWord.{MarkedWord}
use Rattle.shadow.specs.declared.words.MarkedWord.TheVariants as word
use Rattle.shadow.specs.declared.words.Bytes.{Bytes}
use Rattle.shadow.specs.declared.words.WordMark.{WordMark}
use Rattle.shadow.proofs.Absorbing.{not_new}
use Rattle.shadow.proofs.Cells.{IsPut}

-- a byte that isn't covered
pub covers_not : (first count byte : ℕ) → (byte < first) ⊎ (first + count ≤ byte) → covers first count byte ≡ false
covers_not first count byte out = go (covers first count byte) refl out
  where
    go : (b : Bool) → covers first count byte ≡ b → (byte < first) ⊎ (first + count ≤ byte) → b ≡ false
    go false e o = refl
    go true e (inl o) = let r : (first ≤ byte) × (byte < first + count) = covers_parts first count byte e in absurd (omega (arith, r.0, o))
    go true e (inr o) = let r : (first ≤ byte) × (byte < first + count) = covers_parts first count byte e in absurd (omega (arith, r.1, o))

-- where a byte is
abbrev Place : ℕ → ℕ → ℕ → Type 0
Place first count byte = ((first ≤ byte) × (byte < first + count)) ⊎ ((byte < first) ⊎ (first + count ≤ byte))

place : (first count byte : ℕ) → Place first count byte
place first count byte = go (cases_lt byte first) (cases_lt byte (first + count))
  where
    go : (byte < first) ⊎ (first ≤ byte) → (byte < first + count) ⊎ (first + count ≤ byte) → Place first count byte
    go (inl h) _ = inr (inl h)
    go (inr h) (inl k) = inl (h, k)
    go (inr h) (inr k) = inr (inr k)

-- ---- marks

-- no byte is marked
pub none_marked : (cells : ℕ → Seen) (mark : ℕ → Mark) (first count : ℕ) → count ≡ 0 → IsMarked cells cells mark first count false
none_marked cells mark first count e = record {
  marked = λ byte. sym (if_false (covers first count byte) (seen_with (cells byte) (mark byte)) (cells byte) (none byte));
  quiet = λ _ byte h. absurd (false≢true (sym (none byte) ∙ h));
  told = λ h. absurd (false≢true h);
}
  where
    none : (byte : ℕ) → covers first count byte ≡ false
    none byte = covers_not first count byte (out (cases_lt byte first))
      where
        out : (byte < first) ⊎ (first ≤ byte) → (byte < first) ⊎ (first + count ≤ byte)
        out (inl h) = inl h
        out (inr h) = inr (omega (arith, h, e))

-- marks that are new to no byte
pub no_news : (cells : ℕ → Seen) (mark : ℕ → Mark) (first count : ℕ) → ((byte : ℕ) → first ≤ byte → byte < first + count → is_new (cells byte) (mark byte) ≡ false)
    → IsMarked cells cells mark first count false
no_news cells mark first count old = record {
  marked = λ byte. at byte (covers first count byte) refl;
  quiet = λ _ byte h. let r : (first ≤ byte) × (byte < first + count) = covers_parts first count byte h in old byte r.0 r.1;
  told = λ h. absurd (false≢true h);
}
  where
    at : (byte : ℕ) (b : Bool) → covers first count byte ≡ b → cells byte ≡ (if b then seen_with (cells byte) (mark byte) else cells byte)
    at byte false e = refl
    at byte true e =
        let r : (first ≤ byte) × (byte < first + count) = covers_parts first count byte e in sym (not_new (cells byte) (mark byte) (old byte r.0 r.1))

-- marks that are the same at the bytes
pub same_marks : (old new : ℕ → Seen) (mark other : ℕ → Mark) (first count : ℕ) (news : Bool)
    → ((byte : ℕ) → covers first count byte ≡ true → mark byte ≡ other byte) → IsMarked old new mark first count news → IsMarked old new other first count news
same_marks old new mark other first count news same h = record {
  marked = λ byte. h.marked byte ∙ at byte (covers first count byte) refl;
  quiet = λ e byte c. sym (ap (is_new (old byte)) (same byte c)) ∙ h.quiet e byte c;
  told = λ e. found (h.told e);
}
  where
    at : (byte : ℕ) (b : Bool) → covers first count byte ≡ b → (if b then seen_with (old byte) (mark byte) else old byte) ≡ (if b then seen_with (old byte) (other byte) else old byte)
    at byte false e = refl
    at byte true e = ap (seen_with (old byte)) (same byte e)

    found : (byte : ℕ) × (covers first count byte ≡ true) × (is_new (old byte) (mark byte) ≡ true) → (byte : ℕ) × (covers first count byte ≡ true) × (is_new (old byte) (other byte) ≡ true)
    found (byte, c, t) = (byte, c, sym (ap (is_new (old byte)) (same byte c)) ∙ t)

-- the same from what was before it
pub marked_over : (before old new : ℕ → Seen) (mark : ℕ → Mark) (first count : ℕ) (news : Bool) → ((byte : ℕ) → old byte ≡ before byte) → IsMarked old new mark first count news
    → IsMarked before new mark first count news
marked_over before old new mark first count news same h = record {
  marked = λ byte. h.marked byte ∙ ap (λ z. if covers first count byte then seen_with z (mark byte) else z) (same byte);
  quiet = λ e byte c. sym (ap (λ z. is_new z (mark byte)) (same byte)) ∙ h.quiet e byte c;
  told = λ e. found (h.told e);
}
  where
    found : (byte : ℕ) × (covers first count byte ≡ true) × (is_new (old byte) (mark byte) ≡ true) → (byte : ℕ) × (covers first count byte ≡ true) × (is_new (before byte) (mark byte) ≡ true)
    found (byte, c, t) = (byte, c, sym (ap (λ z. is_new z (mark byte)) (same byte)) ∙ t)

-- bytes that are marked, and then those behind them
pub marked_both :
    (old mid new : ℕ → Seen) (mark : ℕ → Mark) (first next a b count : ℕ) (here there news : Bool) → next ≡ first + a → count ≡ a + b → (here || there) ≡ news
    → IsMarked old mid mark first a here → IsMarked mid new mark next b there → IsMarked old new mark first count news
marked_both old mid new mark first next a b count here there news starts many is h k = record {
  marked = λ byte. at byte (place first a byte) (place next b byte);
  quiet = λ e byte c. still e byte c (cases_lt byte next);
  told = λ e. found here refl (is ∙ e);
}
  where
    stays : (byte : ℕ) → (byte < first) ⊎ (first + a ≤ byte) → mid byte ≡ old byte
    stays byte out = h.marked byte ∙ if_false (covers first a byte) (seen_with (old byte) (mark byte)) (old byte) (covers_not first a byte out)

    at : (byte : ℕ) → Place first a byte → Place next b byte → new byte ≡ (if covers first count byte then seen_with (old byte) (mark byte) else old byte)
    at byte (inl r) (inl s) = absurd (omega (arith, r.1, s.0, starts))
    at byte (inl r) (inr o) =
        k.marked byte
        ∙ if_false (covers next b byte) (seen_with (mid byte) (mark byte)) (mid byte) (covers_not next b byte o)
        ∙ h.marked byte
        ∙ if_true (covers first a byte) (seen_with (old byte) (mark byte)) (old byte) (covers_from first a byte r.0 r.1)
        ∙ sym (if_true (covers first count byte) (seen_with (old byte) (mark byte)) (old byte) (covers_from first count byte r.0 (omega (arith, r.1, many))))
    at byte (inr o) (inl s) =
        k.marked byte
        ∙ if_true (covers next b byte) (seen_with (mid byte) (mark byte)) (mid byte) (covers_from next b byte s.0 s.1)
        ∙ ap (λ z. seen_with z (mark byte)) (stays byte o)
        ∙ sym (if_true (covers first count byte) (seen_with (old byte) (mark byte)) (old byte) (covers_from first count byte (omega (arith, s.0, starts)) (omega (arith, s.1, starts, many))))
    at byte (inr o) (inr p) =
        k.marked byte
        ∙ if_false (covers next b byte) (seen_with (mid byte) (mark byte)) (mid byte) (covers_not next b byte p)
        ∙ stays byte o
        ∙ sym (if_false (covers first count byte) (seen_with (old byte) (mark byte)) (old byte) (covers_not first count byte (out o p)))
      where
        out : (byte < first) ⊎ (first + a ≤ byte) → (byte < next) ⊎ (next + b ≤ byte) → (byte < first) ⊎ (first + count ≤ byte)
        out (inl u) _ = inl u
        out (inr u) (inl v) = absurd (omega (arith, u, v, starts))
        out (inr u) (inr v) = inr (omega (arith, v, starts, many))

    still : news ≡ false → (byte : ℕ) → covers first count byte ≡ true → (byte < next) ⊎ (next ≤ byte) → is_new (old byte) (mark byte) ≡ false
    still e byte c (inl low) =
        let r : (first ≤ byte) × (byte < first + count) = covers_parts first count byte c in
        h.quiet (or_parts here there (is ∙ e)).0 byte (covers_from first a byte r.0 (omega (arith, low, starts)))
    still e byte c (inr high) =
        let r : (first ≤ byte) × (byte < first + count) = covers_parts first count byte c in
        sym (ap (λ z. is_new z (mark byte)) (stays byte (inr (omega (arith, high, starts)))))
        ∙ k.quiet (or_parts here there (is ∙ e)).1 byte (covers_from next b byte high (omega (arith, r.1, starts, many)))

    first_found : (byte : ℕ) × (covers first a byte ≡ true) × (is_new (old byte) (mark byte) ≡ true) → (byte : ℕ) × (covers first count byte ≡ true) × (is_new (old byte) (mark byte) ≡ true)
    first_found (byte, c, t) =
        let r : (first ≤ byte) × (byte < first + a) = covers_parts first a byte c in (byte, covers_from first count byte r.0 (omega (arith, r.1, many)), t)

    next_found : (byte : ℕ) × (covers next b byte ≡ true) × (is_new (mid byte) (mark byte) ≡ true) → (byte : ℕ) × (covers first count byte ≡ true) × (is_new (old byte) (mark byte) ≡ true)
    next_found (byte, c, t) =
        let r : (next ≤ byte) × (byte < next + b) = covers_parts next b byte c in (
          byte,
          covers_from first count byte (omega (arith, r.0, starts)) (omega (arith, r.1, starts, many)),
          sym (ap (λ z. is_new z (mark byte)) (stays byte (inr (omega (arith, r.0, starts))))) ∙ t,
        )

    found : (x : Bool) → here ≡ x → (here || there) ≡ true → (byte : ℕ) × (covers first count byte ≡ true) × (is_new (old byte) (mark byte) ≡ true)
    found true e t = first_found (h.told e)
    found false e t = next_found (k.told (sym (ap (λ z. z || there) e) ∙ t))

-- ---- a word

-- the bytes of a word that is put are marked
pub word_marked :
    (apart : List Bytes) (pages after : List (Vec MarkedWord Global)) (n : ℕ) (s old : MarkedWord) (mark : WordMark) (news : Bool) → IsPut pages after n s → word_in pages n ≡ old
    → ((k : ℕ) → k < 4 → byte_seen apart n s k ≡ seen_with (byte_seen apart n old k) (byte_mark mark k))
    → (news ≡ false → (k : ℕ) → k < 4 → is_new (byte_seen apart n old k) (byte_mark mark k) ≡ false)
    → (news ≡ true → (k : ℕ) × (k < 4) × (is_new (byte_seen apart n old k) (byte_mark mark k) ≡ true))
    → IsMarked (cell_in apart pages) (cell_in apart after) (λ byte. byte_mark mark (byte % 4)) (4 * n) 4 news
word_marked apart pages after n s old mark news p was marked quiet told = record {
  marked = λ byte. at byte (cases_eq (byte / 4) n);
  quiet = λ e byte c.
      let r : (4 * n ≤ byte) × (byte < 4 * n + 4) = covers_parts (4 * n) 4 byte c in
      ap (λ z. is_new z (byte_mark mark (byte % 4))) (before byte (omega (arith, r.0, r.1))) ∙ quiet e (byte % 4) (omega arith);
  told = λ e. found (told e);
}
  where
    before : (byte : ℕ) → byte / 4 ≡ n → cell_in apart pages byte ≡ byte_seen apart n old (byte % 4)
    before byte e = ap₂ (λ m z. byte_seen apart m z (byte % 4)) e (ap (word_in pages) e ∙ was)

    at : (byte : ℕ) → (byte / 4 ≡ n) ⊎ (byte / 4 ≡ n → ⊥)
        → cell_in apart after byte ≡ (if covers (4 * n) 4 byte then seen_with (cell_in apart pages byte) (byte_mark mark (byte % 4)) else cell_in apart pages byte)
    at byte (inl e) =
        ap₂ (λ m z. byte_seen apart m z (byte % 4)) e (ap (word_in after) e ∙ p.here)
        ∙ marked (byte % 4) (omega arith)
        ∙ ap (λ z. seen_with z (byte_mark mark (byte % 4))) (sym (before byte e))
        ∙ sym (if_true (covers (4 * n) 4 byte) (seen_with (cell_in apart pages byte) (byte_mark mark (byte % 4))) (cell_in apart pages byte) (covers_from (4 * n) 4 byte (omega (arith, e)) (omega (arith, e))))
    at byte (inr ne) =
        ap (λ z. byte_seen apart (byte / 4) z (byte % 4)) (p.others (byte / 4) ne)
        ∙ sym (if_false (covers (4 * n) 4 byte) (seen_with (cell_in apart pages byte) (byte_mark mark (byte % 4))) (cell_in apart pages byte) (out (covers (4 * n) 4 byte) refl))
      where
        out : (b : Bool) → covers (4 * n) 4 byte ≡ b → b ≡ false
        out false e = refl
        out true e = let r : (4 * n ≤ byte) × (byte < 4 * n + 4) = covers_parts (4 * n) 4 byte e in absurd (ne (omega (arith, r.0, r.1)))

    found : (k : ℕ) × (k < 4) × (is_new (byte_seen apart n old k) (byte_mark mark k) ≡ true)
        → (byte : ℕ) × (covers (4 * n) 4 byte ≡ true) × (is_new (cell_in apart pages byte) (byte_mark mark (byte % 4)) ≡ true)
    found (k, small, t) =
        let part : (4 * n + k) % 4 ≡ k = omega (arith, small) in (
          4 * n + k,
          covers_from (4 * n) 4 (4 * n + k) (omega arith) (omega (arith, small)),
          ap (λ z. is_new z (byte_mark mark ((4 * n + k) % 4))) (before (4 * n + k) (omega (arith, small)))
              ∙ ap (λ z. is_new (byte_seen apart n old z) (byte_mark mark z)) part ∙ t,
        )

-- one byte of a word apart is marked
pub byte_marked :
    (pages : List (Vec MarkedWord Global)) (apart after : List Bytes) (byte : ℕ) (mark : Mark) (news : Bool)
    → ((n k : ℕ) → (n ≡ byte / 4 → ⊥) → byte_seen after n (word_in pages n) k ≡ byte_seen apart n (word_in pages n) k)
    → ((j : ℕ) → byte_seen after (byte / 4) (word_in pages (byte / 4)) j ≡ (if byte % 4 == j then seen_with (byte_seen apart (byte / 4) (word_in pages (byte / 4)) j) mark else byte_seen apart (byte / 4) (word_in pages (byte / 4)) j))
    → news ≡ is_new (byte_seen apart (byte / 4) (word_in pages (byte / 4)) (byte % 4)) mark
    → IsMarked (cell_in apart pages) (cell_in after pages) (λ _. mark) byte 1 news
byte_marked pages apart after byte mark news away marked told = record {
  marked = λ other. at other (cases_eq other byte) (cases_eq (other / 4) (byte / 4));
  quiet = λ e other c. ap (λ z. is_new (cell_in apart pages z) mark) (one other c) ∙ is ∙ e;
  told = λ e. (byte, covers_from byte 1 byte (omega arith) (omega arith), is ∙ e);
}
  where
    before : (other : ℕ) → other / 4 ≡ byte / 4 → cell_in apart pages other ≡ byte_seen apart (byte / 4) (word_in pages (byte / 4)) (other % 4)
    before other e = ap (λ m. byte_seen apart m (word_in pages m) (other % 4)) e

    is : is_new (cell_in apart pages byte) mark ≡ news
    is = ap (λ z. is_new z mark) (before byte refl) ∙ sym told

    one : (other : ℕ) → covers byte 1 other ≡ true → other ≡ byte
    one other c = let r : (byte ≤ other) × (other < byte + 1) = covers_parts byte 1 other c in omega (arith, r.0, r.1)

    put_at : (other : ℕ) → other / 4 ≡ byte / 4 → cell_in after pages other ≡ (if byte % 4 == other % 4 then seen_with (byte_seen apart (byte / 4) (word_in pages (byte / 4)) (other % 4)) mark else byte_seen apart (byte / 4) (word_in pages (byte / 4)) (other % 4))
    put_at other e = ap (λ m. byte_seen after m (word_in pages m) (other % 4)) e ∙ marked (other % 4)

    at : (other : ℕ) → (other ≡ byte) ⊎ (other ≡ byte → ⊥) → (other / 4 ≡ byte / 4) ⊎ (other / 4 ≡ byte / 4 → ⊥)
        → cell_in after pages other ≡ (if covers byte 1 other then seen_with (cell_in apart pages other) mark else cell_in apart pages other)
    at other (inl e) _ =
        let same : other / 4 ≡ byte / 4 = ap (λ z. z / 4) e in
        let part : byte % 4 ≡ other % 4 = ap (λ z. z % 4) (sym e) in
        put_at other same
        ∙ if_true (byte % 4 == other % 4) (seen_with (byte_seen apart (byte / 4) (word_in pages (byte / 4)) (other % 4)) mark) (byte_seen apart (byte / 4) (word_in pages (byte / 4)) (other % 4)) (eq-eqb (byte % 4) (other % 4) part)
        ∙ ap (λ z. seen_with z mark) (sym (before other same))
        ∙ sym (if_true (covers byte 1 other) (seen_with (cell_in apart pages other) mark) (cell_in apart pages other) (covers_from byte 1 other (omega (arith, e)) (omega (arith, e))))
    at other (inr ne) (inl same) =
        put_at other same
        ∙ if_false (byte % 4 == other % 4) (seen_with (byte_seen apart (byte / 4) (word_in pages (byte / 4)) (other % 4)) mark) (byte_seen apart (byte / 4) (word_in pages (byte / 4)) (other % 4)) (ne_eqb (byte % 4) (other % 4) (λ h. ne (omega (arith, h, same))))
        ∙ sym (before other same)
        ∙ sym (if_false (covers byte 1 other) (seen_with (cell_in apart pages other) mark) (cell_in apart pages other) (out (covers byte 1 other) refl))
      where
        out : (b : Bool) → covers byte 1 other ≡ b → b ≡ false
        out false e = refl
        out true e = absurd (ne (one other e))
    at other (inr ne) (inr far) =
        away (other / 4) (other % 4) far
        ∙ sym (if_false (covers byte 1 other) (seen_with (cell_in apart pages other) mark) (cell_in apart pages other) (out (covers byte 1 other) refl))
      where
        out : (b : Bool) → covers byte 1 other ≡ b → b ≡ false
        out false e = refl
        out true e = absurd (ne (one other e))

-- ---- what passes

-- an access meets nothing at bytes that it passes
pub passes_all : (u : Bool) (x : Access) (cells : ℕ → Seen) (first count : ℕ) → ((byte : ℕ) → first ≤ byte → byte < first + count → against u (mark_of x byte) byte (cells byte) ≡ None)
    → against_from u x cells first count ≡ None
passes_all u x cells first zero h = refl
passes_all u x cells first (suc count) h =
    ap₂ or_else (h first (omega arith) (omega arith)) (passes_all u x cells (suc first) count (λ byte low high. h byte (omega (arith, low)) (omega (arith, high))))

-- the marks of a half of an access, byte by byte
pub half_marks : (x : Access) (m : WordMark) (start n : ℕ) → x.first + start ≡ 4 * n → ((k : ℕ) → k < 4 → byte_mark m k ≡ mark_of x (x.first + (start + k)))
    → (byte : ℕ) → byte / 4 ≡ n → byte_mark m (byte % 4) ≡ mark_of x byte
half_marks x m start n e h byte at = h (byte % 4) (omega arith) ∙ ap (mark_of x) (omega (arith, e, at))

pub half_covered : (x : Access) (m : WordMark) (start n : ℕ) → x.first + start ≡ 4 * n → ((k : ℕ) → k < 4 → byte_mark m k ≡ mark_of x (x.first + (start + k)))
    → (byte : ℕ) → covers (4 * n) 4 byte ≡ true → byte_mark m (byte % 4) ≡ mark_of x byte
half_covered x m start n e h byte c =
    let r : (4 * n ≤ byte) × (byte < 4 * n + 4) = covers_parts (4 * n) 4 byte c in half_marks x m start n e h byte (omega (arith, r.0, r.1))

-- ---- words apart

own_here : (apart : List Bytes) (n at : ℕ) (w : Bytes) → at < length apart → w ≡ get_or apart at w → w.word ≡ n → (j : ℕ) → byte_seen apart n (word.Apart at) j ≡ get_or w.bytes j Untouched
own_here apart n at w inside is own j =
    ap (λ (b : Bytes). own_seen n b j) (get_or_default apart at (record { word = 0; bytes = [] }) w inside ∙ sym is)
    ∙ if_true (w.word == n) (get_or w.bytes j Untouched) Untouched (eq-eqb w.word n own)

own_away : (n : ℕ) (b : Bytes) (k m : ℕ) → b.word ≡ n → (m ≡ n → ⊥) → own_seen m b k ≡ Untouched
own_away n b k m own ne = if_false (b.word == m) (get_or b.bytes k Untouched) Untouched (ne_eqb b.word m (λ e. ne (sym e ∙ own)))

-- other words stay where the bytes of one are put
pub part_away : (apart : List Bytes) (n at : ℕ) (v w : Bytes) (x : MarkedWord) → at < length apart → w ≡ get_or apart at w → w.word ≡ n → v.word ≡ n
    → (m k : ℕ) → (m ≡ n → ⊥) → byte_seen (set apart at v) m x k ≡ byte_seen apart m x k
part_away apart n at v w word.Untouched inside is own new m k ne = refl
part_away apart n at v w (word.Touched a) inside is own new m k ne = refl
part_away apart n at v w (word.Mixed a b) inside is own new m k ne = refl
part_away apart n at v w (word.Apart a) inside is own new m k ne = go (cases_eq a at)
  where
    go : (a ≡ at) ⊎ (a ≡ at → ⊥) → byte_seen (set apart at v) m (word.Apart a) k ≡ byte_seen apart m (word.Apart a) k
    go (inl e) =
        ap (λ z. byte_seen (set apart at v) m (word.Apart z) k) e
        ∙ ap (λ (b : Bytes). own_seen m b k) (get_or-set_same apart at v (record { word = 0; bytes = [] }) inside)
        ∙ own_away n v k m new ne
        ∙ sym (own_away n w k m own ne)
        ∙ sym (ap (λ (b : Bytes). own_seen m b k) (get_or_default apart at (record { word = 0; bytes = [] }) w inside ∙ sym is))
        ∙ sym (ap (λ z. byte_seen apart m (word.Apart z) k) e)
    go (inr far) = ap (λ (b : Bytes). own_seen m b k) (get_or-set_other apart at a v (record { word = 0; bytes = [] }) far)

-- a byte of its own is marked
pub part_put : (pages : List (Vec MarkedWord Global)) (apart : List Bytes) (byte at : ℕ) (v w : Bytes) (mark : Mark) (news : Bool) → word_in pages (byte / 4) ≡ word.Apart at → at < length apart
    → w ≡ get_or apart at w → w.word ≡ byte / 4 → v.word ≡ byte / 4
    → ((j : ℕ) → get_or v.bytes j Untouched ≡ (if byte % 4 == j then seen_with (get_or w.bytes j Untouched) mark else get_or w.bytes j Untouched))
    → news ≡ is_new (get_or w.bytes (byte % 4) Untouched) mark
    → IsMarked (cell_in apart pages) (cell_in (set apart at v) pages) (λ _. mark) byte 1 news
part_put pages apart byte at v w mark news here inside is own new marked told =
    byte_marked pages apart (set apart at v) byte mark news
    (λ n k ne. part_away apart (byte / 4) at v w (word_in pages n) inside is own new n k ne)
    (λ j. subst (λ x. byte_seen (set apart at v) (byte / 4) x j ≡ (if byte % 4 == j then seen_with (byte_seen apart (byte / 4) x j) mark else byte_seen apart (byte / 4) x j)) (sym here)
    (ap (λ (b : Bytes). own_seen (byte / 4) b j) (get_or-set_same apart at v (record { word = 0; bytes = [] }) inside)
    ∙ if_true (v.word == byte / 4) (get_or v.bytes j Untouched) Untouched (eq-eqb v.word (byte / 4) new)
    ∙ marked j
    ∙ ap (λ z. if byte % 4 == j then seen_with z mark else z) (sym (own_here apart (byte / 4) at w inside is own j))))
    (told ∙ ap (λ z. is_new z mark) (sym (own_here apart (byte / 4) at w inside is own (byte % 4)) ∙ ap (λ x. byte_seen apart (byte / 4) x (byte % 4)) (sym here)))

-- the bytes of one word more
pub more_away : (apart : List Bytes) (n : ℕ) (b : Bytes) (x : MarkedWord) → b.word ≡ n → (m k : ℕ) → (m ≡ n → ⊥) → byte_seen (apart ++ b ∷ []) m x k ≡ byte_seen apart m x k
more_away apart n b word.Untouched own m k ne = refl
more_away apart n b (word.Touched a) own m k ne = refl
more_away apart n b (word.Mixed a c) own m k ne = refl
more_away apart n b (word.Apart a) own m k ne = go apart a
  where
    go : (l : List Bytes) (a : ℕ) → own_seen m (bytes_at (l ++ b ∷ []) a) k ≡ own_seen m (bytes_at l a) k
    go [] zero = own_away n b k m own ne ∙ sym (if_same (0 == m))
      where
        if_same : (t : Bool) → (if t then get_or [] k Untouched else Untouched) ≡ Untouched
        if_same false = refl
        if_same true = get_or_past {X = Seen} [] k Untouched (omega arith)
    go [] (suc a) = refl
    go (x ∷ l) zero = refl
    go (x ∷ l) (suc a) = go l a

pub more_here : (apart : List Bytes) (b : Bytes) → bytes_at (apart ++ b ∷ []) (length apart) ≡ b
more_here [] b = refl
more_here (x ∷ apart) b = more_here apart b

pub more_kept : (apart : List Bytes) (b : Bytes) (n : ℕ) (x : MarkedWord) → IsApart apart n x → IsApart (apart ++ b ∷ []) n x
more_kept apart b n word.Untouched h = h
more_kept apart b n (word.Touched a) h = h
more_kept apart b n (word.Mixed a c) h = h
more_kept apart b n (word.Apart a) h = (omega (arith, h.0, length-append apart (b ∷ [])), ap (λ (z : Bytes). z.word) (get_or-append_left apart a h.0) ∙ h.1)
  where
    get_or-append_left : (l : List Bytes) (a : ℕ) → a < length l → bytes_at (l ++ b ∷ []) a ≡ bytes_at l a
    get_or-append_left [] a i = absurd (omega (arith, i))
    get_or-append_left (x ∷ l) zero i = refl
    get_or-append_left (x ∷ l) (suc a) i = get_or-append_left l a (omega (arith, i))

-- a word whose bytes are put behind the others
pub split_is : (pages after : List (Vec MarkedWord Global)) (apart : List Bytes) (b : Bytes) (n len : ℕ) → IsPut pages after n (word.Apart len) → len ≡ length apart → b.word ≡ n
    → IsApart (apart ++ b ∷ []) n (word_in after n)
split_is pages after apart b n len p e own =
    subst (IsApart (apart ++ b ∷ []) n) (sym (p.here ∙ ap (λ z. word.Apart z) e))
    (omega (arith, length-append apart (b ∷ [])), ap (λ (z : Bytes). z.word) (more_here apart b) ∙ own)

pub split_others : (pages after : List (Vec MarkedWord Global)) (apart : List Bytes) (b : Bytes) (n len : ℕ) → IsPut pages after n (word.Apart len) → len ≡ length apart → b.word ≡ n
    → (m : ℕ) → IsApart apart m (word_in pages m) → IsApart (apart ++ b ∷ []) m (word_in after m)
split_others pages after apart b n len p e own m h = go (cases_eq m n)
  where
    go : (m ≡ n) ⊎ (m ≡ n → ⊥) → IsApart (apart ++ b ∷ []) m (word_in after m)
    go (inl is) = subst (λ z. IsApart (apart ++ b ∷ []) z (word_in after z)) (sym is) (split_is pages after apart b n len p e own)
    go (inr ne) = subst (IsApart (apart ++ b ∷ []) m) (sym (p.others m ne)) (more_kept apart b m (word_in pages m) h)

pub split_same : (pages after : List (Vec MarkedWord Global)) (apart : List Bytes) (b : Bytes) (n len : ℕ) → IsPut pages after n (word.Apart len) → len ≡ length apart → b.word ≡ n
    → ((k : ℕ) → k < 4 → get_or b.bytes k Untouched ≡ byte_seen apart n (word_in pages n) k)
    → (byte : ℕ) → cell_in (apart ++ b ∷ []) after byte ≡ cell_in apart pages byte
split_same pages after apart b n len p e own bytes byte = go (cases_eq (byte / 4) n)
  where
    go : (byte / 4 ≡ n) ⊎ (byte / 4 ≡ n → ⊥) → cell_in (apart ++ b ∷ []) after byte ≡ cell_in apart pages byte
    go (inl is) =
        ap (λ m. byte_seen (apart ++ b ∷ []) m (word_in after m) (byte % 4)) is
        ∙ ap (λ x. byte_seen (apart ++ b ∷ []) n x (byte % 4)) (p.here ∙ ap (λ z. word.Apart z) e)
        ∙ ap (λ (z : Bytes). own_seen n z (byte % 4)) (more_here apart b)
        ∙ if_true (b.word == n) (get_or b.bytes (byte % 4) Untouched) Untouched (eq-eqb b.word n own)
        ∙ bytes (byte % 4) (omega arith)
        ∙ sym (ap (λ m. byte_seen apart m (word_in pages m) (byte % 4)) is)
    go (inr ne) =
        ap (λ x. byte_seen (apart ++ b ∷ []) (byte / 4) x (byte % 4)) (p.others (byte / 4) ne)
        ∙ more_away apart n b (word_in pages (byte / 4)) own (byte / 4) (byte % 4) ne
