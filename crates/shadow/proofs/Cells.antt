-- What is kept of words and bytes, where pages and buffers get words and words are put.
use Rattle.std.proofs.Common.{◌≡◌, ℕ, zero, suc, ◌+◌, ◌-◌, ◌/◌, ◌%◌, ◌<◌, ◌≤◌, ◌==◌, Bool, ◌&&◌, if◌then◌else◌, List, [], ◌∷◌, ◌++◌, length, map, get_or, set, ◌⊎◌, inl, inr, refl, sym, ap, ap₂, ◌∙◌, subst, Result, Ok, Err, OnOk, OnErr, IfOk, eq-eqb, arith}
use Rattle.std.specs.Prelude.{Vec}
use Rattle.std.specs.declared.alloc.Global.{Global}
use Rattle.std.proofs.lemmas.Bool.{cases_eq, cases_lt, ne_eqb}
use Rattle.std.proofs.lemmas.List.{map-set, get_or-set_same, get_or-set_other, get_or-map, get_or_past, get_or_default, length-map}
use Rattle.clmodel.specs.Cells.{covers}
use Rattle.shadow.specs.Seen.{seen_with, byte_seen, IsApart, row_of, word_in, cell_in, IsPage, cell, buffer_cells}
use Rattle.shadow.specs.declared.pages.Pages.{Pages}
use Rattle.shadow.specs.declared.seen.Mark.{Mark}
use Rattle.shadow.specs.declared.seen.Seen.{Seen}
use Rattle.shadow.specs.declared.seen.Seen.TheVariants.{Untouched}
use Rattle.shadow.specs.declared.words.Bytes.{Bytes}
use Rattle.shadow.specs.declared.words.MarkedWord.{MarkedWord}
use Rattle.shadow.specs.declared.words.MarkedWord.TheVariants as word

abbrev Row : Type 0
Row = Vec MarkedWord Global

-- ---- pages of one buffer

-- an empty page more
pub pushed : (pages : List Row) (v : Row) → v.items ≡ [] → (page : ℕ) → row_of (pages ++ v ∷ []) page ≡ row_of pages page
pushed [] v e zero = e
pushed [] v e (suc page) = refl
pushed (x ∷ pages) v e zero = refl
pushed (x ∷ pages) v e (suc page) = pushed pages v e page

-- an untouched word more
pub word_more : (row : List MarkedWord) (k : ℕ) → get_or (row ++ word.Untouched ∷ []) k word.Untouched ≡ get_or row k word.Untouched
word_more [] zero = refl
word_more [] (suc k) = refl
word_more (x ∷ row) zero = refl
word_more (x ∷ row) (suc k) = word_more row k

row_set_same : (pages : List Row) (page : ℕ) (v : Row) → page < length pages → row_of (set pages page v) page ≡ v.items
row_set_same pages page v b =
    ap (λ z. get_or z page []) (map-set (λ (r : Row). r.items) pages page v)
    ∙ get_or-set_same (map (λ (r : Row). r.items) pages) page v.items [] (subst (λ z. page < z) (sym (length-map pages (λ (r : Row). r.items))) b)

row_set_other : (pages : List Row) (page : ℕ) (v : Row) (other : ℕ) → (other ≡ page → ⊥) → row_of (set pages page v) other ≡ row_of pages other
row_set_other pages page v other ne =
    ap (λ z. get_or z other []) (map-set (λ (r : Row). r.items) pages page v) ∙ get_or-set_other (map (λ (r : Row). r.items) pages) page other v.items [] ne

pub was_row : (pages : List Row) (page : ℕ) (w : Row) → page < length pages → w ≡ get_or pages page w → row_of pages page ≡ w.items
was_row pages page w b e = get_or-map (λ (r : Row). r.items) pages page w [] b ∙ sym (ap (λ (r : Row). r.items) e)

-- a page with words is one of the pages
pub page_from : (pages : List Row) (page : ℕ) → 64 ≤ length (row_of pages page) → IsPage pages page
page_from pages page h = go (cases_lt page (length pages))
  where
    go : (page < length pages) ⊎ (length pages ≤ page) → IsPage pages page
    go (inl b) = (b, h)
    go (inr b) =
        let none : row_of pages page ≡ [] = get_or_past (map (λ (r : Row). r.items) pages) page [] (subst (λ z. z ≤ page) (sym (length-map pages (λ (r : Row). r.items))) b) in
        let count : length (row_of pages page) ≡ 0 = ap length none in
        absurd (omega (arith, h, count))

pub same_page : (pages other : List Row) (page : ℕ) → row_of other page ≡ row_of pages page → IsPage pages page → IsPage other page
same_page pages other page e h = page_from other page (subst (λ z. 64 ≤ length z) (sym e) h.1)

-- the words are the same where the pages are
pub same_rows : (apart : List Bytes) (pages other : List Row) → ((page : ℕ) → row_of other page ≡ row_of pages page) → (byte : ℕ) → cell_in apart other byte ≡ cell_in apart pages byte
same_rows apart pages other same byte = ap (λ z. byte_seen apart (byte / 4) (get_or z (byte / 4 % 64) word.Untouched) (byte % 4)) (same (byte / 4 / 64))

-- a page that gets its words
pub filled_cell :
    (apart : List Bytes) (pages : List Row) (page : ℕ) (v w : Row) → page < length pages → w ≡ get_or pages page w → ((k : ℕ) → get_or v.items k word.Untouched ≡ get_or w.items k word.Untouched)
    → (byte : ℕ) → cell_in apart (set pages page v) byte ≡ cell_in apart pages byte
filled_cell apart pages page v w b e same byte = ap (λ z. byte_seen apart (byte / 4) z (byte % 4)) (go (cases_eq (byte / 4 / 64) page))
  where
    go : (byte / 4 / 64 ≡ page) ⊎ (byte / 4 / 64 ≡ page → ⊥) → word_in (set pages page v) (byte / 4) ≡ word_in pages (byte / 4)
    go (inl h) =
        ap (λ z. get_or z (byte / 4 % 64) word.Untouched) (ap (row_of (set pages page v)) h ∙ row_set_same pages page v b)
        ∙ same (byte / 4 % 64)
        ∙ sym (ap (λ z. get_or z (byte / 4 % 64) word.Untouched) (ap (row_of pages) h ∙ was_row pages page w b e))
    go (inr h) = ap (λ z. get_or z (byte / 4 % 64) word.Untouched) (row_set_other pages page v (byte / 4 / 64) h)

pub filled_page : (pages : List Row) (page : ℕ) (v : Row) → page < length pages → 64 ≤ length v.items → IsPage (set pages page v) page
filled_page pages page v b long = page_from (set pages page v) page (subst (λ z. 64 ≤ length z) (sym (row_set_same pages page v b)) long)

pub filled_kept : (pages : List Row) (page : ℕ) (v w : Row) → page < length pages → w ≡ get_or pages page w → length w.items ≤ length v.items
    → (other : ℕ) → IsPage pages other → IsPage (set pages page v) other
filled_kept pages page v w b e longer other h = go (cases_eq other page)
  where
    go : (other ≡ page) ⊎ (other ≡ page → ⊥) → IsPage (set pages page v) other
    go (inl k) =
        let row : row_of pages other ≡ w.items = ap (row_of pages) k ∙ was_row pages page w b e in
        let long : 64 ≤ length w.items = subst (λ z. 64 ≤ length z) row h.1 in
        subst (IsPage (set pages page v)) (sym k) (filled_page pages page v b (omega (arith, long, longer)))
    go (inr k) = same_page pages (set pages page v) other (row_set_other pages page v other k) h

-- ---- words that are put

one_word : (m n : ℕ) → m / 64 ≡ n / 64 → m % 64 ≡ n % 64 → m ≡ n
one_word m n h k = omega (arith, h, k)

-- a word apart has its place
pub apart_placed : (apart : List Bytes) (pages : List Row) (n : ℕ) → IsApart apart n (word_in pages n) → (n / 64 < length pages) × (n % 64 < length (row_of pages (n / 64)))
apart_placed apart pages n h = (go (cases_lt (n / 64) (length pages)), inside (cases_lt (n % 64) (length (row_of pages (n / 64)))))
  where
    inside : (n % 64 < length (row_of pages (n / 64))) ⊎ (length (row_of pages (n / 64)) ≤ n % 64) → n % 64 < length (row_of pages (n / 64))
    inside (inl b) = b
    inside (inr b) = absurd (subst (IsApart apart n) (get_or_past (row_of pages (n / 64)) (n % 64) word.Untouched b) h)

    go : (n / 64 < length pages) ⊎ (length pages ≤ n / 64) → n / 64 < length pages
    go (inl b) = b
    go (inr b) =
        let none : row_of pages (n / 64) ≡ [] = get_or_past (map (λ (r : Row). r.items) pages) (n / 64) [] (subst (λ z. z ≤ n / 64) (sym (length-map pages (λ (r : Row). r.items))) b) in
        let count : length (row_of pages (n / 64)) ≡ 0 = ap length none in
        let some : n % 64 < length (row_of pages (n / 64)) = inside (cases_lt (n % 64) (length (row_of pages (n / 64)))) in
        absurd (omega (arith, some, count))

-- the word that was there
pub was_word :
    (pages : List Row) (n : ℕ) (w : Row) (old : MarkedWord) → n / 64 < length pages → w ≡ get_or pages (n / 64) w → n % 64 < length w.items → old ≡ get_or w.items (n % 64) old
    → word_in pages n ≡ old
was_word pages n w old b e inside is =
    ap (λ z. get_or z (n % 64) word.Untouched) (was_row pages (n / 64) w b e) ∙ get_or_default w.items (n % 64) word.Untouched old inside ∙ sym is

-- one word is put, and the others stay
pub record IsPut (pages after : List Row) (n : ℕ) (s : MarkedWord) : Type 0 where
  pub here : word_in after n ≡ s
  pub others : (m : ℕ) → (m ≡ n → ⊥) → word_in after m ≡ word_in pages m
  pub kept : (page : ℕ) → IsPage pages page → IsPage after page

pub put :
    (pages : List Row) (n : ℕ) (v w : Row) (s : MarkedWord) → n / 64 < length pages → w ≡ get_or pages (n / 64) w → n % 64 < length w.items → v.items ≡ set w.items (n % 64) s
    → length v.items ≡ length w.items → IsPut pages (set pages (n / 64) v) n s
put pages n v w s b e inside is long = record {
  here =
      ap (λ z. get_or z (n % 64) word.Untouched) (row_set_same pages (n / 64) v b ∙ is)
      ∙ get_or-set_same w.items (n % 64) s word.Untouched inside;
  others = λ m ne. there m ne (cases_eq (m / 64) (n / 64));
  kept = filled_kept pages (n / 64) v w b e (omega (arith, long));
}
  where
    after : List Row
    after = set pages (n / 64) v

    there : (m : ℕ) → (m ≡ n → ⊥) → (m / 64 ≡ n / 64) ⊎ (m / 64 ≡ n / 64 → ⊥) → word_in after m ≡ word_in pages m
    there m ne (inl h) =
        ap (λ z. get_or z (m % 64) word.Untouched) (ap (row_of after) h ∙ row_set_same pages (n / 64) v b ∙ is)
        ∙ get_or-set_other w.items (n % 64) (m % 64) s word.Untouched (λ k. ne (one_word m n h k))
        ∙ sym (ap (λ z. get_or z (m % 64) word.Untouched) (ap (row_of pages) h ∙ was_row pages (n / 64) w b e))
    there m ne (inr h) = ap (λ z. get_or z (m % 64) word.Untouched) (row_set_other pages (n / 64) v (m / 64) h)

-- a word of a page between two bytes that are so near
pub either_page : (P : ℕ → Type 0) (first count n : ℕ) → count ≤ 8 → first / 4 ≤ n → n ≤ (first + count - 1) / 4 → 0 < count → P (first / 256) → P ((first + count - 1) / 256) → P (n / 64)
either_page P first count n few low high some p q = go (cases_eq (n / 64) (first / 256))
  where
    go : (n / 64 ≡ first / 256) ⊎ (n / 64 ≡ first / 256 → ⊥) → P (n / 64)
    go (inl e) = subst P (sym e) p
    go (inr ne) = let e : (first + count - 1) / 256 ≡ n / 64 = omega (arith, few, low, high, some, ne) in subst P e q

-- ---- bytes apart

-- one of them is marked
pub part_marked : (bytes : List Seen) (k : ℕ) (s : Seen) (mark : Mark) → k < length bytes → s ≡ seen_with (get_or bytes k Untouched) mark
    → (j : ℕ) → get_or (set bytes k s) j Untouched ≡ (if k == j then seen_with (get_or bytes j Untouched) mark else get_or bytes j Untouched)
part_marked bytes k s mark inside is j = go (cases_eq k j)
  where
    go : (k ≡ j) ⊎ (k ≡ j → ⊥) → get_or (set bytes k s) j Untouched ≡ (if k == j then seen_with (get_or bytes j Untouched) mark else get_or bytes j Untouched)
    go (inl e) =
        sym (ap (λ z. get_or (set bytes k s) z Untouched) e)
        ∙ get_or-set_same bytes k s Untouched inside
        ∙ is
        ∙ ap (λ z. seen_with (get_or bytes z Untouched) mark) e
        ∙ sym (ap (λ (z : Bool). if z then seen_with (get_or bytes j Untouched) mark else get_or bytes j Untouched) (eq-eqb k j e))
    go (inr ne) =
        get_or-set_other bytes k j s Untouched (λ e. ne (sym e))
        ∙ sym (ap (λ (z : Bool). if z then seen_with (get_or bytes j Untouched) mark else get_or bytes j Untouched) (ne_eqb k j ne))

-- the four bytes of a word, listed
pub four_listed : (apart : List Bytes) (n : ℕ) (bytes : List Seen) (w : MarkedWord) (a b c d : Seen) → bytes ≡ a ∷ b ∷ c ∷ d ∷ [] → a ≡ byte_seen apart n w 0 → b ≡ byte_seen apart n w 1 → c ≡ byte_seen apart n w 2 → d ≡ byte_seen apart n w 3
    → (k : ℕ) → k < 4 → get_or bytes k Untouched ≡ byte_seen apart n w k
four_listed apart n bytes w a b c d is e f g h zero small = ap (λ z. get_or z 0 Untouched) is ∙ e
four_listed apart n bytes w a b c d is e f g h (suc zero) small = ap (λ z. get_or z 1 Untouched) is ∙ f
four_listed apart n bytes w a b c d is e f g h (suc (suc zero)) small = ap (λ z. get_or z 2 Untouched) is ∙ g
four_listed apart n bytes w a b c d is e f g h (suc (suc (suc zero))) small = ap (λ z. get_or z 3 Untouched) is ∙ h
four_listed apart n bytes w a b c d is e f g h (suc (suc (suc (suc k)))) small = absurd (omega (arith, small))

-- ---- buffers

-- a buffer more of which nothing is kept
pub one_more : (buffers : List Pages) (b : Pages) → b.pages.items ≡ [] → (n byte : ℕ) → cell (buffer_cells (buffers ++ b ∷ [])) n byte ≡ cell (buffer_cells buffers) n byte
one_more [] b e zero byte = ap (λ z. cell_in b.apart.items z byte) e ∙ nothing_in byte
  where
    nothing_in : (byte : ℕ) → cell_in b.apart.items [] byte ≡ Untouched
    nothing_in byte =
        ap (λ z. byte_seen b.apart.items (byte / 4) z (byte % 4))
        (ap (λ z. get_or z (byte / 4 % 64) word.Untouched) (get_or_past {X = List MarkedWord} [] (byte / 4 / 64) [] (omega arith)) ∙ get_or_past {X = MarkedWord} [] (byte / 4 % 64) word.Untouched (omega arith))
one_more [] b e (suc n) byte = refl
one_more (x ∷ buffers) b e zero byte = refl
one_more (x ∷ buffers) b e (suc n) byte = one_more buffers b e n byte

-- the buffer that is changed, and another
changed_here : (buffers : List Pages) (n : ℕ) (v : Pages) (byte : ℕ) → n < length buffers → cell (buffer_cells (set buffers n v)) n byte ≡ cell_in v.apart.items v.pages.items byte
changed_here buffers n v byte b =
    ap (λ z. cell z n byte) (map-set (λ (p : Pages). cell_in p.apart.items p.pages.items) buffers n v)
    ∙ ap (λ (f : ℕ → Seen). f byte)
    (get_or-set_same (buffer_cells buffers) n (cell_in v.apart.items v.pages.items) (λ _. Untouched) (subst (λ z. n < z) (sym (length-map buffers (λ (p : Pages). cell_in p.apart.items p.pages.items))) b))

unchanged_there : (buffers : List Pages) (n : ℕ) (v : Pages) (m byte : ℕ) → (m ≡ n → ⊥) → cell (buffer_cells (set buffers n v)) m byte ≡ cell (buffer_cells buffers) m byte
unchanged_there buffers n v m byte ne =
    ap (λ z. cell z m byte) (map-set (λ (p : Pages). cell_in p.apart.items p.pages.items) buffers n v)
    ∙ ap (λ (f : ℕ → Seen). f byte) (get_or-set_other (buffer_cells buffers) n m (cell_in v.apart.items v.pages.items) (λ _. Untouched) ne)

was_here : (buffers : List Pages) (n : ℕ) (w : Pages) (byte : ℕ) → n < length buffers → w ≡ get_or buffers n w → cell (buffer_cells buffers) n byte ≡ cell_in w.apart.items w.pages.items byte
was_here buffers n w byte b e =
    ap (λ (f : ℕ → Seen). f byte) (get_or-map (λ (p : Pages). cell_in p.apart.items p.pages.items) buffers n w (λ _. Untouched) b ∙ sym (ap (λ (p : Pages). cell_in p.apart.items p.pages.items) e))

-- a change that isn't seen
pub same_cells :
    (buffers : List Pages) (n : ℕ) (v w : Pages) → n < length buffers → w ≡ get_or buffers n w
    → ((byte : ℕ) → cell_in v.apart.items v.pages.items byte ≡ cell_in w.apart.items w.pages.items byte) → (m byte : ℕ) → cell (buffer_cells (set buffers n v)) m byte ≡ cell (buffer_cells buffers) m byte
same_cells buffers n v w b e same m byte = go (cases_eq m n)
  where
    go : (m ≡ n) ⊎ (m ≡ n → ⊥) → cell (buffer_cells (set buffers n v)) m byte ≡ cell (buffer_cells buffers) m byte
    go (inl h) =
        subst (λ k. cell (buffer_cells (set buffers n v)) k byte ≡ cell (buffer_cells buffers) k byte) (sym h)
        (changed_here buffers n v byte b ∙ same byte ∙ sym (was_here buffers n w byte b e))
    go (inr h) = unchanged_there buffers n v m byte h

-- bytes of one buffer that are marked
pub marked_cells :
    (buffers : List Pages) (n : ℕ) (v w : Pages) (mark : ℕ → Mark) (first count : ℕ) → n < length buffers → w ≡ get_or buffers n w
    → ((byte : ℕ) → cell_in v.apart.items v.pages.items byte ≡ (if covers first count byte then seen_with (cell_in w.apart.items w.pages.items byte) (mark byte) else cell_in w.apart.items w.pages.items byte))
    → (m byte : ℕ) → cell (buffer_cells (set buffers n v)) m byte ≡ (if (m == n) && covers first count byte then seen_with (cell (buffer_cells buffers) m byte) (mark byte) else cell (buffer_cells buffers) m byte)
marked_cells buffers n v w mark first count b e marked m byte = go (cases_eq m n)
  where
    go : (m ≡ n) ⊎ (m ≡ n → ⊥)
        → cell (buffer_cells (set buffers n v)) m byte ≡ (if (m == n) && covers first count byte then seen_with (cell (buffer_cells buffers) m byte) (mark byte) else cell (buffer_cells buffers) m byte)
    go (inl h) =
        subst (λ k. cell (buffer_cells (set buffers n v)) k byte ≡ (if (k == n) && covers first count byte then seen_with (cell (buffer_cells buffers) k byte) (mark byte) else cell (buffer_cells buffers) k byte)) (sym h)
        (changed_here buffers n v byte b ∙ marked byte
        ∙ sym (ap₂ (λ (z : Bool) c. if z && covers first count byte then seen_with c (mark byte) else c) (eq-eqb n n refl) (was_here buffers n w byte b e)))
    go (inr h) =
        unchanged_there buffers n v m byte h
        ∙ sym (ap (λ (z : Bool). if z && covers first count byte then seen_with (cell (buffer_cells buffers) m byte) (mark byte) else cell (buffer_cells buffers) m byte) (ne_eqb m n h))

pub ok_then : {T E P Q : Type 0} (r : Result T E) → (P → Q) → OnOk r P → OnOk r Q
ok_then (Ok t) f p = f p
ok_then (Err e) f p = tt

pub err_then : {T E P Q : Type 0} (r : Result T E) → (P → Q) → OnErr r P → OnErr r Q
err_then (Ok t) f p = tt
err_then (Err e) f p = f p

pub if_then : {T E : Type 0} {P Q : T → Type 0} (r : Result T E) → ((t : T) → P t → Q t) → IfOk r P → IfOk r Q
if_then (Ok t) f p = f t p
if_then (Err e) f p = tt

pub if_all : {T E Q : Type 0} {P : T → Type 0} (r : Result T E) → ((t : T) → P t → Q) → IfOk r P → OnOk r Q
if_all (Ok t) f p = f t p
if_all (Err e) f p = tt
