-- What is kept of each byte once a cell, a word or bytes that are kept apart are put.
use Rattle.std.proofs.Common.{◌≡◌, ℕ, ◌/◌, ◌%◌, ◌<◌, ◌≤◌, ◌⊎◌, ◌==◌, ◌&&◌, false, nat_eq, if◌then◌else◌, Option, None, Some, List, [], ◌∷◌, ◌++◌, length, get_or, refl, sym, ap, ◌∙◌, subst, inl, inr, arith, eq-eqb}
use Rattle.std.specs.HashMap.{HashMap, get}
use Rattle.std.proofs.lemmas.Bool.{and_from, and_left, and_right, cases_eq, cases_lt, ne_eqb}
use Rattle.std.proofs.lemmas.List.{get_or_append_left, get_or_push, get_or_past, length_push}
use Rattle.clmodel.proofs.Steps.{if_true, if_false, none_some, some_inj}
use Rattle.clmodel.specs.declared.access.Access.{Access}
use Rattle.group_traces.specs.Traces.{untouched, part_with}
use Rattle.group_traces.specs.Cells.{apart_at, own_trace, word_trace, cell_at, word_at, cell_trace, placed_trace, IsWritten, IsPut, IsPart}
use Rattle.group_traces.specs.declared.cell.Apart.{Apart}
use Rattle.group_traces.specs.declared.cell.Cell.{Cell}
use Rattle.group_traces.specs.declared.cell.TracedWord.{TracedWord}
use Rattle.group_traces.specs.declared.cell.TracedWord.TheVariants as word
use Rattle.group_traces.specs.declared.trace.Trace.{Trace}

-- what is kept of byte b of the cell of a key
abbrev pub at_of : {S : Type 0} → HashMap ℕ ℕ S → List Cell → List Apart → ℕ → ℕ → Trace
at_of places cells apart q b = placed_trace cells apart q b (get nat_eq places q)

abbrev pub no_cell : Cell
no_cell = record { key = 0; words = [] }

abbrev pub no_apart : Apart
no_apart = record { key = 0; word = 0; traces = [] }

-- ---- cells

pub own_cell : (apart : List Apart) (q : ℕ) (c : Cell) (b : ℕ) → c.key ≡ q → cell_trace apart q c b ≡ word_trace apart q (b / 4) (word_at c (b / 4)) (b % 4)
own_cell apart q c b e = if_true (c.key == q) (word_trace apart q (b / 4) (word_at c (b / 4)) (b % 4)) untouched (eq-eqb c.key q e)

other_cell : (apart : List Apart) (q : ℕ) (c : Cell) (b : ℕ) → (c.key ≡ q → ⊥) → cell_trace apart q c b ≡ untouched
other_cell apart q c b ne = if_false (c.key == q) (word_trace apart q (b / 4) (word_at c (b / 4)) (b % 4)) untouched (ne_eqb c.key q ne)

-- a cell whose words are untouched
blank : (apart : List Apart) (q : ℕ) (c : Cell) (b : ℕ) → ((n : ℕ) → word_at c n ≡ word.Untouched) → cell_trace apart q c b ≡ untouched
blank apart q c b none = go (cases_eq c.key q)
  where
    go : (c.key ≡ q) ⊎ (c.key ≡ q → ⊥) → cell_trace apart q c b ≡ untouched
    go (inl e) = own_cell apart q c b e ∙ ap (λ w. word_trace apart q (b / 4) w (b % 4)) (none (b / 4))
    go (inr ne) = other_cell apart q c b ne

no_words : (n : ℕ) → word_at no_cell n ≡ word.Untouched
no_words n = refl

-- what is kept where a cell is added
pub pushed : {S : Type 0} (places : HashMap ℕ ℕ S) (cells : List Cell) (apart : List Apart) (c : Cell) → ((n : ℕ) → word_at c n ≡ word.Untouched)
    → (q b : ℕ) → at_of places (cells ++ c ∷ []) apart q b ≡ at_of places cells apart q b
pushed places cells apart c none q b = go (get nat_eq places q)
  where
    go : (o : Option ℕ) → placed_trace (cells ++ c ∷ []) apart q b o ≡ placed_trace cells apart q b o
    go None = refl
    go (Some j) = at (cases_lt j (length cells)) (cases_eq j (length cells))
      where
        at : (j < length cells) ⊎ (length cells ≤ j) → (j ≡ length cells) ⊎ (j ≡ length cells → ⊥) → placed_trace (cells ++ c ∷ []) apart q b (Some j) ≡ placed_trace cells apart q b (Some j)
        at (inl l) _ = ap (λ z. cell_trace apart q z b) (get_or_append_left cells (c ∷ []) no_cell j l)
        at (inr g) (inl e) =
            ap (λ z. cell_trace apart q z b) (get_or_push cells c no_cell j (sym e)) ∙ blank apart q c b none
            ∙ sym (ap (λ z. cell_trace apart q z b) (get_or_past cells j no_cell g) ∙ blank apart q no_cell b no_words)
        at (inr g) (inr ne) =
            ap (λ z. cell_trace apart q z b) (get_or_past (cells ++ c ∷ []) j no_cell (omega (arith, length_push cells c, g, ne)))
            ∙ sym (ap (λ z. cell_trace apart q z b) (get_or_past cells j no_cell g))

-- what is kept where the key of an untouched cell is added
pub inserted : {S : Type 0} (places more : HashMap ℕ ℕ S) (cells : List Cell) (apart : List Apart) (key i : ℕ) → ((b : ℕ) → at_of places cells apart key b ≡ untouched)
    → get nat_eq more key ≡ Some i → ((q : ℕ) → (key == q) ≡ false → get nat_eq more q ≡ get nat_eq places q) → ((n : ℕ) → word_at (cell_at cells i) n ≡ word.Untouched)
    → (q b : ℕ) → at_of more cells apart q b ≡ at_of places cells apart q b
inserted places more cells apart key i old there others none q b = go (cases_eq key q)
  where
    go : (key ≡ q) ⊎ (key ≡ q → ⊥) → at_of more cells apart q b ≡ at_of places cells apart q b
    go (inl e) =
        subst (λ z. at_of more cells apart z b ≡ at_of places cells apart z b) e
        (ap (placed_trace cells apart key b) there ∙ blank apart key (cell_at cells i) b none ∙ sym (old b))
    go (inr ne) = ap (placed_trace cells apart q b) (others q (ne_eqb key q ne))

-- ---- what is written

here : (key n q b : ℕ) (t u : Trace) → q ≡ key → b / 4 ≡ n → (if (q == key) && (b / 4 == n) then t else u) ≡ t
here key n q b t u e f = if_true ((q == key) && (b / 4 == n)) t u (and_from (q == key) (b / 4 == n) (eq-eqb q key e) (eq-eqb (b / 4) n f))

elsewhere : (key n q b : ℕ) (t u : Trace) → (q ≡ key → b / 4 ≡ n → ⊥) → (if (q == key) && (b / 4 == n) then t else u) ≡ u
elsewhere key n q b t u ne = go (cases_eq q key) (cases_eq (b / 4) n)
  where
    go : (q ≡ key) ⊎ (q ≡ key → ⊥) → (b / 4 ≡ n) ⊎ (b / 4 ≡ n → ⊥) → (if (q == key) && (b / 4 == n) then t else u) ≡ u
    go (inl e) (inl f) = absurd (ne e f)
    go (inl e) (inr g) = if_false ((q == key) && (b / 4 == n)) t u (and_right (q == key) (b / 4 == n) (ne_eqb (b / 4) n g))
    go (inr g) _ = if_false ((q == key) && (b / 4 == n)) t u (and_left (q == key) (b / 4 == n) (ne_eqb q key g))

-- what is kept of a word that isn't this one, once bytes that are kept apart are
still :
    (apart more : List Apart) (key n q b : ℕ) → ((q m : ℕ) (w : TracedWord) (k : ℕ) → (q ≡ key → m ≡ n → ⊥) → word_trace more q m w k ≡ word_trace apart q m w k)
    → (z : Cell) → (z.key ≡ q → q ≡ key → b / 4 ≡ n → ⊥) → cell_trace more q z b ≡ cell_trace apart q z b
still apart more key n q b others z ne = at (cases_eq z.key q)
  where
    at : (z.key ≡ q) ⊎ (z.key ≡ q → ⊥) → cell_trace more q z b ≡ cell_trace apart q z b
    at (inl e) = own_cell more q z b e ∙ others q (b / 4) (word_at z (b / 4)) (b % 4) (ne e) ∙ sym (own_cell apart q z b e)
    at (inr f) = other_cell more q z b f ∙ sym (other_cell apart q z b f)

-- what is kept where a word of a cell is put: each byte of it becomes what is said, and each other stays
pub put_word :
    {S : Type 0} (places : HashMap ℕ ℕ S) (cells new : List Cell) (apart more : List Apart) (key i n : ℕ) (v : TracedWord) (become : ℕ → Trace → Trace)
    → get nat_eq places key ≡ Some i → (cell_at cells i).key ≡ key → IsPut cells i n v new
    → ((k : ℕ) → k < 4 → word_trace more key n v k ≡ become k (word_trace apart key n (word_at (cell_at cells i) n) k))
    → ((q m : ℕ) (w : TracedWord) (k : ℕ) → (q ≡ key → m ≡ n → ⊥) → word_trace more q m w k ≡ word_trace apart q m w k)
    → IsWritten (at_of places cells apart) (at_of places new more) key n become
put_word places cells new apart more key i n v become there own put same others q b = go (get nat_eq places q) refl
  where
    c : Cell
    c = cell_at cells i

    d : Cell
    d = cell_at new i

    was : Option ℕ → Trace
    was = placed_trace cells apart q b

    goal : Option ℕ → Type 0
    goal o = placed_trace new more q b o ≡ (if (q == key) && (b / 4 == n) then become (b % 4) (was o) else was o)

    one : (q ≡ key) ⊎ (q ≡ key → ⊥) → (b / 4 ≡ n) ⊎ (b / 4 ≡ n → ⊥)
        → cell_trace more q (cell_at new i) b
        ≡ (if (q == key) && (b / 4 == n) then become (b % 4) (cell_trace apart q (cell_at cells i) b) else cell_trace apart q (cell_at cells i) b)
    one (inr ne) _ =
        other_cell more q d b (λ e. ne (sym e ∙ put.key ∙ own)) ∙ sym (other_cell apart q c b (λ e. ne (sym e ∙ own)))
        ∙ sym (elsewhere key n q b (become (b % 4) (cell_trace apart q c b)) (cell_trace apart q c b) (λ e f. ne e))
    one (inl e) (inr ne) =
        own_cell more q d b (put.key ∙ own ∙ sym e)
        ∙ ap (λ w. word_trace more q (b / 4) w (b % 4)) (put.words (b / 4) ne)
        ∙ others q (b / 4) (word_at c (b / 4)) (b % 4) (λ f g. ne g)
        ∙ sym (own_cell apart q c b (own ∙ sym e))
        ∙ sym (elsewhere key n q b (become (b % 4) (cell_trace apart q c b)) (cell_trace apart q c b) (λ f g. ne g))
    one (inl e) (inl f) =
        own_cell more q d b (put.key ∙ own ∙ sym e)
        ∙ ap (λ m. word_trace more q m (word_at (cell_at new i) m) (b % 4)) f
        ∙ ap (λ w. word_trace more q n w (b % 4)) put.here
        ∙ ap (λ z. word_trace more z n v (b % 4)) e
        ∙ same (b % 4) (omega arith)
        ∙ ap (become (b % 4))
        (ap (λ z. word_trace apart z n (word_at (cell_at cells i) n) (b % 4)) (sym e) ∙ ap (λ m. word_trace apart q m (word_at (cell_at cells i) m) (b % 4)) (sym f)
        ∙ sym (own_cell apart q c b (own ∙ sym e)))
        ∙ sym (here key n q b (become (b % 4) (cell_trace apart q c b)) (cell_trace apart q c b) e f)

    go : (o : Option ℕ) → get nat_eq places q ≡ o → goal o
    go None e = sym (elsewhere key n q b (become (b % 4) untouched) untouched (λ f g. none_some i (sym e ∙ ap (get nat_eq places) f ∙ there)))
    go (Some j) e = at (cases_eq j i)
      where
        at : (j ≡ i) ⊎ (j ≡ i → ⊥) → goal (Some j)
        at (inl f) = subst (λ m. goal (Some m)) (sym f) (one (cases_eq q key) (cases_eq (b / 4) n))
        at (inr ne) =
            ap (λ z. cell_trace more q z b) (put.others j ne)
            ∙ still apart more key n q b others (cell_at cells j) (λ z f g. ne (some_inj j i (sym e ∙ ap (get nat_eq places) f ∙ there)))
            ∙ sym (elsewhere key n q b (become (b % 4) (was (Some j))) (was (Some j)) (λ f g. ne (some_inj j i (sym e ∙ ap (get nat_eq places) f ∙ there))))

-- the same where the cells stay
pub put_apart :
    {S : Type 0} (places : HashMap ℕ ℕ S) (cells : List Cell) (apart more : List Apart) (key i n : ℕ) (become : ℕ → Trace → Trace) → get nat_eq places key ≡ Some i → (cell_at cells i).key ≡ key
    → ((k : ℕ) → k < 4 → word_trace more key n (word_at (cell_at cells i) n) k ≡ become k (word_trace apart key n (word_at (cell_at cells i) n) k))
    → ((q m : ℕ) (w : TracedWord) (k : ℕ) → (q ≡ key → m ≡ n → ⊥) → word_trace more q m w k ≡ word_trace apart q m w k)
    → IsWritten (at_of places cells apart) (at_of places cells more) key n become
put_apart places cells apart more key i n become there own same others =
    put_word places cells cells apart more key i n (word_at (cell_at cells i) n) become there own
    (record { long = refl; others = λ j ne. refl; key = refl; here = refl; words = λ m ne. refl }) same others

-- ---- bytes that are kept apart

owned : (key n : ℕ) (a : Apart) (k : ℕ) → a.key ≡ key → a.word ≡ n → own_trace key n a k ≡ get_or a.traces k untouched
owned key n a k e f = if_true ((a.key == key) && (a.word == n)) (get_or a.traces k untouched) untouched (and_from (a.key == key) (a.word == n) (eq-eqb a.key key e) (eq-eqb a.word n f))

not_owned : (key n : ℕ) (a : Apart) (k : ℕ) → (a.key ≡ key → a.word ≡ n → ⊥) → own_trace key n a k ≡ untouched
not_owned key n a k ne = go (cases_eq a.key key) (cases_eq a.word n)
  where
    go : (a.key ≡ key) ⊎ (a.key ≡ key → ⊥) → (a.word ≡ n) ⊎ (a.word ≡ n → ⊥) → own_trace key n a k ≡ untouched
    go (inl e) (inl f) = absurd (ne e f)
    go (inl e) (inr g) = if_false ((a.key == key) && (a.word == n)) (get_or a.traces k untouched) untouched (and_right (a.key == key) (a.word == n) (ne_eqb a.word n g))
    go (inr g) _ = if_false ((a.key == key) && (a.word == n)) (get_or a.traces k untouched) untouched (and_left (a.key == key) (a.word == n) (ne_eqb a.key key g))

empty_traces : (q m k : ℕ) → own_trace q m no_apart k ≡ untouched
empty_traces q m k = go (cases_eq 0 q) (cases_eq 0 m)
  where
    go : (0 ≡ q) ⊎ (0 ≡ q → ⊥) → (0 ≡ m) ⊎ (0 ≡ m → ⊥) → own_trace q m no_apart k ≡ untouched
    go (inl e) (inl f) = owned q m no_apart k e f
    go (inl e) (inr g) = not_owned q m no_apart k (λ _ f. g f)
    go (inr g) _ = not_owned q m no_apart k (λ e _. g e)

-- those of another word, where bytes are written
pub part_others :
    (x : Access) (first count at : ℕ) (apart new : List Apart) (key n : ℕ) → IsPart x first count apart at new → (apart_at apart at).key ≡ key → (apart_at apart at).word ≡ n
    → (q m : ℕ) (w : TracedWord) (k : ℕ) → (q ≡ key → m ≡ n → ⊥) → word_trace new q m w k ≡ word_trace apart q m w k
part_others x first count at apart new key n part e f q m word.Untouched k ne = refl
part_others x first count at apart new key n part e f q m (word.Whole w) k ne = refl
part_others x first count at apart new key n part e f q m (word.Single how who) k ne = refl
part_others x first count at apart new key n part e f q m (word.Apart p) k ne = go (cases_eq p at)
  where
    go : (p ≡ at) ⊎ (p ≡ at → ⊥) → own_trace q m (apart_at new p) k ≡ own_trace q m (apart_at apart p) k
    go (inr z) = ap (λ b. own_trace q m b k) (part.others p z)
    go (inl z) =
        subst (λ j. own_trace q m (apart_at new j) k ≡ own_trace q m (apart_at apart j) k) (sym z)
        (not_owned q m (apart_at new at) k (λ h y. ne (sym h ∙ part.key ∙ e) (sym y ∙ part.word ∙ f))
        ∙ sym (not_owned q m (apart_at apart at) k (λ h y. ne (sym h ∙ e) (sym y ∙ f))))

-- those of another word, where bytes are added
pub push_others : (apart : List Apart) (a : Apart) (key n : ℕ) → a.key ≡ key → a.word ≡ n
    → (q m : ℕ) (w : TracedWord) (k : ℕ) → (q ≡ key → m ≡ n → ⊥) → word_trace (apart ++ a ∷ []) q m w k ≡ word_trace apart q m w k
push_others apart a key n g h q m word.Untouched k ne = refl
push_others apart a key n g h q m (word.Whole w) k ne = refl
push_others apart a key n g h q m (word.Single how who) k ne = refl
push_others apart a key n g h q m (word.Apart p) k ne = go (cases_lt p (length apart)) (cases_eq p (length apart))
  where
    go : (p < length apart) ⊎ (length apart ≤ p) → (p ≡ length apart) ⊎ (p ≡ length apart → ⊥) → own_trace q m (apart_at (apart ++ a ∷ []) p) k ≡ own_trace q m (apart_at apart p) k
    go (inl l) _ = ap (λ b. own_trace q m b k) (get_or_append_left apart (a ∷ []) no_apart p l)
    go (inr o) (inl z) =
        ap (λ b. own_trace q m b k) (get_or_push apart a no_apart p (sym z)) ∙ not_owned q m a k (λ x y. ne (sym x ∙ g) (sym y ∙ h))
        ∙ sym (ap (λ b. own_trace q m b k) (get_or_past apart p no_apart o) ∙ empty_traces q m k)
    go (inr o) (inr z) =
        ap (λ b. own_trace q m b k) (get_or_past (apart ++ a ∷ []) p no_apart (omega (arith, length_push apart a, o, z))) ∙ sym (ap (λ b. own_trace q m b k) (get_or_past apart p no_apart o))

-- those of the word itself
pub part_here :
    (x : Access) (first count at : ℕ) (apart new : List Apart) (key n k : ℕ) → IsPart x first count apart at new → (apart_at apart at).key ≡ key → (apart_at apart at).word ≡ n → k < 4
    → word_trace new key n (word.Apart at) k ≡ part_with x first count k (word_trace apart key n (word.Apart at) k)
part_here x first count at apart new key n k part e f small =
    owned key n (apart_at new at) k (part.key ∙ e) (part.word ∙ f) ∙ part.traces k small ∙ ap (part_with x first count k) (sym (owned key n (apart_at apart at) k e f))

pub push_here : (apart : List Apart) (at : ℕ) (a : Apart) (key n k : ℕ) → length apart ≡ at → a.key ≡ key → a.word ≡ n → word_trace (apart ++ a ∷ []) key n (word.Apart at) k ≡ get_or a.traces k untouched
push_here apart at a key n k l e f = ap (λ b. own_trace key n b k) (get_or_push apart a no_apart at l) ∙ owned key n a k e f
