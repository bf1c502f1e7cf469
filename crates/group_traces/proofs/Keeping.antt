-- What stays where a cell, a word or bytes that are kept apart are put.
use Rattle.std.proofs.Common.{◌≡◌, ℕ, ◌+◌, ◌-◌, ◌/◌, ◌%◌, ◌<◌, ◌≤◌, ◌⊎◌, ◌==◌, ◌&&◌, Bool, true, false, nat_eq, if◌then◌else◌, List, [], ◌∷◌, ◌++◌, length, get_or, set, refl, sym, ap, ◌∙◌, subst, inl, inr, arith}
use Rattle.std.specs.HashMap.{HashMap, get}
use Rattle.std.specs.Map.{lookup}
use Rattle.std.proofs.lemmas.Bool.{cases_eq}
use Rattle.std.proofs.lemmas.List.{get_or-set_same, get_or-set_other, get_or_append_left, get_or_push, get_or_default, length_push, length-set}
use Rattle.clmodel.specs.Cells.{covers}
use Rattle.clmodel.specs.declared.access.Access.{Access}
use Rattle.clmodel.proofs.CellLaws.{covers_from}
use Rattle.clmodel.proofs.Steps.{if_true}
use Rattle.shadow.specs.Seen.{byte_mark, mark_of}
use Rattle.shadow.specs.declared.words.WordMark.{WordMark}
use Rattle.group_traces.specs.Traces.{untouched, trace_with, part_with}
use Rattle.group_traces.specs.Cells.{apart_at, word_trace, FitsInPlace, IsWhole, cell_at, word_at, placed_trace, IsOwn, IsWritten, IsPut, IsPart, FitsWith}
use Rattle.group_traces.specs.declared.cell.Apart.{Apart}
use Rattle.group_traces.specs.declared.cell.Cell.{Cell}
use Rattle.group_traces.specs.declared.cell.TracedWord.{TracedWord}
use Rattle.group_traces.specs.declared.cell.TracedWord.TheVariants as word
use Rattle.group_traces.specs.declared.trace.Trace.{Trace}
use Rattle.group_traces.specs.declared.traces.Traces.{Traces}
use Rattle.group_traces.proofs.Placing.{at_of, no_cell, no_apart}
use Rattle.group_traces.proofs.Parts.{ArePart}

-- ---- the map

pub none_at : {S : Type 0} (places : HashMap ℕ ℕ S) (cells : List Cell) (apart : List Apart) → places.entries ≡ [] → (q b : ℕ) → at_of places cells apart q b ≡ untouched
none_at places cells apart e q b = ap (λ es. placed_trace cells apart q b (lookup (nat_eq q) es)) e

pub same_map : {S : Type 0} (places more : HashMap ℕ ℕ S) → more.entries ≡ places.entries → (q : ℕ) → get nat_eq more q ≡ get nat_eq places q
same_map places more e q = ap (lookup (nat_eq q)) e

-- ---- cells

-- the key of each cell stays
pub put_key : (cells new : List Cell) (i n : ℕ) (v : TracedWord) → IsPut cells i n v new → (j : ℕ) → (cell_at new j).key ≡ (cell_at cells j).key
put_key cells new i n v put j = go (cases_eq j i)
  where
    go : (j ≡ i) ⊎ (j ≡ i → ⊥) → (cell_at new j).key ≡ (cell_at cells j).key
    go (inl e) = subst (λ k. (cell_at new k).key ≡ (cell_at cells k).key) (sym e) put.key
    go (inr ne) = ap (λ (z : Cell). z.key) (put.others j ne)

-- so do its places
pub own_kept : (old new : Traces) (key j : ℕ) → ((q : ℕ) → get nat_eq new.places q ≡ get nat_eq old.places q) → length new.cells.items ≡ length old.cells.items
    → ((k : ℕ) → (cell_at new.cells.items k).key ≡ (cell_at old.cells.items k).key) → IsOwn old key j → IsOwn new key j
own_kept old new key j places many keys own = record { there = places key ∙ own.there; inside = omega (arith, own.inside, many); own = keys j ∙ own.own }

-- nothing is written where each byte stays
pub nothing_written : (old new : ℕ → ℕ → Trace) (key n : ℕ) → IsWritten old new key n (λ k t. t) → (q b : ℕ) → new q b ≡ old q b
nothing_written old new key n w q b = w q b ∙ go ((q == key) && (b / 4 == n))
  where
    go : (c : Bool) → (if c then old q b else old q b) ≡ old q b
    go true = refl
    go false = refl

-- ---- words that fit

-- as bytes are added, as those of a word are written, and a word that is kept apart then
pub fits_more : (apart : List Apart) (a : Apart) (key n : ℕ) (x : Access) (first count : ℕ) (w : TracedWord) → FitsWith apart key n x first count w → FitsWith (apart ++ a ∷ []) key n x first count w
fits_more apart a key n x first count word.Untouched h = h
fits_more apart a key n x first count (word.Whole w) h = h
fits_more apart a key n x first count (word.Single how who) h = h
fits_more apart a key n x first count (word.Apart at) h =
    let e : apart_at (apart ++ a ∷ []) at ≡ apart_at apart at = get_or_append_left apart (a ∷ []) no_apart at h.0 in
    (omega (arith, length_push apart a, h.0), ap (λ (z : Apart). z.key) e ∙ h.1, ap (λ (z : Apart). z.word) e ∙ h.2)

pub fits_part :
    (x : Access) (first size at : ℕ) (apart new : List Apart) → IsPart x first size apart at new
    → (key n : ℕ) (y : Access) (f c : ℕ) (w : TracedWord) → FitsWith apart key n y f c w → FitsWith new key n y f c w
fits_part x first size at apart new part key n y f c word.Untouched h = h
fits_part x first size at apart new part key n y f c (word.Whole w) h = h
fits_part x first size at apart new part key n y f c (word.Single how who) h = h
fits_part x first size at apart new part key n y f c (word.Apart p) h = (omega (arith, part.long, h.0), go.0 ∙ h.1, go.1 ∙ h.2)
  where
    by : (p ≡ at) ⊎ (p ≡ at → ⊥) → ((apart_at new p).key ≡ (apart_at apart p).key) × ((apart_at new p).word ≡ (apart_at apart p).word)
    by (inl z) = subst (λ j. ((apart_at new j).key ≡ (apart_at apart j).key) × ((apart_at new j).word ≡ (apart_at apart j).word)) (sym z) (part.key, part.word)
    by (inr z) = (ap (λ (b : Apart). b.key) (part.others p z), ap (λ (b : Apart). b.word) (part.others p z))

    go : ((apart_at new p).key ≡ (apart_at apart p).key) × ((apart_at new p).word ≡ (apart_at apart p).word)
    go = by (cases_eq p at)

pub fits_new :
    (apart : List Apart) (at : ℕ) (a : Apart) (key n : ℕ) (x : Access) (first count : ℕ) → length apart ≡ at → a.key ≡ key → a.word ≡ n
    → FitsWith (apart ++ a ∷ []) key n x first count (word.Apart at)
fits_new apart at a key n x first count l e f =
    let s : apart_at (apart ++ a ∷ []) at ≡ a = get_or_push apart a no_apart at l in
    (omega (arith, length_push apart a, l), ap (λ (z : Apart). z.key) s ∙ e, ap (λ (z : Apart). z.word) s ∙ f)

-- what is kept of a word that isn't kept apart can have an access added that fits
pub whole_holds : (apart : List Apart) (key n : ℕ) (x : Access) (first count : ℕ) (w : TracedWord) → IsWhole w → FitsWith apart key n x first count w → FitsInPlace x first count w
whole_holds apart key n x first count word.Untouched h e = e
whole_holds apart key n x first count (word.Whole w) h e = e
whole_holds apart key n x first count (word.Single how who) h e = e
whole_holds apart key n x first count (word.Apart at) h e = absurd h

-- another word of a cell, once one is put
pub put_fits :
    (apart more : List Apart) (cells new : List Cell) (i n : ℕ) (v : TracedWord) → IsPut cells i n v new → (m : ℕ) (x : Access) (first count : ℕ) → (m ≡ n → ⊥)
    → ((u : TracedWord) → FitsWith apart (cell_at cells i).key m x first count u → FitsWith more (cell_at cells i).key m x first count u)
    → FitsWith apart (cell_at cells i).key m x first count (word_at (cell_at cells i) m) → FitsWith more (cell_at new i).key m x first count (word_at (cell_at new i) m)
put_fits apart more cells new i n v put m x first count ne kept h =
    subst (λ q. FitsWith more q m x first count (word_at (cell_at new i) m)) (sym put.key)
    (subst (λ (u : TracedWord). FitsWith more (cell_at cells i).key m x first count u) (sym (put.words m ne)) (kept (word_at (cell_at cells i) m) h))

-- ---- an access to all of a word

pub whole_part :
    (x : Access) (first count k : ℕ) (mark : WordMark) (t : Trace) → first % 4 + count ≤ 4 → count ≡ 4 → k < 4 → (count ≡ 4 → (j : ℕ) → j < 4 → byte_mark mark j ≡ mark_of x (first + j))
    → trace_with t x.interval (byte_mark mark k) ≡ part_with x first count k t
whole_part x first count k mark t fits all small marks =
    ap (trace_with t x.interval) (marks all k small ∙ ap (mark_of x) {x = first + k} {y = first - first % 4 + k} (omega (arith, fits, all)))
    ∙ sym (if_true (covers (first % 4) count k) (trace_with t x.interval (mark_of x (first - first % 4 + k))) t (covers_from (first % 4) count k (omega (arith, fits, all)) (omega (arith, fits, all, small))))

-- ---- what was read

pub read_cell : (cells : List Cell) (i : ℕ) (w : Cell) → i < length cells → w ≡ get_or cells i w → w ≡ cell_at cells i
read_cell cells i w inside is = is ∙ sym (get_or_default cells i no_cell w inside)

pub read_word :
    (apart more : List Apart) (cells : List Cell) (i n m k : ℕ) (w : Cell) → more ≡ apart → i < length cells → w ≡ get_or cells i w → n ≡ m
    → word_trace more w.key n (word_at w n) k ≡ word_trace apart (cell_at cells i).key m (word_at (cell_at cells i) m) k
read_word apart more cells i n m k w same inside is at =
    ap (λ l. word_trace l w.key n (word_at w n) k) same ∙ ap (λ (z : Cell). word_trace apart z.key n (word_at z n) k) (read_cell cells i w inside is)
    ∙ ap (λ j. word_trace apart (cell_at cells i).key j (word_at (cell_at cells i) j) k) at

pub read_at : (cells : List Cell) (i n m : ℕ) (w : Cell) → i < length cells → w ≡ get_or cells i w → n ≡ m → word_at w n ≡ word_at (cell_at cells i) m
read_at cells i n m w inside is at = ap (λ (z : Cell). word_at z n) (read_cell cells i w inside is) ∙ ap (word_at (cell_at cells i)) at

pub read_fits :
    (apart more : List Apart) (cells : List Cell) (i n m : ℕ) (x : Access) (first count : ℕ) (w : Cell) → more ≡ apart → i < length cells → w ≡ get_or cells i w → n ≡ m
    → FitsWith more w.key n x first count (word_at w n) → FitsWith apart (cell_at cells i).key m x first count (word_at (cell_at cells i) m)
read_fits apart more cells i n m x first count w same inside is at h =
    subst (λ k. FitsWith apart (cell_at cells i).key k x first count (word_at (cell_at cells i) k)) at
    (subst (λ (z : Cell). FitsWith apart z.key n x first count (word_at z n)) (read_cell cells i w inside is) (subst (λ l. FitsWith l w.key n x first count (word_at w n)) same h))

-- a word that is put
pub word_put : (cells : List Cell) (i n : ℕ) (w : Cell) (v : TracedWord) → i < length cells → w ≡ get_or cells i w → n < length w.words → IsPut cells i n v (set cells i (record w { words = set w.words n v }))
word_put cells i n w v inside is room =
    let d : Cell = record w { words = set w.words n v } in
    let here : cell_at (set cells i d) i ≡ d = get_or-set_same cells i d no_cell inside in
    record {
      long = length-set cells i d;
      others = λ j ne. get_or-set_other cells i j d no_cell ne;
      key = ap (λ (z : Cell). z.key) here ∙ ap (λ (z : Cell). z.key) (read_cell cells i w inside is);
      here = ap (λ (z : Cell). word_at z n) here ∙ get_or-set_same w.words n v word.Untouched room;
      words = λ m ne. ap (λ (z : Cell). word_at z m) here ∙ get_or-set_other w.words n m v word.Untouched ne ∙ ap (λ (z : Cell). word_at z m) (read_cell cells i w inside is);
    }

-- bytes that are kept apart and were written
pub part_put :
    (x : Access) (first count at : ℕ) (apart : List Apart) (a : Apart) (traces : List Trace) → at < length apart → a ≡ get_or apart at a → ArePart x first count a.traces traces
    → IsPart x first count apart at (set apart at (record a { traces = traces }))
part_put x first count at apart a traces inside is part =
    let b : Apart = record a { traces = traces } in
    let was : a ≡ apart_at apart at = is ∙ sym (get_or_default apart at no_apart a inside) in
    let here : apart_at (set apart at b) at ≡ b = get_or-set_same apart at b no_apart inside in
    record {
      long = length-set apart at b;
      others = λ p ne. get_or-set_other apart at p b no_apart ne;
      key = ap (λ (z : Apart). z.key) here ∙ ap (λ (z : Apart). z.key) was;
      word = ap (λ (z : Apart). z.word) here ∙ ap (λ (z : Apart). z.word) was;
      traces = λ k small. ap (λ (z : Apart). get_or z.traces k untouched) here ∙ part k small ∙ ap (λ (z : Apart). part_with x first count k (get_or z.traces k untouched)) was;
    }
