-- What is kept once a cell is made, a word is kept apart, or an access is added to a word.
use Rattle.std.proofs.Common.{◌≡◌, ℕ, ◌<◌, nat_eq, false, Some, List, [], ◌∷◌, ◌++◌, length, get_or, zero, suc, refl, sym, ap, ◌∙◌, subst, arith}
use Rattle.std.specs.HashMap.{get}
use Rattle.std.proofs.lemmas.List.{get_or_push, length_push}
use Rattle.clmodel.specs.declared.access.Access.{Access}
use Rattle.group_traces.specs.Traces.{untouched, part_with}
use Rattle.group_traces.specs.Cells.{word_trace, cell_at, word_at, placed_trace, at_key, IsOwn, IsWritten, IsPut, IsPart, FitsWith, IsFitting}
use Rattle.group_traces.specs.declared.cell.Apart.{Apart}
use Rattle.group_traces.specs.declared.cell.Cell.{Cell}
use Rattle.group_traces.specs.declared.cell.TracedWord.{TracedWord}
use Rattle.group_traces.specs.declared.cell.TracedWord.TheVariants as word
use Rattle.group_traces.specs.declared.traces.Traces.{Traces}
use Rattle.group_traces.proofs.Placing.{at_of, no_cell, pushed, inserted, put_word, put_apart, part_others, part_here, push_others, push_here}
use Rattle.group_traces.proofs.Keeping.{own_kept, put_key, nothing_written, fits_more, fits_part, fits_new, put_fits}

-- ---- a cell that is made

-- the cell of a key without accesses
abbrev pub new_cell : ℕ → Cell
new_cell key =
    record { key = key; words = word.Untouched ∷ word.Untouched ∷ word.Untouched ∷ word.Untouched ∷ word.Untouched ∷ word.Untouched ∷ word.Untouched ∷ word.Untouched ∷ [] }

new_blank : (key n : ℕ) → word_at (new_cell key) n ≡ word.Untouched
new_blank key zero = refl
new_blank key (suc zero) = refl
new_blank key (suc (suc zero)) = refl
new_blank key (suc (suc (suc zero))) = refl
new_blank key (suc (suc (suc (suc zero)))) = refl
new_blank key (suc (suc (suc (suc (suc zero))))) = refl
new_blank key (suc (suc (suc (suc (suc (suc zero)))))) = refl
new_blank key (suc (suc (suc (suc (suc (suc (suc zero))))))) = refl
new_blank key (suc (suc (suc (suc (suc (suc (suc (suc n)))))))) = refl

-- what is kept where it stands at the end, and no key is added
pub made_cell : (old new : Traces) (key : ℕ) → ((q : ℕ) → get nat_eq new.places q ≡ get nat_eq old.places q) → new.cells.items ≡ old.cells.items ++ new_cell key ∷ [] → new.apart.items ≡ old.apart.items
    → (q b : ℕ) → at_key new q b ≡ at_key old q b
made_cell old new key places cells apart q b =
    ap (placed_trace new.cells.items new.apart.items q b) (places q)
    ∙ ap (λ l. placed_trace l new.apart.items q b (get nat_eq old.places q)) cells
    ∙ ap (λ l. placed_trace (old.cells.items ++ new_cell key ∷ []) l q b (get nat_eq old.places q)) apart
    ∙ pushed old.places old.cells.items old.apart.items (new_cell key) (new_blank key) q b

-- what is kept where its key is added too
pub made_key :
    (old new : Traces) (key i : ℕ) → length old.cells.items ≡ i → new.cells.items ≡ old.cells.items ++ new_cell key ∷ [] → new.apart.items ≡ old.apart.items → get nat_eq new.places key ≡ Some i
    → ((q : ℕ) → (nat_eq key q) ≡ false → get nat_eq new.places q ≡ get nat_eq old.places q) → ((b : ℕ) → at_key old key b ≡ untouched) → (q b : ℕ) → at_key new q b ≡ at_key old q b
made_key old new key i end cells apart there others none q b =
    ap (λ l. placed_trace l new.apart.items q b (get nat_eq new.places q)) cells
    ∙ ap (λ l. placed_trace (old.cells.items ++ new_cell key ∷ []) l q b (get nat_eq new.places q)) apart
    ∙ inserted old.places new.places (old.cells.items ++ new_cell key ∷ []) old.apart.items key i
    (λ c. pushed old.places old.cells.items old.apart.items (new_cell key) (new_blank key) key c ∙ none c) there others
    (λ n. ap (λ (z : Cell). word_at z n) (get_or_push old.cells.items (new_cell key) no_cell i end) ∙ new_blank key n) q b
    ∙ pushed old.places old.cells.items old.apart.items (new_cell key) (new_blank key) q b

pub made_own : (old new : Traces) (key i : ℕ) → length old.cells.items ≡ i → new.cells.items ≡ old.cells.items ++ new_cell key ∷ [] → get nat_eq new.places key ≡ Some i → IsOwn new key i
made_own old new key i end cells there =
    record {
      there = there;
      inside = omega (arith, ap length cells, length_push old.cells.items (new_cell key), end);
      own = ap (λ l. (cell_at l i).key) cells ∙ ap (λ (z : Cell). z.key) (get_or_push old.cells.items (new_cell key) no_cell i end);
    }

-- ---- a word whose bytes are kept apart

module _ (old new : Traces) (a : Apart) (i n at : ℕ) (places : new.places ≡ old.places) (apart : new.apart.items ≡ old.apart.items ++ a ∷ []) (put : IsPut old.cells.items i n (word.Apart at) new.cells.items)
    (end : length old.apart.items ≡ at) (key : a.key ≡ (cell_at old.cells.items i).key) (number : a.word ≡ n) where
  pub split_same : IsOwn old (cell_at old.cells.items i).key i
      → ((k : ℕ) → k < 4 → get_or a.traces k untouched ≡ word_trace old.apart.items (cell_at old.cells.items i).key n (word_at (cell_at old.cells.items i) n) k)
      → (q b : ℕ) → at_key new q b ≡ at_key old q b
  split_same own traces q b =
      ap (λ m. placed_trace new.cells.items new.apart.items q b (get nat_eq m q)) places
      ∙ ap (λ l. placed_trace new.cells.items l q b (get nat_eq old.places q)) apart
      ∙ nothing_written (at_of old.places old.cells.items old.apart.items) (at_of old.places new.cells.items (old.apart.items ++ a ∷ [])) (cell_at old.cells.items i).key n
      (put_word old.places old.cells.items new.cells.items old.apart.items (old.apart.items ++ a ∷ []) (cell_at old.cells.items i).key i n (word.Apart at) (λ k t. t) own.there own.own put
      (λ k small. push_here old.apart.items at a (cell_at old.cells.items i).key n k end key number ∙ traces k small)
      (push_others old.apart.items a (cell_at old.cells.items i).key n key number)) q b

  pub split_own : (q j : ℕ) → IsOwn old q j → IsOwn new q j
  split_own q j own = own_kept old new q j (λ k. ap (λ m. get nat_eq m k) places) put.long (put_key old.cells.items new.cells.items i n (word.Apart at) put) own

  pub split_fits : (x : Access) (first count : ℕ) → IsFitting new i n x first count
  split_fits x first count =
      subst (λ l. FitsWith l (cell_at new.cells.items i).key n x first count (word_at (cell_at new.cells.items i) n)) (sym apart)
      (subst (λ q. FitsWith (old.apart.items ++ a ∷ []) q n x first count (word_at (cell_at new.cells.items i) n)) (sym put.key)
      (subst (λ (u : TracedWord). FitsWith (old.apart.items ++ a ∷ []) (cell_at old.cells.items i).key n x first count u) (sym put.here)
      (fits_new old.apart.items at a (cell_at old.cells.items i).key n x first count end key number)))

  pub split_others : (m : ℕ) (x : Access) (first count : ℕ) → (m ≡ n → ⊥) → IsFitting old i m x first count → IsFitting new i m x first count
  split_others m x first count ne h =
      put_fits old.apart.items new.apart.items old.cells.items new.cells.items i n (word.Apart at) put m x first count ne
      (λ u f. subst (λ l. FitsWith l (cell_at old.cells.items i).key m x first count u) (sym apart) (fits_more old.apart.items a (cell_at old.cells.items i).key m x first count u f)) h

-- ---- an access that is added to bytes that are kept apart

module _ (old new : Traces) (x : Access) (first count at i n : ℕ) (places : new.places ≡ old.places) (cells : new.cells ≡ old.cells) (part : IsPart x first count old.apart.items at new.apart.items) where
  pub apart_written : word_at (cell_at old.cells.items i) n ≡ word.Apart at → IsFitting old i n x first count → (key : ℕ) → IsOwn old key i → IsWritten (at_key old) (at_key new) key n (part_with x first count)
  apart_written is fits key own q b =
      let f : FitsWith old.apart.items (cell_at old.cells.items i).key n x first count (word.Apart at) =
      subst (λ (u : TracedWord). FitsWith old.apart.items (cell_at old.cells.items i).key n x first count u) is fits in
      ap (λ m. placed_trace new.cells.items new.apart.items q b (get nat_eq m q)) places
      ∙ ap (λ v. placed_trace v.items new.apart.items q b (get nat_eq old.places q)) cells
      ∙ put_apart old.places old.cells.items old.apart.items new.apart.items key i n (part_with x first count) own.there own.own
      (λ k small.
      subst (λ (u : TracedWord). word_trace new.apart.items key n u k ≡ part_with x first count k (word_trace old.apart.items key n u k)) (sym is)
      (part_here x first count at old.apart.items new.apart.items key n k part (f.1 ∙ own.own) f.2 small))
      (part_others x first count at old.apart.items new.apart.items key n part (f.1 ∙ own.own) f.2) q b

  pub apart_own : (q j : ℕ) → IsOwn old q j → IsOwn new q j
  apart_own q j own = own_kept old new q j (λ k. ap (λ m. get nat_eq m k) places) (ap (λ v. length v.items) cells) (λ k. ap (λ v. (cell_at v.items k).key) cells) own

  pub apart_others : (m : ℕ) (y : Access) (f c : ℕ) → IsFitting old i m y f c → IsFitting new i m y f c
  apart_others m y f c h =
      subst (λ v. FitsWith new.apart.items (cell_at v.items i).key m y f c (word_at (cell_at v.items i) m)) (sym cells)
      (fits_part x first count at old.apart.items new.apart.items part (cell_at old.cells.items i).key m y f c (word_at (cell_at old.cells.items i) m) h)

-- ---- an access that is added to a word in one piece

module _ (old new : Traces) (i n : ℕ) (v : TracedWord) (places : new.places ≡ old.places) (apart : new.apart ≡ old.apart) (put : IsPut old.cells.items i n v new.cells.items) where
  pub whole_written :
      (x : Access) (first count : ℕ)
      → ((l : List Apart) (q m k : ℕ) → k < 4 → word_trace l q m v k ≡ part_with x first count k (word_trace l q m (word_at (cell_at old.cells.items i) n) k))
      → (key : ℕ) → IsOwn old key i → IsWritten (at_key old) (at_key new) key n (part_with x first count)
  whole_written x first count with_it key own q b =
      ap (λ m. placed_trace new.cells.items new.apart.items q b (get nat_eq m q)) places
      ∙ ap (λ l. placed_trace new.cells.items l.items q b (get nat_eq old.places q)) apart
      ∙ put_word old.places old.cells.items new.cells.items old.apart.items old.apart.items key i n v (part_with x first count) own.there own.own put (with_it old.apart.items key n) (λ r m w k ne. refl) q b

  pub whole_own : (q j : ℕ) → IsOwn old q j → IsOwn new q j
  whole_own q j own = own_kept old new q j (λ k. ap (λ m. get nat_eq m k) places) put.long (put_key old.cells.items new.cells.items i n v put) own

  pub whole_others : (m : ℕ) (y : Access) (f c : ℕ) → (m ≡ n → ⊥) → IsFitting old i m y f c → IsFitting new i m y f c
  whole_others m y f c ne h =
      subst (λ l. FitsWith l.items (cell_at new.cells.items i).key m y f c (word_at (cell_at new.cells.items i) m)) (sym apart)
      (put_fits old.apart.items old.apart.items old.cells.items new.cells.items i n v put m y f c ne (λ u h. h) h)

-- a cell at the place of a key is at that of its own
pub own_self : (t : Traces) (key i : ℕ) → IsOwn t key i → IsOwn t (cell_at t.cells.items i).key i
own_self t key i own = subst (λ q. IsOwn t q i) (sym own.own) own
