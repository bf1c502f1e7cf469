-- Private arrays and accesses of runs that are alike.
use Rattle.std.proofs.Common.{◌≡◌, ℕ, zero, suc, ℤ, pos, negsuc, Bool, true, false, IsTrue, not, ◌&&◌, nat_lt, if◌then◌else◌, Option, None, Some, List, [], ◌∷◌, length, slice_get, slice_set, replicate, refl, ap, sym, subst}
use Rattle.std.proofs.lemmas.Bool.{false≢true}
use Rattle.clnum.specs.Integer.{Integer, converted, bits_of}
use Rattle.clnum.specs.Operations.{wrapped}
use Rattle.clnum.specs.declared.int_type.IntType.{IntType}
use Rattle.clnum.specs.declared.int_type.IntType.TheVariants.{Uint}
use Rattle.clmodel.specs.Next.{Continuation, fail, pointing, answered, load, store, element_at, element_value, index_of, read_element, element_set, write_element, atomic_call, amount, fetch_call, fetch_number, fetch_op_of}
use Rattle.clmodel.specs.declared.action.Answer.{Answer}
use Rattle.clmodel.specs.declared.action.Cause.TheVariants as cause
use Rattle.clmodel.specs.declared.operand.Operand.{Operand}
use Rattle.clmodel.specs.declared.operand.Operand.TheVariants.{Integral}
use Rattle.clmodel.specs.declared.operand.Pointer.{Pointer}
use Rattle.clmodel.specs.declared.setup.AtomicFunction.{AtomicFunction}
use Rattle.clmodel.specs.declared.setup.AtomicFunction.TheVariants as atomic
use Rattle.same_launches.specs.Alike.{is_free, AlikeNumbers, AlikeCells, AlikeElements, AlikeFetches, AlikeAnswers}
use Rattle.same_items.specs.Free.{CodeFreedom, Matches}
use Rattle.same_items.specs.Flow.{covers, number_label, pointer_label, is_same, is_number, is_pointer, loaded, may_keep, may_put, may_store}
use Rattle.same_items.specs.declared.label.Label.{Label}
use Rattle.same_items.specs.declared.label.Label.TheVariants as label
use Rattle.same_items.proofs.Values.{AlikeRuns, TwoNumbers, are_numbers, two_numbers, one_pointer, number_alike, pointing_alike}

pub numbers_alike : (b : Bool) (m n : ℕ) → m ≡ n → AlikeNumbers b m n
numbers_alike true m n e = tt
numbers_alike false m n e = e

-- ---- private arrays

pub lengths_alike : (b : Bool) (xs ys : List (Option ℕ)) → AlikeElements b xs ys → length xs ≡ length ys
lengths_alike b [] [] h = refl
lengths_alike b [] (y ∷ ys) h = absurd h
lengths_alike b (x ∷ xs) [] h = absurd h
lengths_alike b (x ∷ xs) (y ∷ ys) h = ap suc (lengths_alike b xs ys h.1)

pub unset_alike : (b : Bool) (count : ℕ) → AlikeElements b (replicate count None) (replicate count None)
unset_alike b zero = tt
unset_alike b (suc count) = (tt, unset_alike b count)

pub set_alike : (b : Bool) (xs ys : List (Option ℕ)) (i m n : ℕ) → AlikeElements b xs ys → AlikeNumbers b m n → AlikeElements b (slice_set xs i (Some m)) (slice_set ys i (Some n))
set_alike b [] [] i m n h k = tt
set_alike b [] (y ∷ ys) i m n h k = absurd h
set_alike b (x ∷ xs) [] i m n h k = absurd h
set_alike b (x ∷ xs) (y ∷ ys) zero m n h k = (k, h.1)
set_alike b (x ∷ xs) (y ∷ ys) (suc i) m n h k = (h.0, set_alike b xs ys i m n h.1 k)

-- what is at an index of two arrays
abbrev AlikeFound : Bool → Option (Option ℕ) → Option (Option ℕ) → Type 0
AlikeFound b None None = Unit {0}
AlikeFound b (Some c) (Some d) = AlikeCells b c d
AlikeFound b _ _ = ⊥

got_alike : (b : Bool) (xs ys : List (Option ℕ)) (i : ℕ) → AlikeElements b xs ys → AlikeFound b (slice_get xs i) (slice_get ys i)
got_alike b [] [] i h = tt
got_alike b [] (y ∷ ys) i h = absurd h
got_alike b (x ∷ xs) [] i h = absurd h
got_alike b (x ∷ xs) (y ∷ ys) zero h = h.0
got_alike b (x ∷ xs) (y ∷ ys) (suc i) h = got_alike b xs ys i h.1

at_alike : (b : Bool) (xs ys : List (Option ℕ)) (i : ℤ) → AlikeElements b xs ys → AlikeFound b (element_at xs i) (element_at ys i)
at_alike b xs ys (pos i) h = got_alike b xs ys i h
at_alike b xs ys (negsuc i) h = tt

module _ (w : CodeFreedom) where
  abbrev Alike : Continuation → Continuation → Type 0
  Alike run other = AlikeRuns w run other

  cell_value : (b : Bool) (kind : IntType) (m n : ℕ) → AlikeNumbers b m n → Matches w (number_label b) (Integral (wrapped kind (pos m))) (Integral (wrapped kind (pos n)))
  cell_value true kind m n h = refl
  cell_value false kind m n h = ap (λ z. wrapped kind (pos z)) h

  value_alike : (name : ℕ) (i : ℤ) (kind : IntType) (b : Bool) (o p : Option (Option ℕ)) (f g : Operand → Continuation) → AlikeFound b o p
      → ((x y : Operand) → Matches w (number_label b) x y → Alike (f x) (g y)) → Alike (element_value name i kind o f) (element_value name i kind p g)
  value_alike name i kind b None None f g a h = refl
  value_alike name i kind b None (Some p) f g a h = absurd a
  value_alike name i kind b (Some o) None f g a h = absurd a
  value_alike name i kind b (Some None) (Some None) f g a h = refl
  value_alike name i kind b (Some None) (Some (Some n)) f g a h = absurd a
  value_alike name i kind b (Some (Some m)) (Some None) f g a h = absurd a
  value_alike name i kind b (Some (Some m)) (Some (Some n)) f g a h = h _ _ (cell_value b kind m n a)

  number_of_same : (l : Label) → IsTrue (is_same l) → IsTrue (is_number l)
  number_of_same label.Unset i = refl
  number_of_same label.Same i = refl
  number_of_same _ i = absurd (false≢true i)

  pub read_alike : (name : ℕ) (kind : IntType) (b : Bool) (xs ys : List (Option ℕ)) (l : Label) (i j : Operand) (f g : Operand → Continuation) → IsTrue (is_same l) → Matches w l i j
      → AlikeElements b xs ys → ((x y : Operand) → Matches w (number_label b) x y → Alike (f x) (g y)) → Alike (read_element name kind xs i f) (read_element name kind ys j g)
  read_alike name kind b xs ys l i j f g s a e h =
      number_alike w l i j _ _ (two_numbers w l i j (number_of_same l s) a) (λ m n k same back.
      subst (λ z. Alike (element_value name (index_of m) kind (element_at xs (index_of m)) f) (element_value name (index_of z) kind (element_at ys (index_of z)) g)) (same s)
      (value_alike name (index_of m) kind b _ _ f g (at_alike b xs ys (index_of m) e) h))

  if_alike : (name : ℕ) (i : ℤ) (b c : Bool) (run other : Continuation) → b ≡ c → Alike run other
      → Alike (if b then run else fail (cause.PrivateBounds name i)) (if c then other else fail (cause.PrivateBounds name i))
  if_alike name i true true run other e h = h
  if_alike name i false false run other e h = refl
  if_alike name i true false run other e h = absurd (false≢true (sym e))
  if_alike name i false true run other e h = absurd (false≢true e)

  element_set_alike : (name : ℕ) (i : ℤ) (kind : IntType) (b : Bool) (xs ys : List (Option ℕ)) (m n : Integer) (f g : List (Option ℕ) → Continuation) → AlikeElements b xs ys
      → AlikeNumbers b (bits_of kind m.number) (bits_of kind n.number) → ((us vs : List (Option ℕ)) → AlikeElements b us vs → Alike (f us) (g vs))
      → Alike (element_set name i kind xs m f) (element_set name i kind ys n g)
  element_set_alike name (pos i) kind b xs ys m n f g e k h =
      if_alike name (pos i) _ _ _ _ (ap (nat_lt i) (lengths_alike b xs ys e)) (h _ _ (set_alike b xs ys i _ _ e k))
  element_set_alike name (negsuc i) kind b xs ys m n f g e k h = refl

  -- a number that may be put where its label says
  covered_number : (b : Bool) (l : Label) (m n : ℕ) → IsTrue (may_keep b l) → (is_same l ≡ true → m ≡ n) → AlikeNumbers b m n
  covered_number true l m n c s = tt
  covered_number false label.Unset m n c s = s refl
  covered_number false label.Same m n c s = s refl
  covered_number false _ m n c s = absurd (false≢true c)

  number_of_covered : (b : Bool) (l : Label) → IsTrue (may_keep b l) → IsTrue (is_number l)
  number_of_covered b label.Unset c = refl
  number_of_covered b label.Same c = refl
  number_of_covered b label.Free c = refl
  number_of_covered true _ c = absurd (false≢true c)
  number_of_covered false _ c = absurd (false≢true c)

  pub write_alike : (name : ℕ) (kind : IntType) (b : Bool) (xs ys : List (Option ℕ)) (l k : Label) (i j v u : Operand) (f g : List (Option ℕ) → Continuation) → IsTrue (is_same l)
      → IsTrue (may_keep b k) → Matches w l i j → Matches w k v u → AlikeElements b xs ys → ((us vs : List (Option ℕ)) → AlikeElements b us vs → Alike (f us) (g vs))
      → Alike (write_element name kind xs i v f) (write_element name kind ys j u g)
  write_alike name kind b xs ys l k i j v u f g s c a d e h =
      number_alike w l i j _ _ (two_numbers w l i j (number_of_same l s) a) (λ m n t same back.
      number_alike w k v u _ _ (two_numbers w k v u (number_of_covered b k c) d) (λ p q t' same' back'.
      subst (λ z. Alike (element_set name (index_of m) kind xs p f) (element_set name (index_of z) kind ys q g)) (same s)
      (element_set_alike name (index_of m) kind b xs ys p q f g e (covered_number b k _ _ c (λ is. ap (λ z. bits_of kind z.number) (same' is))) h)))

  -- ---- accesses

  loaded_matches : (l : Label) (b : Bool) (x y : Answer) (kind : IntType) → IsTrue (covers l (pointer_label b)) → IsTrue (is_pointer l) → AlikeAnswers b x y
      → Matches w (loaded l) (Integral (wrapped kind (pos (answered x)))) (Integral (wrapped kind (pos (answered y))))
  loaded_matches label.Unset true x y kind c i a = absurd (false≢true c)
  loaded_matches label.Unset false x y kind c i a = absurd (false≢true c)
  loaded_matches label.ToSame true x y kind c i a = absurd (false≢true c)
  loaded_matches label.ToSame false x y kind c i a = ap (λ z. wrapped kind (pos (answered z))) a
  loaded_matches label.ToFree b x y kind c i a = refl
  loaded_matches label.ToAny b x y kind c i a = refl
  loaded_matches _ b x y kind c i a = absurd (false≢true i)

  pub load_alike : (l : Label) (v u : Operand) (f g : Operand → Continuation) → IsTrue (is_pointer l) → Matches w l v u → ((x y : Operand) → Matches w (loaded l) x y → Alike (f x) (g y))
      → Alike (pointing v (λ p. load p f)) (pointing u (λ p. load p g))
  load_alike l v u f g i a h =
      pointing_alike w l v u _ _ (one_pointer w l v u i a) (λ p c.
      ((refl, refl, refl), λ x y alike. h _ _ (loaded_matches l (is_free w.bytes p.object) x y p.element c i alike)))

  -- a number that may be put where a pointer leads
  put_numbers : (l k : Label) (b : Bool) (m n : ℕ) → IsTrue (may_put l k) → IsTrue (covers l (pointer_label b)) → (is_same k ≡ true → m ≡ n) → AlikeNumbers b m n
  put_numbers l label.Unset b m n p c s = numbers_alike b m n (s refl)
  put_numbers l label.Same b m n p c s = numbers_alike b m n (s refl)
  put_numbers label.ToFree label.Free true m n p c s = tt
  put_numbers label.ToFree label.Free false m n p c s = absurd (false≢true c)
  put_numbers label.Unset label.Free true m n p c s = absurd (false≢true c)
  put_numbers label.Unset label.Free false m n p c s = absurd (false≢true c)
  put_numbers _ label.Free b m n p c s = absurd (false≢true p)
  put_numbers label.Unset _ true m n p c s = absurd (false≢true c)
  put_numbers label.Unset _ false m n p c s = absurd (false≢true c)
  put_numbers _ _ b m n p c s = absurd (false≢true p)

  -- the labels of what may be put, where both are there
  pub data Puts (l k : Label) : Type 0 where
    puts : IsTrue (is_pointer l) → IsTrue (is_number k) → Puts l k

  may_put_labels : (l k : Label) (p q v u : Operand) → IsTrue (may_put l k) → Matches w l p q → Matches w k v u → Puts l k
  may_put_labels label.Unset k p q v u m a b = absurd a
  may_put_labels l label.Unset p q v u m a b = absurd b
  may_put_labels label.ToSame label.Same p q v u m a b = puts refl refl
  may_put_labels label.ToFree label.Same p q v u m a b = puts refl refl
  may_put_labels label.ToAny label.Same p q v u m a b = puts refl refl
  may_put_labels label.ToFree label.Free p q v u m a b = puts refl refl
  may_put_labels _ _ p q v u m a b = absurd (false≢true m)

  -- the same of a number that may be stored
  store_numbers : (uniform : Bool) (l k : Label) (b : Bool) (m n : ℕ) → IsTrue (may_store uniform l k) → IsTrue (covers l (pointer_label b)) → (is_same k ≡ true → m ≡ n)
      → AlikeNumbers (b && not uniform) m n
  store_numbers uniform l label.Unset b m n p c s = numbers_alike _ m n (s refl)
  store_numbers uniform l label.Same b m n p c s = numbers_alike _ m n (s refl)
  store_numbers false label.ToFree label.Free true m n p c s = tt
  store_numbers true label.ToFree label.Free b m n p c s = absurd (false≢true p)
  store_numbers false label.ToFree label.Free false m n p c s = absurd (false≢true c)
  store_numbers uniform label.Unset label.Free true m n p c s = absurd (false≢true c)
  store_numbers uniform label.Unset label.Free false m n p c s = absurd (false≢true c)
  store_numbers uniform _ label.Free b m n p c s = absurd (false≢true p)
  store_numbers uniform label.Unset _ true m n p c s = absurd (false≢true c)
  store_numbers uniform label.Unset _ false m n p c s = absurd (false≢true c)
  store_numbers uniform _ _ b m n p c s = absurd (false≢true p)

  may_store_labels : (uniform : Bool) (l k : Label) (p q v u : Operand) → IsTrue (may_store uniform l k) → Matches w l p q → Matches w k v u → Puts l k
  may_store_labels uniform label.Unset k p q v u m a b = absurd a
  may_store_labels uniform l label.Unset p q v u m a b = absurd b
  may_store_labels uniform label.ToSame label.Same p q v u m a b = puts refl refl
  may_store_labels uniform label.ToFree label.Same p q v u m a b = puts refl refl
  may_store_labels uniform label.ToAny label.Same p q v u m a b = puts refl refl
  may_store_labels uniform label.ToFree label.Free p q v u m a b = puts refl refl
  may_store_labels uniform _ _ p q v u m a b = absurd (false≢true m)

  stored : (l k : Label) (z : Pointer) (v u : Operand) (run other : Continuation) → IsTrue (may_store w.bytes.uniform l k) → IsTrue (covers l (pointer_label (is_free w.bytes z.object))) → TwoNumbers w k v u
      → Alike run other → Alike (store z v run) (store z u other)
  stored l k z v u run other m c (are_numbers x y t same back) h =
      ((refl, refl, (refl, store_numbers w.bytes.uniform l k (is_free w.bytes z.object) _ _ m c (λ is. ap (λ n. bits_of z.element n.number) (same is)))), λ _ _ _. h)

  store_through : (l k : Label) (p q v u : Operand) (run other : Continuation) → Puts l k → IsTrue (may_store w.bytes.uniform l k) → Matches w l p q → Matches w k v u → Alike run other
      → Alike (pointing p (λ z. store z v run)) (pointing q (λ z. store z u other))
  store_through l k p q v u run other (puts i j) m a d h =
      pointing_alike w l p q _ _ (one_pointer w l p q i a) (λ z c. stored l k z v u run other m c (two_numbers w k v u j d) h)

  pub store_alike : (l k : Label) (p q v u : Operand) (run other : Continuation) → IsTrue (may_store w.bytes.uniform l k) → Matches w l p q → Matches w k v u → Alike run other
      → Alike (pointing p (λ z. store z v run)) (pointing q (λ z. store z u other))
  store_alike l k p q v u run other m a d h = store_through l k p q v u run other (may_store_labels w.bytes.uniform l k p q v u m a d) m a d h

  -- ---- atomic functions

  pub update_by_one_alike : (function : AtomicFunction) (l : Label) (p q : Operand) (run other : Continuation) → IsTrue (is_pointer l) → Matches w l p q → Alike run other
      → Alike (atomic_call function (p ∷ []) run) (atomic_call function (q ∷ []) other)
  update_by_one_alike function l p q run other i a h =
      pointing_alike w l p q _ _ (one_pointer w l p q i a) (λ z c. ((refl, refl, (refl, numbers_alike _ _ _ refl)), λ _ _ _. h))

  update_through : (function : AtomicFunction) (l k : Label) (p q v u : Operand) (run other : Continuation) → Puts l k → IsTrue (may_put l k) → Matches w l p q → Matches w k v u → Alike run other
      → Alike (atomic_call function (p ∷ v ∷ []) run) (atomic_call function (q ∷ u ∷ []) other)
  update_through function l k p q v u run other (puts i j) m a d h =
      pointing_alike w l p q _ _ (one_pointer w l p q i a) (λ z c.
      number_alike w k v u _ _ (two_numbers w k v u j d) (λ x y t same back.
      ((refl, refl, (refl, put_numbers l k (is_free w.bytes z.object) _ _ m c (λ is. ap (λ n. bits_of Uint (amount function (converted n z.element)).number) (same is)))), λ _ _ _. h)))

  pub update_alike : (function : AtomicFunction) (l k : Label) (p q v u : Operand) (run other : Continuation) → IsTrue (may_put l k) → Matches w l p q → Matches w k v u → Alike run other
      → Alike (atomic_call function (p ∷ v ∷ []) run) (atomic_call function (q ∷ u ∷ []) other)
  update_alike function l k p q v u run other m a d h = update_through function l k p q v u run other (may_put_labels l k p q v u m a d) m a d h

  fetches_alike : (function : AtomicFunction) (kind : IntType) (b : Bool) (m n : ℕ) → AlikeNumbers b m n → AlikeFetches b (fetch_op_of function kind m) (fetch_op_of function kind n)
  fetches_alike atomic.Exchange kind b m n h = tt
  fetches_alike atomic.CompareExchange kind b m n h = h
  fetches_alike _ kind b m n h = refl

  -- numbers given, and the old one
  fetched_alike : (function : AtomicFunction) (l : Label) (z : Pointer) (c d x y : Integer) (f g : Operand → Continuation) → IsTrue (is_pointer l)
      → IsTrue (covers l (pointer_label (is_free w.bytes z.object))) → AlikeNumbers (is_free w.bytes z.object) (bits_of Uint c.number) (bits_of Uint d.number)
      → AlikeNumbers (is_free w.bytes z.object) (bits_of Uint (amount function x).number) (bits_of Uint (amount function y).number)
      → ((r s : Operand) → Matches w (loaded l) r s → Alike (f r) (g s)) → Alike (fetch_number function z c x f) (fetch_number function z d y g)
  fetched_alike function l z c d x y f g i k e e' h =
      ((refl, refl, (fetches_alike function z.element _ _ _ e, e')), λ r s alike. h _ _ (loaded_matches l (is_free w.bytes z.object) r s z.element k i alike))

  pub fetch_alone_alike : (function : AtomicFunction) (l : Label) (p q : Operand) (f g : Operand → Continuation) → IsTrue (is_pointer l) → Matches w l p q
      → ((r s : Operand) → Matches w (loaded l) r s → Alike (f r) (g s)) → Alike (fetch_call function (p ∷ []) f) (fetch_call function (q ∷ []) g)
  fetch_alone_alike function l p q f g i a h =
      pointing_alike w l p q _ _ (one_pointer w l p q i a) (λ z c.
      fetched_alike function l z (wrapped z.element (pos 0)) (wrapped z.element (pos 0)) (wrapped z.element (pos 1)) (wrapped z.element (pos 1)) f g i c (numbers_alike _ _ _ refl) (numbers_alike _ _ _ refl) h)

  fetch_number_through : (function : AtomicFunction) (l k : Label) (p q v u : Operand) (f g : Operand → Continuation) → Puts l k → IsTrue (may_put l k) → Matches w l p q → Matches w k v u
      → ((r s : Operand) → Matches w (loaded l) r s → Alike (f r) (g s)) → Alike (fetch_call function (p ∷ v ∷ []) f) (fetch_call function (q ∷ u ∷ []) g)
  fetch_number_through function l k p q v u f g (puts i j) m a d h =
      pointing_alike w l p q _ _ (one_pointer w l p q i a) (λ z c.
      number_alike w k v u _ _ (two_numbers w k v u j d) (λ x y t same back.
      fetched_alike function l z (wrapped z.element (pos 0)) (wrapped z.element (pos 0)) (converted x z.element) (converted y z.element) f g i c (numbers_alike _ _ _ refl)
      (put_numbers l k (is_free w.bytes z.object) _ _ m c (λ is. ap (λ n. bits_of Uint (amount function (converted n z.element)).number) (same is))) h))

  pub fetch_number_alike : (function : AtomicFunction) (l k : Label) (p q v u : Operand) (f g : Operand → Continuation) → IsTrue (may_put l k) → Matches w l p q → Matches w k v u
      → ((r s : Operand) → Matches w (loaded l) r s → Alike (f r) (g s)) → Alike (fetch_call function (p ∷ v ∷ []) f) (fetch_call function (q ∷ u ∷ []) g)
  fetch_number_alike function l k p q v u f g m a d h = fetch_number_through function l k p q v u f g (may_put_labels l k p q v u m a d) m a d h

  fetch_pair_through : (function : AtomicFunction) (l j k : Label) (p q c d v u : Operand) (f g : Operand → Continuation) → Puts l j → Puts l k → IsTrue (may_put l j) → IsTrue (may_put l k)
      → Matches w l p q → Matches w j c d → Matches w k v u
      → ((r s : Operand) → Matches w (loaded l) r s → Alike (f r) (g s)) → Alike (fetch_call function (p ∷ c ∷ v ∷ []) f) (fetch_call function (q ∷ d ∷ u ∷ []) g)
  fetch_pair_through function l j k p q c d v u f g (puts i i1) (puts i' i2) m1 m2 a b e h =
      pointing_alike w l p q _ _ (one_pointer w l p q i a) (λ z covers_it.
      number_alike w j c d _ _ (two_numbers w j c d i1 b) (λ x y t same back.
      number_alike w k v u _ _ (two_numbers w k v u i2 e) (λ x' y' t' same' back'.
      fetched_alike function l z (converted x z.element) (converted y z.element) (converted x' z.element) (converted y' z.element) f g i covers_it
      (put_numbers l j (is_free w.bytes z.object) _ _ m1 covers_it (λ is. ap (λ n. bits_of Uint (converted n z.element).number) (same is)))
      (put_numbers l k (is_free w.bytes z.object) _ _ m2 covers_it (λ is. ap (λ n. bits_of Uint (amount function (converted n z.element)).number) (same' is))) h)))

  pub fetch_pair_alike : (function : AtomicFunction) (l j k : Label) (p q c d v u : Operand) (f g : Operand → Continuation) → IsTrue (may_put l j) → IsTrue (may_put l k)
      → Matches w l p q → Matches w j c d → Matches w k v u
      → ((r s : Operand) → Matches w (loaded l) r s → Alike (f r) (g s)) → Alike (fetch_call function (p ∷ c ∷ v ∷ []) f) (fetch_call function (q ∷ d ∷ u ∷ []) g)
  fetch_pair_alike function l j k p q c d v u f g m1 m2 a b e h =
      fetch_pair_through function l j k p q c d v u f g (may_put_labels l j p q c d m1 a b) (may_put_labels l k p q v u m2 a e) m1 m2 a b e h
