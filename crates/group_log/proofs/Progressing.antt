-- The entries of progressions with one entry more, and where another progression computes the newest ones.
use Rattle.std.proofs.Common.{◌≡◌, ℕ, zero, suc, ◌+◌, ◌-◌, ◌/◌, ◌%◌, ◌<◌, ◌≤◌, ◌⊎◌, ◌^◌, nat_lt, List, [], ◌∷◌, ◌++◌, length, get_or, take, drop, refl, sym, ap, ap₂, ◌∙◌, subst, inl, inr, arith, lt-ltb, le-ltb}
use Rattle.std.specs.Prelude.{All}
use Rattle.std.proofs.lemmas.Bool.{cases_lt}
use Rattle.std.proofs.lemmas.List.{append-nil, append_assoc, get_or_append_left, get_or-drop, get_or-take, get_or_push, take_more, take_all, length-take-le, length-drop, drop-drop, drop-append-le, length_push}
use Rattle.std.proofs.lemmas.List.Elements.{All-head, All-tail, All-push, All-weaker}
use Rattle.std.proofs.lemmas.Nat.{mod_below}
use Rattle.clmodel.proofs.Steps.{if_true, if_false}
use Rattle.access_list.specs.declared.log.Entry.{Entry}
use Rattle.group_log.specs.Progressions.{ahead, no_entry, no_step, entry_at, entries_to, entries_of, entries_all, IsIn, AreNext, AreProgressions, IsTail}
use Rattle.group_log.specs.declared.progression.Progression.{Progression}
use Rattle.group_log.specs.declared.stride.EntryStride.{EntryStride}

-- ---- one entry

-- an entry of the first round
pub first_round : (heads : List Entry) (steps : List EntryStride) (head period step k : ℕ) → k < period → entry_at heads steps head period step k ≡ get_or heads (head + k) no_entry
unfolding entry_at
first_round heads steps head period step k b =
    if_true (nat_lt k period) (get_or heads (head + k) no_entry) (ahead (get_or steps (step + k % period) no_step) (get_or heads (head + k % period) no_entry) (k / period)) (lt-ltb k period b)

-- an entry of a later one
pub later_round : (heads : List Entry) (steps : List EntryStride) (head period step k : ℕ) → period ≤ k
    → entry_at heads steps head period step k ≡ ahead (get_or steps (step + k % period) no_step) (get_or heads (head + k % period) no_entry) (k / period)
unfolding entry_at
later_round heads steps head period step k b =
    if_false (nat_lt k period) (get_or heads (head + k) no_entry) (ahead (get_or steps (step + k % period) no_step) (get_or heads (head + k % period) no_entry) (k / period)) (le-ltb k period b)

-- what stands below a place is the same
abbrev pub SameBelow : {A : Type 0} → A → ℕ → List A → List A → Type 0
SameBelow d n xs ys = (p : ℕ) → p < n → get_or ys p d ≡ get_or xs p d

entry_same :
    (heads other : List Entry) (steps more : List EntryStride) (head period step k : ℕ) → SameBelow no_entry (head + period) heads other → (period ≤ k → (0 < period) × SameBelow no_step (step + period) steps more)
    → entry_at other more head period step k ≡ entry_at heads steps head period step k
entry_same heads other steps more head period step k h s = go (cases_lt k period)
  where
    go : (k < period) ⊎ (period ≤ k) → entry_at other more head period step k ≡ entry_at heads steps head period step k
    go (inl b) = first_round other more head period step k b ∙ h (head + k) (omega (arith, b)) ∙ sym (first_round heads steps head period step k b)
    go (inr b) =
        let t = s b in
        let place : k % period < period = mod_below k period t.0 in
        later_round other more head period step k b
        ∙ ap₂ (λ x y. ahead x y (k / period)) (t.1 (step + k % period) (omega (arith, place))) (h (head + k % period) (omega (arith, place)))
        ∙ sym (later_round heads steps head period step k b)

-- ---- a progression

pub to_same :
    (heads other : List Entry) (steps more : List EntryStride) (head period step n : ℕ) → SameBelow no_entry (head + period) heads other → (period < n → (0 < period) × SameBelow no_step (step + period) steps more)
    → entries_to other more head period step n ≡ entries_to heads steps head period step n
to_same heads other steps more head period step zero h s = refl
to_same heads other steps more head period step (suc n) h s =
    ap₂ (λ l e. l ++ e ∷ []) (to_same heads other steps more head period step n h (λ b. s (omega (arith, b))))
    (entry_same heads other steps more head period step n h (λ b. s (omega (arith, b))))

pub length_to : (heads : List Entry) (steps : List EntryStride) (head period step n : ℕ) → length (entries_to heads steps head period step n) ≡ n
length_to heads steps head period step zero = refl
length_to heads steps head period step (suc n) =
    length_push (entries_to heads steps head period step n) (entry_at heads steps head period step n) ∙ omega (arith, length_to heads steps head period step n)

pub get_to : (heads : List Entry) (steps : List EntryStride) (head period step n k : ℕ) (d : Entry) → k < n → get_or (entries_to heads steps head period step n) k d ≡ entry_at heads steps head period step k
get_to heads steps head period step zero k d b = absurd (omega (arith, b))
get_to heads steps head period step (suc n) k d b = go (λ l. get_to heads steps head period step n k d l) (cases_lt k n)
  where
    before : List Entry
    before = entries_to heads steps head period step n

    many : length before ≡ n
    many = length_to heads steps head period step n

    go : (k < n → get_or (entries_to heads steps head period step n) k d ≡ entry_at heads steps head period step k) → (k < n) ⊎ (n ≤ k)
        → get_or (before ++ entry_at heads steps head period step n ∷ []) k d ≡ entry_at heads steps head period step k
    go rest (inl l) = get_or_append_left before (entry_at heads steps head period step n ∷ []) d k (omega (arith, l, many)) ∙ rest l
    go rest (inr m) =
        let e : n ≡ k = omega (arith, m, b) in
        subst (λ j. get_or (before ++ entry_at heads steps head period step n ∷ []) j d ≡ entry_at heads steps head period step j) e
        (get_or_push before (entry_at heads steps head period step n) d n many)

-- entries that stand one after another
pub stand : (heads : List Entry) (steps : List EntryStride) (head period step n : ℕ)
    → ((k : ℕ) → k < n → entry_at heads steps head period step k ≡ get_or heads (head + k) no_entry) → head + n ≤ length heads
    → entries_to heads steps head period step n ≡ take n (drop head heads)
stand heads steps head period step zero h b = refl
stand heads steps head period step (suc n) h b =
    let rest : n < length (drop head heads) = omega (arith, length-drop head heads, b) in
    ap₂ (λ l e. l ++ e ∷ []) (stand heads steps head period step n (λ k l. h k (omega (arith, l))) (omega (arith, b)))
    (h n (omega arith) ∙ sym (get_or-drop head heads n no_entry))
    ∙ sym (take_more (drop head heads) n no_entry rest)
    ∙ ap (λ m. take m (drop head heads)) {x = n + 1} {y = suc n} (omega arith)

pub plain_stand : (heads : List Entry) (steps : List EntryStride) (head period step n : ℕ) → n ≤ period → head + n ≤ length heads → entries_to heads steps head period step n ≡ take n (drop head heads)
plain_stand heads steps head period step n p b =
    stand heads steps head period step n (λ k l. first_round heads steps head period step k (omega (arith, l, p))) b

-- ---- progressions

pub all_push : (heads : List Entry) (steps : List EntryStride) (progressions : List Progression) (l : Progression) → entries_all heads steps (progressions ++ l ∷ []) ≡ entries_all heads steps progressions ++ entries_of heads steps l
all_push heads steps [] l = append-nil (entries_of heads steps l)
all_push heads steps (m ∷ progressions) l =
    ap (λ z. entries_of heads steps m ++ z) (all_push heads steps progressions l) ∙ sym (append_assoc (entries_of heads steps m) (entries_all heads steps progressions) (entries_of heads steps l))

of_same : (heads other : List Entry) (steps more : List EntryStride) (n m : ℕ) (l : Progression) → SameBelow no_entry n heads other → SameBelow no_step m steps more → IsIn n m l
    → entries_of other more l ≡ entries_of heads steps l
of_same heads other steps more n m l h s i =
    to_same heads other steps more l.head l.period l.step l.count (λ p b. h p (omega (arith, b, i.head)))
    (λ b. let t = i.step b in (t.0, λ p c. s p (omega (arith, c, t.1))))

pub all_same : (heads other : List Entry) (steps more : List EntryStride) (n m : ℕ) (progressions : List Progression) → SameBelow no_entry n heads other → SameBelow no_step m steps more → All (IsIn n m) progressions
    → entries_all other more progressions ≡ entries_all heads steps progressions
all_same heads other steps more n m [] h s i = refl
all_same heads other steps more n m (l ∷ progressions) h s i =
    ap₂ (λ x y. x ++ y) (of_same heads other steps more n m l h s (All-head (IsIn n m) l progressions i)) (all_same heads other steps more n m progressions h s (All-tail (IsIn n m) l progressions i))

-- ---- where progressions begin

pub next_push : (at : ℕ) (progressions : List Progression) (end : ℕ) (l : Progression) (after : ℕ) → AreNext at progressions end → l.start ≡ end → end + l.count ≡ after → AreNext at (progressions ++ l ∷ []) after
next_push at [] end l after h s e = (s ∙ sym h, omega (arith, h, e))
next_push at (m ∷ progressions) end l after h s e = (h.0, next_push (at + m.count) progressions end l after h.1 s e)

pub wider : (n n2 m m2 : ℕ) (l : Progression) → n ≤ n2 → m ≤ m2 → IsIn n m l → IsIn n2 m2 l
wider n n2 m m2 l a b i = record { head = omega (arith, i.head, a); step = λ r. let t = i.step r in (t.0, omega (arith, t.1, b)) }

pub all_wider : (n n2 m m2 : ℕ) (progressions : List Progression) → n ≤ n2 → m ≤ m2 → All (IsIn n m) progressions → All (IsIn n2 m2) progressions
all_wider n n2 m m2 progressions a b h = All-weaker (IsIn n m) (IsIn n2 m2) (λ l. wider n n2 m m2 l a b) progressions h

-- ---- lists that agree

pub push_same : {A : Type 0} (d : A) (xs : List A) (y : A) (n : ℕ) → n ≤ length xs → SameBelow d n xs (xs ++ y ∷ [])
push_same d xs y n b p l = get_or_append_left xs (y ∷ []) d p (omega (arith, l, b))

pub take_same : {A : Type 0} (d : A) (xs : List A) (n m : ℕ) → n ≤ m → SameBelow d n xs (take m xs)
take_same d xs n m b p l = get_or-take m xs p d (omega (arith, l, b))

-- a list that begins with another
pub kept_same : {A : Type 0} (d : A) (xs ys : List A) → take (length xs) ys ≡ xs → SameBelow d (length xs) xs ys
kept_same d xs ys e p l = sym (get_or-take (length xs) ys p d l) ∙ ap (λ z. get_or z p d) e

pub all_below : {A : Type 0} (d : A) (xs : List A) (n : ℕ) → SameBelow d n xs xs
all_below d xs n p l = refl

-- ---- one entry more

-- a progression with its first round alone, and one entry more of it
pub plain_more :
    (heads : List Entry) (steps : List EntryStride) (closed : List Progression) (last : Progression) (e : Entry) → AreProgressions heads steps closed last → last.count ≤ last.period
    → entries_all (heads ++ e ∷ []) steps (closed ++ (record last { period = last.period + 1; count = last.count + 1 }) ∷ []) ≡ entries_all heads steps (closed ++ last ∷ []) ++ e ∷ []
plain_more heads steps closed last e l p =
    all_push (heads ++ e ∷ []) steps closed (record last { period = last.period + 1; count = last.count + 1 })
    ∙ ap₂ (λ x y. x ++ y) before (here ∙ ap (λ z. z ++ e ∷ []) (sym was))
    ∙ sym (append_assoc (entries_all heads steps closed) (entries_of heads steps last) (e ∷ []))
    ∙ ap (λ z. z ++ e ∷ []) (sym (all_push heads steps closed last))
  where
    many : (last.count ≡ last.period) × (last.head + last.period ≡ length heads)
    many = l.plain p

    before : entries_all (heads ++ e ∷ []) steps closed ≡ entries_all heads steps closed
    before =
        all_same heads (heads ++ e ∷ []) steps steps last.head (length steps) closed (push_same no_entry heads e last.head (omega (arith, many.1))) (all_below no_step steps (length steps)) l.closed_in

    was : entries_of heads steps last ≡ drop last.head heads
    was =
        plain_stand heads steps last.head last.period last.step last.count p (omega (arith, many.0, many.1))
        ∙ take_all last.count (drop last.head heads) (omega (arith, length-drop last.head heads, many.0, many.1))

    here : entries_to (heads ++ e ∷ []) steps last.head (last.period + 1) last.step (last.count + 1) ≡ drop last.head heads ++ e ∷ []
    here =
        plain_stand (heads ++ e ∷ []) steps last.head (last.period + 1) last.step (last.count + 1) (omega (arith, p)) (omega (arith, length_push heads e, many.0, many.1))
        ∙ ap (take (last.count + 1)) (drop-append-le last.head heads (e ∷ []) (omega (arith, many.1)))
        ∙ take_all (last.count + 1) (drop last.head heads ++ e ∷ []) (omega (arith, length_push (drop last.head heads) e, length-drop last.head heads, many.0, many.1))

pub plain_progressed :
    (heads : List Entry) (steps : List EntryStride) (closed : List Progression) (last : Progression) (e : Entry) → AreProgressions heads steps closed last → last.count ≤ last.period → last.start + last.count + 1 < 2 ^ 64
    → AreProgressions (heads ++ e ∷ []) steps closed (record last { period = last.period + 1; count = last.count + 1 })
plain_progressed heads steps closed last e l p b =
    let many : (last.count ≡ last.period) × (last.head + last.period ≡ length heads) = l.plain p in
    let longer : length (heads ++ e ∷ []) ≡ length heads + 1 = length_push heads e in
    record {
      closed_in = l.closed_in;
      last_in = record { head = omega (arith, many.1, longer); step = λ r. absurd (omega (arith, r, many.0)) };
      plain = λ _. (omega (arith, many.0), omega (arith, many.1, longer));
      next = l.next;
      short = omega (arith, b);
    }

-- a progression of several rounds that goes on
pub round_more :
    (heads : List Entry) (steps : List EntryStride) (closed : List Progression) (last : Progression) (e : Entry) → entry_at heads steps last.head last.period last.step last.count ≡ e
    → entries_all heads steps (closed ++ (record last { count = last.count + 1 }) ∷ []) ≡ entries_all heads steps (closed ++ last ∷ []) ++ e ∷ []
round_more heads steps closed last e h =
    all_push heads steps closed (record last { count = last.count + 1 })
    ∙ ap (λ z. entries_all heads steps closed ++ z)
    (ap (entries_to heads steps last.head last.period last.step) {x = last.count + 1} {y = suc last.count} (omega arith) ∙ ap (λ z. entries_of heads steps last ++ z ∷ []) h)
    ∙ sym (append_assoc (entries_all heads steps closed) (entries_of heads steps last) (e ∷ []))
    ∙ ap (λ z. z ++ e ∷ []) (sym (all_push heads steps closed last))

pub round_progressed :
    (heads : List Entry) (steps : List EntryStride) (closed : List Progression) (last : Progression) → AreProgressions heads steps closed last → last.period < last.count → last.start + last.count + 1 < 2 ^ 64
    → AreProgressions heads steps closed (record last { count = last.count + 1 })
round_progressed heads steps closed last l p b = record {
  closed_in = l.closed_in;
  last_in = record { head = l.last_in.head; step = λ _. l.last_in.step p };
  plain = λ r. absurd (omega (arith, r, p));
  next = l.next;
  short = omega (arith, b);
}

-- a last progression that is closed, and an empty one behind it
pub close_more :
    (heads : List Entry) (steps : List EntryStride) (closed : List Progression) (last empty : Progression) → empty.count ≡ 0
    → entries_all heads steps ((closed ++ last ∷ []) ++ empty ∷ []) ≡ entries_all heads steps (closed ++ last ∷ [])
close_more heads steps closed last empty n =
    all_push heads steps (closed ++ last ∷ []) empty
    ∙ ap (λ k. entries_all heads steps (closed ++ last ∷ []) ++ entries_to heads steps empty.head empty.period empty.step k) n
    ∙ append-nil (entries_all heads steps (closed ++ last ∷ []))

pub close_progressed :
    (heads : List Entry) (steps : List EntryStride) (closed : List Progression) (last empty : Progression) → AreProgressions heads steps closed last → empty.start ≡ last.start + last.count → empty.head ≡ length heads → empty.period ≡ 0
    → empty.count ≡ 0 → AreProgressions heads steps (closed ++ last ∷ []) empty
close_progressed heads steps closed last empty l s h p n = record {
  closed_in =
      subst (λ k. All (IsIn k (length steps)) (closed ++ last ∷ [])) (sym h)
      (All-push (IsIn (length heads) (length steps)) closed last
      (all_wider last.head (length heads) (length steps) (length steps) closed (omega (arith, l.last_in.head)) (omega arith) l.closed_in) l.last_in);
  last_in = record { head = omega (arith, h, p); step = λ r. absurd (omega (arith, r, n)) };
  plain = λ _. (omega (arith, n, p), omega (arith, h, p));
  next = next_push 0 closed last.start last empty.start l.next refl (sym s);
  short = omega (arith, s, n, l.short);
}

-- ---- a progression that becomes two

take_none : {A : Type 0} (m : ℕ) → take {A = A} m [] ≡ []
take_none zero = refl
take_none (suc m) = refl

take_two : {A : Type 0} (c m : ℕ) (xs : List A) → take (c + m) xs ≡ take c xs ++ take m (drop c xs)
take_two zero m xs = ap (λ k. take k xs) {x = 0 + m} {y = m} (omega arith)
take_two (suc c) m [] = take_none (suc c + m) ∙ sym (take_none m)
take_two (suc c) m (x ∷ xs) = ap (λ k. take k (x ∷ xs)) {x = suc c + m} {y = suc (c + m)} (omega arith) ∙ ap (λ z. x ∷ z) (take_two c m xs)

-- how many entries stand before the last ones, and the entries of first rounds that are left
abbrev pub rest_of : Progression → Progression → ℕ
rest_of last l = l.start - last.start

abbrev pub cut_of : List Entry → Progression → List Entry
cut_of heads l = take (l.head + l.period) heads

module _ (heads : List Entry) (steps more : List EntryStride) (closed : List Progression) (last l : Progression) (in_progressions : AreProgressions heads steps closed last) (plain : last.count ≤ last.period)
    (kept : take (length steps) more ≡ steps) (t : IsTail heads more (length steps) last l) where
  ends : (last.count ≡ last.period) × (last.head + last.period ≡ length heads)
  ends = in_progressions.plain plain

  before : (rest_of last l) + l.count ≡ last.count
  before = omega (arith, t.ends, t.later)

  behind : l.head ≡ last.head + (rest_of last l)
  behind = omega (arith, t.heads_end, before)

  cut_same : (n : ℕ) → n ≤ l.head + l.period → SameBelow no_entry n heads (cut_of heads l)
  cut_same n b = take_same no_entry heads n (l.head + l.period) b

  closed_same : entries_all (cut_of heads l) more closed ≡ entries_all heads steps closed
  closed_same = all_same heads (cut_of heads l) steps more last.head (length steps) closed (cut_same last.head (omega (arith, behind))) (kept_same no_step steps more kept) in_progressions.closed_in

  front_is : (front : Progression) → front.head ≡ last.head → front.period ≡ rest_of last l → front.count ≡ rest_of last l → entries_of (cut_of heads l) more front ≡ take (rest_of last l) (drop last.head heads)
  front_is front h p c =
      ap₂ (λ a b. entries_to (cut_of heads l) more a b front.step front.count) h p
      ∙ ap (entries_to (cut_of heads l) more last.head (rest_of last l) front.step) c
      ∙ to_same heads (cut_of heads l) more more last.head (rest_of last l) front.step (rest_of last l) (cut_same (last.head + (rest_of last l)) (omega (arith, behind))) (λ r. absurd (omega (arith, r)))
      ∙ plain_stand heads more last.head (rest_of last l) front.step (rest_of last l) (omega arith) (omega (arith, ends.0, ends.1, before))

  progression_is : entries_of (cut_of heads l) more l ≡ take l.count (drop l.head heads)
  progression_is =
      to_same heads (cut_of heads l) more more l.head l.period l.step l.count (cut_same (l.head + l.period) (omega arith)) (λ _. (t.some, all_below no_step more (l.step + l.period)))
      ∙ stand heads more l.head l.period l.step l.count at (omega (arith, t.heads_end, ends.0, ends.1))
    where
      at : (k : ℕ) → k < l.count → entry_at heads more l.head l.period l.step k ≡ get_or heads (l.head + k) no_entry
      at k b = go (cases_lt k l.period)
        where
          go : (k < l.period) ⊎ (l.period ≤ k) → entry_at heads more l.head l.period l.step k ≡ get_or heads (l.head + k) no_entry
          go (inl s) = first_round heads more l.head l.period l.step k s
          go (inr s) = t.told k s b

  open_is : entries_of heads steps last ≡ take (rest_of last l) (drop last.head heads) ++ take l.count (drop l.head heads)
  open_is =
      plain_stand heads steps last.head last.period last.step last.count plain (omega (arith, ends.0, ends.1))
      ∙ ap (λ k. take k (drop last.head heads)) (sym before)
      ∙ take_two (rest_of last l) l.count (drop last.head heads)
      ∙ ap (λ z. take (rest_of last l) (drop last.head heads) ++ take l.count z) (drop-drop (rest_of last l) last.head heads ∙ ap (λ k. drop k heads) (sym behind))

  pub two_same :
      (front : Progression) → front.head ≡ last.head → front.period ≡ rest_of last l → front.count ≡ rest_of last l
      → entries_all (cut_of heads l) more ((closed ++ front ∷ []) ++ l ∷ []) ≡ entries_all heads steps (closed ++ last ∷ [])
  two_same front h p c =
      all_push (cut_of heads l) more (closed ++ front ∷ []) l
      ∙ ap₂ (λ x y. x ++ y) (all_push (cut_of heads l) more closed front ∙ ap₂ (λ x y. x ++ y) closed_same (front_is front h p c)) progression_is
      ∙ append_assoc (entries_all heads steps closed) (take (rest_of last l) (drop last.head heads)) (take l.count (drop l.head heads))
      ∙ ap (λ z. entries_all heads steps closed ++ z) (sym open_is)
      ∙ sym (all_push heads steps closed last)

  pub one_same : (rest_of last l) ≡ 0 → entries_all (cut_of heads l) more (closed ++ l ∷ []) ≡ entries_all heads steps (closed ++ last ∷ [])
  one_same z =
      all_push (cut_of heads l) more closed l
      ∙ ap₂ (λ x y. x ++ y) closed_same (progression_is ∙ sym (ap (λ k. take k (drop last.head heads) ++ take l.count (drop l.head heads)) z))
      ∙ ap (λ z. entries_all heads steps closed ++ z) (sym open_is)
      ∙ sym (all_push heads steps closed last)

  cut_length : length (cut_of heads l) ≡ l.head + l.period
  cut_length = length-take-le (l.head + l.period) heads (omega (arith, t.heads_end, t.rounds, ends.0, ends.1))

  steps_longer : length steps ≤ length more
  steps_longer = omega (arith, t.steps_from, t.steps_to)

  progressed_with : (progressions : List Progression) → All (IsIn l.head (length more)) progressions → AreNext 0 progressions l.start → AreProgressions (cut_of heads l) more progressions l
  progressed_with progressions inside next = record {
    closed_in = inside;
    last_in = record { head = omega (arith, cut_length); step = λ _. (t.some, t.steps_to) };
    plain = λ r. absurd (omega (arith, r, t.rounds));
    next = next;
    short = omega (arith, t.ends, in_progressions.short);
  }

  closed_inside : All (IsIn l.head (length more)) closed
  closed_inside = all_wider last.head l.head (length steps) (length more) closed (omega (arith, behind)) steps_longer in_progressions.closed_in

  pub two_progressed : (front : Progression) → front.start ≡ last.start → front.head ≡ last.head → front.period ≡ rest_of last l → front.count ≡ rest_of last l → AreProgressions (cut_of heads l) more (closed ++ front ∷ []) l
  two_progressed front s h p c =
      progressed_with (closed ++ front ∷ [])
      (All-push (IsIn l.head (length more)) closed front closed_inside (record { head = omega (arith, h, p, behind); step = λ r. absurd (omega (arith, r, p, c)) }))
      (next_push 0 closed last.start front l.start in_progressions.next s (start_at c))
    where
      start_at : front.count ≡ (rest_of last l) → last.start + front.count ≡ l.start
      start_at e = omega (arith, e, t.later)

  pub one_progressed : l.start ≡ last.start → AreProgressions (cut_of heads l) more closed l
  one_progressed s = progressed_with closed closed_inside (subst (AreNext 0 closed) (sym s) in_progressions.next)

-- the entries where steps are added
pub kept_all : (heads : List Entry) (steps more : List EntryStride) (closed : List Progression) (last : Progression) → AreProgressions heads steps closed last → take (length steps) more ≡ steps
    → entries_all heads more (closed ++ last ∷ []) ≡ entries_all heads steps (closed ++ last ∷ [])
kept_all heads steps more closed last l kept =
    all_same heads heads steps more (length heads) (length steps) (closed ++ last ∷ []) (all_below no_entry heads (length heads)) (kept_same no_step steps more kept)
    (All-push (IsIn (length heads) (length steps)) closed last
    (all_wider last.head (length heads) (length steps) (length steps) closed (omega (arith, l.last_in.head)) (omega arith) l.closed_in) l.last_in)
