-- Changes of bytes, one after another.
use Rattle.std.proofs.Common.{◌≡◌, ℕ, zero, suc, ◌+◌, ◌-◌, ◌<◌, ◌≤◌, ◌⊎◌, ◌==◌, ◌&&◌, Bool, true, false, Option, None, Some, List, [], ◌∷◌, ◌++◌, length, set, refl, sym, ap, ◌∙◌, subst, inl, inr, arith, eq-eqb, length-set}
use Rattle.std.specs.Prelude.{if◌then◌else◌, slice_get}
use Rattle.std.specs.Option.{option_map}
use Rattle.std.proofs.lemmas.Bool.{and_parts, and_from, eqb-true, true≢false, cases_lt}
use Rattle.std.proofs.lemmas.Bool.Decides.{eqb_tells}
use Rattle.std.proofs.lemmas.Option.{slice_get-get_or, slice_get_past, slice_get_within}
use Rattle.clmodel.specs.Cells.{covers, byte_count, byte_of, written}
use Rattle.clmodel.specs.Launch.{same_region}
use Rattle.clmodel.specs.declared.access.Access.{Access}
use Rattle.clmodel.specs.declared.access.Region.{Region}
use Rattle.clmodel.specs.declared.access.Region.TheVariants as region
use Rattle.clmodel.proofs.Steps.{if_true, if_false, some_inj, none_some}
use Rattle.clmodel.proofs.CellLaws.{covers_parts, covers_from, written_in, written_out}
use Rattle.joining.specs.Memory.{writes, at_byte}
use Rattle.access_list.specs.declared.log.Entry.{Entry}
use Rattle.group_join.specs.Changes.{ByteChange, is_of, changed_byte, buffer_at, AreChanged, byte_changes, changes_at, access_changes, changes_of}

-- ---- lists of changes

pub changed_append : (xs ys : List ByteChange) (n b old : ℕ) → changed_byte (xs ++ ys) n b old ≡ changed_byte ys n b (changed_byte xs n b old)
changed_append [] ys n b old = refl
changed_append (x ∷ xs) ys n b old = changed_append xs ys n b (if is_of n b x then x.value else old)

pub changed_none : (contents : List (List ℕ)) → AreChanged contents contents []
changed_none contents = record { many = refl; sized = λ n. refl; bytes = λ n b. same (slice_get (buffer_at contents n) b) }
  where
    same : (o : Option ℕ) → o ≡ option_map (λ old. old) o
    same None = refl
    same (Some v) = refl

pub changed_more : (first mid last : List (List ℕ)) (xs ys : List ByteChange) → AreChanged first mid xs → AreChanged mid last ys → AreChanged first last (xs ++ ys)
changed_more first mid last xs ys h k =
    record {
      many = k.many ∙ h.many;
      sized = λ n. k.sized n ∙ h.sized n;
      bytes = λ n b. k.bytes n b ∙ ap (option_map (changed_byte ys n b)) (h.bytes n b) ∙ twice n b (slice_get (buffer_at first n) b);
    }
  where
    twice : (n b : ℕ) (o : Option ℕ) → option_map (changed_byte ys n b) (option_map (changed_byte xs n b) o) ≡ option_map (changed_byte (xs ++ ys) n b) o
    twice n b None = refl
    twice n b (Some v) = ap Some (sym (changed_append xs ys n b v))

-- ---- buffers with changes

row_set : (xs : List (List ℕ)) (n : ℕ) (r : List ℕ) → n < length xs → buffer_at (set xs n r) n ≡ r
row_set [] n r h = absurd (omega (arith, h))
row_set (x ∷ xs) zero r h = refl
row_set (x ∷ xs) (suc n) r h = row_set xs n r (omega (arith, h))

row_kept : (xs : List (List ℕ)) (n : ℕ) (r : List ℕ) (m : ℕ) → (m ≡ n → ⊥) → buffer_at (set xs n r) m ≡ buffer_at xs m
row_kept [] n r m ne = refl
row_kept (x ∷ xs) zero r zero ne = absurd (ne refl)
row_kept (x ∷ xs) zero r (suc m) ne = refl
row_kept (x ∷ xs) (suc n) r zero ne = refl
row_kept (x ∷ xs) (suc n) r (suc m) ne = row_kept xs n r m (λ e. ne (ap suc e))

is_here : (n b : ℕ) (c : ByteChange) → c.buffer ≡ n → c.byte ≡ b → is_of n b c ≡ true
is_here n b c e f = and_from (c.buffer == n) (c.byte == b) (eq-eqb c.buffer n e) (eq-eqb c.byte b f)

-- a change of another byte
is_there : (n b : ℕ) (c : ByteChange) → (c.buffer ≡ n → c.byte ≡ b → ⊥) → is_of n b c ≡ false
is_there n b c ne = go (is_of n b c) refl
  where
    go : (x : Bool) → is_of n b c ≡ x → is_of n b c ≡ false
    go false h = h
    go true h = let p = and_parts (c.buffer == n) (c.byte == b) h in absurd (ne (eqb-true c.buffer n p.0) (eqb-true c.byte b p.1))

pub row_past : (xs : List (List ℕ)) (n : ℕ) → length xs ≤ n → buffer_at xs n ≡ []
row_past [] n h = refl
row_past (x ∷ xs) zero h = absurd (omega (arith, h))
row_past (x ∷ xs) (suc n) h = row_past xs n (omega (arith, h))

-- ---- the changes of an access

-- a byte below a range, or one of another buffer
range_kept :
    (f : ℕ → ℕ) (m first count n b old : ℕ) → (m ≡ n → covers first count b ≡ true → ⊥)
    → changed_byte (byte_changes m first count f) n b old ≡ old
range_kept f m first zero n b old ne = refl
range_kept f m first (suc count) n b old ne =
    ap (changed_byte (byte_changes m (first + 1) count f) n b)
    (if_false (is_of n b (record { buffer = m; byte = first; value = f first })) (f first) old
    (is_there n b (record { buffer = m; byte = first; value = f first }) (λ e g. ne e (covers_from first (suc count) b (omega (arith, g)) (omega (arith, g))))))
    ∙ range_kept f m (first + 1) count n b old (λ e g. ne e (let p = covers_parts (first + 1) count b g in covers_from first (suc count) b (omega (arith, p.0)) (omega (arith, p.1))))

range_put :
    (f : ℕ → ℕ) (n first count b old : ℕ) → covers first count b ≡ true
    → changed_byte (byte_changes n first count f) n b old ≡ f b
range_put f n first zero b old h = let p = covers_parts first zero b h in absurd (omega (arith, p.0, p.1))
range_put f n first (suc count) b old h =
    go
    (λ a.
    let p = covers_parts first (suc count) b h in
    range_put f n (first + 1) count b (if is_of n b (record { buffer = n; byte = first; value = f first }) then f first else old)
    (covers_from (first + 1) count b (omega (arith, a)) (omega (arith, p.1)))) (eqb_tells first b)
  where
    c : ByteChange
    c = record { buffer = n; byte = first; value = f first }

    rest : List ByteChange
    rest = byte_changes n (first + 1) count f

    go : ((first < b → changed_byte (c ∷ rest) n b old ≡ f b)) → (((first == b) ≡ true) × (first ≡ b)) ⊎ (((first == b) ≡ false) × (first ≡ b → ⊥)) → changed_byte (c ∷ rest) n b old ≡ f b
    go further (inl e) =
        ap (changed_byte rest n b) (if_true (is_of n b c) (f first) old (is_here n b c refl e.1))
        ∙ range_kept f n (first + 1) count n b (f first) (λ _ g. let p = covers_parts (first + 1) count b g in absurd (omega (arith, p.0, e.1)))
        ∙ ap f e.1
    go further (inr e) = let p = covers_parts first (suc count) b h in further (omega (arith, p.0, e.1))

-- a byte that none of these is
missed : (f : ℕ → ℕ) (m first count n b : ℕ) → (m ≡ n → covers first count b ≡ true → ⊥) → (o : Option ℕ) → o ≡ option_map (changed_byte (byte_changes m first count f) n b) o
missed f m first count n b ne None = refl
missed f m first count n b ne (Some v) = ap Some (sym (range_kept f m first count n b v ne))

-- the low bytes of a number are put in place of those that a buffer has
pub changed_written :
    (old : List (List ℕ)) (n first count value : ℕ) (row : List ℕ) → n < length old → length row ≡ length (buffer_at old n)
    → ((b : ℕ) → b < length (buffer_at old n) → slice_get row b ≡ written (slice_get (buffer_at old n)) first count value b)
    → AreChanged old (set old n row) (byte_changes n first count (λ byte. byte_of (byte - first) value))
changed_written old n first count value row there long is =
    record { many = length-set old n row; sized = λ m. sized m (eqb_tells m n); bytes = λ m b. bytes m b (eqb_tells m n) }
  where
    f : ℕ → ℕ
    f = λ byte. byte_of (byte - first) value

    sized : (m : ℕ) → (((m == n) ≡ true) × (m ≡ n)) ⊎ (((m == n) ≡ false) × (m ≡ n → ⊥)) → length (buffer_at (set old n row) m) ≡ length (buffer_at old m)
    sized m (inl h) = subst (λ i. length (buffer_at (set old n row) i) ≡ length (buffer_at old i)) (sym h.1) (ap length (row_set old n row there) ∙ long)
    sized m (inr h) = ap length (row_kept old n row m h.1)

    -- a byte that is put, one that isn't, and one behind the end
    put : (b v : ℕ) → slice_get (buffer_at old n) b ≡ Some v → (c : Bool) → covers first count b ≡ c → slice_get row b ≡ Some (changed_byte (byte_changes n first count f) n b v)
    put b v e true c =
        is b (slice_get_within (buffer_at old n) b v e)
        ∙ written_in (slice_get (buffer_at old n)) first count value b c
        ∙ ap Some (sym (range_put f n first count b v c))
    put b v e false c =
        is b (slice_get_within (buffer_at old n) b v e)
        ∙ written_out (slice_get (buffer_at old n)) first count value b c
        ∙ e
        ∙ ap Some (sym (range_kept f n first count n b v (λ _ d. true≢false (sym d ∙ c))))

    here : (b : ℕ) (o : Option ℕ) → slice_get (buffer_at old n) b ≡ o → slice_get row b ≡ option_map (changed_byte (byte_changes n first count f) n b) o
    here b (Some v) e = put b v e (covers first count b) refl
    here b None e = slice_get_past row b (out (cases_lt b (length (buffer_at old n))))
      where
        out : (b < length (buffer_at old n)) ⊎ (length (buffer_at old n) ≤ b) → length row ≤ b
        out (inl l) = absurd (none_some _ (sym e ∙ slice_get-get_or (buffer_at old n) b 0 l))
        out (inr l) = omega (arith, l, long)

    bytes :
        (m b : ℕ) → (((m == n) ≡ true) × (m ≡ n)) ⊎ (((m == n) ≡ false) × (m ≡ n → ⊥))
        → slice_get (buffer_at (set old n row) m) b ≡ option_map (changed_byte (byte_changes n first count f) m b) (slice_get (buffer_at old m) b)
    bytes m b (inl h) =
        subst (λ i. slice_get (buffer_at (set old n row) i) b ≡ option_map (changed_byte (byte_changes n first count f) i b) (slice_get (buffer_at old i) b)) (sym h.1)
        (ap (λ r. slice_get r b) (row_set old n row there) ∙ here b (slice_get (buffer_at old n) b) refl)
    bytes m b (inr h) =
        ap (λ r. slice_get r b) (row_kept old n row m h.1) ∙ missed f n first count m b (λ e _. h.1 (sym e)) (slice_get (buffer_at old m) b)

-- a change of what isn't there
pub changed_nothing : (old : List (List ℕ)) (n first count : ℕ) (f : ℕ → ℕ) → length (buffer_at old n) ≤ first → AreChanged old old (byte_changes n first count f)
changed_nothing old n first count f out =
    record { many = refl; sized = λ m. refl; bytes = λ m b. same m b (slice_get (buffer_at old m) b) refl }
  where
    same : (m b : ℕ) (o : Option ℕ) → slice_get (buffer_at old m) b ≡ o → o ≡ option_map (changed_byte (byte_changes n first count f) m b) o
    same m b None e = refl
    same m b (Some v) e =
        missed f n first count m b (λ p c.
        let q = covers_parts first count b c in
        let w : b < length (buffer_at old m) = slice_get_within (buffer_at old m) b v e in
        let s : length (buffer_at old m) ≤ first = subst (λ i. length (buffer_at old i) ≤ first) p out in absurd (omega (arith, q.0, w, s))) (Some v)

-- an access that writes a byte of a buffer
abbrev pub wrote_by : ℕ → ℕ → Access → Bool
wrote_by n b x = writes x.kind && at_byte (region.Buffer n) b x

at_put : (value : ℕ → Access → ℕ → ℕ) (x : Access) (n b old : ℕ) (at : Region) → same_region (region.Buffer n) at ≡ true → covers x.first (byte_count x.width) b ≡ true
    → changed_byte (changes_at value x at) n b old ≡ value n x b
at_put value x n b old (region.Buffer m) h k =
    let e : n ≡ m = eqb-true n m h in
    ap (λ j. changed_byte (changes_at value x (region.Buffer j)) n b old) (sym e) ∙ range_put (value n x) n x.first (byte_count x.width) b old k
at_put value x n b old (region.Local g m) h k = absurd (true≢false (sym h))

at_kept : (value : ℕ → Access → ℕ → ℕ) (x : Access) (n b old : ℕ) (at : Region) → (same_region (region.Buffer n) at ≡ true → covers x.first (byte_count x.width) b ≡ true → ⊥)
    → changed_byte (changes_at value x at) n b old ≡ old
at_kept value x n b old (region.Buffer m) ne = range_kept (value m x) m x.first (byte_count x.width) n b old (λ e k. ne (eq-eqb n m (sym e)) k)
at_kept value x n b old (region.Local g m) ne = refl

access_put : (value : ℕ → Access → ℕ → ℕ) (x : Access) (n b old : ℕ) → wrote_by n b x ≡ true → changed_byte (access_changes value x) n b old ≡ value n x b
access_put value x n b old h =
    let p = and_parts (writes x.kind) (at_byte (region.Buffer n) b x) h in
    let q = and_parts (same_region (region.Buffer n) x.region) (covers x.first (byte_count x.width) b) p.1 in
    ap (λ cs. changed_byte cs n b old) (if_true (writes x.kind) (changes_at value x x.region) [] p.0) ∙ at_put value x n b old x.region q.0 q.1

access_kept : (value : ℕ → Access → ℕ → ℕ) (x : Access) (n b old : ℕ) → wrote_by n b x ≡ false → changed_byte (access_changes value x) n b old ≡ old
access_kept value x n b old h = go (writes x.kind) refl
  where
    go : (w : Bool) → writes x.kind ≡ w → changed_byte (access_changes value x) n b old ≡ old
    go false e = ap (λ cs. changed_byte cs n b old) (if_false (writes x.kind) (changes_at value x x.region) [] e)
    go true e =
        ap (λ cs. changed_byte cs n b old) (if_true (writes x.kind) (changes_at value x x.region) [] e)
        ∙ at_kept value x n b old x.region
        (λ s k. true≢false (sym (and_from (writes x.kind) (at_byte (region.Buffer n) b x) e (and_from (same_region (region.Buffer n) x.region) (covers x.first (byte_count x.width) b) s k)) ∙ h))

-- ---- the changes of a log

first_put :
    (value : ℕ → Access → ℕ → ℕ) (x : Entry) (entries : List Entry) (n b old v : ℕ) → (wrote_by n b x.access ≡ true → value n x.access b ≡ v)
    → ((k : ℕ) × (e : Entry) × (slice_get (x ∷ entries) k ≡ Some e) × (wrote_by n b e.access ≡ true)) ⊎ (old ≡ v) → (w : Bool) → wrote_by n b x.access ≡ w
    → ((k : ℕ) × (e : Entry) × (slice_get entries k ≡ Some e) × (wrote_by n b e.access ≡ true)) ⊎ (changed_byte (access_changes value x.access) n b old ≡ v)
first_put value x entries n b old v each some true h = inr (access_put value x.access n b old h ∙ each h)
first_put value x entries n b old v each (inr s) false h = inr (access_kept value x.access n b old h ∙ s)
first_put value x entries n b old v each (inl (zero, e, p, q)) false h = absurd (true≢false (sym q ∙ ap (λ (y : Entry). wrote_by n b y.access) (sym (some_inj x e p)) ∙ h))
first_put value x entries n b old v each (inl (suc k, e, p, q)) false h = inl (k, e, p, q)

-- a byte that entries write, each to this value
pub entries_put :
    (value : ℕ → Access → ℕ → ℕ) (entries : List Entry) (n b old v : ℕ)
    → ((k : ℕ) (e : Entry) → slice_get entries k ≡ Some e → wrote_by n b e.access ≡ true → value n e.access b ≡ v)
    → ((k : ℕ) × (e : Entry) × (slice_get entries k ≡ Some e) × (wrote_by n b e.access ≡ true)) ⊎ (old ≡ v) → changed_byte (changes_of value entries) n b old ≡ v
entries_put value [] n b old v each (inl h) = absurd (none_some h.1 h.2)
entries_put value [] n b old v each (inr h) = h
entries_put value (x ∷ entries) n b old v each some =
    changed_append (access_changes value x.access) (changes_of value entries) n b old
    ∙ entries_put value entries n b (changed_byte (access_changes value x.access) n b old) v (λ k e h. each (suc k) e h)
    (first_put value x entries n b old v (each zero x refl) some (wrote_by n b x.access) refl)

-- a byte that no entry writes
pub entries_kept :
    (value : ℕ → Access → ℕ → ℕ) (entries : List Entry) (n b old : ℕ) → ((k : ℕ) (e : Entry) → slice_get entries k ≡ Some e → wrote_by n b e.access ≡ false)
    → changed_byte (changes_of value entries) n b old ≡ old
entries_kept value [] n b old none = refl
entries_kept value (x ∷ entries) n b old none =
    changed_append (access_changes value x.access) (changes_of value entries) n b old
    ∙ ap (changed_byte (changes_of value entries) n b) (access_kept value x.access n b old (none zero x refl))
    ∙ entries_kept value entries n b old (λ k e h. none (suc k) e h)
