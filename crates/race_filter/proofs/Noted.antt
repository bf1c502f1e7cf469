-- Words and bytes with one access more.
use Rattle.std.proofs.Common.{◌≡◌, ℕ, ◌+◌, ◌/◌, ◌%◌, ◌<◌, ◌≤◌, Bool, true, false, ◌==◌, ◌&&◌, ◌||◌, nat_lt, if◌then◌else◌, ◌⊎◌, inl, inr, Option, None, Some, List, ◌∷◌, refl, sym, ap, ◌∙◌, subst, arith, ltb-true}
use Rattle.std.specs.HashMap.{get}
use Rattle.std.specs.Option.{IsSomeAnd}
use Rattle.std.proofs.lemmas.Bool.{and_parts, eq-eqb, eqb-true, false≢true, le-leb, ltb-false, or_cases}
use Rattle.clmodel.specs.Cells.{byte_count, covers}
use Rattle.clmodel.specs.Launch.{Launch, group_of, share}
use Rattle.clmodel.specs.Law.{Logged}
use Rattle.clmodel.specs.declared.access.Access.{Access}
use Rattle.clmodel.specs.declared.access.Width.{Width}
use Rattle.clmodel.specs.declared.access.Width.TheVariants as width
use Rattle.clmodel.proofs.Steps.{decided, none_some, some_inj}
use Rattle.ordered_runs.specs.Ordered.{newest_race, race}
use Rattle.race_filter.specs.Sorts.{IsKept, IsOf, IsStoreOf, are_of_bytes, is_atomic, is_let, is_load, is_of_byte, is_store, is_store_of, kept_of, kept_with, next_kept, sort_of, sort_with}
use Rattle.race_filter.specs.Filters.{AreKept, IsNotedAt, IsPassed, Tells}
use Rattle.race_filter.specs.Words.{byte_in, first_word, is_on_two_words, last_word, same_part, word_in}
use Rattle.race_filter.specs.declared.filter.Noted.{Noted}
use Rattle.race_filter.specs.declared.filter.RaceFilter.{RaceFilter}
use Rattle.race_filter.specs.declared.kept.Kept.{Kept}
use Rattle.race_filter.specs.declared.kept.Written.{Written}
use Rattle.race_filter.specs.declared.part.Part.{Part}
use Rattle.race_filter.specs.declared.sort.Sort.{Sort}
use Rattle.race_filter.proofs.Quiet.{IsCalm, a_store, apart_calm, calm_newest, kept_calm, store_of}
use Rattle.race_filter.proofs.Touching.{at_ends, one_part, one_region, only_byte, shared}

-- ---- sorts

own_sort : (x : Access) → IsOf (sort_of x) x
own_sort x = record { one = λ h. refl; loads = λ h. h; atomic = λ h. h }

still_of : (s : Sort) (x y : Access) → IsOf s y → IsOf (sort_with s x) y
still_of s x y is = record {
  one = λ h. is.one (and_parts s.is_one (s.item == x.item) h).0;
  loads = λ h. is.loads (and_parts s.are_loads (is_load x.kind) h).0;
  atomic = λ h. is.atomic (and_parts s.are_atomic (is_atomic x.kind) h).0;
}

newest_of : (s : Sort) (x : Access) → IsOf (sort_with s x) x
newest_of s x = record {
  one = λ h. sym (eqb-true s.item x.item (and_parts s.is_one (s.item == x.item) h).1);
  loads = λ h. (and_parts s.are_loads (is_load x.kind) h).1;
  atomic = λ h. (and_parts s.are_atomic (is_atomic x.kind) h).1;
}

-- ---- what is kept

own_kept : (l : Launch) (group : ℕ) (x : Access) → group_of l x.item ≡ group → IsKept l (kept_of group x) x
own_kept l group x own = record {
  all = own_sort x;
  group = λ h. own;
  before = arith_le x.interval;
  newest = λ h. own_sort x;
  written = λ w. writes w (is_store x.kind) refl;
  bytes = λ h. h;
}
  where
    writes : (w : Written) (b : Bool) → is_store x.kind ≡ b → (if b then Some (record { first = x.first; value = x.value }) else None) ≡ Some w → IsStoreOf w x
    writes w true e h =
        let same : w ≡ record { first = x.first; value = x.value } = sym (some_inj (record { first = x.first; value = x.value }) w h) in
        subst (λ (v : Written). IsStoreOf v x) (sym same) (record { stores = a_store x.kind e; first = refl; value = refl })
    writes w false e h = absurd (none_some w h)

    arith_le : (n : ℕ) → n ≤ n
    arith_le n = omega (arith)

still_kept : (l : Launch) (group : ℕ) (k : Kept) (x y : Access) → IsKept l k y → IsKept l (kept_with group k x) y
still_kept l group k x y is = record {
  all = still_of k.all x y is.all;
  group = λ h. is.group (and_parts k.is_one_group (k.group == group) h).0;
  before = upto (nat_lt k.interval x.interval) refl;
  newest = beside (nat_lt k.interval x.interval) refl (k.interval == x.interval) refl;
  written = λ w. writes w (is_store_of k.written x);
  bytes = λ h. is.bytes (and_parts k.are_of_bytes (is_of_byte x.width) h).0;
}
  where
    writes : (w : Written) (b : Bool) → (if b then k.written else None) ≡ Some w → IsStoreOf w y
    writes w true h = is.written w h
    writes w false h = absurd (none_some w h)

    upto : (b : Bool) → nat_lt k.interval x.interval ≡ b → y.interval ≤ (if b then x.interval else k.interval)
    upto true e =
        let lower : k.interval < x.interval = ltb-true k.interval x.interval e in
        let is_before : y.interval ≤ k.interval = is.before in
        omega (arith, lower, is_before)
    upto false e = is.before

    beside :
        (b : Bool) → nat_lt k.interval x.interval ≡ b → (c : Bool) → (k.interval == x.interval) ≡ c → y.interval ≡ (if b then x.interval else k.interval)
        → IsOf (if b then sort_of x else (if c then sort_with k.newest x else k.newest)) y
    beside true e c d at =
        let lower : k.interval < x.interval = ltb-true k.interval x.interval e in
        let is_before : y.interval ≤ k.interval = is.before in
        absurd (omega (arith, lower, is_before, at))
    beside false e true d at = still_of k.newest x y (is.newest at)
    beside false e false d at = is.newest at

newest_kept : (l : Launch) (group : ℕ) (k : Kept) (x : Access) → group_of l x.item ≡ group → IsKept l (kept_with group k x) x
newest_kept l group k x own = record {
  all = newest_of k.all x;
  group = λ h. own ∙ sym (eqb-true k.group group (and_parts k.is_one_group (k.group == group) h).1);
  before = upto (nat_lt k.interval x.interval) refl;
  newest = beside (nat_lt k.interval x.interval) refl (k.interval == x.interval) refl;
  written = λ w. writes w (is_store_of k.written x) refl;
  bytes = λ h. (and_parts k.are_of_bytes (is_of_byte x.width) h).1;
}
  where
    writes : (w : Written) (b : Bool) → is_store_of k.written x ≡ b → (if b then k.written else None) ≡ Some w → IsStoreOf w x
    writes w true e h = store_of w x (sym (ap (λ (o : Option Written). is_store_of o x) h) ∙ e)
    writes w false e h = absurd (none_some w h)

    upto : (b : Bool) → nat_lt k.interval x.interval ≡ b → x.interval ≤ (if b then x.interval else k.interval)
    upto true e = omega (arith)
    upto false e = ltb-false k.interval x.interval e

    beside :
        (b : Bool) → nat_lt k.interval x.interval ≡ b → (c : Bool) → (k.interval == x.interval) ≡ c → x.interval ≡ (if b then x.interval else k.interval)
        → IsOf (if b then sort_of x else (if c then sort_with k.newest x else k.newest)) x
    beside true e c d at = own_sort x
    beside false e true d at = newest_of k.newest x
    beside false e false d at = absurd (false≢true (sym d ∙ eq-eqb k.interval x.interval (sym at)))

-- what was kept tells of the same accesses with one more, and of that one
pub kept_of_all : (l : Launch) (group : ℕ) (found : Option Kept) (x y : Access) → IsSomeAnd found (λ k. IsKept l k y) → IsKept l (next_kept group found x) y
kept_of_all l group None x y h = absurd h
kept_of_all l group (Some k) x y h = still_kept l group k x y h

pub kept_of_newest : (l : Launch) (group : ℕ) (found : Option Kept) (x : Access) → group_of l x.item ≡ group → IsKept l (next_kept group found x) x
kept_of_newest l group None x own = own_kept l group x own
kept_of_newest l group (Some k) x own = newest_kept l group k x own

-- ---- parts

module _ (l : Launch) (group : ℕ) (uniform : Bool) (x : Access) (alike : l.uniform ≡ uniform) (own : group_of l x.item ≡ group) where
  abbrev pub NotedAt : Part → RaceFilter → RaceFilter → Noted → Type 0
  NotedAt part old new noted = IsNotedAt part group uniform x old new noted

  -- what is kept at a part tells of an access as before when one is noted at some part
  pub stays : (old new : RaceFilter) (part : Part) (noted : Noted) (q : Part) (y : Access) → NotedAt part old new noted → Tells l old q y → Tells l new q y
  stays old new part noted q y n h =
      decided (same_part part q)
      (λ t.
      let same : part ≡ q = one_part part q t in
      subst (λ (o : Option Kept). IsSomeAnd o (λ k. IsKept l k y)) (sym n.put ∙ ap (get same_part new.parts) same)
      (kept_of_all l group (get same_part old.parts part) x y (subst (λ (w : Part). Tells l old w y) (sym same) h)))
      (λ f. subst (λ (o : Option Kept). IsSomeAnd o (λ k. IsKept l k y)) (sym (n.others q f)) h)

  -- so it is for all of a log, and for the newest access where it was noted
  pub all_stay : (old new : RaceFilter) (part : Part) (noted : Noted) (log : List Access) → NotedAt part old new noted → AreKept l old log → AreKept l new log
  all_stay old new part noted log n kept y w byte c =
      let k = kept y w byte c in
      (stays old new part noted (word_in y.region (byte / 4)) y n k.0, λ one. stays old new part noted (byte_in y.region byte) y n (k.1 one))

  pub newest_at : (old new : RaceFilter) (part : Part) (noted : Noted) → NotedAt part old new noted → Tells l new part x
  newest_at old new part noted n = subst (λ (o : Option Kept). IsSomeAnd o (λ k. IsKept l k x)) (sym n.put) (kept_of_newest l group (get same_part old.parts part) x own)

  -- one that is let by what is kept at a part races with none of which that tells
  pub let_calm : (old new : RaceFilter) (part : Part) (noted : Noted) (y : Access) (byte : ℕ) → NotedAt part old new noted → noted.quiet ≡ true → Tells l old part y → race l y x byte ≡ None
  let_calm old new part noted y byte n is tells = go (get same_part old.parts part) (sym n.quiet ∙ is) tells
    where
      go : (o : Option Kept) → is_let group uniform o x ≡ true → IsSomeAnd o (λ k. IsKept l k y) → race l y x byte ≡ None
      go None lets of = absurd of
      go (Some k) lets of = kept_calm l group uniform k y x byte alike own of lets

  -- at a word: with none on the bytes there
  pub calm_at :
      (old new : RaceFilter) (number : ℕ) (noted : Noted) (log : List Access) → NotedAt (word_in x.region number) old new noted → AreKept l old log → noted.quiet ≡ true
      → (y : Access) (byte : ℕ) → Logged log y → byte / 4 ≡ number → share y x byte ≡ true → race l y x byte ≡ None
  calm_at old new number noted log n kept is y byte w there t =
      let s = shared y x byte t in
      let same : word_in y.region (byte / 4) ≡ word_in x.region number = one_region y.region x.region false (byte / 4) s.0 ∙ ap (word_in x.region) there in
      let_calm old new (word_in x.region number) noted y byte n is (subst (λ (q : Part). Tells l old q y) same (kept y w byte s.1).0)

  -- at a byte, where all at its word touch one byte: with none on it
  pub byte_calm :
      (old mid new : RaceFilter) (word byte_noted : Noted) (log : List Access) → is_of_byte x.width ≡ true → NotedAt (word_in x.region (first_word x)) old mid word
      → NotedAt (byte_in x.region x.first) mid new byte_noted → AreKept l old log → word.of_bytes ≡ true → byte_noted.quiet ≡ true
      → (y : Access) (byte : ℕ) → Logged log y → share y x byte ≡ true → race l y x byte ≡ None
  byte_calm old mid new word byte_noted log one n m kept bytes is y byte w t =
      let s = shared y x byte t in
      let at : byte ≡ x.first = only_byte x byte one s.2 in
      let k = kept y w byte s.1 in
      let same_word : word_in y.region (byte / 4) ≡ word_in x.region (first_word x) = one_region y.region x.region false (byte / 4) s.0 ∙ ap (λ (b : ℕ). word_in x.region (b / 4)) at in
      let is_one : is_of_byte y.width ≡ true = all_bytes (get same_part old.parts (word_in x.region (first_word x))) (sym n.bytes ∙ bytes) (subst (λ (q : Part). Tells l old q y) same_word k.0) in
      let same_byte : byte_in y.region byte ≡ byte_in x.region x.first = one_region y.region x.region true byte s.0 ∙ ap (byte_in x.region) at in
      let_calm mid new (byte_in x.region x.first) byte_noted y byte m is
      (subst (λ (q : Part). Tells l mid q y) same_byte (stays old mid (word_in x.region (first_word x)) word (byte_in y.region byte) y n (k.1 is_one)))
    where
      all_bytes : (o : Option Kept) → are_of_bytes o ≡ true → IsSomeAnd o (λ k. IsKept l k y) → is_of_byte y.width ≡ true
      all_bytes None h of = absurd of
      all_bytes (Some k) h of = of.bytes h

-- ---- an access that touches one word or two

-- it was noted at the words of all its bytes, and at its byte where it has one
pub both_kept :
    (l : Launch) (filter : RaceFilter) (x : Access) (log : List Access) → is_on_two_words x ≡ true → Tells l filter (word_in x.region (first_word x)) x
    → Tells l filter (word_in x.region (last_word x)) x → (is_of_byte x.width ≡ true → Tells l filter (byte_in x.region x.first) x) → AreKept l filter log → AreKept l filter (x ∷ log)
both_kept l filter x log own at_first at_last at_byte kept y (inr w) byte c = kept y w byte c
both_kept l filter x log own at_first at_last at_byte kept y (inl e) byte c =
    subst (λ (z : Access). Tells l filter (word_in z.region (byte / 4)) z × (is_of_byte z.width ≡ true → Tells l filter (byte_in z.region byte) z)) e
    (go (at_ends x byte own covered), λ one. subst (λ (b : ℕ). Tells l filter (byte_in x.region b) x) (sym (only_byte x byte one covered)) (at_byte one))
  where
    covered : covers x.first (byte_count x.width) byte ≡ true
    covered = subst (λ (z : Access). covers z.first (byte_count z.width) byte ≡ true) (sym e) c

    go : (byte / 4 ≡ first_word x) ⊎ (byte / 4 ≡ last_word x) → Tells l filter (word_in x.region (byte / 4)) x
    go (inl h) = subst (λ (n : ℕ). Tells l filter (word_in x.region n) x) (sym h) at_first
    go (inr h) = subst (λ (n : ℕ). Tells l filter (word_in x.region n) x) (sym h) at_last

both_calm :
    (launch : Launch) (x : Access) (log : List Access) → is_on_two_words x ≡ true
    → ((y : Access) (byte : ℕ) → Logged log y → byte / 4 ≡ first_word x → share y x byte ≡ true → race launch y x byte ≡ None)
    → ((y : Access) (byte : ℕ) → Logged log y → byte / 4 ≡ last_word x → share y x byte ≡ true → race launch y x byte ≡ None) → newest_race launch (x ∷ log) ≡ None
both_calm launch x log own at_first at_last = calm_newest launch x log calm
  where
    calm : IsCalm launch x log
    calm y byte w = decided (share y x byte) (λ t. go t (at_ends x byte own (shared y x byte t).2)) (λ f. apart_calm launch y x byte f)
      where
        go : share y x byte ≡ true → (byte / 4 ≡ first_word x) ⊎ (byte / 4 ≡ last_word x) → race launch y x byte ≡ None
        go t (inl h) = at_first y byte w h t
        go t (inr h) = at_last y byte w h t

no_byte : (w : Width) (A : Type 0) → is_of_byte w ≡ false → is_of_byte w ≡ true → A
no_byte w A off on = absurd (false≢true (sym off ∙ on))

-- it touches one word, and not one byte
pub noted_once :
    (group : ℕ) (uniform : Bool) (x : Access) (old new : RaceFilter) (noted : Noted) → old.is_whole ≡ true → is_on_two_words x ≡ true → is_of_byte x.width ≡ false → first_word x ≡ last_word x
    → IsNotedAt (word_in x.region (first_word x)) group uniform x old new noted → IsPassed group uniform x old new noted.quiet
noted_once group uniform x old new noted is_whole two wide one n launch log alike own keeps =
    let kept = keeps is_whole in
    let at_first = newest_at launch group uniform x alike own old new (word_in x.region (first_word x)) noted n in (
      λ whole.
          both_kept launch new x log two at_first (subst (λ (k : ℕ). Tells launch new (word_in x.region k) x) one at_first)
          (no_byte x.width (Tells launch new (byte_in x.region x.first) x) wide)
          (all_stay launch group uniform x alike own old new (word_in x.region (first_word x)) noted log n kept),
      λ is.
          both_calm launch x log two (λ y byte w h. calm_at launch group uniform x alike own old new (first_word x) noted log n kept is y byte w h)
          (λ y byte w h. calm_at launch group uniform x alike own old new (first_word x) noted log n kept is y byte w (h ∙ sym one)),
    )

-- it touches two
pub noted_twice :
    (group : ℕ) (uniform : Bool) (x : Access) (old mid new : RaceFilter) (one other : Noted) → old.is_whole ≡ true → is_on_two_words x ≡ true → is_of_byte x.width ≡ false
    → IsNotedAt (word_in x.region (first_word x)) group uniform x old mid one → IsNotedAt (word_in x.region (last_word x)) group uniform x mid new other
    → IsPassed group uniform x old new (one.quiet && other.quiet)
noted_twice group uniform x old mid new one other is_whole two wide first last launch log alike own keeps =
    let kept = keeps is_whole in
    let between = all_stay launch group uniform x alike own old mid (word_in x.region (first_word x)) one log first kept in
    let at_first = stays launch group uniform x alike own mid new (word_in x.region (last_word x)) other (word_in x.region (first_word x)) x last
    (newest_at launch group uniform x alike own old mid (word_in x.region (first_word x)) one first) in (
      λ whole.
          both_kept launch new x log two at_first (newest_at launch group uniform x alike own mid new (word_in x.region (last_word x)) other last)
          (no_byte x.width (Tells launch new (byte_in x.region x.first) x) wide)
          (all_stay launch group uniform x alike own mid new (word_in x.region (last_word x)) other log last between),
      λ is.
          let p = and_parts one.quiet other.quiet is in
          both_calm launch x log two (λ y byte w h. calm_at launch group uniform x alike own old mid (first_word x) one log first kept p.0 y byte w h)
          (λ y byte w h. calm_at launch group uniform x alike own mid new (last_word x) other log last between p.1 y byte w h),
    )

-- ---- an access that touches one byte

-- it lies in one word
one_word : (x : Access) → is_of_byte x.width ≡ true → (is_on_two_words x ≡ true) × (first_word x ≡ last_word x)
one_word x one = go x.width refl one
  where
    small : x.first % 4 < 4
    small = omega (arith)

    go : (w : Width) → x.width ≡ w → is_of_byte w ≡ true → (is_on_two_words x ≡ true) × (first_word x ≡ last_word x)
    go width.One e o =
        let upto : x.first % 4 + byte_count x.width ≤ 4 = subst (λ (v : Width). x.first % 4 + byte_count v ≤ 4) (sym e) (omega (arith, small)) in (
          le-leb (x.first % 4 + byte_count x.width) 8 (omega (arith, upto)),
          sym (ap (λ (b : Bool). if b then first_word x else first_word x + 1) (le-leb (x.first % 4 + byte_count x.width) 4 upto)),
        )
    go width.Two e o = absurd (false≢true o)
    go width.Four e o = absurd (false≢true o)
    go width.Eight e o = absurd (false≢true o)

pub noted_byte :
    (group : ℕ) (uniform : Bool) (x : Access) (old mid new : RaceFilter) (word byte : Noted) → old.is_whole ≡ true → is_of_byte x.width ≡ true
    → IsNotedAt (word_in x.region (first_word x)) group uniform x old mid word → IsNotedAt (byte_in x.region x.first) group uniform x mid new byte
    → IsPassed group uniform x old new (word.quiet || (word.of_bytes && byte.quiet))
noted_byte group uniform x old mid new word byte is_whole one first last launch log alike own keeps =
    let kept = keeps is_whole in
    let lies = one_word x one in
    let between = all_stay launch group uniform x alike own old mid (word_in x.region (first_word x)) word log first kept in
    let at_first = stays launch group uniform x alike own mid new (byte_in x.region x.first) byte (word_in x.region (first_word x)) x last
    (newest_at launch group uniform x alike own old mid (word_in x.region (first_word x)) word first) in (
      λ whole.
          both_kept launch new x log lies.0 at_first (subst (λ (k : ℕ). Tells launch new (word_in x.region k) x) lies.1 at_first)
          (λ is. newest_at launch group uniform x alike own mid new (byte_in x.region x.first) byte last)
          (all_stay launch group uniform x alike own mid new (byte_in x.region x.first) byte log last between),
      λ is. calm_newest launch x log (calm kept (or_cases word.quiet (word.of_bytes && byte.quiet) is)),
    )
  where
    calm : AreKept launch old log → (word.quiet ≡ true) ⊎ ((word.of_bytes && byte.quiet) ≡ true) → IsCalm launch x log
    calm kept h y b w = decided (share y x b) (λ t. go h t) (λ f. apart_calm launch y x b f)
      where
        go : (word.quiet ≡ true) ⊎ ((word.of_bytes && byte.quiet) ≡ true) → share y x b ≡ true → race launch y x b ≡ None
        go (inl q) t =
            calm_at launch group uniform x alike own old mid (first_word x) word log first kept q y b w (ap (λ (n : ℕ). n / 4) (only_byte x b one (shared y x b t).2)) t
        go (inr q) t =
            let p = and_parts word.of_bytes byte.quiet q in
            byte_calm launch group uniform x alike own old mid new word byte log one first last kept p.0 p.1 y b w t
