-- What is kept of a byte stands for the kept accesses, with one more too, and tells of a further one.
use Rattle.std.proofs.Common.{◌≡◌, ℕ, ◌+◌, ◌≤◌, ◌⊎◌, ◌==◌, ◌&&◌, ◌||◌, Bool, true, false, not, Option, None, Some, List, [], ◌∷◌, ◌++◌, refl, sym, ap, ◌∙◌, subst, inl, inr, arith, eqb-true, eq-eqb}
use Rattle.std.specs.Prelude.{All, is_some}
use Rattle.std.proofs.lemmas.Bool.{and_parts, and_from, or_parts, or_cases, cases_eq, ne_eqb, false≢true}
use Rattle.std.proofs.lemmas.List.Elements.{All-push, All-weaker}
use Rattle.clmodel.specs.Cells.{byte_count, covers}
use Rattle.clmodel.specs.Launch.{same_region, share, clash_at, left_at, within_group, conflict_between}
use Rattle.clmodel.specs.declared.access.Access.{Access}
use Rattle.clmodel.specs.declared.access.Clash.{Clash}
use Rattle.clmodel.specs.declared.access.Region.{Region}
use Rattle.clmodel.proofs.Steps.{decided, if_true, if_false}
use Rattle.clmodel.proofs.Swaps.{same_region-true}
use Rattle.joining.specs.Memory.{at_byte}
use Rattle.shadow.specs.Seen.{one_sort, mark_clash, mark_of}
use Rattle.shadow.specs.declared.seen.Mark.{Mark}
use Rattle.shadow.proofs.Meetings.{kinds_clash, mark_plain, sort_passes, passes_both}
use Rattle.shadow.proofs.Absorbing.{sort_self, sort_chain}
use Rattle.access_list.specs.declared.log.Entry.{Entry}
use Rattle.group_traces.specs.Traces.{untouched, first_in, grows, trace_with, is_now, passes, tells}
use Rattle.group_traces.specs.declared.trace.Trace.{Trace}
use Rattle.group_log.specs.Covers.{CoversAt}
use Rattle.group_log.specs.SummarizesByte.{IsOf, Shown, SummarizesByte}
use Rattle.group_log.proofs.Covering.{no_conflict, no_clash, still_covers, covers_own}

-- ---- marks clash as the accesses do

clashes : (u : Bool) (y x : Access) (byte : ℕ) → mark_clash u (mark_of y byte) (mark_of x byte) ≡ clash_at (within_group u) y x byte
clashes u y x byte = kinds_clash u y.kind x.kind (left_at y byte) (left_at x byte)

-- an access at a byte of a region is of that region
at_region : (r : Region) (byte : ℕ) (x : Access) → at_byte r byte x ≡ true → (r ≡ x.region) × (covers x.first (byte_count x.width) byte ≡ true)
at_region r byte x h =
    let p = and_parts (same_region r x.region) (covers x.first (byte_count x.width) byte) h in (same_region-true r x.region p.0, p.1)

-- two at a byte share it with the same accesses
share_as : (r : Region) (byte : ℕ) (x y z : Access) → at_byte r byte x ≡ true → at_byte r byte y ≡ true → share x z byte ≡ true → share y z byte ≡ true
share_as r byte x y z hx hy s =
    let px = at_region r byte x hx in
    let py = at_region r byte y hy in
    let p : ((same_region x.region z.region && covers x.first (byte_count x.width) byte) ≡ true) × (covers z.first (byte_count z.width) byte ≡ true) = and_parts _ _ s in
    let q : (same_region x.region z.region ≡ true) × (covers x.first (byte_count x.width) byte ≡ true) = and_parts _ _ p.0 in
    and_from (same_region y.region z.region && covers y.first (byte_count y.width) byte) (covers z.first (byte_count z.width) byte)
    (and_from (same_region y.region z.region) (covers y.first (byte_count y.width) byte) (subst (λ w. same_region w z.region ≡ true) (sym px.0 ∙ py.0) q.0) py.1) p.1

-- what clashes with one access at a byte clashes with another of its interval there, if it is of another item than this
met_as : (u : Bool) (r : Region) (byte : ℕ) (x y z : Access) → at_byte r byte x ≡ true → at_byte r byte y ≡ true → y.interval ≡ x.interval → (y.item ≡ z.item → ⊥)
    → conflict_between (within_group u) y z byte ≡ None → (not (x.item == z.item) && (x.interval == z.interval)) ≡ true → share x z byte ≡ true → mark_clash u (mark_of y byte) (mark_of z byte) ≡ None
met_as u r byte x y z hx hy j ne h o s =
    clashes u y z byte
    ∙ no_clash (within_group u) y z byte h
    (and_from (not (y.item == z.item)) (y.interval == z.interval) (ap not (ne_eqb y.item z.item ne)) (ap (λ n. n == z.interval) j ∙ (and_parts (not (x.item == z.item)) (x.interval == z.interval) o).1))
    (share_as r byte x y z hx hy s)

-- an access of the sort of another at a byte conflicts with nothing of a further item that doesn't conflict with this
alike : (u : Bool) (r : Region) (byte : ℕ) (x y z : Access) → at_byte r byte x ≡ true → at_byte r byte y ≡ true → y.interval ≡ x.interval → (y.item ≡ z.item → ⊥)
    → one_sort (mark_of y byte) (mark_of x byte) ≡ true → conflict_between (within_group u) y z byte ≡ None → conflict_between (within_group u) x z byte ≡ None
alike u r byte x y z hx hy j ne e h =
    no_conflict (within_group u) x z byte
    (λ o s. sym (clashes u x z byte) ∙ sort_passes u (mark_of y byte) (mark_of x byte) (mark_of z byte) e (met_as u r byte x y z hx hy j ne h o s))

-- an access conflicts with none of its item
own_item : (u : Bool) (x z : Access) (byte : ℕ) → x.item ≡ z.item → conflict_between (within_group u) x z byte ≡ None
own_item u x z byte e =
    no_conflict (within_group u) x z byte
    (λ o s. absurd (false≢true (sym (ap not (eq-eqb x.item z.item e)) ∙ (and_parts (not (x.item == z.item)) (x.interval == z.interval) o).0)))

-- ---- what is told of an access

-- the parts of a trace that tells of one
told_parts : (many mixed item sort : Bool) → ((many && not mixed && sort) || (not many && item && (mixed || sort))) ≡ true
    → ((many ≡ true) × (mixed ≡ false) × (sort ≡ true)) ⊎ ((many ≡ false) × (item ≡ true) × ((mixed ≡ true) ⊎ (sort ≡ true)))
told_parts true true item sort h = absurd (false≢true h)
told_parts true false item true h = inl (refl, refl, refl)
told_parts true false item false h = absurd (false≢true h)
told_parts false true true sort h = inr (refl, refl, inl refl)
told_parts false true false sort h = absurd (false≢true h)
told_parts false false true true h = inr (refl, refl, inr refl)
told_parts false false true false h = absurd (false≢true h)
told_parts false false false sort h = absurd (false≢true h)

-- a byte that tells of an access covers it
pub stands_told : (u : Bool) (n : ℕ) (kept : List Entry) (t : Trace) (r : Region) (byte : ℕ) (x : Access) → SummarizesByte u n kept t r byte → at_byte r byte x ≡ true → x.interval ≡ n → tells t n (mark_of x byte) ≡ true
    → CoversAt u kept x byte
stands_told u n kept t r byte x s at i h z none = go (told_parts t.many t.mixed (t.mark.item == x.item) (one_sort t.mark (mark_of x byte)) p.1)
  where
    p : (is_now t n ≡ true) × (((t.many && not t.mixed && one_sort t.mark (mark_of x byte)) || (not t.many && (t.mark.item == x.item) && (t.mixed || one_sort t.mark (mark_of x byte)))) ≡ true)
    p = and_parts (is_now t n) ((t.many && not t.mixed && one_sort t.mark (mark_of x byte)) || (not t.many && (t.mark.item == x.item) && (t.mixed || one_sort t.mark (mark_of x byte)))) h

    -- the first access of the interval
    y : Access
    y = (s.first p.0).0

    shown : Shown u n kept r byte y
    shown = (s.first p.0).1

    is : mark_of y byte ≡ t.mark
    is = (s.first p.0).2

    item : y.item ≡ t.mark.item
    item = ap (λ (m : Mark). m.item) is

    first_none : conflict_between (within_group u) y z.access byte ≡ None
    first_none = shown.covered z none

    by_first : one_sort t.mark (mark_of x byte) ≡ true → (y.item ≡ z.access.item → ⊥) → conflict_between (within_group u) x z.access byte ≡ None
    by_first e ne = alike u r byte x y z.access at shown.at (shown.interval_is ∙ sym i) ne (subst (λ m. one_sort m (mark_of x byte) ≡ true) (sym is) e) first_none

    by_other : t.many ≡ true → t.mixed ≡ false → one_sort t.mark (mark_of x byte) ≡ true → y.item ≡ z.access.item → conflict_between (within_group u) x z.access byte ≡ None
    by_other many mixed e same =
        let w = s.other p.0 many in
        alike u r byte x w.0 z.access at w.1.at (w.1.interval_is ∙ sym i) (λ f. w.2 (f ∙ sym same ∙ item)) (sort_chain t.mark (mark_of w.0 byte) (mark_of x byte) (w.3 mixed) e) (w.1.covered z none)

    two : t.many ≡ true → t.mixed ≡ false → one_sort t.mark (mark_of x byte) ≡ true → (y.item ≡ z.access.item) ⊎ (y.item ≡ z.access.item → ⊥) → conflict_between (within_group u) x z.access byte ≡ None
    two many mixed e (inl f) = by_other many mixed e f
    two many mixed e (inr ne) = by_first e ne

    -- two sorts of one item
    by_apart : t.many ≡ false → t.mixed ≡ true → (x.item ≡ z.access.item → ⊥) → t.mark.item ≡ x.item → conflict_between (within_group u) x z.access byte ≡ None
    by_apart many mixed ne own =
        let w = s.apart p.0 mixed many in
        no_conflict (within_group u) x z.access byte
        (λ o sh.
        absurd (false≢true (sym (subst (λ m. one_sort m (mark_of w.0 byte) ≡ false) (sym is) w.3)
        ∙ passes_both u (mark_of y byte) (mark_of w.0 byte) (mark_of z.access byte) (mark_plain y byte) (mark_plain w.0 byte)
        (met_as u r byte x y z.access at shown.at (shown.interval_is ∙ sym i) (λ f. ne (sym (item ∙ own) ∙ f)) first_none o sh)
        (met_as u r byte x w.0 z.access at w.1.at (w.1.interval_is ∙ sym i) (λ f. ne (sym (w.2 ∙ own) ∙ f)) (w.1.covered z none) o sh))))

    mine : t.many ≡ false → t.mark.item ≡ x.item → (t.mixed ≡ true) ⊎ (one_sort t.mark (mark_of x byte) ≡ true) → (x.item ≡ z.access.item) ⊎ (x.item ≡ z.access.item → ⊥) → conflict_between (within_group u) x z.access byte ≡ None
    mine many own q (inl e) = own_item u x z.access byte e
    mine many own (inl mixed) (inr ne) = by_apart many mixed ne own
    mine many own (inr e) (inr ne) = by_first e (λ f. ne (sym (item ∙ own) ∙ f))

    go : ((t.many ≡ true) × (t.mixed ≡ false) × (one_sort t.mark (mark_of x byte) ≡ true)) ⊎ ((t.many ≡ false) × ((t.mark.item == x.item) ≡ true) × ((t.mixed ≡ true) ⊎ (one_sort t.mark (mark_of x byte) ≡ true)))
        → conflict_between (within_group u) x z.access byte ≡ None
    go (inl (many, mixed, e)) = two many mixed e (cases_eq y.item z.access.item)
    go (inr (many, own, q)) = mine many (eqb-true t.mark.item x.item own) q (cases_eq x.item z.access.item)

-- ---- what passes

passed_parts : (now many item mixed clear : Bool) → (not now || (not many && item) || (not mixed && clear)) ≡ true
    → (now ≡ false) ⊎ (((many ≡ false) × (item ≡ true)) ⊎ ((mixed ≡ false) × (clear ≡ true)))
passed_parts false many item mixed clear h = inl refl
passed_parts true false true mixed clear h = inr (inl (refl, refl))
passed_parts true false false false true h = inr (inr (refl, refl))
passed_parts true true item false true h = inr (inr (refl, refl))
passed_parts true false false true clear h = absurd (false≢true h)
passed_parts true false false false false h = absurd (false≢true h)
passed_parts true true item true clear h = absurd (false≢true h)
passed_parts true true item false false h = absurd (false≢true h)

none_of : (o : Option Clash) → not (is_some o) ≡ true → o ≡ None
none_of None h = refl
none_of (Some c) h = absurd (false≢true h)

-- an access that a byte passes conflicts there with none that is kept
pub stands_clear : (u : Bool) (n : ℕ) (kept : List Entry) (t : Trace) (r : Region) (byte : ℕ) (x : Access) → SummarizesByte u n kept t r byte → at_byte r byte x ≡ true → passes u t n (mark_of x byte) ≡ true
    → All (λ (e : Entry). conflict_between (within_group u) e.access x byte ≡ None) kept
stands_clear u n kept t r byte x s at h =
    All-weaker (λ (e : Entry). at_byte r byte e.access ≡ true → IsOf t n byte e.access) (λ (e : Entry). conflict_between (within_group u) e.access x byte ≡ None) (λ e d. each e.access d) kept s.all
  where
    parts : (is_now t n ≡ false) ⊎ (((t.many ≡ false) × ((t.mark.item == x.item) ≡ true)) ⊎ ((t.mixed ≡ false) × (not (is_some (mark_clash u t.mark (mark_of x byte))) ≡ true)))
    parts = passed_parts (is_now t n) t.many (t.mark.item == x.item) t.mixed (not (is_some (mark_clash u t.mark (mark_of x byte)))) h

    of_it : (y : Access) → IsOf t n byte y
        → (is_now t n ≡ false) ⊎ (((t.many ≡ false) × ((t.mark.item == x.item) ≡ true)) ⊎ ((t.mixed ≡ false) × (not (is_some (mark_clash u t.mark (mark_of x byte))) ≡ true)))
        → conflict_between (within_group u) y x byte ≡ None
    of_it y d (inl e) = absurd (false≢true (sym e ∙ d.now))
    of_it y d (inr (inl (many, item))) = own_item u y x byte (d.item many ∙ eqb-true t.mark.item x.item item)
    of_it y d (inr (inr (mixed, clear))) =
        no_conflict (within_group u) y x byte
        (λ o sh. sym (clashes u y x byte) ∙ sort_passes u t.mark (mark_of y byte) (mark_of x byte) (d.sort mixed) (none_of (mark_clash u t.mark (mark_of x byte)) clear))

    each : (y : Access) → (at_byte r byte y ≡ true → IsOf t n byte y) → conflict_between (within_group u) y x byte ≡ None
    each y d =
        no_conflict (within_group u) y x byte
        (λ o sh.
        let p : ((same_region y.region x.region && covers y.first (byte_count y.width) byte) ≡ true) × (covers x.first (byte_count x.width) byte ≡ true) = and_parts _ _ sh in
        let q : (same_region y.region x.region ≡ true) × (covers y.first (byte_count y.width) byte ≡ true) = and_parts _ _ p.0 in
        let here : at_byte r byte y ≡ true =
        and_from (same_region r y.region) (covers y.first (byte_count y.width) byte)
        (subst (λ w. same_region r w ≡ true) (sym (same_region-true y.region x.region q.0)) (and_parts (same_region r x.region) (covers x.first (byte_count x.width) byte) at).0) q.1 in
        no_clash (within_group u) y x byte (of_it y (d here) parts) o sh)

-- ---- with one access more

-- what is shown stays so
shown_still : (u : Bool) (n : ℕ) (kept : List Entry) (e : Entry) (r : Region) (byte : ℕ) (y : Access) → Shown u n kept r byte y → Shown u n (kept ++ e ∷ []) r byte y
shown_still u n kept e r byte y h = record { at = h.at; interval_is = h.interval_is; covered = still_covers u kept e y byte h.covered }

shown_own : (u : Bool) (n : ℕ) (kept : List Entry) (e : Entry) (r : Region) (byte : ℕ) (x : Access) → e.access ≡ x → at_byte r byte x ≡ true → x.interval ≡ n → Shown u n (kept ++ e ∷ []) r byte x
shown_own u n kept e r byte x s at i = record { at = at; interval_is = i; covered = covers_own u kept e x s byte }

-- a byte that the access isn't at
pub stands_more : (u : Bool) (n : ℕ) (kept : List Entry) (t : Trace) (r : Region) (byte : ℕ) (e : Entry) → SummarizesByte u n kept t r byte → at_byte r byte e.access ≡ false → SummarizesByte u n (kept ++ e ∷ []) t r byte
stands_more u n kept t r byte e s out =
    record {
      past = s.past;
      all = All-push (λ (z : Entry). at_byte r byte z.access ≡ true → IsOf t n byte z.access) kept e s.all (λ h. absurd (false≢true (sym out ∙ h)));
      first = λ now. let w = s.first now in (w.0, shown_still u n kept e r byte w.0 w.1, w.2);
      other = λ now many. let w = s.other now many in (w.0, shown_still u n kept e r byte w.0 w.1, w.2, w.3);
      apart = λ now mixed many. let w = s.apart now mixed many in (w.0, shown_still u n kept e r byte w.0 w.1, w.2, w.3);
    }

not_false : (b : Bool) → not b ≡ false → b ≡ true
not_false true h = refl
not_false false h = absurd (false≢true (sym h))

-- a byte that it is at
pub stands_with : (u : Bool) (n : ℕ) (kept : List Entry) (t : Trace) (r : Region) (byte : ℕ) (x : Access) (e : Entry) → e.access ≡ x → SummarizesByte u n kept t r byte → at_byte r byte x ≡ true → x.interval ≡ n
    → SummarizesByte u n (kept ++ e ∷ []) (trace_with t n (mark_of x byte)) r byte
stands_with u n kept t r byte x e s st at i =
    decided (is_now t n)
    (λ now. subst (λ w. SummarizesByte u n (kept ++ e ∷ []) w r byte) (sym (if_true (is_now t n) more fresh now)) (again now))
    (λ now. subst (λ w. SummarizesByte u n (kept ++ e ∷ []) w r byte) (sym (if_false (is_now t n) more fresh now)) (anew now))
  where
    m : Mark
    m = mark_of x byte

    fresh : Trace
    fresh = first_in n (mark_of x byte) (grows t (mark_of x byte))

    more : Trace
    more = record {
      interval = t.interval;
      mark = t.mark;
      touched = t.touched;
      many = t.many || not (t.mark.item == x.item);
      mixed = t.mixed || not (one_sort t.mark (mark_of x byte));
      several = grows t (mark_of x byte);
    }

    own : Shown u n (kept ++ e ∷ []) r byte x
    own = shown_own u n kept e r byte x s at i

    now_fresh : is_now fresh n ≡ true
    now_fresh = eq-eqb n n refl

    of_own : IsOf fresh n byte x
    of_own = record { now = now_fresh; item = λ _. refl; sort = λ _. sort_self (mark_of x byte) }

    anew : is_now t n ≡ false → SummarizesByte u n (kept ++ e ∷ []) fresh r byte
    anew now =
        record {
          past = λ _. omega arith;
          all = All-push (λ (z : Entry). at_byte r byte z.access ≡ true → IsOf fresh n byte z.access) kept e
              (All-weaker (λ (z : Entry). at_byte r byte z.access ≡ true → IsOf t n byte z.access) (λ (z : Entry). at_byte r byte z.access ≡ true → IsOf fresh n byte z.access)
              (λ z d h. absurd (false≢true (sym now ∙ (d h).now))) kept st.all)
              (λ _. subst (IsOf fresh n byte) (sym s) of_own);
          first = λ _. (x, own, refl);
          other = λ _ many. absurd (false≢true many);
          apart = λ _ mixed many. absurd (false≢true mixed);
        }

    again : is_now t n ≡ true → SummarizesByte u n (kept ++ e ∷ []) more r byte
    again now =
        record {
          past = st.past;
          all = All-push (λ (z : Entry). at_byte r byte z.access ≡ true → IsOf more n byte z.access) kept e
              (All-weaker (λ (z : Entry). at_byte r byte z.access ≡ true → IsOf t n byte z.access) (λ (z : Entry). at_byte r byte z.access ≡ true → IsOf more n byte z.access)
              (λ z d h. let w = d h in record {
                now = now;
                item = λ many. w.item (or_parts t.many (not (t.mark.item == x.item)) many).0;
                sort = λ mixed. w.sort (or_parts t.mixed (not (one_sort t.mark (mark_of x byte))) mixed).0;
              }) kept st.all)
              (λ _. subst (IsOf more n byte) (sym s) (record {
                now = now;
                item = λ many. sym (eqb-true t.mark.item x.item (not_false (t.mark.item == x.item) (or_parts t.many (not (t.mark.item == x.item)) many).1));
                sort = λ mixed. not_false (one_sort t.mark (mark_of x byte)) (or_parts t.mixed (not (one_sort t.mark (mark_of x byte))) mixed).1;
              }));
          first = λ _. let w = st.first now in (w.0, shown_still u n kept e r byte w.0 w.1, w.2);
          other = λ _ many. another many (cases_eq t.mark.item x.item);
          apart = λ _ mixed many. parted mixed many;
        }
      where
        Other : Type 0
        Other = (y : Access) × Shown u n (kept ++ e ∷ []) r byte y × (y.item ≡ t.mark.item → ⊥) × (more.mixed ≡ false → one_sort t.mark (mark_of y byte) ≡ true)

        another : more.many ≡ true → (t.mark.item ≡ x.item) ⊎ (t.mark.item ≡ x.item → ⊥) → Other
        another many (inr ne) =
            (x, own, (λ f. ne (sym f)), (λ mixed. not_false (one_sort t.mark (mark_of x byte)) (or_parts t.mixed (not (one_sort t.mark (mark_of x byte))) mixed).1))
        another many (inl f) = was (or_cases t.many (not (t.mark.item == x.item)) many)
          where
            was : (t.many ≡ true) ⊎ (not (t.mark.item == x.item) ≡ true) → Other
            was (inl old) =
                let w = st.other now old in
                (w.0, shown_still u n kept e r byte w.0 w.1, w.2, (λ mixed. w.3 (or_parts t.mixed (not (one_sort t.mark (mark_of x byte))) mixed).0))
            was (inr g) = absurd (false≢true (sym (ap not (eq-eqb t.mark.item x.item f)) ∙ g))

        Apart : Type 0
        Apart = (y : Access) × Shown u n (kept ++ e ∷ []) r byte y × (y.item ≡ t.mark.item) × (one_sort t.mark (mark_of y byte) ≡ false)

        parted : more.mixed ≡ true → more.many ≡ false → Apart
        parted mixed many = by (or_parts t.many (not (t.mark.item == x.item)) many) (one_sort t.mark (mark_of x byte)) refl
          where
            by : (t.many ≡ false) × (not (t.mark.item == x.item) ≡ false) → (b : Bool) → one_sort t.mark (mark_of x byte) ≡ b → Apart
            by alone false differs = (x, own, sym (eqb-true t.mark.item x.item (not_false (t.mark.item == x.item) alone.1)), differs)
            by alone true same = was (or_cases t.mixed (not (one_sort t.mark (mark_of x byte))) mixed)
              where
                was : (t.mixed ≡ true) ⊎ (not (one_sort t.mark (mark_of x byte)) ≡ true) → Apart
                was (inl old) = let w = st.apart now old alone.0 in (w.0, shown_still u n kept e r byte w.0 w.1, w.2, w.3)
                was (inr g) = absurd (false≢true (sym (ap not same) ∙ g))

-- ---- an interval that begins

later_now : (t : Trace) (n : ℕ) → (t.touched ≡ true → t.interval ≤ n) → is_now t (n + 1) ≡ true → ⊥
later_now t n past h =
    let p = and_parts t.touched (t.interval == n + 1) h in omega (arith, past p.0, eqb-true t.interval (n + 1) p.1)

pub stands_begun : (u : Bool) (n : ℕ) (kept : List Entry) (t : Trace) (r : Region) (byte : ℕ) → SummarizesByte u n kept t r byte → SummarizesByte u (n + 1) [] t r byte
stands_begun u n kept t r byte s =
    record {
      past = λ h. omega (arith, s.past h);
      all = λ k d lt. absurd (omega (arith, lt));
      first = λ now. absurd (later_now t n s.past now);
      other = λ now many. absurd (later_now t n s.past now);
      apart = λ now mixed many. absurd (later_now t n s.past now);
    }

-- no accesses
pub stands_none : (u : Bool) (n : ℕ) (kept : List Entry) (t : Trace) (r : Region) (byte : ℕ) → kept ≡ [] → t ≡ untouched → SummarizesByte u n kept t r byte
stands_none u n kept t r byte k e =
    subst (λ l. SummarizesByte u n l t r byte) (sym k)
    (subst (λ w. SummarizesByte u n [] w r byte) (sym e)
    (record {
      past = λ h. absurd (false≢true h);
      all = λ k d lt. absurd (omega (arith, lt));
      first = λ h. absurd (false≢true h);
      other = λ h many. absurd (false≢true h);
      apart = λ h mixed many. absurd (false≢true h);
    }))
