-- What is kept of all bytes, with one access more, and what it tells of a further one.
use Rattle.std.proofs.Common.{◌≡◌, ℕ, ◌+◌, ◌%◌, ◌^◌, ◌<◌, ◌⊎◌, ◌==◌, ◌&&◌, ◌||◌, Bool, true, false, not, if◌then◌else◌, Option, None, Some, List, [], ◌∷◌, ◌++◌, refl, sym, ap, ◌∙◌, subst, inl, inr, eqb-true, eq-eqb}
use Rattle.std.specs.Prelude.{All, unwrap_or}
use Rattle.std.proofs.Math.Logic.{∥∥₁_elim}
use Rattle.std.proofs.lemmas.Bool.{and_parts, and_from, and_left, and_right, or_cases, cases_eq, ne_eqb, false≢true}
use Rattle.clmodel.specs.Cells.{byte_count, covers}
use Rattle.clmodel.specs.Launch.{same_region, within_group, conflict_between}
use Rattle.clmodel.specs.declared.access.Access.{Access}
use Rattle.clmodel.specs.declared.access.Clash.{Clash}
use Rattle.clmodel.specs.declared.access.Region.{Region}
use Rattle.clmodel.specs.declared.access.Region.TheVariants as region
use Rattle.clmodel.proofs.Steps.{decided, none_some, if_true, if_false}
use Rattle.clmodel.proofs.Swaps.{same_region_self}
use Rattle.joining.specs.Memory.{at_byte}
use Rattle.shadow.specs.Lasting.{AbsorbedAt, Absorbed}
use Rattle.shadow.specs.Seen.{one_sort, mark_of, seen, seen_with}
use Rattle.shadow.specs.declared.seen.Mark.{Mark}
use Rattle.shadow.specs.declared.seen.Seen.{Seen}
use Rattle.group_log.specs.Side.{TakesOf}
use Rattle.group_log.specs.declared.side.Side.{Side}
use Rattle.shadow.proofs.Absorbing.{Takes, takes_marked, takes_apart, sort_self}
use Rattle.shadow.proofs.Absorbing as absorbing
use Rattle.access_list.specs.Keys.{object_number}
use Rattle.access_list.specs.Log.{in_buffer}
use Rattle.access_list.specs.declared.log.Entry.{Entry}
use Rattle.group_traces.specs.Traces.{untouched, first_in, grows, trace_with, passes, tells, takes}
use Rattle.group_traces.specs.Cells.{at_key, key_of, trace_of, IsMarked}
use Rattle.group_traces.specs.declared.trace.Trace.{Trace}
use Rattle.group_traces.specs.declared.traces.Traces.{Traces}
use Rattle.group_log.specs.Covers.{CoversAt, Covers}
use Rattle.group_log.specs.SummarizesByte.{SummarizesByte, region_at, AllStand, AllTake}
use Rattle.group_log.proofs.Covering.{no_conflict}
use Rattle.group_log.proofs.Standing.{stands_told, stands_clear, stands_more, stands_with, stands_begun, stands_none}

-- ---- regions

-- an access is at a byte of its own region where it covers it
own_at : (r : Region) (byte : ℕ) (x : Access) → x.region ≡ r → covers x.first (byte_count x.width) byte ≡ true → at_byte r byte x ≡ true
own_at r byte x e c =
    and_from (same_region r x.region) (covers x.first (byte_count x.width) byte) (subst (λ z. same_region z x.region ≡ true) e (same_region_self x.region)) c

-- objects of two numbers are of two regions
apart_at : (h : Region) (m n : ℕ) → (m ≡ n → ⊥) → same_region (region_at h m) (region_at h n) ≡ false
apart_at (region.Buffer k) m n ne = ne_eqb m n ne
apart_at (region.Local g k) m n ne = and_right (g == g) (m == n) (ne_eqb m n ne)

not_at : (h : Region) (m n byte : ℕ) (x : Access) → x.region ≡ region_at h n → ((m == n) && covers x.first (byte_count x.width) byte) ≡ false → at_byte (region_at h m) byte x ≡ false
not_at h m n byte x e c = go (cases_eq m n)
  where
    go : (m ≡ n) ⊎ (m ≡ n → ⊥) → at_byte (region_at h m) byte x ≡ false
    go (inl f) =
        and_right (same_region (region_at h m) x.region) (covers x.first (byte_count x.width) byte)
        (sym (ap (λ (b : Bool). b && covers x.first (byte_count x.width) byte) (eq-eqb m n f)) ∙ c)
    go (inr ne) =
        and_left (same_region (region_at h m) x.region) (covers x.first (byte_count x.width) byte)
        (subst (λ z. same_region (region_at h m) z ≡ false) (sym e) (apart_at h m n ne))

-- by the home or, where there is none yet, by the access's own region
home_of : Option Region → Region → Region
home_of home r = unwrap_or home r

-- what stands where there may be no access yet
base : (u : Bool) (n : ℕ) (kept : List Entry) (traces : Traces) (home : Option Region) (r : Region) → AllStand u n kept traces home
    → (number byte : ℕ) → number < 2 ^ 32 → SummarizesByte u n kept (trace_of traces number byte) (region_at (unwrap_or home r) number) byte
base u n kept traces None r h number byte b = stands_none u n kept (trace_of traces number byte) (region_at r number) byte h.0 (h.1 (key_of number byte) (byte % 32))
base u n kept traces (Some home) r h number byte b = h number byte b

-- ---- what is told of an access

-- a conflict is none where what stands says so
pub none_stood : {A : Type 0} (o : Option Clash) → ∥ A ∥₁ → (A → o ≡ None) → o ≡ None
none_stood None t f = refl
none_stood (Some c) t f = absurd (∥∥₁_elim t (λ x y. absurd x) (λ a. none_some c (sym (f a))))

-- it covers no byte that it isn't at
outside : (u : Bool) (kept : List Entry) (x : Access) (byte : ℕ) → covers x.first (byte_count x.width) byte ≡ false → CoversAt u kept x byte
outside u kept x byte c z none =
    no_conflict (within_group u) x z.access byte
    (λ o s.
    let p : ((same_region x.region z.access.region && covers x.first (byte_count x.width) byte) ≡ true) × (covers z.access.first (byte_count z.access.width) byte ≡ true) = and_parts _ _ s in
    absurd (false≢true (sym c ∙ (and_parts (same_region x.region z.access.region) (covers x.first (byte_count x.width) byte) p.0).1)))

pub all_told :
    (u : Bool) (n : ℕ) (kept : List Entry) (traces : Traces) (home : Option Region) (x : Access) (number : ℕ) → AllStand u n kept traces home → number < 2 ^ 32
    → x.region ≡ region_at (unwrap_or home x.region) number → x.interval ≡ n
    → ((byte : ℕ) → covers x.first (byte_count x.width) byte ≡ true → tells (trace_of traces number byte) x.interval (mark_of x byte) ≡ true) → Covers u kept x
all_told u n kept traces home x number h small e i told byte =
    decided (covers x.first (byte_count x.width) byte)
    (λ c.
    stands_told u n kept (trace_of traces number byte) (region_at (unwrap_or home x.region) number) byte x (base u n kept traces home x.region h number byte small)
    (own_at (region_at (unwrap_or home x.region) number) byte x e c) i (subst (λ k. tells (trace_of traces number byte) k (mark_of x byte) ≡ true) i (told byte c)))
    (outside u kept x byte)

pub all_clear :
    (u : Bool) (n : ℕ) (kept : List Entry) (traces : Traces) (home : Option Region) (x : Access) (number : ℕ) → AllStand u n kept traces home → number < 2 ^ 32
    → x.region ≡ region_at (unwrap_or home x.region) number → x.interval ≡ n
    → ((byte : ℕ) → covers x.first (byte_count x.width) byte ≡ true → passes u (trace_of traces number byte) x.interval (mark_of x byte) ≡ true)
    → (byte : ℕ) → All (λ (y : Entry). conflict_between (within_group u) y.access x byte ≡ None) kept
all_clear u n kept traces home x number h small e i clear byte =
    decided (covers x.first (byte_count x.width) byte)
    (λ c.
    stands_clear u n kept (trace_of traces number byte) (region_at (unwrap_or home x.region) number) byte x (base u n kept traces home x.region h number byte small)
    (own_at (region_at (unwrap_or home x.region) number) byte x e c) (subst (λ k. passes u (trace_of traces number byte) k (mark_of x byte) ≡ true) i (clear byte c)))
    (λ c k d lt.
    no_conflict (within_group u) _ x byte
    (λ o s. absurd (false≢true (sym c ∙ (and_parts _ (covers x.first (byte_count x.width) byte) s).1))))

-- ---- with one access more

pub all_taken :
    (u : Bool) (n : ℕ) (kept : List Entry) (traces more : Traces) (home : Option Region) (x : Access) (e : Entry) (number : ℕ) → AllStand u n kept traces home → number < 2 ^ 32
    → x.region ≡ region_at (unwrap_or home x.region) number → x.interval ≡ n → e.access ≡ x → IsMarked traces more number x → AllStand u n (kept ++ e ∷ []) more (Some (unwrap_or home x.region))
all_taken u n kept traces more home x e number h small at i s marked m byte near = subst (λ t. SummarizesByte u n (kept ++ e ∷ []) t (region_at (unwrap_or home x.region) m) byte) (sym (marked m byte near)) (go ((m == number) && covers x.first (byte_count x.width) byte) refl)
  where
    r : Region
    r = unwrap_or home x.region

    t : Trace
    t = trace_of traces m byte

    was : SummarizesByte u n kept (trace_of traces m byte) (region_at (unwrap_or home x.region) m) byte
    was = base u n kept traces home x.region h m byte near

    go : (b : Bool) → ((m == number) && covers x.first (byte_count x.width) byte) ≡ b
        → SummarizesByte u n (kept ++ e ∷ []) (if (m == number) && covers x.first (byte_count x.width) byte then trace_with (trace_of traces m byte) x.interval (mark_of x byte) else trace_of traces m byte) (region_at (unwrap_or home x.region) m) byte
    go true c =
        let p = and_parts (m == number) (covers x.first (byte_count x.width) byte) c in
        subst (λ w. SummarizesByte u n (kept ++ e ∷ []) w (region_at (unwrap_or home x.region) m) byte)
        (sym (if_true ((m == number) && covers x.first (byte_count x.width) byte) (trace_with (trace_of traces m byte) x.interval (mark_of x byte)) (trace_of traces m byte) c))
        (subst (λ k. SummarizesByte u n (kept ++ e ∷ []) (trace_with (trace_of traces m byte) k (mark_of x byte)) (region_at (unwrap_or home x.region) m) byte) (sym i)
        (stands_with u n kept (trace_of traces m byte) (region_at (unwrap_or home x.region) m) byte x e s was
        (own_at (region_at (unwrap_or home x.region) m) byte x (at ∙ ap (region_at (unwrap_or home x.region)) (sym (eqb-true m number p.0))) p.1) i))
    go false c =
        subst (λ w. SummarizesByte u n (kept ++ e ∷ []) w (region_at (unwrap_or home x.region) m) byte)
        (sym (if_false ((m == number) && covers x.first (byte_count x.width) byte) (trace_with (trace_of traces m byte) x.interval (mark_of x byte)) (trace_of traces m byte) c))
        (stands_more u n kept (trace_of traces m byte) (region_at (unwrap_or home x.region) m) byte e was
        (subst (λ a. at_byte (region_at (unwrap_or home x.region) m) byte a ≡ false) (sym s) (not_at (unwrap_or home x.region) m number byte x at c)))

-- traces that say the same
pub all_same : (u : Bool) (n : ℕ) (kept : List Entry) (traces more : Traces) (home : Option Region) → ((q b : ℕ) → at_key more q b ≡ at_key traces q b) → AllStand u n kept traces home → AllStand u n kept more home
all_same u n kept traces more None same h = (h.0, λ q b. same q b ∙ h.1 q b)
all_same u n kept traces more (Some home) same h =
    λ number byte near. subst (λ t. SummarizesByte u n kept t (region_at home number) byte) (sym (same (key_of number byte) (byte % 32))) (h number byte near)

-- an interval that begins
pub all_begun : (u : Bool) (n : ℕ) (kept : List Entry) (traces : Traces) (home : Option Region) → AllStand u n kept traces home → AllStand u (n + 1) [] traces home
all_begun u n kept traces None h = (refl, h.1)
all_begun u n kept traces (Some home) h = λ number byte near. stands_begun u n kept (trace_of traces number byte) (region_at home number) byte (h number byte near)

-- no accesses
pub all_none : (u : Bool) (n : ℕ) (kept : List Entry) (traces : Traces) (home : Option Region) → home ≡ None → kept ≡ [] → ((q b : ℕ) → at_key traces q b ≡ untouched) → AllStand u n kept traces home
all_none u n kept traces home e k h = subst (AllStand u n kept traces) (sym e) (k, h)

-- ---- what other groups are told

pub none_take : (traces : Traces) (log : List Access) → ((q b : ℕ) → at_key traces q b ≡ untouched) → AllTake traces log
none_take traces log h number byte m near t = absurd (false≢true (sym (ap (λ w. takes w m) (h (key_of number byte) (byte % 32))) ∙ t))

pub same_take : (traces more : Traces) (log : List Access) → ((q b : ℕ) → at_key more q b ≡ at_key traces q b) → AllTake traces log → AllTake more log
same_take traces more log same h number byte m near t = h number byte m near (sym (ap (λ w. takes w m) (same (key_of number byte) (byte % 32))) ∙ t)

-- an access that is seen to tell nothing new tells nothing new
pub all_absorbed : (traces : Traces) (log : List Access) (x : Access) (number : ℕ) → AllTake traces log → number < 2 ^ 32 → number ≡ object_number x.region
    → ((byte : ℕ) → covers x.first (byte_count x.width) byte ≡ true → takes (trace_of traces number byte) (mark_of x byte) ≡ true) → Absorbed log x
all_absorbed traces log x number h small e taken = go x.region refl
  where
    go : (r : Region) → x.region ≡ r → AbsorbedAt r log x
    go (region.Local g n) s = tt
    go (region.Buffer n) s =
        λ byte at.
        let same : number ≡ n = e ∙ ap object_number s in
        subst (λ k. Takes (seen (region.Buffer k) byte log) (mark_of x byte)) same
        (h number byte (mark_of x byte) small (taken byte (and_parts (same_region (region.Buffer n) x.region) (covers x.first (byte_count x.width) byte) at).1))

-- what is taken stays so
pub take_more : (traces : Traces) (log : List Access) (x : Access) → AllTake traces log → AllTake traces (x ∷ log)
take_more traces log x h number byte m near t = go (at_byte (region.Buffer number) byte x)
  where
    s : Seen
    s = seen (region.Buffer number) byte log

    go : (b : Bool) → Takes (if b then seen_with (seen (region.Buffer number) byte log) (mark_of x byte) else seen (region.Buffer number) byte log) m
    go true = absorbing.takes_more (seen (region.Buffer number) byte log) (mark_of x byte) m (h number byte m near t)
    go false = h number byte m near t

not_false : (b : Bool) → not b ≡ true → b ≡ false
not_false false h = refl
not_false true h = absurd (false≢true h)

-- a byte that is marked
takes_with : (s : Seen) (t : Trace) (i : ℕ) (x : Mark) → ((m : Mark) → takes t m ≡ true → Takes s m) → (m : Mark) → takes (trace_with t i x) m ≡ true → Takes (seen_with s x) m
takes_with s t i x h m =
    decided (t.touched && (t.interval == i))
    (λ now k.
    let p = and_parts t.touched (t.interval == i) now in
    again p.0 (or_cases (grows t x) (one_sort t.mark m) (and_parts t.touched (grows t x || one_sort t.mark m) (sym (ap (λ w. takes w m) (if_true (t.touched && (t.interval == i)) more fresh now)) ∙ k)).1))
    (λ now k. anew (or_cases (grows t x) (one_sort x m) (sym (ap (λ w. takes w m) (if_false (t.touched && (t.interval == i)) more fresh now)) ∙ k)))
  where
    fresh : Trace
    fresh = first_in i x (grows t x)

    more : Trace
    more = record {
      interval = t.interval;
      mark = t.mark;
      touched = t.touched;
      many = t.many || not (t.mark.item == x.item);
      mixed = t.mixed || not (one_sort t.mark x);
      several = grows t x;
    }

    -- two sorts
    grown : grows t x ≡ true → Takes (seen_with s x) m
    grown g = let p = and_parts t.touched (t.several || not (one_sort t.mark x)) g in either p.0 (or_cases t.several (not (one_sort t.mark x)) p.1)
      where
        either : t.touched ≡ true → (t.several ≡ true) ⊎ (not (one_sort t.mark x) ≡ true) → Takes (seen_with s x) m
        either touched (inl two) =
            absorbing.takes_more s x m (h m (and_from t.touched (t.several || one_sort t.mark m) touched (ap (λ b. b || one_sort t.mark m) two)))
        either touched (inr other) =
            takes_apart s t.mark x m (h t.mark (and_from t.touched (t.several || one_sort t.mark t.mark) touched (or_self t.several (one_sort t.mark t.mark) (sort_self t.mark)))) (not_false (one_sort t.mark x) other)
          where
            or_self : (a b : Bool) → b ≡ true → (a || b) ≡ true
            or_self true b e = refl
            or_self false b e = e

    again : t.touched ≡ true → (grows t x ≡ true) ⊎ (one_sort t.mark m ≡ true) → Takes (seen_with s x) m
    again touched (inl g) = grown g
    again touched (inr e) = absorbing.takes_more s x m (h m (and_from t.touched (t.several || one_sort t.mark m) touched (or_right t.several (one_sort t.mark m) e)))
      where
        or_right : (a b : Bool) → b ≡ true → (a || b) ≡ true
        or_right true b e = refl
        or_right false b e = e

    anew : (grows t x ≡ true) ⊎ (one_sort x m ≡ true) → Takes (seen_with s x) m
    anew (inl g) = grown g
    anew (inr e) = takes_marked s x m e

pub marked_take : (traces more : Traces) (log : List Access) (x : Access) (number : ℕ) → x.region ≡ region.Buffer number → IsMarked traces more number x → AllTake traces log → AllTake more (x ∷ log)
marked_take traces more log x number at marked h n byte m near t = go ((n == number) && covers x.first (byte_count x.width) byte) refl
  where
    s : Seen
    s = seen (region.Buffer n) byte log

    w : Trace
    w = trace_of traces n byte

    is : takes (if (n == number) && covers x.first (byte_count x.width) byte then trace_with (trace_of traces n byte) x.interval (mark_of x byte) else trace_of traces n byte) m ≡ true
    is = sym (ap (λ z. takes z m) (marked n byte near)) ∙ t

    go : (b : Bool) → ((n == number) && covers x.first (byte_count x.width) byte) ≡ b
        → Takes (if at_byte (region.Buffer n) byte x then seen_with (seen (region.Buffer n) byte log) (mark_of x byte) else seen (region.Buffer n) byte log) m
    go true c =
        let p = and_parts (n == number) (covers x.first (byte_count x.width) byte) c in
        let here : at_byte (region.Buffer n) byte x ≡ true = own_at (region.Buffer n) byte x (at ∙ ap region.Buffer (sym (eqb-true n number p.0))) p.1 in
        subst (λ z. Takes z m) (sym (if_true (at_byte (region.Buffer n) byte x) (seen_with (seen (region.Buffer n) byte log) (mark_of x byte)) (seen (region.Buffer n) byte log) here))
        (takes_with (seen (region.Buffer n) byte log) (trace_of traces n byte) x.interval (mark_of x byte) (λ k. h n byte k near) m
        (sym (ap (λ z. takes z m) (if_true ((n == number) && covers x.first (byte_count x.width) byte) (trace_with (trace_of traces n byte) x.interval (mark_of x byte)) (trace_of traces n byte) c)) ∙ is))
    go false c =
        let out : at_byte (region.Buffer n) byte x ≡ false = not_at (region.Buffer 0) n number byte x at c in
        subst (λ z. Takes z m) (sym (if_false (at_byte (region.Buffer n) byte x) (seen_with (seen (region.Buffer n) byte log) (mark_of x byte)) (seen (region.Buffer n) byte log) out))
        (h n byte m near
        (sym (ap (λ z. takes z m) (if_false ((n == number) && covers x.first (byte_count x.width) byte) (trace_with (trace_of traces n byte) x.interval (mark_of x byte)) (trace_of traces n byte) c)) ∙ is))

pub not_true : (b : Bool) → not b ≡ false → b ≡ true
not_true true h = refl
not_true false h = absurd (false≢true (sym h))

-- the same of a side
pub takes_more_of : (whole : Bool) (traces : Traces) (log : List Access) (x : Access) → (whole ≡ true → AllTake traces log) → whole ≡ true → AllTake traces (x ∷ log)
takes_more_of whole traces log x h e = take_more traces log x (h e)

pub takes_more : (side : Side) (log : List Access) (x : Access) → TakesOf side log → TakesOf side (x ∷ log)
takes_more side log x h e = take_more side.traces log x (h e)

-- an object of global memory is a buffer
pub buffer_of : (r : Region) → in_buffer r ≡ true → r ≡ region.Buffer (object_number r)
buffer_of (region.Buffer n) h = refl
buffer_of (region.Local g n) h = absurd (false≢true h)
