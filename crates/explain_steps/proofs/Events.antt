-- Events with their accesses, one more at a time.
use Rattle.std.proofs.Common.{◌≡◌, ◌+◌, ◌-◌, ◌<◌, ◌≤◌, ◌&&◌, ℕ, suc, Bool, true, false, nat_lt, Option, None, Some, List, [], ◌∷◌, ◌++◌, add-one, cond, count_by, drop, drop-cons, get_or, length, reverse, take, slice_get, inl, inr, refl, sym, ap, ◌∙◌, subst, append_assoc, arith}
use Rattle.std.specs.Bool.{Decides}
use Rattle.std.proofs.lemmas.Bool.{and_parts, false≢true, ltb-false, ltb-true}
use Rattle.std.proofs.lemmas.List.{reverse-append, take_more}
use Rattle.std.proofs.lemmas.List.Sums.{sum_by-cons}
use Rattle.clmodel.specs.declared.schedule.Event.{Event}
use Rattle.clmodel.specs.declared.schedule.Event.TheVariants as event
use Rattle.fault_play.specs.PlayedOut.{is_access}
use Rattle.fault_play.specs.declared.marks.Mark.{Mark}
use Rattle.fault_play.specs.declared.played.Touch.{Touch}
use Rattle.explain_steps.specs.Bytes.{Holds}
use Rattle.explain_steps.specs.Choosing.{IsChoice}
use Rattle.explain_steps.specs.Chosen.{AreChosen, IsAwaited, IsGiven, IsWanted, access_of, events_made, frees_them, is_theirs}
use Rattle.explain_steps.specs.StepLists.{AreKnown, is_known}
use Rattle.explain_steps.specs.declared.chosen.Choice.{Choice}
use Rattle.explain_steps.specs.declared.chosen.Followed.{Followed}

-- an event makes one access at most
pub one_at_most : (b : Bool) → cond b 1 0 ≤ 1
one_at_most true = omega arith
one_at_most false = omega arith

-- the events with one more
pub events_more :
    (n : ℕ) (xs : List Mark) (x : Mark) (touches : List Touch)
    → events_made n (xs ++ x ∷ []) touches ≡ events_made n xs touches ++ (x, access_of x.event (slice_get touches (n + count_by (λ mark. is_access mark.event) xs))) ∷ []
events_more n [] x touches = let same : n ≡ n + 0 = omega arith in ap (λ k. (x, access_of x.event (slice_get touches k)) ∷ []) same
events_more n (y ∷ ys) x touches =
    let more = cond (is_access y.event) 1 0 in
    let cons : count_by (λ mark. is_access mark.event) (y ∷ ys) ≡ more + count_by (λ mark. is_access mark.event) ys = sum_by-cons (λ mark. cond (is_access mark.event) 1 0) y ys in
    let counted : (n + more) + count_by (λ mark. is_access mark.event) ys ≡ n + count_by (λ mark. is_access mark.event) (y ∷ ys) = omega (arith, cons) in
    ap (λ z. (y, access_of y.event (slice_get touches n)) ∷ z)
    (events_more (n + more) ys x touches ∙ ap (λ k. events_made (n + more) ys touches ++ (x, access_of x.event (slice_get touches k)) ∷ []) counted)

-- the count with one more
pub count_more : (xs : List Mark) (x : Mark) → count_by (λ mark. is_access mark.event) (xs ++ x ∷ []) ≡ count_by (λ mark. is_access mark.event) xs + cond (is_access x.event) 1 0
count_more [] x = omega arith
count_more (y ∷ ys) x =
    let f : Mark → ℕ = λ mark. cond (is_access mark.event) 1 0 in
    let whole : count_by (λ mark. is_access mark.event) (y ∷ (ys ++ x ∷ [])) ≡ cond (is_access y.event) 1 0 + count_by (λ mark. is_access mark.event) (ys ++ x ∷ []) = sum_by-cons f y (ys ++ x ∷ []) in
    let old : count_by (λ mark. is_access mark.event) (y ∷ ys) ≡ cond (is_access y.event) 1 0 + count_by (λ mark. is_access mark.event) ys = sum_by-cons f y ys in
    let more = count_more ys x in whole ∙ omega (arith, old, more)

pub take_next : {A : Type 0} (xs : List A) (n : ℕ) (x : A) → n < length xs → x ≡ get_or xs n x → take (n + 1) xs ≡ take n xs ++ x ∷ []
take_next xs n x within here = take_more xs n x within ∙ ap (λ y. take n xs ++ y ∷ []) (sym here)

-- the accesses up to the next event
pub count_next : (marks : List Mark) (n : ℕ) (mark : Mark) → n < length marks → mark ≡ get_or marks n mark
    → count_by (λ mark. is_access mark.event) (take (n + 1) marks) ≡ count_by (λ mark. is_access mark.event) (take n marks) + cond (is_access mark.event) 1 0
count_next marks n mark within here =
    ap (λ (l : List Mark). count_by (λ mark. is_access mark.event) l) (take_next marks n mark within here) ∙ count_more (take n marks) mark

-- the first events with the next one
pub events_next : (marks : List Mark) (touches : List Touch) (n before : ℕ) (mark : Mark) → n < length marks → mark ≡ get_or marks n mark
    → before ≡ count_by (λ mark. is_access mark.event) (take n marks)
    → events_made 0 (take (n + 1) marks) touches ≡ events_made 0 (take n marks) touches ++ (mark, access_of mark.event (slice_get touches before)) ∷ []
events_next marks touches n before mark within here counted =
    let same : 0 + count_by (λ mark. is_access mark.event) (take n marks) ≡ before = omega (arith, counted) in
    ap (λ (l : List Mark). events_made 0 l touches) (take_next marks n mark within here) ∙ events_more 0 (take n marks) mark touches
    ∙ ap (λ (k : ℕ). events_made 0 (take n marks) touches ++ (mark, access_of mark.event (slice_get touches k)) ∷ []) same

drop_next : {A : Type 0} (xs : List A) (n : ℕ) (x : A) → n < length xs → x ≡ get_or xs n x → drop n xs ≡ x ∷ drop (n + 1) xs
drop_next xs n x within here = rw (add-one, drop-cons xs n x within) (ap (λ y. y ∷ drop (suc n) xs) (sym here))

-- the events from a number on are the one of this number and those behind it
pub events_from : (marks : List Mark) (touches : List Touch) (n before after : ℕ) (mark : Mark) → n < length marks → mark ≡ get_or marks n mark → before + cond (is_access mark.event) 1 0 ≡ after
    → events_made before (drop n marks) touches ≡ (mark, access_of mark.event (slice_get touches before)) ∷ events_made after (drop (n + 1) marks) touches
events_from marks touches n before after mark within here counted =
    ap (λ (l : List Mark). events_made before l touches) (drop_next marks n mark within here)
    ∙ ap (λ (k : ℕ). (mark, access_of mark.event (slice_get touches before)) ∷ events_made k (drop (n + 1) marks) touches) counted

-- ---- which events are told

-- one event more is told, or isn't
pub chosen_more :
    (followed : Followed) (most : ℕ) (mark : Mark) (touch : Option Touch) (later : List (Mark × Option Touch)) (wanted told : Bool) (rest : List Bool)
    → Decides wanted (IsWanted followed mark touch later) → told ≡ (wanted && nat_lt (count_by (λ b. b) rest) most) → count_by (λ b. b) rest ≤ most → AreChosen followed most later rest
    → AreChosen followed most ((mark, touch) ∷ later) (told ∷ rest)
chosen_more followed most mark touch later true true rest d e few c = (d.0 refl, c)
chosen_more followed most mark touch later true false rest d e few c =
    let past : most ≤ count_by (λ b. b) rest = ltb-false (count_by (λ b. b) rest) most (sym e) in (λ _. omega (arith, few, past), c)
chosen_more followed most mark touch later false true rest d e few c = absurd (false≢true (sym e))
chosen_more followed most mark touch later false false rest d e few c = (λ w. absurd (false≢true (d.1 w)), c)

-- an access of another item
pub others_wanted : (followed : Followed) (mark : Mark) (touch : Touch) (later : List (Mark × Option Touch)) (found : Bool) → is_theirs followed mark.event ≡ false → Decides found (IsGiven followed touch later)
    → Decides found (IsWanted followed mark (Some touch) later)
others_wanted followed mark touch later found other d = (λ t. inr (d.0 t), back)
  where
    back : IsWanted followed mark (Some touch) later → found ≡ true
    back (inl theirs) = absurd (false≢true (sym other ∙ theirs))
    back (inr given) = d.1 given

few_more : (told wanted : Bool) (count most : ℕ) → told ≡ (wanted && nat_lt count most) → count ≤ most → count + cond told 1 0 ≤ most
few_more true wanted count most e few =
    let below : count < most = ltb-true count most (and_parts wanted (nat_lt count most) (sym e)).1 in omega (arith, below)
few_more false wanted count most e few = omega (arith, few)

-- the choice goes back over one event more
pub choice_more :
    (followed : Followed) (most : ℕ) (mark : Mark) (touch : Option Touch) (later : List (Mark × Option Touch)) (old new : Choice) (wanted told : Bool)
    → Decides wanted (IsWanted followed mark touch later) → told ≡ (wanted && nat_lt old.count most) → new.told.items ≡ old.told.items ++ told ∷ [] → new.count ≡ old.count + cond told 1 0
    → Holds new.awaited (IsAwaited followed ((mark, touch) ∷ later)) → IsChoice followed most later old → IsChoice followed most ((mark, touch) ∷ later) new
choice_more followed most mark touch later old new wanted told d e pushed counted held h =
    let rest = reverse old.told.items in
    let back : reverse new.told.items ≡ told ∷ reverse old.told.items = ap reverse pushed ∙ reverse-append old.told.items (told ∷ []) in
    let cons : count_by (λ b. b) (told ∷ rest) ≡ cond told 1 0 + count_by (λ b. b) rest = sum_by-cons (λ b. cond b 1 0) told rest in
    let all : count_by (λ b. b) (reverse new.told.items) ≡ count_by (λ b. b) (told ∷ rest) = ap (λ (l : List Bool). count_by (λ b. b) l) back in
    let few : old.count + cond told 1 0 ≤ most = few_more told wanted old.count most e h.few in
    let still : count_by (λ b. b) rest ≤ most = subst (λ (k : ℕ). k ≤ most) h.counted h.few in
    record {
      holds = held;
      counted = omega (arith, counted, h.counted, cons, all);
      few = omega (arith, counted, few);
      chosen =
          subst (λ (l : List Bool). AreChosen followed most ((mark, touch) ∷ later) l) (sym back)
          (chosen_more followed most mark touch later wanted told rest d (e ∙ ap (λ (k : ℕ). wanted && nat_lt k most) h.counted) still h.chosen);
    }

known_wanted : (followed : Followed) (mark : Mark) (e : Event) (next : Option Touch) (later : List (Mark × Option Touch)) → mark.event ≡ e → IsWanted followed mark (access_of e next) later
    → is_known e (access_of e next) ≡ true
known_wanted followed mark (event.Release group) next later same w = refl
known_wanted followed mark (event.Item item) None later same w = absurd (false≢true (sym (ap (λ (e : Event). frees_them followed e) same) ∙ w))
known_wanted followed mark (event.Item item) (Some touch) later same w = refl

-- each event that is told has a step
pub known_chosen : (followed : Followed) (most n : ℕ) (marks : List Mark) (touches : List Touch) (told : List Bool) → AreChosen followed most (events_made n marks touches) told
    → AreKnown (events_made n marks touches) told
known_chosen followed most n [] touches told c = tt
known_chosen followed most n (mark ∷ marks) touches [] c = tt
known_chosen followed most n (mark ∷ marks) touches (true ∷ told) c =
    let after = n + cond (is_access mark.event) 1 0 in
    (λ _. known_wanted followed mark mark.event (slice_get touches n) (events_made after marks touches) refl c.0, known_chosen followed most after marks touches told c.1)
known_chosen followed most n (mark ∷ marks) touches (false ∷ told) c =
    let after = n + cond (is_access mark.event) 1 0 in
    (λ e. absurd (false≢true e), known_chosen followed most after marks touches told c.1)

-- as many flags as events
pub chosen_length : (followed : Followed) (most n : ℕ) (marks : List Mark) (touches : List Touch) (told : List Bool) → AreChosen followed most (events_made n marks touches) told → length told ≡ length marks
chosen_length followed most n [] touches told c = ap length c
chosen_length followed most n (mark ∷ marks) touches [] c = absurd c
chosen_length followed most n (mark ∷ marks) touches (true ∷ told) c = ap suc (chosen_length followed most (n + cond (is_access mark.event) 1 0) marks touches told c.1)
chosen_length followed most n (mark ∷ marks) touches (false ∷ told) c = ap suc (chosen_length followed most (n + cond (is_access mark.event) 1 0) marks touches told c.1)

-- the flag of the next event, and those behind it
pub known_next : (marks : List Mark) (touches : List Touch) (told : List Bool) (n before after : ℕ) (mark : Mark) (is_told : Bool) → n < length marks → mark ≡ get_or marks n mark
    → n < length told → is_told ≡ get_or told n is_told → before + cond (is_access mark.event) 1 0 ≡ after → AreKnown (events_made before (drop n marks) touches) (drop n told)
    → (is_told ≡ true → is_known mark.event (access_of mark.event (slice_get touches before)) ≡ true) × AreKnown (events_made after (drop (n + 1) marks) touches) (drop (n + 1) told)
known_next marks touches told n before after mark is_told within here inside flag counted k =
    subst (λ (l : List Bool). AreKnown ((mark, access_of mark.event (slice_get touches before)) ∷ events_made after (drop (n + 1) marks) touches) l) (drop_next told n is_told inside flag)
    (subst (λ (l : List (Mark × Option Touch)). AreKnown l (drop n told)) (events_from marks touches n before after mark within here counted) k)
