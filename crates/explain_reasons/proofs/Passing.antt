-- Barriers between two accesses, and what accesses leave.
use Rattle.std.proofs.Common.{◌≡◌, ◌<◌, ◌≤◌, ◌&&◌, ◌+◌, ℕ, if◌then◌else◌, below_more, min, max, nat_eq, nat_lt, Bool, true, false, Option, None, Some, List, count_by, length, slice_get, refl, sym, ap, ◌∙◌, subst, eqb-true, eq-eqb, arith}
use Rattle.std.specs.Bool.{Decides}
use Rattle.std.specs.Option.{IfNone, IfSome, option_map_or}
use Rattle.std.proofs.lemmas.Bool.{and_from, and_parts, false≢true, lt-ltb, ltb-true}
use Rattle.std.proofs.lemmas.Option.{slice_get_within}
use Rattle.clmodel.specs.declared.schedule.Event.{Event}
use Rattle.clmodel.specs.declared.schedule.Event.TheVariants as event
use Rattle.explain_items.specs.Deeds.{is_release_of}
use Rattle.explain_items.proofs.Counting.{passes_once, passes_within}
use Rattle.fault_play.specs.PlayedOut.{IsLastEvent, MadeAccess, is_access}
use Rattle.fault_play.specs.declared.marks.Mark.{Mark}
use Rattle.fault_play.specs.declared.played.Played.{Played}
use Rattle.replay.specs.declared.conflicts.Pair.{Pair}
use Rattle.explain_reasons.specs.Between.{IsBetween, IsLastBetween, IsRelease, LeaveOne, Leaves, PassesBetween, passes_at, releases_at}

none_some : {A : Type 0} (x : A) → None ≡ Some x → ⊥
none_some x e = cc

some_same : {A : Type 0} (x y : A) → Some x ≡ Some y → x ≡ y
some_same x y e = cc

last_before : (p : ℕ → Bool) (n : ℕ) (o : Option ℕ) → p n ≡ false → IsLastEvent p n o → IsLastEvent p (n + 1) o
last_before p n None h i = below_more (λ k. p k ≡ false) n i h
last_before p n (Some last) h i =
    (omega (arith, i.0), i.1, λ k a b. below_more (λ j. last < j → p j ≡ false) n (λ j x y. i.2 j y x) (λ _. h) k b a)

-- the last one, with one more
pub last_more : (p : ℕ → Bool) (n : ℕ) (b : Bool) (old new : Option ℕ) → b ≡ p n → new ≡ (if b then Some n else old) → IsLastEvent p n old → IsLastEvent p (n + 1) new
last_more p n true old new h e i = subst (IsLastEvent p (n + 1)) (sym e) (omega arith, sym h, λ k a b. absurd (omega arith))
last_more p n false old new h e i = subst (IsLastEvent p (n + 1)) (sym e) (last_before p n old (sym h) i)

-- one event made an access
made_once : (marks : List Mark) (access m n : ℕ) → MadeAccess marks access m → MadeAccess marks access n → m ≡ n
made_once marks access m n h k =
    passes_once (λ mark. is_access mark.event) marks m n h.mark k.mark h.at h.makes k.at k.makes (h.counted ∙ sym k.counted)

made_within : (marks : List Mark) (access n : ℕ) → MadeAccess marks access n → count_by (λ mark. is_access mark.event) marks ≤ access → ⊥
made_within marks access n h few =
    absurd (omega (arith, few, h.counted, passes_within (λ mark. is_access mark.event) marks n h.mark h.at h.makes))

release_is : (group : ℕ) (e : Event) → is_release_of group e ≡ true → e ≡ event.Release group
release_is group (event.Item item) h = absurd (false≢true h)
release_is group (event.Release other) h = ap event.Release (eqb-true other group h)

releasing : (marks : List Mark) (group number : ℕ) → releases_at marks group number ≡ true → IsRelease marks group number
releasing marks group number h = at (slice_get marks number) refl h
  where
    at : (o : Option Mark) → slice_get marks number ≡ o → option_map_or (λ mark. is_release_of group mark.event) o false ≡ true → IsRelease marks group number
    at None e h = absurd (false≢true h)
    at (Some mark) e h = record { mark = mark; at = e; is = release_is group mark.event h }

released : (marks : List Mark) (group number : ℕ) → IsRelease marks group number → releases_at marks group number ≡ true
released marks group number r =
    ap (λ o. option_map_or (λ mark. is_release_of group mark.event) o false) r.at ∙ ap (λ e. is_release_of group e) r.is ∙ eq-eqb group group refl

passing : (marks : List Mark) (group from to number : ℕ) → passes_at marks group from to number ≡ true → (from < number) × (number < to) × IsRelease marks group number
passing marks group from to number h =
    let first = and_parts (nat_lt from number) (nat_lt number to && releases_at marks group number) h in
    let second = and_parts (nat_lt number to) (releases_at marks group number) first.1 in
    (ltb-true from number first.0, ltb-true number to second.0, releasing marks group number second.1)

passed : (marks : List Mark) (group from to number : ℕ) → from < number → number < to → IsRelease marks group number → passes_at marks group from to number ≡ true
passed marks group from to number behind before r =
    and_from (nat_lt from number) (nat_lt number to && releases_at marks group number) (lt-ltb from number behind)
    (and_from (nat_lt number to) (releases_at marks group number) (lt-ltb number to before) (released marks group number r))

-- what is between two accesses passes, by the events that made them
between_passes :
    (marks : List Mark) (pair : Pair) (group from to number : ℕ) → MadeAccess marks (min pair.first pair.second) from → MadeAccess marks (max pair.first pair.second) to
    → IsBetween marks pair group number → passes_at marks group from to number ≡ true
between_passes marks pair group from to number first second b =
    let is_from : b.from ≡ from = made_once marks (min pair.first pair.second) b.from from b.first first in
    let is_to : b.to ≡ to = made_once marks (max pair.first pair.second) b.to to b.second second in
    passed marks group from to number (subst (λ (n : ℕ). n < number) is_from b.behind) (subst (λ (n : ℕ). number < n) is_to b.before) b.releases

release_within : (marks : List Mark) (group number : ℕ) → IsRelease marks group number → number < length marks
release_within marks group number r = slice_get_within marks number r.mark r.at

never : (marks : List Mark) (group from to number : ℕ) → passes_at marks group from to number ≡ true → passes_at marks group from to number ≡ false → ⊥
never marks group from to number h k = false≢true (sym k ∙ h)

-- the last one that passes is the last between the two
pub last_between :
    (marks : List Mark) (pair : Pair) (group from to : ℕ) (last : Option ℕ) → MadeAccess marks (min pair.first pair.second) from → MadeAccess marks (max pair.first pair.second) to
    → IsLastEvent (passes_at marks group from to) (length marks) last → IfSome last (IsLastBetween marks pair group)
last_between marks pair group from to None first second i = tt
last_between marks pair group from to (Some n) first second i =
    let p = passing marks group from to n i.1 in (
      record { from = from; to = to; first = first; second = second; behind = p.0; before = p.1; releases = p.2 },
      λ later behind b.
          never marks group from to later (between_passes marks pair group from to later first second b) (i.2 later behind (release_within marks group later b.releases)),
    )

pub none_between :
    (marks : List Mark) (pair : Pair) (group from to : ℕ) (last : Option ℕ) → MadeAccess marks (min pair.first pair.second) from → MadeAccess marks (max pair.first pair.second) to
    → IsLastEvent (passes_at marks group from to) (length marks) last → IfNone last ((number : ℕ) → IsBetween marks pair group number → ⊥)
none_between marks pair group from to None first second i =
    λ number b. never marks group from to number (between_passes marks pair group from to number first second b) (i number (release_within marks group number b.releases))
none_between marks pair group from to (Some n) first second i = tt

-- where one of the accesses was never made, nothing is between them
pub not_between : (marks : List Mark) (pair : Pair) (group access : ℕ) → access ≡ min pair.first pair.second → count_by (λ mark. is_access mark.event) marks ≤ access
    → (number : ℕ) → IsBetween marks pair group number → ⊥
not_between marks pair group access e few number b = made_within marks (min pair.first pair.second) b.from b.first (subst (λ (n : ℕ). count_by (λ mark. is_access mark.event) marks ≤ n) e few)

pub not_between_either : (marks : List Mark) (pair : Pair) (group access : ℕ) → access ≡ max pair.first pair.second → count_by (λ mark. is_access mark.event) marks ≤ access
    → (number : ℕ) → IsBetween marks pair group number → ⊥
not_between_either marks pair group access e few number b =
    made_within marks (max pair.first pair.second) b.to b.second (subst (λ (n : ℕ). count_by (λ mark. is_access mark.event) marks ≤ n) e few)

-- what an access leaves, by the event that made it
pub left_is : (marks : List Mark) (access number x : ℕ) (mark : Mark) → MadeAccess marks access number → slice_get marks number ≡ Some mark → Leaves marks access x → mark.left ≡ Some x
left_is marks access number x mark made at h =
    let same : h.number ≡ number = made_once marks access h.number number h.made made in
    let is : h.made.mark ≡ mark = some_same h.made.mark mark (sym h.made.at ∙ ap (λ n. slice_get marks n) same ∙ at) in
    ap (λ m. m.left) (sym is) ∙ h.leaves

pub left_of_it : (marks : List Mark) (access number x : ℕ) (mark : Mark) → MadeAccess marks access number → slice_get marks number ≡ Some mark → mark.left ≡ Some x → Leaves marks access x
left_of_it marks access number x mark made at leaves =
    let is : made.mark ≡ mark = some_same made.mark mark (sym made.at ∙ at) in
    record { number = number; made = made; leaves = ap (λ m. m.left) is ∙ leaves }

pub leaves_not : (marks : List Mark) (access x : ℕ) → count_by (λ mark. is_access mark.event) marks ≤ access → Leaves marks access x → ⊥
leaves_not marks access x few h = made_within marks access h.number h.made few

pub left_some : (marks : List Mark) (access number : ℕ) (mark : Mark) → MadeAccess marks access number → slice_get marks number ≡ Some mark → IfSome mark.left (Leaves marks access)
left_some marks access number mark made at = go mark.left refl
  where
    go : (o : Option ℕ) → mark.left ≡ o → IfSome o (Leaves marks access)
    go None e = tt
    go (Some x) e = left_of_it marks access number x mark made at e

pub left_never : (marks : List Mark) (access number x : ℕ) → MadeAccess marks access number → slice_get marks number ≡ None → ⊥
left_never marks access number x made gone = none_some made.mark (sym gone ∙ made.at)

-- two numbers that are left are one, or two
pub left_same :
    (marks : List Mark) (pair : Pair) (a b : Option ℕ) (left other : ℕ) → a ≡ Some left → b ≡ Some other → IfSome a (Leaves marks pair.first) → IfSome b (Leaves marks pair.second)
    → ((x : ℕ) → Leaves marks pair.first x → a ≡ Some x) → ((x : ℕ) → Leaves marks pair.second x → b ≡ Some x) → Decides (nat_eq left other) (LeaveOne marks pair)
left_same marks pair a b left other is_a is_b some_a some_b all_a all_b =
    let first : Leaves marks pair.first left = subst (λ (o : Option ℕ). IfSome o (Leaves marks pair.first)) is_a some_a in
    let second : Leaves marks pair.second other = subst (λ (o : Option ℕ). IfSome o (Leaves marks pair.second)) is_b some_b in (
      λ e. (left, first, subst (λ (x : ℕ). Leaves marks pair.second x) (sym (eqb-true left other e)) second),
      λ h.
          let one : left ≡ h.0 = some_same left h.0 (sym is_a ∙ all_a h.0 h.1) in
          let two : other ≡ h.0 = some_same other h.0 (sym is_b ∙ all_b h.0 h.2) in eq-eqb left other (one ∙ sym two),
    )

pub left_not : (marks : List Mark) (pair : Pair) → (LeaveOne marks pair → ⊥) → Decides false (LeaveOne marks pair)
left_not marks pair never = (λ e. absurd (false≢true e), λ h. absurd (never h))

pub not_known : (marks : List Mark) (access : ℕ) (a : Option ℕ) → a ≡ None → ((x : ℕ) → Leaves marks access x → a ≡ Some x) → (x : ℕ) → Leaves marks access x → ⊥
not_known marks access a is all x h = none_some x (sym is ∙ all x h)

-- what is between the two accesses of a pair is between those that conflict
pub none_passes :
    (played : Played) (pair : Pair) (group : ℕ) (marks : List Mark) (o : Option ℕ) → played.pair ≡ Some pair → marks ≡ played.marks.items
    → IfNone o ((number : ℕ) → IsBetween marks pair group number → ⊥) → IfNone o ((number : ℕ) → PassesBetween played group number → ⊥)
none_passes played pair group marks None known same none =
    λ number p.
    let is : p.pair ≡ pair = some_same p.pair pair (sym p.known ∙ known) in
    none number (subst (λ (m : List Mark). IsBetween m pair group number) (sym same) (subst (λ (q : Pair). IsBetween played.marks.items q group number) is p.between))
none_passes played pair group marks (Some n) known same none = tt
