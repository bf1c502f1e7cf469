-- The turns of one group: it does the same in a launch where the groups below have ended.
use Rattle.std.proofs.Common.{◌≡◌, ℕ, zero, suc, ◌/◌, ◌<◌, ◌≤◌, ◌⊎◌, Bool, true, false, not, ◌&&◌, ◌==◌, if◌then◌else◌, Option, None, Some, ℤ, refl, sym, ap, ◌∙◌, subst, inl, inr, arith, eq-eqb, div-mul-le_self, le_trans}
use Rattle.std.proofs.lemmas.Bool.{false≢true, not-false, cases_lt, and_parts, eqb-true, not-true}
use Rattle.std.proofs.lemmas.Nat.{le-div}
use Rattle.std.proofs.Math.Nat.{div-zero}
use Rattle.clmodel.specs.Cells.{size_of, reads, lowest_unset}
use Rattle.clmodel.specs.Launch.{Launch, group_of, region_of, kind_of}
use Rattle.clmodel.specs.Run.{State, next_action, byte_at, lowest, first_item, straggler, stop_of, both_stop}
use Rattle.clmodel.specs.Law.{Turn, Makes, Reports, Finishes, newest_conflict, conflict_turn, straggler_turn, group_turn, unended_turn, item_turn, access_turn, unset_turn, divergence, has_ended, turn, conflict_fault}
use Rattle.clmodel.specs.declared.access.Conflict as conflict_type
use Rattle.clmodel.specs.declared.access.Object.{Object}
use Rattle.clmodel.specs.declared.access.Operation.{Operation}
use Rattle.clmodel.specs.declared.action.Action.{Action}
use Rattle.clmodel.specs.declared.action.Action.TheVariants as action
use Rattle.clmodel.specs.declared.access.AccessKind.{AccessKind}
use Rattle.clmodel.specs.declared.access.Region.{Region}
use Rattle.clmodel.specs.declared.action.Stop.{Stop}
use Rattle.clmodel.specs.declared.action.Stop.TheVariants.{At, Ended}
use Rattle.clmodel.specs.declared.schedule.Event.{Event}
use Rattle.clmodel.specs.declared.schedule.Event.TheVariants.{Item, Release}
use Rattle.joining.proofs.Base.{event_group}
use Rattle.clmodel.proofs.Steps.{lowest_some, lowest_none, lowest_is_none, lowest_least, first_item_in, same_straggler, region_for}
use Rattle.clmodel.proofs.Turns.{makes_finishes, reports_makes, finishes_makes, makes_inj, item_goes, quiet_finishes}
use Rattle.joining.specs.Group.{Plan, IsGroup, going, turn_of}

-- ---- where items have ended

ended_stop : (a : Action) → has_ended a ≡ true → stop_of a ≡ Some Ended
ended_stop (action.Access object element operation) h = absurd (false≢true h)
ended_stop (action.Barrier instance fences) h = absurd (false≢true h)
ended_stop action.End h = refl
ended_stop (action.Fault cause) h = absurd (false≢true h)

-- an action at the stop of one that is the end is the end
ends_too : (a b : Action) → has_ended a ≡ true → both_stop (stop_of a) (stop_of b) ≡ true → has_ended b ≡ true
ends_too a (action.Access object element operation) h e = absurd (false≢true (ap (λ z. both_stop z None) (sym (ended_stop a h)) ∙ e))
ends_too a (action.Barrier instance fences) h e = absurd (false≢true (ap (λ z. both_stop z (Some (At instance))) (sym (ended_stop a h)) ∙ e))
ends_too a action.End h e = refl
ends_too a (action.Fault cause) h e = absurd (false≢true (ap (λ z. both_stop z None) (sym (ended_stop a h)) ∙ e))

stop_together : (a b : Action) → has_ended a ≡ true → has_ended b ≡ true → both_stop (stop_of a) (stop_of b) ≡ true
stop_together a b h e = ap (λ z. both_stop z (stop_of b)) (ended_stop a h) ∙ ap (both_stop (Some Ended)) (ended_stop b e)

-- what is of the group and no straggler is at the stop
no_straggler : (x y : Bool) → x ≡ true → (x && not y) ≡ false → y ≡ true
no_straggler true y e h = not-false y h
no_straggler false y e h = absurd (false≢true e)

pub gathered : (x y : Bool) → y ≡ true → (x && not y) ≡ false
gathered true y h = ap not h
gathered false y h = refl

-- a group whose items are all at one stop goes on where one of them hasn't ended
released : (p : Plan) (s : State) (item : ℕ) → item < p.launch.items → group_of p.launch item ≡ p.group
    → has_ended (next_action p.launch s item) ≡ false → straggler p.launch s p.group p.first ≡ None → has_ended (next_action p.launch s p.first) ≡ false
released p s item b mine goes none = go (has_ended (next_action p.launch s p.first)) refl
  where
    first_action : Action
    first_action = next_action p.launch s p.first

    together : both_stop (stop_of (next_action p.launch s p.first)) (stop_of (next_action p.launch s item)) ≡ true
    together =
        no_straggler (group_of p.launch item == p.group) _ (eq-eqb (group_of p.launch item) p.group mine)
        (lowest_none (λ k. (group_of p.launch k == p.group) && not (both_stop (stop_of (next_action p.launch s p.first)) (stop_of (next_action p.launch s k)))) p.launch.items none item b)

    go : (x : Bool) → has_ended (next_action p.launch s p.first) ≡ x → has_ended (next_action p.launch s p.first) ≡ false
    go false e = e
    go true e = absurd (false≢true (sym goes ∙ ends_too (next_action p.launch s p.first) (next_action p.launch s item) e together))

-- ---- the turn

-- the group of an item that hasn't ended goes on as the launch has it
straggles :
    (p : Plan) (s : State) (item : ℕ) → item < p.launch.items → group_of p.launch item ≡ p.group → has_ended (next_action p.launch s item) ≡ false
    → (o : Option ℕ) → straggler p.launch s p.group p.first ≡ o → straggler_turn p.launch s p.group p.first o ≡ going p s o
straggles p s item b mine goes None e =
    ap (λ (x : Bool). if x then Finishes else Makes (Release p.group)) (sym (released p s item b mine goes e))
straggles p s item b mine goes (Some k) e = refl

pub goes_on :
    (p : Plan) → IsGroup p → (s : State) (item : ℕ) → item < p.launch.items → group_of p.launch item ≡ p.group → has_ended (next_action p.launch s item) ≡ false
    → unended_turn p.launch s (Some item) ≡ going p s (straggler p.launch s p.group p.first)
goes_on p whole s item b mine goes =
    ap (λ g. group_turn p.launch s g (first_item p.launch g)) mine
    ∙ ap (group_turn p.launch s p.group) whole.leads
    ∙ straggles p s item b mine goes (straggler p.launch s p.group p.first) refl

-- a group whose items have all ended is over
pub group_is_over :
    (p : Plan) → IsGroup p → (s : State) → ((k : ℕ) → k < p.launch.items → group_of p.launch k ≡ p.group → has_ended (next_action p.launch s k) ≡ true)
    → going p s (straggler p.launch s p.group p.first) ≡ Finishes
group_is_over p whole s all =
    let lead : (p.first < p.launch.items) × (group_of p.launch p.first ≡ p.group) = first_item_in p.launch p.group p.first whole.leads in
    ap (going p s)
    (lowest_is_none (λ k. (group_of p.launch k == p.group) && not (both_stop (stop_of (next_action p.launch s p.first)) (stop_of (next_action p.launch s k)))) p.launch.items
    (λ k b. none_here k b (group_of p.launch k == p.group) refl (all p.first lead.0 lead.1)))
    ∙ ap (λ (x : Bool). if x then Finishes else Makes (Release p.group)) (all p.first lead.0 lead.1)
  where
    none_here : (k : ℕ) → k < p.launch.items → (x : Bool) → (group_of p.launch k == p.group) ≡ x → has_ended (next_action p.launch s p.first) ≡ true
        → (x && not (both_stop (stop_of (next_action p.launch s p.first)) (stop_of (next_action p.launch s k)))) ≡ false
    none_here k b false e first = refl
    none_here k b true e first =
        ap not (stop_together (next_action p.launch s p.first) (next_action p.launch s k) first (all k b (eqb-true (group_of p.launch k) p.group e)))

-- a group does the same in two states where its items have the same answers, and its regions the same unset bytes
pub record Same (l : Launch) (g : ℕ) (b s : State) : Type 0 where
  pub answers : (i : ℕ) → group_of l i ≡ g → s.answers i ≡ b.answers i
  pub unset : (object : Object) (first count : ℕ) → lowest_unset (s.memory (region_of g object)) first count ≡ lowest_unset (b.memory (region_of g object)) first count

same_acts : (l : Launch) (g : ℕ) (b s : State) → Same l g b s → (i : ℕ) → group_of l i ≡ g → next_action l s i ≡ next_action l b i
same_acts l g b s k i mine = ap (l.next i) (k.answers i mine)

access_same : (l : Launch) (g : ℕ) (b s : State) → Same l g b s → (item : ℕ) → group_of l item ≡ g → (object : Object) (element : ℤ) (op : Operation) (o : Option ℕ)
    → access_turn l s item object element op o ≡ access_turn l b item object element op o
access_same l g b s k item mine object element op None = refl
access_same l g b s k item mine object element op (Some first) =
    ap (λ o. unset_turn l item (kind_of op) (region_for l item object) (if reads op then o else None))
    (subst (λ z. lowest_unset (s.memory (region_of z object)) first (size_of op) ≡ lowest_unset (b.memory (region_of z object)) first (size_of op)) (sym mine)
    (k.unset object first (size_of op)))

item_same : (l : Launch) (g : ℕ) (b s : State) → Same l g b s → (first item : ℕ) → group_of l first ≡ g → group_of l item ≡ g → (a : Action)
    → item_turn l s first item a ≡ item_turn l b first item a
item_same l g b s k first item lead mine (action.Access object element op) = access_same l g b s k item mine object element op (byte_at l item object element op)
item_same l g b s k first item lead mine (action.Barrier i f) = ap (λ a. divergence first (stop_of a) item (At i)) (same_acts l g b s k first lead)
item_same l g b s k first item lead mine action.End = ap (λ a. divergence first (stop_of a) item Ended) (same_acts l g b s k first lead)
item_same l g b s k first item lead mine (action.Fault c) = refl

going_same : (p : Plan) → IsGroup p → (b s : State) → Same p.launch p.group b s → (o : Option ℕ) → straggler p.launch b p.group p.first ≡ o → going p s o ≡ going p b o
going_same p whole b s k None is =
    let lead : (p.first < p.launch.items) × (group_of p.launch p.first ≡ p.group) = first_item_in p.launch p.group p.first whole.leads in
    ap (λ a. if has_ended a then Finishes else Makes (Release p.group)) (same_acts p.launch p.group b s k p.first lead.1)
going_same p whole b s k (Some item) is =
    let lead : (p.first < p.launch.items) × (group_of p.launch p.first ≡ p.group) = first_item_in p.launch p.group p.first whole.leads in
    let q : (item < p.launch.items) × (((group_of p.launch item == p.group) && not (both_stop (stop_of (next_action p.launch b p.first)) (stop_of (next_action p.launch b item)))) ≡ true)
    = lowest_some (λ k. (group_of p.launch k == p.group) && not (both_stop (stop_of (next_action p.launch b p.first)) (stop_of (next_action p.launch b k)))) p.launch.items item is in
    let mine : group_of p.launch item ≡ p.group = eqb-true (group_of p.launch item) p.group (and_parts (group_of p.launch item == p.group) _ q.1).0 in
    item_same p.launch p.group b s k p.first item lead.1 mine (next_action p.launch s item) ∙ ap (item_turn p.launch b p.first item) (same_acts p.launch p.group b s k item mine)

goes_same : (p : Plan) → IsGroup p → (b s : State) → Same p.launch p.group b s
    → going p s (straggler p.launch s p.group p.first) ≡ going p b (straggler p.launch b p.group p.first)
goes_same p whole b s k =
    let lead : (p.first < p.launch.items) × (group_of p.launch p.first ≡ p.group) = first_item_in p.launch p.group p.first whole.leads in
    ap (going p s) (same_straggler p.launch b s p.group p.first lead.0 lead.1 (λ i inside mine. same_acts p.launch p.group b s k i mine))
    ∙ going_same p whole b s k (straggler p.launch b p.group p.first) refl

-- all items of the groups below one have ended
abbrev pub EndedBelow : Launch → ℕ → State → Type 0
EndedBelow l g s = (i : ℕ) → i < l.items → group_of l i < g → has_ended (next_action l s i) ≡ true

group_rises : (l : Launch) (i j : ℕ) → i ≤ j → group_of l i ≤ group_of l j
group_rises l i j h = go l.group_size
  where
    go : (k : ℕ) → i / k ≤ j / k
    go zero = omega (arith, div-zero i, div-zero j)
    go (suc k) = le-div (i / suc k) j (suc k) (omega arith) (le_trans (div-mul-le_self i (suc k)) h)

not_below : (a b : ℕ) → (a < b → ⊥) → b ≤ a
not_below a b h = go (cases_lt a b)
  where
    go : (a < b) ⊎ (b ≤ a) → b ≤ a
    go (inl e) = absurd (h e)
    go (inr e) = e

-- the lowest item that hasn't ended is of the group
unended_at : (p : Plan) → IsGroup p → (s : State) → EndedBelow p.launch p.group s → (j : ℕ) → j < p.launch.items → group_of p.launch j ≡ p.group → has_ended (next_action p.launch s j) ≡ false
    → (o : Option ℕ) → lowest (λ item. not (has_ended (next_action p.launch s item))) p.launch.items ≡ o
    → unended_turn p.launch s o ≡ going p s (straggler p.launch s p.group p.first)
unended_at p whole s below j inside mine goes None is =
    absurd (false≢true (sym (lowest_none (λ item. not (has_ended (next_action p.launch s item))) p.launch.items is j inside) ∙ ap not goes))
unended_at p whole s below j inside mine goes (Some i) is =
    let q : (i < p.launch.items) × (not (has_ended (next_action p.launch s i)) ≡ true) = lowest_some (λ item. not (has_ended (next_action p.launch s item))) p.launch.items i is in
    let order : i ≤ j = not_below j i (λ b. false≢true (sym (lowest_least (λ item. not (has_ended (next_action p.launch s item))) p.launch.items i is j b) ∙ ap not goes)) in
    let least : group_of p.launch i ≤ p.group = subst (λ z. group_of p.launch i ≤ z) mine (group_rises p.launch i j order) in
    let high : p.group ≤ group_of p.launch i = not_below (group_of p.launch i) p.group (λ b. false≢true (sym (not-true _ q.1) ∙ below i q.0 b)) in
    goes_on p whole s i q.0 (omega (arith, least, high)) (not-true (has_ended (next_action p.launch s i)) q.1)

-- the turn of the launch is that of the group, where the lower groups have ended
by_item : (p : Plan) → IsGroup p → (b s : State) → Same p.launch p.group b s → EndedBelow p.launch p.group s
    → (o : Option ℕ) → lowest (λ item. (group_of p.launch item == p.group) && not (has_ended (next_action p.launch b item))) p.launch.items ≡ o
    → (t : Turn) → going p b (straggler p.launch b p.group p.first) ≡ t → (t ≡ Finishes → ⊥)
    → unended_turn p.launch s (lowest (λ item. not (has_ended (next_action p.launch s item))) p.launch.items) ≡ t
by_item p whole b s k below None is t h ne =
    absurd (ne (sym h ∙ group_is_over p whole b (λ i inside mine. over i (group_of p.launch i == p.group) (eq-eqb (group_of p.launch i) p.group mine)
    (lowest_none (λ item. (group_of p.launch item == p.group) && not (has_ended (next_action p.launch b item))) p.launch.items is i inside))))
  where
    over : (i : ℕ) (x : Bool) → x ≡ true → (x && not (has_ended (next_action p.launch b i))) ≡ false → has_ended (next_action p.launch b i) ≡ true
    over i true e h = not-false (has_ended (next_action p.launch b i)) h
    over i false e h = absurd (false≢true e)
by_item p whole b s k below (Some j) is t h ne =
    let q : (j < p.launch.items) × (((group_of p.launch j == p.group) && not (has_ended (next_action p.launch b j))) ≡ true)
    = lowest_some (λ item. (group_of p.launch item == p.group) && not (has_ended (next_action p.launch b item))) p.launch.items j is in
    let r : ((group_of p.launch j == p.group) ≡ true) × (not (has_ended (next_action p.launch b j)) ≡ true) = and_parts (group_of p.launch j == p.group) _ q.1 in
    let mine : group_of p.launch j ≡ p.group = eqb-true (group_of p.launch j) p.group r.0 in
    unended_at p whole s below j q.0 mine (ap has_ended (same_acts p.launch p.group b s k j mine) ∙ not-true (has_ended (next_action p.launch b j)) r.1)
    (lowest (λ item. not (has_ended (next_action p.launch s item))) p.launch.items) refl
    ∙ goes_same p whole b s k ∙ h

by_conflict : (l : Launch) (o : Option conflict_type.Conflict) (t u v : Turn) → conflict_turn l o u ≡ v → (v ≡ Finishes → ⊥) → (u ≡ v → t ≡ v) → conflict_turn l o t ≡ v
by_conflict l None t u v h ne f = f h
by_conflict l (Some c) t u v h ne f = h

pub turn_over : (p : Plan) → IsGroup p → (b s : State) → Same p.launch p.group b s → EndedBelow p.launch p.group s → newest_conflict p.launch s.log ≡ newest_conflict p.launch b.log
    → (t : Turn) → turn_of p b ≡ t → (t ≡ Finishes → ⊥) → turn p.launch s ≡ t
unfolding turn
turn_over p whole b s k below newest t h ne =
    ap (λ o. conflict_turn p.launch o (unended_turn p.launch s (lowest (λ item. not (has_ended (next_action p.launch s item))) p.launch.items))) newest
    ∙ by_conflict p.launch (newest_conflict p.launch b.log) _ (going p b (straggler p.launch b p.group p.first)) t h ne
    (λ e. by_item p whole b s k below (lowest (λ item. (group_of p.launch item == p.group) && not (has_ended (next_action p.launch b item))) p.launch.items) refl t e ne)

-- ---- an event that a group's turn makes is the group's

unset_own : (l : Launch) (item : ℕ) (kind : AccessKind) (r : Region) (e : Event) (o : Option ℕ) → unset_turn l item kind r o ≡ Makes e → event_group l e ≡ group_of l item
unset_own l item kind r e (Some byte) h = absurd (reports_makes _ e h)
unset_own l item kind r e None h = ap (event_group l) (sym (makes_inj (Item item) e h))

access_own : (l : Launch) (s : State) (item : ℕ) (object : Object) (element : ℤ) (op : Operation) (e : Event) (o : Option ℕ)
    → access_turn l s item object element op o ≡ Makes e → event_group l e ≡ group_of l item
access_own l s item object element op e None h = absurd (reports_makes _ e h)
access_own l s item object element op e (Some first) h = unset_own l item (kind_of op) (region_for l item object) e _ h

divergence_own : (l : Launch) (first item : ℕ) (stop : Stop) (e : Event) (o : Option Stop) → divergence first o item stop ≡ Makes e → event_group l e ≡ group_of l item
divergence_own l first item stop e (Some a) h = absurd (reports_makes _ e h)
divergence_own l first item stop e None h = ap (event_group l) (sym (makes_inj (Item item) e h))

item_own : (l : Launch) (s : State) (first item : ℕ) (e : Event) (a : Action) → item_turn l s first item a ≡ Makes e → event_group l e ≡ group_of l item
item_own l s first item e (action.Access object element op) h = access_own l s item object element op e (byte_at l item object element op) h
item_own l s first item e (action.Barrier i f) h = divergence_own l first item (At i) e (stop_of (next_action l s first)) h
item_own l s first item e action.End h = divergence_own l first item Ended e (stop_of (next_action l s first)) h
item_own l s first item e (action.Fault c) h = absurd (reports_makes _ e h)

release_own : (l : Launch) (g : ℕ) (e : Event) (b : Bool) → (if b then Finishes else Makes (Release g)) ≡ Makes e → event_group l e ≡ g
release_own l g e true h = absurd (finishes_makes e h)
release_own l g e false h = ap (event_group l) (sym (makes_inj (Release g) e h))

going_own : (p : Plan) (s : State) (e : Event) (o : Option ℕ) → straggler p.launch s p.group p.first ≡ o → going p s o ≡ Makes e → event_group p.launch e ≡ p.group
going_own p s e None is h = release_own p.launch p.group e (has_ended (next_action p.launch s p.first)) h
going_own p s e (Some item) is h =
    let q : (item < p.launch.items) × (((group_of p.launch item == p.group) && not (both_stop (stop_of (next_action p.launch s p.first)) (stop_of (next_action p.launch s item)))) ≡ true)
    = lowest_some (λ k. (group_of p.launch k == p.group) && not (both_stop (stop_of (next_action p.launch s p.first)) (stop_of (next_action p.launch s k)))) p.launch.items item is in
    item_own p.launch s p.first item e (next_action p.launch s item) h ∙ eqb-true (group_of p.launch item) p.group (and_parts (group_of p.launch item == p.group) _ q.1).0

conflict_own : (l : Launch) (g : ℕ) (e : Event) (o : Option conflict_type.Conflict) (t : Turn) → (t ≡ Makes e → event_group l e ≡ g) → conflict_turn l o t ≡ Makes e → (o ≡ None) × (event_group l e ≡ g)
conflict_own l g e None t f h = (refl, f h)
conflict_own l g e (Some c) t f h = absurd (reports_makes _ e h)

pub event_own : (p : Plan) (s : State) (e : Event) → turn_of p s ≡ Makes e → (newest_conflict p.launch s.log ≡ None) × (event_group p.launch e ≡ p.group)
event_own p s e h = conflict_own p.launch p.group e (newest_conflict p.launch s.log) _ (going_own p s e (straggler p.launch s p.group p.first) refl) h

-- a group that finishes has ended, and its newest access has no conflict
finish_going : (p : Plan) → IsGroup p → (s : State) (o : Option ℕ) → straggler p.launch s p.group p.first ≡ o → going p s o ≡ Finishes
    → (i : ℕ) → i < p.launch.items → group_of p.launch i ≡ p.group → has_ended (next_action p.launch s i) ≡ true
finish_going p whole s None is h i inside mine =
    ends_too (next_action p.launch s p.first) (next_action p.launch s i) (if_finishes (has_ended (next_action p.launch s p.first)) h)
    (no_straggler (group_of p.launch i == p.group) _ (eq-eqb (group_of p.launch i) p.group mine)
    (lowest_none (λ k. (group_of p.launch k == p.group) && not (both_stop (stop_of (next_action p.launch s p.first)) (stop_of (next_action p.launch s k)))) p.launch.items is i inside))
  where
    if_finishes : (b : Bool) → (if b then Finishes else Makes (Release p.group)) ≡ Finishes → b ≡ true
    if_finishes true h = refl
    if_finishes false h = absurd (makes_finishes (Release p.group) h)
finish_going p whole s (Some item) is h i inside mine = absurd (item_goes p.launch s p.first item (next_action p.launch s item) h)

pub finish_parts : (p : Plan) → IsGroup p → (s : State) → turn_of p s ≡ Finishes
    → (newest_conflict p.launch s.log ≡ None) × ((i : ℕ) → i < p.launch.items → group_of p.launch i ≡ p.group → has_ended (next_action p.launch s i) ≡ true)
finish_parts p whole s h =
    let q : (newest_conflict p.launch s.log ≡ None) × (going p s (straggler p.launch s p.group p.first) ≡ Finishes) = quiet_finishes p.launch (newest_conflict p.launch s.log) _ h in
    (q.0, finish_going p whole s (straggler p.launch s p.group p.first) refl q.1)

none_unended : (l : Launch) (s : State) → ((i : ℕ) → i < l.items → has_ended (next_action l s i) ≡ true) → (o : Option ℕ) → lowest (λ item. not (has_ended (next_action l s item))) l.items ≡ o
    → unended_turn l s o ≡ Finishes
none_unended l s all None is = refl
none_unended l s all (Some i) is =
    let q : (i < l.items) × (not (has_ended (next_action l s i)) ≡ true) = lowest_some (λ item. not (has_ended (next_action l s item))) l.items i is in
    absurd (false≢true (sym (not-true _ q.1) ∙ all i q.0))

pub all_finish : (l : Launch) (s : State) → newest_conflict l s.log ≡ None → ((i : ℕ) → i < l.items → has_ended (next_action l s i) ≡ true) → turn l s ≡ Finishes
unfolding turn
all_finish l s newest all =
    ap (λ o. conflict_turn l o (unended_turn l s (lowest (λ item. not (has_ended (next_action l s item))) l.items))) newest
    ∙ none_unended l s all (lowest (λ item. not (has_ended (next_action l s item))) l.items) refl

-- a newest conflict is the report
pub newest_reports : (l : Launch) (s : State) (c : conflict_type.Conflict) → newest_conflict l s.log ≡ Some c → turn l s ≡ Reports (conflict_fault l c)
unfolding turn
newest_reports l s c h = ap (λ o. conflict_turn l o (unended_turn l s (lowest (λ item. not (has_ended (next_action l s item))) l.items))) h
