-- The turns of a group, and what its events leave as it was.
use Rattle.std.proofs.Common.{◌≡◌, ℕ, ◌+◌, ◌<◌, ◌≤◌, ◌^◌, ◌⊎◌, Bool, true, false, not, ◌&&◌, ◌==◌, if◌then◌else◌, ℤ, Option, None, Some, List, [], ◌∷◌, ◌++◌, length, refl, sym, ap, ◌∙◌, subst, inl, inr, arith, eqb-true, eq-eqb}
use Rattle.std.proofs.lemmas.Bool.{and_from, false≢true, cases_lt}
use Rattle.clmodel.specs.Launch.{Launch, group_of}
use Rattle.clmodel.specs.Run.{State, Events, step, next_action, straggler, stop_of, both_stop, same_stop, same_numbers}
use Rattle.clmodel.specs.Law.{Makes, Reports, Finishes, newest_conflict, conflict_turn, item_turn, divergence, has_ended, fault_of, IsBounded, answers_left}
use Rattle.clmodel.specs.declared.access.Object.{Object}
use Rattle.clmodel.specs.declared.access.Operation.{Operation}
use Rattle.clmodel.specs.declared.action.Action.{Action}
use Rattle.clmodel.specs.declared.action.Action.TheVariants as action
use Rattle.clmodel.specs.declared.action.Cause.{Cause}
use Rattle.clmodel.specs.declared.action.Instance.{Instance}
use Rattle.clmodel.specs.declared.action.Fences.{Fences}
use Rattle.clmodel.specs.declared.action.Stop.{Stop}
use Rattle.clmodel.specs.declared.action.Stop.TheVariants.{At, Ended}
use Rattle.clmodel.specs.declared.fault.Fault.{Fault}
use Rattle.clmodel.specs.declared.fault.Fault.TheVariants as fault
use Rattle.clmodel.specs.declared.schedule.Event.{Event}
use Rattle.clmodel.specs.declared.schedule.Event.TheVariants.{Item, Release}
use Rattle.clmodel.proofs.Steps.{none_some, some_inj, lowest_is_none, item_inverse, ReleaseStep, release_inverse, answers_other, same_action, found_first}
use Rattle.std.specs.Prelude.{Result, Ok, IfOk, Box}
use Rattle.std.specs.declared.alloc.Global.{Global}
use Rattle.clmodel.proofs.Ending.{step_less}
use Rattle.clmodel.proofs.Faultless.{same_numbers_self}
use Rattle.item_step.specs.BriefActions.{action_from}
use Rattle.item_step.specs.declared.brief_action.BriefAction.{BriefAction}
use Rattle.item_step.specs.declared.brief_action.BriefAction.TheVariants as brief
use Rattle.joining.specs.Group.{Plan, IsGroup, going, turn_of, RunsIn, Reached, Reported, IsRun}
use Rattle.joining.proofs.GroupTurns as group_turns
use Rattle.group_run.specs.Loops.{IsNextAccess, Steps, IsMade, AtOneStop, Gathers, IsLeading, GathersAt, GathersOrReports, IsBrief, IsGathered}
use Rattle.group_run.specs.declared.machine.Made.{Made}
use Rattle.group_run.specs.declared.machine.Made.TheVariants as made_as

-- ---- runs with one event more

pub runs_more :
    (p : Plan) (s : State) (events : Events) (t : State) (e : Event) (u : State) → RunsIn p s events t → turn_of p t ≡ Makes e → step p.launch t e ≡ Some u
    → RunsIn p s (events ++ e ∷ []) u
runs_more p s [] t e u h m q =
    (u, subst (λ z. turn_of p z ≡ Makes e) (sym h) m, subst (λ z. step p.launch z e ≡ Some u) (sym h) q, refl)
runs_more p s (f ∷ events) t e u h m q = (h.0, h.1, h.2, runs_more p h.0 events t e u h.3 m q)

-- each event leaves fewer answers to be given
runs_left :
    (p : Plan) (bound : ℕ) → IsBounded p.launch bound → (s : State) (events : Events) (t : State) → RunsIn p s events t
    → length events + answers_left p.launch bound t ≤ answers_left p.launch bound s
runs_left p bound b s [] t h = omega (arith, ap (answers_left p.launch bound) h)
runs_left p bound b s (e ∷ events) t h =
    omega (arith, step_less p.launch bound s e h.0 b h.2, runs_left p bound b h.0 events t h.3)

pub room : (p : Plan) (origin s t : State) (events : Events) (e : Event) → IsBrief p origin → RunsIn p origin events s → step p.launch s e ≡ Some t → length events + 1 < 2 ^ 64
room p origin s t events e brief h q =
    omega (arith, brief.2, runs_left p brief.0 brief.1 origin events s h, step_less p.launch brief.0 s e t brief.1 q)

-- ---- the item whose turn it is

-- where the group's first item stops, and where another of its items does
abbrev pub first_stop : Plan → State → Option Stop
first_stop p s = stop_of (next_action p.launch s p.first)

abbrev pub stop_at : Plan → State → ℕ → Option Stop
stop_at p s k = stop_of (next_action p.launch s (p.first + k))

straggles : Plan → State → ℕ → Bool
straggles p s item = (group_of p.launch item == p.group) && not (both_stop (first_stop p s) (stop_of (next_action p.launch s item)))

stays_behind : (x y : Bool) → x ≡ true → y ≡ false → (x && not y) ≡ true
stays_behind x y h e = ap (λ z. z && not y) h ∙ ap not e

-- an item below the first one that isn't at one stop, or of another group, doesn't straggle
keeps_up : (p : Plan) → IsGroup p → (s : State) (k item : ℕ) → AtOneStop p s k → item < p.launch.items → item < p.first + k → straggles p s item ≡ false
unfolding straggles
keeps_up p whole s k item gathered b l = at_group (group_of p.launch item == p.group) refl
  where
    at_group :
        (x : Bool) → (group_of p.launch item == p.group) ≡ x
        → ((group_of p.launch item == p.group) && not (both_stop (first_stop p s) (stop_of (next_action p.launch s item)))) ≡ false
    at_group false q = ap (λ z. z && not (both_stop (first_stop p s) (stop_of (next_action p.launch s item)))) q
    at_group true q =
        let w : (j : ℕ) × (j < p.count) × (p.first + j ≡ item) = whole.listed item b (eqb-true (group_of p.launch item) p.group q) in
        group_turns.gathered (group_of p.launch item == p.group) (both_stop (first_stop p s) (stop_of (next_action p.launch s item)))
        (subst (λ z. both_stop (first_stop p s) (stop_of (next_action p.launch s z)) ≡ true) w.2 (gathered w.0 (omega (arith, w.2, l))))

pub straggler_at :
    (p : Plan) → IsGroup p → (s : State) (k : ℕ) → k < p.count → AtOneStop p s k → both_stop (first_stop p s) (stop_at p s k) ≡ false
    → straggler p.launch s p.group p.first ≡ Some (p.first + k)
unfolding straggles
straggler_at p whole s k b gathered other =
    found_first (straggles p s) p.launch.items (p.first + k) (whole.inside k b)
    (stays_behind (group_of p.launch (p.first + k) == p.group) (both_stop (first_stop p s) (stop_at p s k)) (eq-eqb (group_of p.launch (p.first + k)) p.group (whole.mine k b)) other)
    (λ j l. keeps_up p whole s k j gathered (omega (arith, l, whole.inside k b)) l)

pub no_straggler : (p : Plan) → IsGroup p → (s : State) → AtOneStop p s p.count → straggler p.launch s p.group p.first ≡ None
unfolding straggles
no_straggler p whole s gathered = lowest_is_none (straggles p s) p.launch.items (λ j l. at_group j l (group_of p.launch j == p.group) refl)
  where
    at_group : (j : ℕ) → j < p.launch.items → (x : Bool) → (group_of p.launch j == p.group) ≡ x → straggles p s j ≡ false
    at_group j l false q = ap (λ z. z && not (both_stop (first_stop p s) (stop_of (next_action p.launch s j)))) q
    at_group j l true q =
        let w : (i : ℕ) × (i < p.count) × (p.first + i ≡ j) = whole.listed j l (eqb-true (group_of p.launch j) p.group q) in
        keeps_up p whole s p.count j gathered l (omega (arith, w.1, w.2))

-- ---- the turn of the group

turn_is : (p : Plan) (s : State) (o : Option ℕ) → newest_conflict p.launch s.log ≡ None → straggler p.launch s p.group p.first ≡ o → turn_of p s ≡ going p s o
turn_is p s o calm e = ap (λ c. conflict_turn p.launch c (going p s (straggler p.launch s p.group p.first))) calm ∙ ap (going p s) e

not_stopped : (a : Option Stop) → both_stop a None ≡ false
not_stopped None = refl
not_stopped (Some a) = refl

-- the turn of an item that is at no stop
unstopped :
    (p : Plan) → IsGroup p → (s : State) (k : ℕ) → k < p.count → AtOneStop p s k → newest_conflict p.launch s.log ≡ None → stop_at p s k ≡ None
    → turn_of p s ≡ item_turn p.launch s p.first (p.first + k) (next_action p.launch s (p.first + k))
unstopped p whole s k b gathered calm e =
    turn_is p s (Some (p.first + k)) calm (straggler_at p whole s k b gathered (ap (both_stop (first_stop p s)) e ∙ not_stopped (first_stop p s)))

-- an access leaves the actions of other items
action_other : (p : Plan) (s t : State) (i j : ℕ) → step p.launch s (Item i) ≡ Some t → (j ≡ i → ⊥) → next_action p.launch t j ≡ next_action p.launch s j
action_other p s t i j h ne = same_action p.launch s t j (answers_other p.launch s i t (item_inverse p.launch s i t h) j ne)

still : (p : Plan) (s t : State) (k : ℕ) → AtOneStop p s k → step p.launch s (Item (p.first + k)) ≡ Some t → AtOneStop p t k
still p s t k gathered h = λ j l.
    ap (λ a. both_stop (stop_of a) (stop_at p t j)) (action_other p s t (p.first + k) p.first h (λ e. absurd (omega (arith, e, l))))
    ∙ ap (λ a. both_stop (first_stop p s) (stop_of a)) (action_other p s t (p.first + k) (p.first + j) h (λ e. absurd (omega (arith, e, l))))
    ∙ gathered j l

-- nor does an item above the first one change where that one stops
leads_still : (p : Plan) (s t : State) (k : ℕ) (leading : Option Stop) → IsLeading p s k leading → step p.launch s (Item (p.first + k)) ≡ Some t → IsLeading p t k leading
leads_still p s t k None none h = none
leads_still p s t k (Some stop) some h = (some.0, ap stop_of (action_other p s t (p.first + k) p.first h (λ e. absurd (omega (arith, e, some.0)))) ∙ some.1)

-- ---- an access

abbrev pub made_room :
    (p : Plan) (origin s t : State) (events : Events) (item : ℕ) → IsBrief p origin → RunsIn p origin events s → Steps p s t item → length events + 1 < 2 ^ 64
made_room p origin s t events item brief runs made = room p origin s t events (Item item) brief runs made.steps

module _
    (p : Plan) (old new : Events → State → Type 0) (origin : State) (events : Events) (k : ℕ) (o : Object) (element : ℤ) (op : Operation) (m : Made) (g : Gathers p old origin events k)
    (asked : IsNextAccess p g.0.state (p.first + k) o element op) (told : ℤ) (same : told ≡ element) (made : IsMade p old new (p.first + k) (action.Access o told op) m) where
  as_made : (x : Made) → m ≡ x → IsMade p old new (p.first + k) (action.Access o element op) x
  as_made x e = subst (λ z. IsMade p old new (p.first + k) (action.Access o element op) z) e (subst (λ z. IsMade p old new (p.first + k) (action.Access o z op) m) same made)

  more : IsGroup p → k < p.count → (t : State) → Steps p g.0.state t (p.first + k) → RunsIn p origin (events ++ Item (p.first + k) ∷ []) t
  more whole b t steps =
      runs_more p origin events g.0.state (Item (p.first + k)) t g.0.runs (unstopped p whole g.0.state k b g.1 g.0.calm (ap stop_of asked) ∙ steps.makes) steps.steps

  pub made_done :
      m ≡ made_as.Done → IsGroup p → k < p.count → (leading : Option Stop) → IsLeading p g.0.state k leading → GathersAt p new origin (events ++ Item (p.first + k) ∷ []) k leading
  made_done e whole b leading leads =
      let w = as_made made_as.Done e events g.0.state g.0.holds asked in (
        (
          record {
            state = w.0;
            runs = more whole b w.0 w.1;
            holds = w.2;
            calm = w.3;
          },
          still p g.0.state w.0 k g.1 w.1.steps,
        ),
        leads_still p g.0.state w.0 k leading leads w.1.steps,
      )

  pub made_conflict : (f : Box Fault Global) → m ≡ made_as.Conflicts f → IsGroup p → k < p.count → Reported p new origin (events ++ Item (p.first + k) ∷ []) f.value
  made_conflict f e whole b =
      let w = as_made (made_as.Conflicts f) e events g.0.state g.0.holds asked in
      record {
        state = w.0;
        runs = more whole b w.0 w.2;
        holds = w.3;
        reports = ap (λ c. conflict_turn p.launch c (going p w.0 (straggler p.launch w.0 p.group p.first))) w.4 ∙ ap Reports w.5;
      }

  pub made_refused : (f : Box Fault Global) → m ≡ made_as.Refused f → IsGroup p → k < p.count → Reported p new origin events f.value
  made_refused f e whole b =
      let w = as_made (made_as.Refused f) e events g.0.state g.0.holds asked in
      record {
        state = g.0.state;
        runs = g.0.runs;
        holds = w.1;
        reports = unstopped p whole g.0.state k b g.1 g.0.calm (ap stop_of asked) ∙ w.0;
      }

  -- the events stay countable
  pub room_done : m ≡ made_as.Done → IsBrief p origin → length events + 1 < 2 ^ 64
  room_done e brief =
      let w = as_made made_as.Done e events g.0.state g.0.holds asked in
      made_room p origin g.0.state w.0 events (p.first + k) brief g.0.runs w.1

  pub room_conflict : (f : Box Fault Global) → m ≡ made_as.Conflicts f → IsBrief p origin → length events + 1 < 2 ^ 64
  room_conflict f e brief =
      let w = as_made (made_as.Conflicts f) e events g.0.state g.0.holds asked in
      made_room p origin g.0.state w.0 events (p.first + k) brief g.0.runs w.2

-- ---- a stop

pub both_some : (a b : Option Stop) → both_stop a b ≡ true → (x : Stop) × (a ≡ Some x)
both_some None b h = absurd (false≢true h)
both_some (Some x) b h = (x, refl)

abbrev pub gathered_stop : (p : Plan) → IsGroup p → (s : State) → AtOneStop p s p.count → (x : Stop) × (first_stop p s ≡ Some x)
gathered_stop p whole s gathered = both_some (first_stop p s) (stop_at p s 0) (gathered 0 whole.some)

pub joins :
    (p : Plan) (s : State) (k : ℕ) (x y : Stop) → AtOneStop p s k → first_stop p s ≡ Some x → stop_at p s k ≡ Some y → same_stop x y ≡ true → AtOneStop p s (k + 1)
joins p s k x y gathered f e same = λ j l. go j l (cases_lt j k)
  where
    here : both_stop (first_stop p s) (stop_at p s k) ≡ true
    here = ap (λ z. both_stop z (stop_at p s k)) f ∙ ap (both_stop (Some x)) e ∙ same

    go : (j : ℕ) → j < k + 1 → (j < k) ⊎ (k ≤ j) → both_stop (first_stop p s) (stop_at p s j) ≡ true
    go j l (inl a) = gathered j a
    go j l (inr a) = let i : k ≡ j = omega (arith, l, a) in subst (λ z. both_stop (first_stop p s) (stop_at p s z) ≡ true) i here

same_stop_self : (x : Stop) → same_stop x x ≡ true
same_stop_self (At a) = and_from (a.site == a.site) (same_numbers a.turns a.turns) (eq-eqb a.site a.site refl) (same_numbers_self a.turns)
same_stop_self Ended = refl

-- the first item is at its own stop
pub joins_first :
    (p : Plan) (s : State) (k : ℕ) (leading : Option Stop) (y : Stop) → ((x : Stop) → leading ≡ Some x → ⊥) → AtOneStop p s k → IsLeading p s k leading → stop_at p s k ≡ Some y
    → AtOneStop p s (k + 1) × IsLeading p s (k + 1) (Some y)
joins_first p s k (Some x) y other gathered some e = absurd (other x refl)
joins_first p s k None y other gathered none e =
    let first_is : p.first + k ≡ p.first = omega (arith, none) in
    let here : first_stop p s ≡ Some y = subst (λ z. stop_of (next_action p.launch s z) ≡ Some y) first_is e in
    (joins p s k y y gathered here e (same_stop_self y), (omega arith, here))

-- where the first item stops, as the code has kept it
pub leading_stop : (p : Plan) (s : State) (k : ℕ) (leading : Option Stop) (x : Stop) → leading ≡ Some x → IsLeading p s k leading → first_stop p s ≡ Some x
leading_stop p s k leading x is h = (subst (IsLeading p s k) is h).1

stop_turn :
    (l : Launch) (s : State) (first item : ℕ) (x y : Stop) (a : Action) → stop_of (next_action l s first) ≡ Some x → stop_of a ≡ Some y
    → item_turn l s first item a ≡ Reports (fault.Divergence first x item y)
stop_turn l s first item x y (action.Access o e op) f h = absurd (none_some y h)
stop_turn l s first item x y (action.Barrier i fences) f h =
    ap (λ z. divergence first z item (At i)) f ∙ ap (λ z. Reports (fault.Divergence first x item z)) (some_inj (At i) y h)
stop_turn l s first item x y action.End f h =
    ap (λ z. divergence first z item Ended) f ∙ ap (λ z. Reports (fault.Divergence first x item z)) (some_inj Ended y h)
stop_turn l s first item x y (action.Fault c) f h = absurd (none_some y h)

pub differs :
    (p : Plan) → IsGroup p → (s : State) (k : ℕ) (x y : Stop) → k < p.count → AtOneStop p s k → newest_conflict p.launch s.log ≡ None → first_stop p s ≡ Some x
    → stop_at p s k ≡ Some y → same_stop x y ≡ false → turn_of p s ≡ Reports (fault.Divergence p.first x (p.first + k) y)
differs p whole s k x y b gathered calm f e other =
    turn_is p s (Some (p.first + k)) calm
    (straggler_at p whole s k b gathered (ap (λ z. both_stop z (stop_at p s k)) f ∙ ap (both_stop (Some x)) e ∙ other))
    ∙ stop_turn p.launch s p.first (p.first + k) x y (next_action p.launch s (p.first + k)) f e

-- ---- a failure

pub fails :
    (p : Plan) → IsGroup p → (s : State) (k : ℕ) (c : Cause) → k < p.count → AtOneStop p s k → newest_conflict p.launch s.log ≡ None
    → next_action p.launch s (p.first + k) ≡ action.Fault c → turn_of p s ≡ Reports (fault_of p.launch (p.first + k) c)
fails p whole s k c b gathered calm e =
    unstopped p whole s k b gathered calm (ap stop_of e) ∙ ap (item_turn p.launch s p.first (p.first + k)) e

-- ---- the end of an interval

gathered_turn :
    (p : Plan) → IsGroup p → (s : State) → AtOneStop p s p.count → newest_conflict p.launch s.log ≡ None
    → turn_of p s ≡ (if has_ended (next_action p.launch s p.first) then Finishes else Makes (Release p.group))
gathered_turn p whole s gathered calm = turn_is p s None calm (no_straggler p whole s gathered)

ends : (a : Action) → stop_of a ≡ Some Ended → has_ended a ≡ true
ends (action.Access o e op) h = absurd (none_some Ended h)
ends (action.Barrier i fences) h = cc
ends action.End h = refl
ends (action.Fault c) h = absurd (none_some Ended h)

pub at_is : (i j : Instance) → At i ≡ At j → i ≡ j
at_is i j h = cc

pub ended_at : (i : Instance) → ◌≡◌ {A = Stop} Ended (At i) → ⊥
ended_at i h = cc

abbrev pub waits : (a : Action) (i : Instance) → stop_of a ≡ Some (At i) → (fences : Fences) × (a ≡ action.Barrier i fences)
waits (action.Access o e op) i h = absurd (none_some (At i) h)
waits (action.Barrier j fences) i h = (fences, ap (λ z. action.Barrier z fences) (at_is j i (some_inj (At j) (At i) h)))
waits action.End i h = absurd (ended_at i (some_inj Ended (At i) h))
waits (action.Fault c) i h = absurd (none_some (At i) h)

finishes :
    (p : Plan) → IsGroup p → (s : State) → AtOneStop p s p.count → newest_conflict p.launch s.log ≡ None → first_stop p s ≡ Some Ended → turn_of p s ≡ Finishes
finishes p whole s gathered calm e =
    gathered_turn p whole s gathered calm
    ∙ ap (λ (z : Bool). if z then Finishes else Makes (Release p.group)) (ends (next_action p.launch s p.first) e)

-- the group once it is released
pub released_on :
    (p : Plan) (new : Events → State → Type 0) (origin : State) (events : Events) (s n : State) (i : Instance) (fences : Fences) → IsGroup p → RunsIn p origin events s
    → newest_conflict p.launch s.log ≡ None → AtOneStop p s p.count → next_action p.launch s p.first ≡ action.Barrier i fences
    → step p.launch s (Release p.group) ≡ Some n → new (events ++ Release p.group ∷ []) n → Reached p new origin (events ++ Release p.group ∷ [])
released_on p new origin events s n i fences whole runs calm gathered waiting h holds =
    record {
      state = n;
      runs =
          runs_more p origin events s (Release p.group) n runs
          (gathered_turn p whole s gathered calm ∙ ap (λ a. if has_ended a then Finishes else Makes (Release p.group)) waiting) h;
      holds = holds;
      calm =
          let r : ReleaseStep p.launch s p.group n = release_inverse p.launch s p.group n h in
          subst (λ z. newest_conflict p.launch z.log ≡ None) r.gives calm;
    }

-- ---- the same by other plans, as the code has them

abbrev pub moved : (p : Plan) (old new : Events → State → Type 0) (origin : State) (events : Events) → ((es : Events) (s : State) → old es s → new es s) → Reached p old origin events → Reached p new origin events
moved p old new origin events f r =
    record {
      state = r.state;
      runs = r.runs;
      holds = f events r.state r.holds;
      calm = r.calm;
    }

pub advance_asks :
    (p q : Plan) (old new : Events → State → Type 0) (origin : State) (events : Events) (k : ℕ) (o : Object) (element : ℤ) (op : Operation) → q ≡ p → IsGroup p → k < p.count
    → IsBrief p origin → (g : Gathers p old origin events k) → ((es : Events) (s : State) → old es s → new es s) → IsNextAccess p g.0.state (p.first + k) o element op
    → IsGroup q × ((k < q.count) × (IsBrief q origin × ((g : Gathers q new origin events k) × IsNextAccess q g.0.state (q.first + k) o element op)))
advance_asks p q old new origin events k o element op e whole b brief g f a =
    subst (λ z. IsGroup z × ((k < z.count) × (IsBrief z origin × ((g : Gathers z new origin events k) × IsNextAccess z g.0.state (z.first + k) o element op)))) (sym e)
    (whole, (b, (brief, ((moved p old new origin events f g.0, g.1), a))))

pub stop_asks :
    (p q : Plan) (old new : Events → State → Type 0) (origin : State) (events : Events) (k : ℕ) (y : Stop) → q ≡ p → IsGroup p → k < p.count
    → (leading : Option Stop) → (g : GathersAt p old origin events k leading) → ((es : Events) (s : State) → old es s → new es s) → stop_at p g.0.0.state k ≡ Some y
    → IsGroup q × ((k < q.count) × ((g : GathersAt q new origin events k leading) × (stop_at q g.0.0.state k ≡ Some y)))
stop_asks p q old new origin events k y e whole b leading g f a =
    subst (λ z. IsGroup z × ((k < z.count) × ((g : GathersAt z new origin events k leading) × (stop_at z g.0.0.state k ≡ Some y)))) (sym e)
    (whole, (b, (((moved p old new origin events f g.0.0, g.0.1), g.1), a)))

pub item_asks :
    (p q : Plan) (fits : Events → State → Type 0) (origin : State) (events : Events) (k : ℕ) → q ≡ p → IsGroup p → k < p.count → IsBrief p origin
    → (leading : Option Stop) → GathersAt p fits origin events k leading → IsGroup q × ((k < q.count) × (IsBrief q origin × GathersAt q fits origin events k leading))
item_asks p q fits origin events k e whole b brief leading g =
    subst (λ z. IsGroup z × ((k < z.count) × (IsBrief z origin × GathersAt z fits origin events k leading))) (sym e) (whole, (b, (brief, g)))

pub interval_asks :
    (p q : Plan) (fits : Events → State → Type 0) (origin : State) (events : Events) → q ≡ p → IsGroup p → IsBrief p origin → Reached p fits origin events
    → IsGroup q × (IsBrief q origin × Reached q fits origin events)
interval_asks p q fits origin events e whole brief r =
    subst (λ z. IsGroup z × (IsBrief z origin × Reached z fits origin events)) (sym e) (whole, (brief, r))

-- an item's next action in a state that fits, as the code was told it by its plan and the turns of the item's loops
pub acting :
    {E : Type 0} (p q : Plan) (fits : Events → State → Type 0) {events : Events} (s : State) (k : ℕ) (turns : List ℕ) (a : BriefAction) {answer : Result BriefAction E} → q ≡ p → fits events s
    → answer ≡ Ok a → IfOk answer (λ x. (es : Events) (t : State) → fits es t → next_action q.launch t (q.first + k) ≡ action_from x turns)
    → next_action p.launch s (p.first + k) ≡ action_from a turns
acting p q fits {events} s k turns a e holds is value =
    subst (λ z. next_action z.launch s (z.first + k) ≡ action_from a turns) e
    (subst (λ r. IfOk r (λ x. (es : Events) (t : State) → fits es t → next_action q.launch t (q.first + k) ≡ action_from x turns)) is value events s holds)

abbrev pub IsWaiting : Plan → (Events → State → Type 0) → Fences → Type 0
IsWaiting p fits fences =
    (events : Events) × (s : State) × (instance : Instance) × (fits events s) × (straggler p.launch s p.group p.first ≡ None) × (next_action p.launch s p.first ≡ action.Barrier instance fences)

-- what a release leads to, as the code is told
abbrev pub Releases : Plan → (Events → State → Type 0) → (Events → State → Type 0) → Fences → Type 0
Releases p old new fences =
    (events : Events) (s : State) → old events s → straggler p.launch s p.group p.first ≡ None → (instance : Instance) → next_action p.launch s p.first ≡ action.Barrier instance fences
    → (n : State) × (step p.launch s (Release p.group) ≡ Some n) × new (events ++ Release p.group ∷ []) n

-- once the items were released: there is room for the event, and the run has gone on
pub record Released (p : Plan) (new : Events → State → Type 0) (origin : State) (events : Events) : Type 0 where
  pub roomy : length events + 1 < 2 ^ 64
  pub reached : Reached p new origin (events ++ Release p.group ∷ [])

-- the fault of an item, by the code's plan
pub told : (p q : Plan) (n k : ℕ) (c : Cause) → n ≡ q.first → q ≡ p → fault_of q.launch (n + k) c ≡ fault_of p.launch (p.first + k) c
told p q n k c h e = ap (λ z. fault_of q.launch (z + k) c) h ∙ ap (λ z. fault_of z.launch (z.first + k) c) e

-- what the code's loops have come to, by the first plan
pub advanced_on :
    (p q : Plan) (old asked new : Events → State → Type 0) (origin : State) (events more : Events) (k : ℕ) (leading : Option Stop) (o : Object) (element : ℤ) (op : Operation)
    (report : Option (Box Fault Global)) → q ≡ p → report ≡ None → (g : GathersAt p old origin events k leading) → ((es : Events) (s : State) → old es s → asked es s)
    → IsNextAccess p g.0.0.state (p.first + k) o element op
    → ((g : GathersAt q asked origin events k leading) → IsNextAccess q g.0.0.state (q.first + k) o element op → GathersOrReports q new origin more k leading report) → GathersAt p new origin more k leading
advanced_on p q old asked new origin events more k leading o element op report e is g f acts h =
    subst (λ z. GathersOrReports p new origin more k leading z) is
    (subst (λ z. (g : GathersAt z asked origin events k leading) → IsNextAccess z g.0.0.state (z.first + k) o element op → GathersOrReports z new origin more k leading report) e h
    ((moved p old asked origin events f g.0.0, g.0.1), g.1) acts)

-- and what it reports
pub reported_on :
    (p q : Plan) (old asked new : Events → State → Type 0) (origin : State) (events more : Events) (k : ℕ) (leading : Option Stop) (o : Object) (element : ℤ) (op : Operation)
    (report : Option (Box Fault Global)) (f : Box Fault Global) → q ≡ p → report ≡ Some f → (g : GathersAt p old origin events k leading) → ((es : Events) (s : State) → old es s → asked es s)
    → IsNextAccess p g.0.0.state (p.first + k) o element op
    → ((g : GathersAt q asked origin events k leading) → IsNextAccess q g.0.0.state (q.first + k) o element op → GathersOrReports q new origin more k leading report) → Reported p new origin more f.value
reported_on p q old asked new origin events more k leading o element op report f e is g moves acts h =
    subst (λ z. GathersOrReports p new origin more k leading z) is
    (subst (λ z. (g : GathersAt z asked origin events k leading) → IsNextAccess z g.0.0.state (z.first + k) o element op → GathersOrReports z new origin more k leading report) e h
    ((moved p old asked origin events moves g.0.0, g.0.1), g.1) acts)

pub item_ran_on :
    (p q : Plan) (fits : Events → State → Type 0) (origin : State) (events : Events) (count : ℕ) (leading : Option Stop) (report : Option (Box Fault Global)) → q ≡ p → report ≡ None
    → GathersOrReports q fits origin events count leading report → GathersAt p fits origin events count leading
item_ran_on p q fits origin events count leading report e is h =
    subst (λ z. GathersAt z fits origin events count leading) e (subst (λ z. GathersOrReports q fits origin events count leading z) is h)

gathered_on :
    (p q : Plan) (fits : Events → State → Type 0) (origin : State) (events : Events) (o : Option (Box Fault Global)) → q ≡ p → o ≡ None → IsGathered q fits origin events o
    → Gathers p fits origin events p.count
gathered_on p q fits origin events o e is h =
    subst (λ z. Gathers z fits origin events z.count) e (subst (λ z. IsGathered q fits origin events z) is h)

-- the first item's action, by the first plan
leading : (p q : Plan) (s : State) (x y : Action) → q ≡ p → next_action q.launch s (q.first + 0) ≡ x → x ≡ y → next_action p.launch s p.first ≡ y
leading p q s x y e h i =
    let first_is : p.first ≡ p.first + 0 = omega arith in ap (next_action p.launch s) first_is ∙ subst (λ z. next_action z.launch s (z.first + 0) ≡ x) e h ∙ i

-- an action at which all items are, and which is no barrier, is the end
over : (a : Action) → (x : Stop) → stop_of a ≡ Some x → ((i : Instance) (fences : Fences) → a ≡ action.Barrier i fences → ⊥) → stop_of a ≡ Some Ended
over (action.Access o element op) x h other = absurd (none_some x h)
over (action.Barrier i fences) x h other = absurd (other i fences refl)
over action.End x h other = refl
over (action.Fault c) x h other = absurd (none_some x h)

-- what an item does next is no barrier
pub no_barrier :
    (a : BriefAction) (turns : List ℕ) → ((site depth : ℕ) (fences : Fences) → a ≡ brief.Barrier site depth fences → ⊥) → (i : Instance) (fences : Fences)
    → action_from a turns ≡ action.Barrier i fences → ⊥
no_barrier (brief.Access object element operation) turns other i fences h = cc
no_barrier (brief.Barrier site depth fences) turns other i told h = other site depth fences refl
no_barrier brief.End turns other i fences h = cc
no_barrier (brief.Fault cause) turns other i fences h = cc

-- ---- an interval that is over

-- the group has gathered at one stop, and this is what its first item does next; the code has the plan as `q`
pub record AtEnd (p q : Plan) (fits : Events → State → Type 0) (origin : State) (events : Events) (act : Action) : Type 0 where
  pub gathers : Gathers p fits origin events p.count
  pub acts : next_action p.launch gathers.0.state p.first ≡ act
  pub same : q ≡ p

-- so it is where the code has asked the first item after an interval: it had the plan as `q1` before and as `q2` after
-- the interval
pub interval_ended :
    {p q1 q2 q : Plan} {old fits : Events → State → Type 0} {origin : State} {events : Events} {report : Option (Box Fault Global)} {act : Action} → q1 ≡ p → q2 ≡ q1 → q ≡ q2 → report ≡ None
    → IsGathered q1 old origin events report → ((es : Events) (s : State) → old es s → fits es s)
    → ((es : Events) (s : State) → old es s → next_action q2.launch s (q2.first + 0) ≡ act) → AtEnd p q fits origin events act
interval_ended {p} {q1} {q2} {q} {old} {fits} {origin} {events} {report} {act} before ran asked none gathered keeps acts =
    let g = gathered_on p q1 old origin events report before none gathered in
    record {
      gathers = (moved p old fits origin events keeps g.0, g.1);
      acts = leading p q2 g.0.state act act (ran ∙ before) (acts events g.0.state g.0.holds) refl;
      same = asked ∙ ran ∙ before;
    }

module _
    {p q : Plan} {fits : Events → State → Type 0} {origin : State} {events : Events} {act : Action} (whole : IsGroup p) (end : AtEnd p q fits origin events act) where
  abbrev there : State
  there = end.gathers.0.state

  -- the items are released where they wait at a barrier
  pub release_asks : (i : Instance) (fences : Fences) → act ≡ action.Barrier i fences → IsWaiting q fits fences
  release_asks i fences is =
      subst (λ z. IsWaiting z fits fences) (sym end.same) (events, there, i, end.gathers.0.holds, no_straggler p whole there end.gathers.1, end.acts ∙ is)

  pub after_release :
      (new : Events → State → Type 0) → IsBrief p origin → (i : Instance) (fences : Fences) → act ≡ action.Barrier i fences → Releases q fits new fences → Released p new origin events
  after_release new brief i fences is made =
      let m = subst (λ z. Releases z fits new fences) end.same made events there end.gathers.0.holds (no_straggler p whole there end.gathers.1) i (end.acts ∙ is) in
      record {
        roomy = room p origin there m.0 events (Release p.group) brief end.gathers.0.runs m.1;
        reached = released_on p new origin events there m.0 i fences whole end.gathers.0.runs end.gathers.0.calm end.gathers.1 (end.acts ∙ is) m.1 m.2;
      }

  -- where they wait at none, the run is over
  pub run_over : ((i : Instance) (fences : Fences) → act ≡ action.Barrier i fences → ⊥) → IsRun p fits origin events None
  run_over other =
      let w = gathered_stop p whole there end.gathers.1 in
      let ended = ap stop_of end.acts ∙ over act w.0 (sym (ap stop_of end.acts) ∙ w.1) other in
      (end.gathers.0, finishes p whole there end.gathers.1 end.gathers.0.calm ended)

-- what the code's loop knows once it has noted the release
pub record NotedRelease (p q : Plan) (new : Events → State → Type 0) (origin : State) (events : Events) : Type 0 where
  pub plan_same : q ≡ p
  pub reached : Reached p new origin events

pub goes_on :
    {p q : Plan} {new : Events → State → Type 0} {origin : State} {events pushed : Events} {group : ℕ} → Released p new origin events → q ≡ p → group ≡ q.group
    → pushed ≡ events ++ Release group ∷ [] → NotedRelease p q new origin pushed
goes_on {p} {q} {new} {origin} {events} r same named added = record {
  plan_same = same;
  reached = subst (Reached p new origin) (sym (added ∙ ap (λ n. events ++ Release n ∷ []) (named ∙ ap (λ z. z.group) same))) r.reached;
}
