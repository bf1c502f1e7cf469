-- How an ordered run goes on, group by group.
use Rattle.std.proofs.Common.{◌≡◌, ℕ, suc, ◌+◌, ◌*◌, ◌<◌, ◌≤◌, ◌^◌, Bool, true, false, Option, None, Some, List, [], ◌∷◌, ◌++◌, length, map-id, refl, sym, ap, ◌∙◌, subst, arith}
use Rattle.std.proofs.Math.Nat.{suc-mul, mul-le-mul_right}
use Rattle.std.proofs.lemmas.Bool.{false≢true}
use Rattle.std.proofs.lemmas.List.{length-append}
use Rattle.clmodel.specs.Launch.{Launch, group_of}
use Rattle.clmodel.specs.Run.{State, Events, Memory, start, step, next_action, released, same_stop, stop_of, both_stop, contents, left}
use Rattle.clmodel.specs.Law.{Makes, Reports, IsBounded, Reaches, answers_left, has_ended, conflict_turn}
use Rattle.clmodel.specs.declared.access.Region.TheVariants as region
use Rattle.clmodel.specs.declared.action.Action.{Action}
use Rattle.clmodel.specs.declared.action.Action.TheVariants as action
use Rattle.clmodel.specs.declared.action.Fences.{Fences}
use Rattle.clmodel.specs.declared.action.Instance.{Instance}
use Rattle.clmodel.specs.declared.action.Stop.{Stop}
use Rattle.clmodel.specs.declared.fault.Fault.{Fault}
use Rattle.clmodel.specs.declared.fault.Fault.TheVariants as fault
use Rattle.clmodel.specs.declared.schedule.Event.{Event}
use Rattle.clmodel.specs.declared.schedule.Event.TheVariants.{Item, Release}
use Rattle.clmodel.proofs.Ending.{step_less}
use Rattle.clmodel.proofs.Steps.{none_some, item_inverse, ReleaseStep, release_inverse, release_at, answers_other, answers_apart, same_action}
use Rattle.clmodel.proofs.Turns.{makes_finishes, reports_finishes}
use Rattle.joining.specs.Group.{Plan, IsGroup, plan_of}
use Rattle.joining.specs.Parts.{IsGrouped}
use Rattle.joining.proofs.Grouped.{group_is}
use Rattle.launches.specs.Groups.{IsRunnable}
use Rattle.launches.specs.Objects.{SpacesHold}
use Rattle.replay.specs.States.{IsPlayed}
use Rattle.group_run.specs.Loops.{AtOneStop, IsLeading}
use Rattle.group_run.proofs.Starting.{brief_is, contents_are}
use Rattle.group_run.proofs.Turns.{first_stop, gathered_stop, joins, joins_first, leading_stop, no_straggler}
use Rattle.ordered_runs.specs.Laws.{OrderedReportIsReached}
use Rattle.ordered_runs.specs.Ordered.{OrderedTo, RunsOrdered, OrderedIntoFault, newest_race, ordered_turn, is_order}
use Rattle.ordered_runs.proofs.Turns.{ordered_parts}
use Rattle.ordered_runs.proofs.Unlogged.{quiet_turn}
use Rattle.ordered_play.specs.Groups.{Reached, Gathers, GathersOrReports, Reported, ReachedOrReports, is_barrier}
use Rattle.ordered_play.specs.Stepping.{CannotGo, IsJudged, IsStepped, MakesAccess}
use Rattle.ordered_play.specs.declared.stepping.Stepped.{Stepped}
use Rattle.ordered_play.specs.declared.stepping.Stepped.TheVariants as stepped
use Rattle.ordered_play.proofs.Accesses.{played, unplayed}
use Rattle.ordered_play.proofs.Turns as turns

-- ---- one event more

ordered_more :
    (l : Launch) (s : State) (events : Events) (t : State) (e : Event) (u : State) → OrderedTo l s events t → ordered_turn l t ≡ Makes e → step l t e ≡ Some u
    → OrderedTo l s (events ++ e ∷ []) u
ordered_more l s [] t e u h m q =
    (u, subst (λ z. ordered_turn l z ≡ Makes e) (sym h) m, subst (λ z. step l z e ≡ Some u) (sym h) q, refl)
ordered_more l s (f ∷ events) t e u h m q = (h.0, h.1, h.2, ordered_more l h.0 events t e u h.3 m q)

ordered_left : (l : Launch) (bound : ℕ) → IsBounded l bound → (s : State) (events : Events) (t : State) → OrderedTo l s events t → length events + answers_left l bound t ≤ answers_left l bound s
ordered_left l bound b s [] t h = omega (arith, ap (answers_left l bound) h)
ordered_left l bound b s (e ∷ events) t h = omega (arith, step_less l bound s e h.0 b h.2, ordered_left l bound b h.0 events t h.3)

-- there is room for the number of one event more
room : (l : Launch) (s t : State) (events : Events) (e : Event) → IsRunnable l → OrderedTo l (start l) events s → step l s e ≡ Some t → length events + 1 < 2 ^ 64
room l s t events e ready h q =
    let brief = brief_is l 0 ready in
    omega (arith, brief.2, ordered_left l brief.0 brief.1 (start l) events s h, step_less l brief.0 s e t brief.1 q)

grouped : (l : Launch) → IsRunnable l → IsGrouped l
grouped l ready = record { some = ready.grouped; whole = ready.whole }

pub whole_is : (l : Launch) (g : ℕ) → IsRunnable l → g * l.group_size < l.items → IsGroup (plan_of l g)
whole_is l g ready there = group_is l g (grouped l ready) there

-- a list with one event more is one longer
pub pushed_longer : (events pushed : Events) (e : Event) → pushed ≡ events ++ e ∷ [] → length pushed ≡ length events + 1
pushed_longer events pushed e h = ap length h ∙ length-append events (e ∷ [])

-- ---- an item's turn

action_other : (l : Launch) (s t : State) (i j : ℕ) → step l s (Item i) ≡ Some t → (j ≡ i → ⊥) → next_action l t j ≡ next_action l s j
action_other l s t i j h ne = same_action l s t j (answers_other l s i t (item_inverse l s i t h) j ne)

module _
    (l : Launch) (g : ℕ) (fits new : State → Type 0) (events : Events) (k : ℕ) (leading : Option Stop) (ready : IsRunnable l) (there : g * l.group_size < l.items) (inside : k < l.group_size)
    (at : Gathers l g fits events k leading) where
  abbrev p : Plan
  p = plan_of l g

  abbrev s : State
  s = at.reached.state

  abbrev item : ℕ
  item = g * l.group_size + k

  whole : IsGroup (plan_of l g)
  whole = whole_is l g ready there

  goes : (t : State) → MakesAccess l s item t → ordered_turn l s ≡ Makes (Item item)
  goes t made =
      turns.item_goes l g whole s at.reached.calm at.reached.over k inside at.gathered made.goes (Makes (Item item)) (made.makes p.first) (λ q. makes_finishes _ q)

  longer : (t : State) → MakesAccess l s item t → OrderedTo l (start l) (events ++ Item item ∷ []) t
  longer t made = ordered_more l (start l) events s (Item item) t at.reached.runs (goes t made) made.steps

  pub roomy : (t : State) → MakesAccess l s item t → length events + 1 < 2 ^ 64
  roomy t made = room l s t events (Item item) ready at.reached.runs made.steps

  pub made_on : (t : State) → MakesAccess l s item t → newest_race l t.log ≡ None → new t → Gathers l g new (events ++ Item item ∷ []) k leading
  made_on t made calm holds =
      record {
        reached = record {
          state = t;
          runs = longer t made;
          calm = calm;
          over = λ i b low. ap has_ended (action_other l s t item i made.steps (λ e. absurd (other i e low))) ∙ at.reached.over i b low;
          holds = holds;
        };
        gathered = λ j b.
            ap (λ a. both_stop (stop_of a) (stop_of (next_action l t (p.first + j)))) (action_other l s t item p.first made.steps (λ e. absurd (omega (arith, e, b))))
            ∙ ap (λ a. both_stop (stop_of (next_action l s p.first)) (stop_of a)) (action_other l s t item (p.first + j) made.steps (λ e. absurd (omega (arith, e, b))))
            ∙ at.gathered j b;
        leads = leads leading at.leads;
      }
    where
      other : (i : ℕ) → i ≡ item → group_of l i < g → ⊥
      other i e low = let q : group_of l item ≡ g = whole.mine k inside in absurd (omega (arith, subst (λ z. group_of l z < g) e low, q))

      leads : (o : Option Stop) → IsLeading p s k o → IsLeading p t k o
      leads None none = none
      leads (Some stop) some = (some.0, ap stop_of (action_other l s t item p.first made.steps (λ e. absurd (omega (arith, e, some.0)))) ∙ some.1)

  pub raced_on : (t : State) (f : Fault) → MakesAccess l s item t → IsJudged l t (stepped.Races f) → new t → Reported l new (events ++ Item item ∷ []) f
  raced_on t f made race holds =
      record {
        state = t;
        runs = longer t made;
        reports = ordered_parts l t ∙ ap (λ o. conflict_turn l o (quiet_turn l t)) race.1 ∙ ap Reports race.2;
        holds = holds;
      }

  pub failed_on : (f : Fault) → CannotGo l s item f → new s → Reported l new events f
  failed_on f cannot holds =
      record {
        state = s;
        runs = at.reached.runs;
        reports = turns.item_goes l g whole s at.reached.calm at.reached.over k inside at.gathered cannot.goes (Reports f) (cannot.reports p.first) (λ q. reports_finishes _ q);
        holds = holds;
      }

  -- it waits: the first item's stop is kept, another's is compared with it
  pub stopped_on :
      (stop : Stop) (report : Option Fault) (after : Option Stop) → (leading ≡ None → (report ≡ None) × (after ≡ Some stop))
      → ((x : Stop) → leading ≡ Some x → same_stop x stop ≡ true → (report ≡ None) × (after ≡ Some x))
      → ((x : Stop) → leading ≡ Some x → same_stop x stop ≡ false → report ≡ Some (fault.Divergence p.first x item stop))
      → stop_of (next_action l s item) ≡ Some stop → new s → GathersOrReports l g new events (k + 1) after report
  stopped_on stop report after first same apart waits holds = by_leading leading refl
    where
      here : Reached l g new events
      here = record {
        state = s;
        runs = at.reached.runs;
        calm = at.reached.calm;
        over = at.reached.over;
        holds = holds;
      }

      gathers : (x : Stop) → AtOneStop p s (k + 1) → IsLeading p s (k + 1) (Some x) → report ≡ None → after ≡ Some x → GathersOrReports l g new events (k + 1) after report
      gathers x one leads none kept =
          subst (λ r. GathersOrReports l g new events (k + 1) after r) (sym none)
          (subst (λ o. Gathers l g new events (k + 1) o) (sym kept) (record { reached = here; gathered = one; leads = leads }))

      by_test : (x : Stop) → leading ≡ Some x → (b : Bool) → same_stop x stop ≡ b → GathersOrReports l g new events (k + 1) after report
      by_test x is true e =
          let leads : stop_of (next_action l s p.first) ≡ Some x = leading_stop p s k leading x is at.leads in
          let w : (report ≡ None) × (after ≡ Some x) = same x is e in
          gathers x (joins p s k x stop at.gathered leads waits e) (omega arith, leads) w.0 w.1
      by_test x is false e =
          let leads : stop_of (next_action l s p.first) ≡ Some x = leading_stop p s k leading x is at.leads in
          subst (λ r. GathersOrReports l g new events (k + 1) after r) (sym (apart x is e))
          (record {
            state = s;
            runs = at.reached.runs;
            reports = turns.item_differs l g whole s at.reached.calm at.reached.over k x stop inside at.gathered leads waits e;
            holds = holds;
          })

      by_leading : (o : Option Stop) → leading ≡ o → GathersOrReports l g new events (k + 1) after report
      by_leading None is =
          let w : (report ≡ None) × (after ≡ Some stop) = first is in
          let j = joins_first p s k leading stop (λ x e. none_some x (sym is ∙ e)) at.gathered at.leads waits in
          gathers stop j.0 j.1 w.0 w.1
      by_leading (Some x) is = by_test x is (same_stop x stop) refl

  -- ---- the same as the code has it, by the item's number

  pub made_room : (n : ℕ) (x : Stepped) → n ≡ item → x ≡ stepped.Made → IsStepped l s n new x → length events + 1 < 2 ^ 64
  made_room n x at_item is h =
      let w = subst (λ z. IsStepped l s item new z) is (subst (λ m. IsStepped l s m new x) at_item h) in
      roomy w.0 w.1

  pub made_step :
      (n : ℕ) (x : Stepped) (pushed : Events) → n ≡ item → x ≡ stepped.Made → IsStepped l s n new x → pushed ≡ events ++ Item n ∷ [] → Gathers l g new pushed k leading
  made_step n x pushed at_item is h e =
      let w = subst (λ z. IsStepped l s item new z) is (subst (λ m. IsStepped l s m new x) at_item h) in
      subst (λ z. Gathers l g new z k leading) (sym (e ∙ ap (λ m. events ++ Item m ∷ []) at_item)) (made_on w.0 w.1 w.2 w.3)

  pub raced_room : (n : ℕ) (x : Stepped) (f : Fault) → n ≡ item → x ≡ stepped.Races f → IsStepped l s n new x → length events + 1 < 2 ^ 64
  raced_room n x f at_item is h =
      let w = subst (λ z. IsStepped l s item new z) is (subst (λ m. IsStepped l s m new x) at_item h) in
      roomy w.0 w.1

  pub raced_step :
      (n : ℕ) (x : Stepped) (f : Fault) (pushed : Events) → n ≡ item → x ≡ stepped.Races f → IsStepped l s n new x → pushed ≡ events ++ Item n ∷ [] → Reported l new pushed f
  raced_step n x f pushed at_item is h e =
      let w = subst (λ z. IsStepped l s item new z) is (subst (λ m. IsStepped l s m new x) at_item h) in
      subst (λ z. Reported l new z f) (sym (e ∙ ap (λ m. events ++ Item m ∷ []) at_item)) (raced_on w.0 f w.1 w.2 w.3)

  pub failed_step : (n : ℕ) (x : Stepped) (f : Fault) → n ≡ item → x ≡ stepped.Fails f → IsStepped l s n new x → Reported l new events f
  failed_step n x f at_item is h =
      let w = subst (λ z. IsStepped l s item new z) is (subst (λ m. IsStepped l s m new x) at_item h) in
      failed_on f w.0 w.1

  pub stopped_step :
      (first n : ℕ) (x : Stepped) (stop : Stop) (report : Option Fault) (after : Option Stop) → first ≡ p.first → n ≡ item → x ≡ stepped.Stops stop → IsStepped l s n new x
      → (leading ≡ None → (report ≡ None) × (after ≡ Some stop))
      → ((y : Stop) → leading ≡ Some y → same_stop y stop ≡ true → (report ≡ None) × (after ≡ Some y))
      → ((y : Stop) → leading ≡ Some y → same_stop y stop ≡ false → report ≡ Some (fault.Divergence first y n stop))
      → GathersOrReports l g new events (k + 1) after report
  stopped_step first n x stop report after at_first at_item is h fresh same apart =
      let w = subst (λ z. IsStepped l s item new z) is (subst (λ m. IsStepped l s m new x) at_item h) in
      stopped_on stop report after fresh same
      (λ y e d. apart y e d ∙ ap (λ m. Some (fault.Divergence m y n stop)) at_first ∙ ap (λ m. Some (fault.Divergence p.first y m stop)) at_item)
      w.0 w.1

-- ---- a group

-- before its first item's turn
pub begins_group : (l : Launch) (g : ℕ) (fits : State → Type 0) (events : Events) → Reached l g fits events → Gathers l g fits events 0 None
begins_group l g fits events at = record { reached = at; gathered = λ j b. absurd (omega (arith, b)); leads = refl }

-- what an action is that is a barrier
barrier_is : (a : Action) → is_barrier a ≡ true → (i : Instance) × (fences : Fences) × (a ≡ action.Barrier i fences)
barrier_is (action.Access o element op) h = absurd (false≢true h)
barrier_is (action.Barrier i fences) h = (i, fences, refl)
barrier_is action.End h = absurd (false≢true h)
barrier_is (action.Fault c) h = absurd (false≢true h)

-- what an action is at which an item waits, and which is no barrier
is_end : (a : Action) (x : Stop) → stop_of a ≡ Some x → ((i : Instance) (fences : Fences) → a ≡ action.Barrier i fences → ⊥) → a ≡ action.End
is_end (action.Access o element op) x h other = absurd (none_some x h)
is_end (action.Barrier i fences) x h other = absurd (other i fences refl)
is_end action.End x h other = refl
is_end (action.Fault c) x h other = absurd (none_some x h)

module _
    (l : Launch) (g : ℕ) (fits : State → Type 0) (events : Events) (leading : Option Stop) (ready : IsRunnable l) (there : g * l.group_size < l.items)
    (at : Gathers l g fits events l.group_size leading) where
  abbrev q : Plan
  q = plan_of l g

  abbrev u : State
  u = at.reached.state

  entire : IsGroup (plan_of l g)
  entire = whole_is l g ready there

  released_to : (i : Instance) (fences : Fences) → next_action l u q.first ≡ action.Barrier i fences → step l u (Release g) ≡ Some (released l u g fences)
  released_to i fences acts = release_at l u g q.first i fences entire.leads (no_straggler q entire u at.gathered) acts

  -- its release is possible where its first item is at a barrier
  pub never_kept : (i : Instance) (fences : Fences) → next_action l u q.first ≡ action.Barrier i fences → step l u (Release g) ≡ None → ⊥
  never_kept i fences acts none = none_some _ (sym none ∙ released_to i fences acts)

  pub release_roomy : (t : State) → step l u (Release g) ≡ Some t → length events + 1 < 2 ^ 64
  release_roomy t h = room l u t events (Release g) ready at.reached.runs h

  pub released_on :
      (new : State → Type 0) (i : Instance) (fences : Fences) (t : State) → next_action l u q.first ≡ action.Barrier i fences → step l u (Release g) ≡ Some t → new t
      → Reached l g new (events ++ Release g ∷ [])
  released_on new i fences t acts h holds =
      let r : ReleaseStep l u g t = release_inverse l u g t h in
      record {
        state = t;
        runs = ordered_more l (start l) events u (Release g) t at.reached.runs (turns.group_waits l g entire u at.reached.calm at.reached.over i fences at.gathered acts) h;
        calm = subst (λ (z : State). newest_race l z.log ≡ None) r.gives at.reached.calm;
        over = λ k b low. ap has_ended (same_action l u t k (answers_apart l u g t r k (λ e. absurd (omega (arith, e, low))))) ∙ at.reached.over k b low;
        holds = holds;
      }

  -- else it is over
  pub over_on : (new : State → Type 0) → ((i : Instance) (fences : Fences) → next_action l u q.first ≡ action.Barrier i fences → ⊥) → new u → Reached l (g + 1) new events
  over_on new other holds =
      let w : (x : Stop) × (first_stop q u ≡ Some x) = gathered_stop q entire u at.gathered in
      record {
        state = u;
        runs = at.reached.runs;
        calm = at.reached.calm;
        over = turns.group_ends l g entire u at.reached.calm at.reached.over at.gathered (is_end (next_action l u q.first) w.0 w.1 other);
        holds = holds;
      }

  -- ---- the same as the code has it, by the number of the first item

  pub release_held : (first : ℕ) (waiting b : Bool) (new : State → Type 0) → first ≡ q.first → waiting ≡ true → is_barrier (next_action l u first) ≡ waiting → b ≡ false → IsPlayed l u (Release g) new b → ⊥
  release_held first waiting b new at_first is waits none h =
      let w = barrier_is (next_action l u first) (waits ∙ is) in
      never_kept w.0 w.1 (ap (next_action l u) (sym at_first) ∙ w.2) (unplayed l u (Release g) new b none h)

  pub release_room : (b : Bool) (new : State → Type 0) → b ≡ true → IsPlayed l u (Release g) new b → length events + 1 < 2 ^ 64
  release_room b new done h = let r = played l u (Release g) new b done h in release_roomy r.0 r.1

  pub release_step :
      (first : ℕ) (waiting b : Bool) (new : State → Type 0) (pushed : Events) → first ≡ q.first → waiting ≡ true → is_barrier (next_action l u first) ≡ waiting → b ≡ true → IsPlayed l u (Release g) new b
      → pushed ≡ events ++ Release g ∷ [] → Reached l g new pushed
  release_step first waiting b new pushed at_first is waits done h e =
      let w = barrier_is (next_action l u first) (waits ∙ is) in
      let r = played l u (Release g) new b done h in
      subst (λ z. Reached l g new z) (sym e) (released_on new w.0 w.1 r.0 (ap (next_action l u) (sym at_first) ∙ w.2) r.1 r.2)

  pub over_step : (first : ℕ) (waiting : Bool) (new : State → Type 0) → first ≡ q.first → waiting ≡ false → is_barrier (next_action l u first) ≡ waiting → new u → Reached l (g + 1) new events
  over_step first waiting new at_first is waits holds =
      over_on new (λ i fences acts. false≢true (sym (waits ∙ is) ∙ ap is_barrier (ap (next_action l u) at_first ∙ acts))) holds

-- ---- what is left

first_of : (n : ℕ) → n ≡ 0 + n
first_of n = omega arith

-- spaces that hold a memory's buffers have what it leaves in them
buffers_left : (l : Launch) (m : Memory) (xs : List (List (Option ℕ))) → SpacesHold (λ b. b) l (length l.buffers) region.Buffer xs m → contents m 0 l.buffers ≡ xs
buffers_left l m xs h =
    contents_are (λ b. b) m 0 l.buffers xs h.many (λ n x e. (h.sized n x e, h.cells n x e ∙ ap (λ j. m (region.Buffer j)) (first_of n))) ∙ map-id xs

-- ---- all groups

below : (a b c d size : ℕ) → b ≡ a + size → b ≤ c → c ≡ d → 0 < size → a < d
below a b c d size e h q p = omega (arith, e, h, q, p)

-- each group that is counted is there
pub there_is : (l : Launch) (groups g : ℕ) → IsRunnable l → groups * l.group_size ≡ l.items → g < groups → g * l.group_size < l.items
there_is l groups g ready counted b =
    let le : suc g ≤ groups = omega (arith, b) in
    below (g * l.group_size) (suc g * l.group_size) (groups * l.group_size) l.items l.group_size (suc-mul g l.group_size) (mul-le-mul_right l.group_size le) counted ready.grouped

-- before the first group
pub begins_launch : (l : Launch) (fits : State → Type 0) (events : Events) → events ≡ [] → fits (start l) → Reached l 0 fits events
begins_launch l fits events none holds =
    record {
      state = start l;
      runs = subst (λ z. OrderedTo l (start l) z (start l)) (sym none) refl;
      calm = refl;
      over = λ item b low. absurd (omega (arith, low));
      holds = holds;
    }

-- behind the last, where the buffers hold what the run leaves
pub ends_launch :
    (l : Launch) (groups : ℕ) (fits : State → Type 0) (events : Events) (report : Option Fault) (buffers : List (List (Option ℕ))) → IsRunnable l → groups * l.group_size ≡ l.items
    → ReachedOrReports l groups fits events report → report ≡ None → ((s : State) → fits s → SpacesHold (λ b. b) l (length l.buffers) region.Buffer buffers s.memory)
    → (end : State) × RunsOrdered l events end × (left l end ≡ buffers)
ends_launch l groups fits events report buffers ready counted h none holds =
    let at : Reached l groups fits events = subst (ReachedOrReports l groups fits events) none h in
    (at.state, (at.runs, turns.all_over l groups at.state ready.grouped counted at.calm at.over), buffers_left l at.state.memory buffers (holds at.state at.holds))

-- where it ends before, with a report
pub ends_reported :
    (l : Launch) (groups : ℕ) (fits : State → Type 0) (events : Events) (report : Option Fault) (f : Fault) → OrderedReportIsReached → ReachedOrReports l groups fits events report → report ≡ Some f
    → ((end : State) × OrderedIntoFault l events end f) × Reaches l events f × (is_order f ≡ false)
ends_reported l groups fits events report f law h some =
    let at : Reported l fits events f = subst (ReachedOrReports l groups fits events) some h in
    let w = law l events at.state f (at.runs, at.reports) in
    ((at.state, (at.runs, at.reports)), w.0, w.1)
