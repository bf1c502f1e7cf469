-- A state without its log: its items do the same, and its events are possible and show the same faults but conflicts.
use Rattle.std.proofs.Common.{◌≡◌, ℕ, ◌==◌, ◌<◌, Bool, true, false, not, Option, None, Some, [], refl, sym, ◌∙◌, eq-eqb, ℤ}
use Rattle.std.proofs.lemmas.Bool.{false≢true, not-false}
use Rattle.clmodel.specs.Launch.{Launch, group_of}
use Rattle.clmodel.specs.Run.{State, next_action, byte_at, lowest, first_item, straggler, released, IsComplete}
use Rattle.clmodel.specs.Law.{Shows, Turn, Makes, Reports, Finishes, access_turn, item_turn, straggler_turn, group_turn, unended_turn, has_ended, turn, IsPossible}
use Rattle.clmodel.specs.declared.action.Action.{Action}
use Rattle.clmodel.specs.declared.action.Action.TheVariants as action
use Rattle.clmodel.specs.declared.access.Object.{Object}
use Rattle.clmodel.specs.declared.access.Operation.{Operation}
use Rattle.clmodel.specs.declared.fault.Fault.{Fault}
use Rattle.clmodel.specs.declared.fault.Fault.TheVariants as fault
use Rattle.clmodel.specs.declared.schedule.Event.{Event}
use Rattle.clmodel.specs.declared.schedule.Event.TheVariants.{Item, Release}
use Rattle.clmodel.proofs.Steps.{lowest_some, lowest_none, made, region_for, ItemStep, item_inverse, item_make, ReleaseStep, release_inverse, release_make}
use Rattle.clmodel.proofs.Turns.{makes_finishes, item_goes}
use Rattle.clmodel.proofs.Ending.{makes_possible}
use Rattle.clmodel.proofs.Reports.{report_shown}
use Rattle.ordered_runs.specs.Ordered.{is_order}

-- a state with an empty log
abbrev pub unlogged : State → State
unlogged s = record { memory = s.memory; answers = s.answers; log = []; local_interval = s.local_interval; global_interval = s.global_interval }

-- the items that haven't ended
abbrev pub unended : Launch → State → ℕ → Bool
unended l s item = not (has_ended (next_action l s item))

-- what the items do, by the turn of the lowest one that hasn't ended
abbrev pub quiet_turn : Launch → State → Turn
quiet_turn l s = unended_turn l s (lowest (λ item. not (has_ended (next_action l s item))) l.items)

-- ---- the turn asks nothing of the log

access_same : (l : Launch) (s : State) (i : ℕ) (object : Object) (element : ℤ) (operation : Operation) (o : Option ℕ) → access_turn l s i object element operation o ≡ access_turn l (unlogged s) i object element operation o
access_same l s i object element operation None = refl
access_same l s i object element operation (Some first) = refl

pub item_same : (l : Launch) (s : State) (first i : ℕ) (a : Action) → item_turn l s first i a ≡ item_turn l (unlogged s) first i a
item_same l s first i (action.Access object element operation) = access_same l s i object element operation (byte_at l i object element operation)
item_same l s first i (action.Barrier instance fences) = refl
item_same l s first i action.End = refl
item_same l s first i (action.Fault c) = refl

straggler_same : (l : Launch) (s : State) (group first : ℕ) (o : Option ℕ) → straggler_turn l s group first o ≡ straggler_turn l (unlogged s) group first o
straggler_same l s group first None = refl
straggler_same l s group first (Some i) = item_same l s first i (next_action l s i)

group_same : (l : Launch) (s : State) (group : ℕ) (o : Option ℕ) → group_turn l s group o ≡ group_turn l (unlogged s) group o
group_same l s group None = refl
group_same l s group (Some first) = straggler_same l s group first (straggler l s group first)

unended_same : (l : Launch) (s : State) (o : Option ℕ) → unended_turn l s o ≡ unended_turn l (unlogged s) o
unended_same l s None = refl
unended_same l s (Some i) = group_same l s (group_of l i) (first_item l (group_of l i))

pub turn_unlogged : (l : Launch) (s : State) → turn l (unlogged s) ≡ quiet_turn l s
unfolding turn
turn_unlogged l s = sym (unended_same l s (lowest (λ item. not (has_ended (next_action l s item))) l.items))

-- ---- an event that it makes is possible

pub possible_logged : (l : Launch) (s : State) (e : Event) → IsPossible l (unlogged s) e → IsPossible l s e
possible_logged l s (Item i) h =
    let p : ItemStep l (unlogged s) i h.0 = item_inverse l (unlogged s) i h.0 h.1 in
    let t : State = made l s i (region_for l i p.object) p.first p.operation p.value in
    let q : ItemStep l s i t
    = record {
      object = p.object;
      element = p.element;
      operation = p.operation;
      first = p.first;
      value = p.value;
      below = p.below;
      acts = p.acts;
      placed = p.placed;
      finds = p.finds;
      gives = refl;
    } in
    (t, item_make l s i t q)
possible_logged l s (Release g) h =
    let p : ReleaseStep l (unlogged s) g h.0 = release_inverse l (unlogged s) g h.0 h.1 in
    let t : State = released l s g p.fences in
    let q : ReleaseStep l s g t
    = record {
      first = p.first;
      instance = p.instance;
      fences = p.fences;
      leads = p.leads;
      gathered = p.gathered;
      acts = p.acts;
      gives = refl;
    } in
    (t, release_make l s g t q)

pub quiet_possible : (l : Launch) (s : State) (e : Event) → quiet_turn l s ≡ Makes e → IsPossible l s e
quiet_possible l s e h = possible_logged l s e (makes_possible l (unlogged s) e (turn_unlogged l s ∙ h))

-- ---- a fault that it shows is no conflict

shown_logged : (l : Launch) (s : State) (f : Fault) → Shows l (unlogged s) f → Shows l s f × (is_order f ≡ false)
shown_logged l s (fault.Conflict clash item kind other other_kind location byte) h = absurd h.2
shown_logged l s (fault.Divergence item stop other other_stop) h = (h, refl)
shown_logged l s (fault.Bounds item kind location element) h = (h, refl)
shown_logged l s (fault.Unset item kind location byte) h = (h, refl)
shown_logged l s (fault.PrivateBounds item array element) h = (h, refl)
shown_logged l s (fault.UnsetVariable item variable) h = (h, refl)
shown_logged l s (fault.UnsetElement item array element) h = (h, refl)
shown_logged l s (fault.DivideByZero item) h = (h, refl)
shown_logged l s (fault.DivideOverflow item) h = (h, refl)
shown_logged l s (fault.Budget item) h = (h, refl)

pub quiet_shown : (l : Launch) (s : State) (f : Fault) → quiet_turn l s ≡ Reports f → Shows l s f × (is_order f ≡ false)
quiet_shown l s f h = shown_logged l s f (report_shown l (unlogged s) f (turn_unlogged l s ∙ h))

-- ---- where it finishes, all items have ended

ended : (a : Action) → has_ended a ≡ true → a ≡ action.End
ended (action.Access o e op) h = absurd (false≢true h)
ended (action.Barrier x f) h = absurd (false≢true h)
ended action.End h = refl
ended (action.Fault c) h = absurd (false≢true h)

straggler_goes : (l : Launch) (s : State) (g first : ℕ) (o : Option ℕ) → straggler_turn l s g first o ≡ Finishes → ⊥
straggler_goes l s g first None h = makes_finishes (Release g) h
straggler_goes l s g first (Some i) h = item_goes l s first i (next_action l s i) h

group_goes : (l : Launch) (s : State) (i : ℕ) → i < l.items → (o : Option ℕ) → first_item l (group_of l i) ≡ o → group_turn l s (group_of l i) o ≡ Finishes → ⊥
group_goes l s i b None e h =
    false≢true (sym (lowest_none (λ k. group_of l k == group_of l i) l.items e i b) ∙ eq-eqb (group_of l i) (group_of l i) refl)
group_goes l s i b (Some first) e h = straggler_goes l s (group_of l i) first (straggler l s (group_of l i) first) h

pub quiet_complete : (l : Launch) (s : State) → quiet_turn l s ≡ Finishes → IsComplete l s
quiet_complete l s h = go (lowest (unended l s) l.items) refl h
  where
    go : (o : Option ℕ) → lowest (unended l s) l.items ≡ o → unended_turn l s o ≡ Finishes → IsComplete l s
    go None e f k b = ended (next_action l s k) (not-false (has_ended (next_action l s k)) (lowest_none (unended l s) l.items e k b))
    go (Some i) e f k b = absurd (group_goes l s i (lowest_some (unended l s) l.items i e).0 (first_item l (group_of l i)) refl f)
