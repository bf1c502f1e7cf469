-- Each group of a launch with a bound has a run.
use Rattle.std.proofs.Common.{◌≡◌, ℕ, zero, suc, ◌<◌, Bool, true, false, not, ◌&&◌, ◌==◌, Option, None, Some, [], ◌∷◌, refl, sym, ◌∙◌, arith, eq-eqb, eqb-true}
use Rattle.std.proofs.lemmas.Bool.{false≢true, not-false, and_parts, not-true}
use Rattle.clmodel.specs.Launch.{Launch, group_of}
use Rattle.clmodel.specs.Run.{State, Events, start, next_action, lowest, first_item, straggler}
use Rattle.clmodel.specs.Law.{Turn, Makes, Reports, Finishes, newest_conflict, conflict_turn, has_ended, IsBounded, IsPossible, answers_left}
use Rattle.clmodel.specs.declared.access.Conflict as conflict_type
use Rattle.clmodel.specs.declared.fault.Fault.{Fault}
use Rattle.clmodel.specs.declared.schedule.Event.{Event}
use Rattle.clmodel.proofs.Ending.{group_possible, step_less}
use Rattle.clmodel.proofs.Steps.{lowest_some, lowest_none}
use Rattle.clmodel.proofs.Turns.{reports_makes, finishes_makes}
use Rattle.joining.specs.Group.{Plan, IsGroup, going, plan_of, turn_of, RunsIn}
use Rattle.joining.specs.Parts.{ending, PartExists}
use Rattle.joining.proofs.Grouped.{group_is}
use Rattle.joining.proofs.GroupTurns.{goes_on, group_is_over}

-- an event is made where no conflict comes before
going_makes : (l : Launch) (o : Option conflict_type.Conflict) (t : Turn) (e : Event) → conflict_turn l o t ≡ Makes e → t ≡ Makes e
going_makes l None t e h = h
going_makes l (Some c) t e h = absurd (reports_makes _ e h)

-- an event that a group makes is possible
possible_by : (p : Plan) → IsGroup p → (s : State) (e : Event) → going p s (straggler p.launch s p.group p.first) ≡ Makes e
    → (o : Option ℕ) → lowest (λ item. (group_of p.launch item == p.group) && not (has_ended (next_action p.launch s item))) p.launch.items ≡ o → IsPossible p.launch s e
possible_by p whole s e h None is =
    absurd (finishes_makes e (sym (group_is_over p whole s (λ i inside mine. over i (group_of p.launch i == p.group) (eq-eqb (group_of p.launch i) p.group mine)
    (lowest_none (λ item. (group_of p.launch item == p.group) && not (has_ended (next_action p.launch s item))) p.launch.items is i inside))) ∙ h))
  where
    over : (i : ℕ) (x : Bool) → x ≡ true → (x && not (has_ended (next_action p.launch s i))) ≡ false → has_ended (next_action p.launch s i) ≡ true
    over i true e h = not-false (has_ended (next_action p.launch s i)) h
    over i false e h = absurd (false≢true e)
possible_by p whole s e h (Some i) is =
    let q : (i < p.launch.items) × (((group_of p.launch i == p.group) && not (has_ended (next_action p.launch s i))) ≡ true)
    = lowest_some (λ item. (group_of p.launch item == p.group) && not (has_ended (next_action p.launch s item))) p.launch.items i is in
    let r : ((group_of p.launch i == p.group) ≡ true) × (not (has_ended (next_action p.launch s i)) ≡ true) = and_parts (group_of p.launch i == p.group) _ q.1 in
    let mine : group_of p.launch i ≡ p.group = eqb-true (group_of p.launch i) p.group r.0 in
    let runs : has_ended (next_action p.launch s i) ≡ false = not-true (has_ended (next_action p.launch s i)) r.1 in
    group_possible p.launch s i e q.0 runs (first_item p.launch (group_of p.launch i)) refl (goes_on p whole s i q.0 mine runs ∙ h)

possible : (p : Plan) → IsGroup p → (s : State) (e : Event) → turn_of p s ≡ Makes e → IsPossible p.launch s e
possible p whole s e h =
    possible_by p whole s e (going_makes p.launch (newest_conflict p.launch s.log) (going p s (straggler p.launch s p.group p.first)) e h)
    (lowest (λ item. (group_of p.launch item == p.group) && not (has_ended (next_action p.launch s item))) p.launch.items) refl

-- how a group's run from a state ends
abbrev Ends : Plan → State → Type 0
Ends p s = (events : Events) × (end : State) × (stopped : Option Fault) × RunsIn p s events end × (turn_of p end ≡ ending stopped)

ends_from : (p : Plan) → IsGroup p → (bound : ℕ) → IsBounded p.launch bound → (n : ℕ) (s : State) → answers_left p.launch bound s < n → Ends p s
ends_from p whole bound h zero s lt = absurd (omega (arith, lt))
ends_from p whole bound h (suc n) s lt = go (turn_of p s) refl (ends_from p whole bound h n)
  where
    go : (t : Turn) → turn_of p s ≡ t → ((next : State) → answers_left p.launch bound next < n → Ends p next) → Ends p s
    go (Makes e) q rest =
        let w : IsPossible p.launch s e = possible p whole s e q in
        let m : answers_left p.launch bound w.0 < answers_left p.launch bound s = step_less p.launch bound s e w.0 h w.1 in
        let r : Ends p w.0 = rest w.0 (omega (arith, m, lt)) in
        (e ∷ r.0, r.1, r.2, (w.0, q, w.1, r.3), r.4)
    go (Reports f) q rest = ([], s, Some f, refl, q)
    go Finishes q rest = ([], s, None, refl, q)

pub part_exists : PartExists
part_exists l bound ready h group there =
    let r : Ends (plan_of l group) (start l)
    = ends_from (plan_of l group) (group_is l group ready there) bound h (suc (answers_left l bound (start l))) (start l) (omega arith) in
    (record { events = r.0; end = r.1; stopped = r.2 }, (r.3, r.4))
