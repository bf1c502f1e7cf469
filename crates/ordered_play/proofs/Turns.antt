-- The turn of the ordered run, by that of the group that runs.
use Rattle.std.proofs.Common.{◌≡◌, ℕ, ◌+◌, ◌*◌, ◌<◌, ◌≤◌, ◌⊎◌, true, false, if◌then◌else◌, Option, None, Some, refl, sym, ap, ◌∙◌, subst, inl, inr, arith}
use Rattle.std.proofs.lemmas.Bool.{cases_lt}
use Rattle.std.proofs.lemmas.Nat.{div_below}
use Rattle.clmodel.specs.Launch.{Launch, group_of}
use Rattle.clmodel.specs.Run.{State, next_action, stop_of, both_stop, same_stop}
use Rattle.clmodel.specs.Law.{Turn, Makes, Reports, Finishes, conflict_turn, has_ended, item_turn}
use Rattle.clmodel.specs.declared.action.Action.TheVariants as action
use Rattle.clmodel.specs.declared.action.Fences.{Fences}
use Rattle.clmodel.specs.declared.action.Instance.{Instance}
use Rattle.clmodel.specs.declared.action.Stop.{Stop}
use Rattle.clmodel.specs.declared.fault.Fault.TheVariants as fault
use Rattle.clmodel.specs.declared.schedule.Event.TheVariants.{Release}
use Rattle.clmodel.proofs.Turns.{makes_finishes, reports_finishes}
use Rattle.joining.specs.Group.{Plan, IsGroup, going, plan_of, turn_of}
use Rattle.joining.proofs.GroupTurns.{Same, turn_over, finish_parts, all_finish}
use Rattle.group_run.specs.Loops.{AtOneStop}
use Rattle.group_run.proofs.Turns.{straggler_at, no_straggler, differs, first_stop}
use Rattle.ordered_runs.specs.Ordered.{newest_race, ordered_turn}
use Rattle.ordered_runs.proofs.Turns.{ordered_parts}
use Rattle.ordered_runs.proofs.Unlogged.{unlogged, quiet_turn, turn_unlogged, item_same}
use Rattle.ordered_play.specs.Groups.{AreOver}

-- with no race, the turn asks nothing of the log
quiet : (l : Launch) (s : State) (t : Turn) → newest_race l s.log ≡ None → quiet_turn l s ≡ t → ordered_turn l s ≡ t
quiet l s t calm h = ordered_parts l s ∙ ap (λ o. conflict_turn l o (quiet_turn l s)) calm ∙ h

not_stopped : (a : Option Stop) → both_stop a None ≡ false
not_stopped None = refl
not_stopped (Some a) = refl

module _ (l : Launch) (g : ℕ) (whole : IsGroup (plan_of l g)) (s : State) (calm : newest_race l s.log ≡ None) (over : AreOver l g s) where
  abbrev p : Plan
  p = plan_of l g

  by_group : (t : Turn) → turn_of p (unlogged s) ≡ t → (t ≡ Finishes → ⊥) → ordered_turn l s ≡ t
  by_group t h ne =
      let same : Same l g (unlogged s) (unlogged s) = record { answers = λ i e. refl; unset = λ o first count. refl } in
      quiet l s t calm (sym (turn_unlogged l s) ∙ turn_over p whole (unlogged s) (unlogged s) same over refl t h ne)

  -- an item that is at no stop goes on
  pub item_goes :
      (k : ℕ) → k < l.group_size → AtOneStop p s k → stop_of (next_action l s (p.first + k)) ≡ None
      → (t : Turn) → item_turn l s p.first (p.first + k) (next_action l s (p.first + k)) ≡ t → (t ≡ Finishes → ⊥) → ordered_turn l s ≡ t
  item_goes k b gathered goes t h ne =
      by_group t
      (ap (going p (unlogged s)) (straggler_at p whole (unlogged s) k b gathered (ap (both_stop (first_stop p (unlogged s))) goes ∙ not_stopped (first_stop p (unlogged s))))
      ∙ sym (item_same l s p.first (p.first + k) (next_action l s (p.first + k)))
      ∙ h)
      ne

  -- an item that is at another stop than the first one
  pub item_differs :
      (k : ℕ) (x y : Stop) → k < l.group_size → AtOneStop p s k → stop_of (next_action l s p.first) ≡ Some x → stop_of (next_action l s (p.first + k)) ≡ Some y
      → same_stop x y ≡ false → ordered_turn l s ≡ Reports (fault.Divergence p.first x (p.first + k) y)
  item_differs k x y b gathered f e other =
      by_group (Reports (fault.Divergence p.first x (p.first + k) y)) (differs p whole (unlogged s) k x y b gathered refl f e other) (λ q. reports_finishes _ q)

  -- a group that waits is released
  pub group_waits :
      (i : Instance) (fences : Fences) → AtOneStop p s p.count → next_action l s p.first ≡ action.Barrier i fences → ordered_turn l s ≡ Makes (Release g)
  group_waits i fences gathered waiting =
      by_group (Makes (Release g))
      (ap (going p (unlogged s)) (no_straggler p whole (unlogged s) gathered)
      ∙ ap (λ a. if has_ended a then Finishes else Makes (Release g)) waiting)
      (λ q. makes_finishes _ q)

  -- a group whose items have ended is over
  pub group_ends : AtOneStop p s p.count → next_action l s p.first ≡ action.End → AreOver l (g + 1) s
  group_ends gathered ended =
      let w =
      finish_parts p whole (unlogged s)
      (ap (going p (unlogged s)) (no_straggler p whole (unlogged s) gathered) ∙ ap (λ a. if has_ended a then Finishes else Makes (Release g)) ended) in
      λ item b low. go w.1 item b low (cases_lt (group_of l item) g)
    where
      go : ((i : ℕ) → i < l.items → group_of l i ≡ g → has_ended (next_action l s i) ≡ true) → (item : ℕ) → item < l.items → group_of l item < g + 1
          → (group_of l item < g) ⊎ (g ≤ group_of l item) → has_ended (next_action l s item) ≡ true
      go all item b low (inl lt) = over item b lt
      go all item b low (inr le) = all item b (omega (arith, low, le))

-- all groups are over
pub all_over : (l : Launch) (groups : ℕ) (s : State) → 0 < l.group_size → groups * l.group_size ≡ l.items → newest_race l s.log ≡ None → AreOver l groups s → ordered_turn l s ≡ Finishes
all_over l groups s some counted calm over =
    quiet l s Finishes calm
    (sym (turn_unlogged l s)
    ∙ all_finish l (unlogged s) refl (λ i b. over i b (div_below i l.group_size groups some (subst (λ n. i < n) (sym counted) b))))
