-- Ordered runs: they end, there is one, and how they stand to the canonical run.
use Rattle.std.proofs.Common.{◌≡◌, ℕ, suc, zero, ◌<◌, ◌⊎◌, Bool, true, false, Some, [], ◌∷◌, refl, sym, ap, ◌∙◌, subst, inl, inr, arith}
use Rattle.std.specs.Option.{option_and_then}
use Rattle.clmodel.specs.Launch.{Launch, location_of}
use Rattle.clmodel.specs.Run.{State, Events, start, step, after}
use Rattle.clmodel.specs.Law.{Logged, Turn, Makes, Reports, Finishes, RunsTo, RunsClean, RunsIntoFault, IsBounded, answers_left, Shows}
use Rattle.clmodel.specs.declared.access.Access.{Access}
use Rattle.clmodel.specs.declared.access.Clash.TheVariants.{Order}
use Rattle.clmodel.specs.declared.fault.Fault.{Fault}
use Rattle.clmodel.specs.declared.fault.Fault.TheVariants as fault
use Rattle.clmodel.specs.declared.schedule.Event.{Event}
use Rattle.clmodel.specs.declared.schedule.Event.TheVariants.{Item, Release}
use Rattle.clmodel.proofs.Canonical.{determinacy, clean_is_complete}
use Rattle.clmodel.proofs.Ending.{step_less, bounded_ends}
use Rattle.clmodel.proofs.Steps.{some_inj, ItemStep, item_inverse, ReleaseStep, release_inverse}
use Rattle.clmodel.proofs.Turns.{makes_inj, finishes_makes}
use Rattle.ordered_runs.specs.Ordered.{ordered_turn, OrderedTo, RunsOrdered, OrderedIntoFault, NoEvent, HaveMet, is_order}
use Rattle.ordered_runs.specs.Laws.{OrderedNeverSticks, OrderedEnds, OneOrderedRun, OrderedIsInterleaving, OrderedReportIsReached, UnmetIsCanonical, CanonicalIsUnmet, OtherReportsStay, OrderGoesOn, OrderIsMet, EndsMet, EndsInFault, EndsInOneOfThree}
use Rattle.ordered_runs.proofs.Turns.{ordered_possible, ordered_complete, ordered_shown, makes_too, finishes_too, reports_too, order_met, unmet_makes, unmet_finishes}

pub never_sticks : OrderedNeverSticks
never_sticks = ordered_possible

-- ---- the events of an ordered run lead to its end

pub ordered_after : (l : Launch) (s : State) (es : Events) (end : State) → OrderedTo l s es end → after l s es ≡ Some end
ordered_after l s [] end h = ap Some h
ordered_after l s (e ∷ es) end h = ap (option_and_then (λ next. after l next es)) h.2 ∙ ordered_after l h.0 es end h.3

pub is_interleaving : OrderedIsInterleaving
is_interleaving l es end h = (end, ordered_after l _ es end h.0, ordered_complete l end h.1, refl)

pub report_is_reached : OrderedReportIsReached
report_is_reached l es end f h =
    let w : Shows l end f × (is_order f ≡ false) = ordered_shown l end f h.1 in
    ((end, ordered_after l _ es end h.0, w.0), w.1)

-- ---- it ends

abbrev EndsFrom : Launch → State → Type 0
EndsFrom l s =
    ((es : Events) × (end : State) × OrderedTo l s es end × (ordered_turn l end ≡ Finishes))
    ⊎ ((es : Events) × (end : State) × (f : Fault) × OrderedTo l s es end × (ordered_turn l end ≡ Reports f))

runs_on : (l : Launch) (s : State) (e : Event) (t : State) → ordered_turn l s ≡ Makes e → step l s e ≡ Some t → EndsFrom l t → EndsFrom l s
runs_on l s e t h q (inl r) = inl (e ∷ r.0, r.1, (t, h, q, r.2), r.3)
runs_on l s e t h q (inr r) = inr (e ∷ r.0, r.1, r.2, (t, h, q, r.3), r.4)

ends_from : (l : Launch) (bound : ℕ) → IsBounded l bound → (n : ℕ) (s : State) → answers_left l bound s < n → EndsFrom l s
ends_from l bound h zero s lt = absurd (omega (arith, lt))
ends_from l bound h (suc n) s lt = go (ordered_turn l s) refl (ends_from l bound h n)
  where
    go : (o : Turn) → ordered_turn l s ≡ o → ((t : State) → answers_left l bound t < n → EndsFrom l t) → EndsFrom l s
    go (Makes e) q rest =
        let w : (t : State) × (step l s e ≡ Some t) = ordered_possible l s e q in
        let m : answers_left l bound w.0 < answers_left l bound s = step_less l bound s e w.0 h w.1 in
        runs_on l s e w.0 q w.1 (rest w.0 (omega (arith, m, lt)))
    go (Reports f) q rest = inr ([], s, f, refl, q)
    go Finishes q rest = inl ([], s, refl, q)

pub run_ends : OrderedEnds
run_ends l bound h = go (ends_from l bound h (suc (answers_left l bound (start l))) (start l) (omega arith))
  where
    go : EndsFrom l (start l) → ((es : Events) × (end : State) × RunsOrdered l es end) ⊎ ((es : Events) × (end : State) × (f : Fault) × OrderedIntoFault l es end f)
    go (inl r) = inl (r.0, r.1, (r.2, r.3))
    go (inr r) = inr (r.0, r.1, r.2, (r.3, r.4))

-- ---- there is one

same_next : (l : Launch) (s : State) (e f : Event) (t u : State) → ordered_turn l s ≡ Makes e → ordered_turn l s ≡ Makes f → step l s e ≡ Some t → step l s f ≡ Some u → (e ≡ f) × (t ≡ u)
same_next l s e f t u p q h k =
    let w : e ≡ f = makes_inj e f (sym p ∙ q) in
    (w, some_inj t u (sym h ∙ ap (step l s) w ∙ k))

-- a run that ends goes on behind each run from the same state
goes_behind : (l : Launch) (s end other : State) (es fs : Events) → OrderedTo l s es end → OrderedTo l s fs other → NoEvent l other → (rest : Events) × OrderedTo l end rest other
goes_behind l s end other [] fs a b m = (fs, subst (λ z. OrderedTo l z fs other) a b)
goes_behind l s end other (e ∷ es) [] a b m = absurd (m e (subst (λ z. ordered_turn l z ≡ Makes e) b a.1))
goes_behind l s end other (e ∷ es) (f ∷ fs) a b m =
    let w : (e ≡ f) × (a.0 ≡ b.0) = same_next l s e f a.0 b.0 a.1 b.1 a.2 b.2 in
    goes_behind l b.0 end other es fs (subst (λ z. OrderedTo l z es end) w.1 a.3) b.3 m

pub one_run : OneOrderedRun
one_run l s end other [] [] a n b m = (refl, sym a ∙ b)
one_run l s end other [] (f ∷ fs) a n b m = absurd (n f (subst (λ z. ordered_turn l z ≡ Makes f) a b.1))
one_run l s end other (e ∷ es) [] a n b m = absurd (m e (subst (λ z. ordered_turn l z ≡ Makes e) b a.1))
one_run l s end other (e ∷ es) (f ∷ fs) a n b m =
    let w : (e ≡ f) × (a.0 ≡ b.0) = same_next l s e f a.0 b.0 a.1 b.1 a.2 b.2 in
    let r : (es ≡ fs) × (end ≡ other) = one_run l b.0 end other es fs (subst (λ z. OrderedTo l z es end) w.1 a.3) n b.3 m in
    (ap (λ z. z ∷ es) w.0 ∙ ap (λ z. f ∷ z) r.0, r.1)

-- ---- a log grows along it, and so two accesses that met have met from then on

step_keeps : (l : Launch) (s : State) (e : Event) (t : State) → step l s e ≡ Some t → (x : Access) → Logged s.log x → Logged t.log x
step_keeps l s (Item i) t h x w =
    let p : ItemStep l s i t = item_inverse l s i t h in
    subst (λ (z : State). Logged z.log x) p.gives (inr w)
step_keeps l s (Release g) t h x w =
    let p : ReleaseStep l s g t = release_inverse l s g t h in
    subst (λ (z : State). Logged z.log x) p.gives w

run_keeps : (l : Launch) (s : State) (es : Events) (end : State) → OrderedTo l s es end → (x : Access) → Logged s.log x → Logged end.log x
run_keeps l s [] end h x w = subst (λ (z : State). Logged z.log x) h w
run_keeps l s (e ∷ es) end h x w = run_keeps l h.0 es end h.3 x (step_keeps l s e h.0 h.2 x w)

met_keeps : (l : Launch) (s : State) (es : Events) (end : State) → OrderedTo l s es end → HaveMet l s → HaveMet l end
met_keeps l s es end h w = (w.0, w.1, w.2, run_keeps l s es end h w.0 w.3, run_keeps l s es end h w.1 w.4, w.5)

-- ---- how it stands to the canonical run

-- a canonical run is an ordered one as far as it goes
goes_too : (l : Launch) (s : State) (es : Events) (end : State) → RunsTo l s es end → OrderedTo l s es end
goes_too l s [] end h = h
goes_too l s (e ∷ es) end h = (h.0, makes_too l s e h.1, h.2, goes_too l h.0 es end h.3)

unmet_goes : (l : Launch) (s : State) (es : Events) (end : State) → OrderedTo l s es end → (HaveMet l end → ⊥) → RunsTo l s es end
unmet_goes l s [] end h unmet = h
unmet_goes l s (e ∷ es) end h unmet =
    (h.0, unmet_makes l s e h.1 (λ w. unmet (met_keeps l s (e ∷ es) end h w)), h.2, unmet_goes l h.0 es end h.3 unmet)

pub unmet_is_canonical : UnmetIsCanonical
unmet_is_canonical l es end h unmet = (unmet_goes l (start l) es end h.0 unmet, unmet_finishes l end h.1 unmet)

-- two accesses that met show a conflict of kind order
met_shows : (l : Launch) (s : State) → HaveMet l s → (f : Fault) × Shows l s f
met_shows l s w =
    (fault.Conflict Order w.0.item w.0.kind w.1.item w.1.kind (location_of l w.0.region) w.2, (w.0, w.1, w.3, w.4, refl, refl, refl, refl, refl, w.5))

pub canonical_is_unmet : CanonicalIsUnmet
canonical_is_unmet l es end h = ((goes_too l (start l) es end h.0, finishes_too l end h.1), never)
  where
    never : HaveMet l end → ⊥
    never w =
        let shown : (f : Fault) × Shows l end f = met_shows l end w in
        (determinacy l es end h es end (clean_is_complete l es end h).0).shows_nothing shown.0 shown.1

pub other_reports_stay : OtherReportsStay
other_reports_stay l es end f h n = (goes_too l (start l) es end h.0, reports_too l end f h.1 n)

pub order_goes_on : OrderGoesOn
order_goes_on l es end f h is = (goes_too l (start l) es end h.0, order_met l end f h.1 is)

no_event : (l : Launch) (end : State) → ordered_turn l end ≡ Finishes → NoEvent l end
no_event l end q e p = finishes_makes e (sym q ∙ p)

pub order_is_met : OrderIsMet
order_is_met l es fs end other f h is run =
    let w : OrderedTo l (start l) es end × HaveMet l end = order_goes_on l es end f h is in
    let rest : (rest : Events) × OrderedTo l end rest other = goes_behind l (start l) end other es fs w.0 run.0 (no_event l other run.1) in
    met_keeps l end rest.0 other rest.1 w.1

-- ---- the three ways in which it ends

pub ends_in_one_of_three : EndsInOneOfThree
ends_in_one_of_three l bound h = go (bounded_ends l bound h)
  where
    behind : (es : Events) (end : State) → OrderedTo l (start l) es end → HaveMet l end
        → ((fs : Events) × (last : State) × RunsOrdered l fs last) ⊎ ((fs : Events) × (last : State) × (f : Fault) × OrderedIntoFault l fs last f)
        → EndsMet l ⊎ EndsInFault l
    behind es end run met (inl r) =
        let w : (rest : Events) × OrderedTo l end rest r.1 = goes_behind l (start l) end r.1 es r.0 run r.2.0 (no_event l r.1 r.2.1) in
        inl (r.0, r.1, r.2, met_keeps l end w.0 r.1 w.1 met)
    behind es end run met (inr r) = inr r

    faulted : (es : Events) (end : State) (f : Fault) → RunsIntoFault l es end f → (b : Bool) → is_order f ≡ b → EndsMet l ⊎ EndsInFault l
    faulted es end f r false e = inr (es, end, f, other_reports_stay l es end f r e)
    faulted es end f r true e =
        let w : OrderedTo l (start l) es end × HaveMet l end = order_goes_on l es end f r e in
        behind es end w.0 w.1 (run_ends l bound h)

    go : ((es : Events) × (end : State) × RunsClean l es end) ⊎ ((es : Events) × (end : State) × (f : Fault) × RunsIntoFault l es end f)
        → ((es : Events) × (end : State) × RunsClean l es end) ⊎ (EndsMet l ⊎ EndsInFault l)
    go (inl r) = inl r
    go (inr r) = inr (faulted r.0 r.1 r.2 r.3 (is_order r.2) refl)
