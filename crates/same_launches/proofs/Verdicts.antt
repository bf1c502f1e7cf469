-- Schedules and canonical runs of launches that are alike.
use Rattle.std.proofs.Common.{◌≡◌, ℕ, Option, None, Some, List, [], ◌∷◌, refl, ap, sym, ◌∙◌, subst}
use Rattle.std.specs.Option.{option_and_then}
use Rattle.clmodel.specs.Cells.{lowest_unset, size_of}
use Rattle.clmodel.specs.Launch.{Launch, region_of, location_of, group_of}
use Rattle.clmodel.specs.Run.{State, Events, start, step, after, next_action}
use Rattle.clmodel.specs.Law.{Shows, Fails, fault_of, RunsTo}
use Rattle.clmodel.specs.declared.access.Region.TheVariants as region
use Rattle.clmodel.specs.declared.action.Action.{Action}
use Rattle.clmodel.specs.declared.action.Answer.{Answer}
use Rattle.clmodel.specs.declared.action.Cause.{Cause}
use Rattle.clmodel.specs.declared.action.Cause.TheVariants as cause
use Rattle.clmodel.specs.declared.fault.Fault.{Fault}
use Rattle.clmodel.specs.declared.fault.Fault.TheVariants as fault
use Rattle.clmodel.proofs.Steps.{none_some, some_inj}
use Rattle.same_launches.specs.Alike.{Freedom, is_free, AlikeActions}
use Rattle.same_launches.specs.Verdicts.{IsAlike, on_others, SchedulesAreSame, RunsAreSame}
use Rattle.same_launches.proofs.Parts.{same_size, same_kind, same_reads, unset_same, like_access, like_end, like_fault, logged_alike, conflict_same}
use Rattle.same_launches.proofs.States.{AlikeStates, start_alike, acts_alike, same_byte_at, cells_alike, same_stop, same_turn, event_leads}

module _ (w : Freedom) (launch : Launch) (buffers : List (List ℕ)) (next : ℕ → List Answer → Action) (alike : IsAlike w launch buffers next) where
  abbrev other : Launch
  other = on_others launch buffers next

  -- ---- what a state shows

  module _ (s t : State) (same : AlikeStates w launch s t) where
    named : (item : ℕ) (c : Cause) → fault_of launch item c ≡ fault_of other item c
    named item (cause.PrivateBounds array element) = refl
    named item (cause.UnsetVariable variable) = refl
    named item (cause.UnsetElement array element) = refl
    named item cause.DivideByZero = refl
    named item cause.DivideOverflow = refl
    named item cause.Budget = refl

    fails : (item : ℕ) (f : Fault) → Fails launch s item f → Fails other t item f
    fails item f h =
        (h.0, h.1, like_fault w h.0 (next_action other t item) (subst (λ a. AlikeActions w a (next_action other t item)) h.2 (acts_alike w launch buffers next alike s t same item)), sym (named item h.0) ∙ h.3)

    shows : (f : Fault) → Shows launch s f → Shows other t f
    shows (fault.Conflict clash item kind second second_kind location byte) h =
        let x = logged_alike w s.log t.log h.0 same.log h.2 in
        let y = logged_alike w s.log t.log h.1 same.log h.3 in (
          x.0,
          y.0,
          x.1,
          y.1,
          ap (λ z. z.item) x.2.0 ∙ h.4,
          ap (λ z. z.kind) x.2.0 ∙ h.5,
          ap (λ z. z.item) y.2.0 ∙ h.6,
          ap (λ z. z.kind) y.2.0 ∙ h.7,
          ap (λ z. location_of launch z.region) x.2.0 ∙ h.8,
          sym (conflict_same w launch buffers next alike.uniform h.0 h.1 x.0 y.0 byte x.2 y.2) ∙ h.9,
        )
    shows (fault.Divergence item stop second second_stop) h =
        (h.0, h.1, h.2, sym (same_stop w launch buffers next alike s t same item) ∙ h.3, sym (same_stop w launch buffers next alike s t same second) ∙ h.4, h.5)
    shows (fault.Bounds item kind location element) h =
        let g = like_access w h.0 element h.1 (next_action other t item) (subst (λ a. AlikeActions w a (next_action other t item)) h.3 (acts_alike w launch buffers next alike s t same item)) in (
          h.0,
          g.0,
          h.2,
          g.1,
          sym (same_kind w.uniform (is_free w h.0) h.1 g.0 g.2) ∙ h.4,
          h.5,
          sym (same_byte_at w launch buffers next alike s t same item h.0 element h.1 g.0 g.2) ∙ h.6,
        )
    shows (fault.Unset item kind location byte) h =
        let g = like_access w h.0 h.1 h.2 (next_action other t item) (subst (λ a. AlikeActions w a (next_action other t item)) h.5 (acts_alike w launch buffers next alike s t same item)) in (
          h.0,
          h.1,
          g.0,
          h.3,
          h.4,
          g.1,
          sym (same_kind w.uniform (is_free w h.0) h.2 g.0 g.2) ∙ h.6,
          h.7,
          sym (same_byte_at w launch buffers next alike s t same item h.0 h.1 h.2 g.0 g.2) ∙ h.8,
          sym (same_reads w.uniform (is_free w h.0) h.2 g.0 g.2) ∙ h.9,
          ap (lowest_unset (t.memory (region_of (group_of launch item) h.0)) h.3) (sym (same_size w.uniform (is_free w h.0) h.2 g.0 g.2))
              ∙ sym (unset_same (is_free w h.0) _ _ h.3 (size_of h.2) (cells_alike w launch buffers next alike s t same item h.0)) ∙ h.10,
        )
    shows (fault.PrivateBounds item array element) h = fails item _ h
    shows (fault.UnsetVariable item variable) h = fails item _ h
    shows (fault.UnsetElement item array element) h = fails item _ h
    shows (fault.DivideByZero item) h = fails item _ h
    shows (fault.DivideOverflow item) h = fails item _ h
    shows (fault.Budget item) h = fails item _ h

  -- ---- schedules and runs

  record Follows (schedule : Events) (t u : State) : Type 0 where
    last : State
    leads : after other t schedule ≡ Some last
    ends : AlikeStates w launch u last

  after_alike : (schedule : Events) (s t u : State) → AlikeStates w launch s t → after launch s schedule ≡ Some u → Follows schedule t u
  after_alike [] s t u same e = record { last = t; leads = refl; ends = subst (λ z. AlikeStates w launch z t) (some_inj s u e) same }
  after_alike (event ∷ events) s t u same e = go (λ v t' q. after_alike events v t' u q) (step launch s event) refl e
    where
      go : ((v t' : State) → AlikeStates w launch v t' → after launch v events ≡ Some u → Follows events t' u)
          → (o : Option State) → step launch s event ≡ o → option_and_then (λ v. after launch v events) o ≡ Some u → Follows (event ∷ events) t u
      go again None p q = absurd (none_some u q)
      go again (Some v) p q =
          let r = event_leads w launch buffers next alike s t same event v p in
          let f = again v r.last r.lasting q in
          record { last = f.last; leads = ap (option_and_then (λ z. after other z events)) r.steps ∙ f.leads; ends = f.ends }

  record Ends (events : Events) (t u : State) : Type 0 where
    last : State
    runs : RunsTo other t events last
    ends : AlikeStates w launch u last

  runs_alike : (events : Events) (s t u : State) → AlikeStates w launch s t → RunsTo launch s events u → Ends events t u
  runs_alike [] s t u same e = record { last = t; runs = refl; ends = subst (λ z. AlikeStates w launch z t) e same }
  runs_alike (event ∷ events) s t u same h =
      let r = event_leads w launch buffers next alike s t same event h.0 h.2 in
      let f = runs_alike events h.0 r.last u r.lasting h.3 in
      record { last = f.last; runs = (r.last, sym (same_turn w launch buffers next alike s t same) ∙ h.1, r.steps, f.runs); ends = f.ends }

  begins : AlikeStates w launch (start launch) (start other)
  begins = start_alike w launch buffers next alike

pub schedules_are_same : SchedulesAreSame
schedules_are_same w launch buffers next alike schedule state e =
    let f = after_alike w launch buffers next alike schedule (start launch) (start (on_others launch buffers next)) state (begins w launch buffers next alike) e in (
      f.last,
      f.leads,
      shows w launch buffers next alike state f.last f.ends,
      λ complete item below.
          like_end w _ (subst (λ a. AlikeActions w a (next_action (on_others launch buffers next) f.last item)) (complete item below) (acts_alike w launch buffers next alike state f.last f.ends item)),
      λ number byte. f.ends.memory (region.Buffer number) byte,
    )

pub runs_are_same : RunsAreSame
runs_are_same w launch buffers next alike events end = (
  λ h.
      let f = runs_alike w launch buffers next alike events (start launch) (start (on_others launch buffers next)) end (begins w launch buffers next alike) h.0 in
      (f.last, (f.runs, sym (same_turn w launch buffers next alike end f.last f.ends) ∙ h.1)),
  λ r h.
      let f = runs_alike w launch buffers next alike events (start launch) (start (on_others launch buffers next)) end (begins w launch buffers next alike) h.0 in
      (f.last, (f.runs, sym (same_turn w launch buffers next alike end f.last f.ends) ∙ h.1)),
)
