-- Items that are told stand at instructions of the code that their launch runs.
use Rattle.std.proofs.Common.{◌≡◌, ◌<◌, inl, inr, ℕ, zero, suc, Bool, true, false, if◌then◌else◌, Option, None, Some, List, [], ◌∷◌, length, nat_lt, slice_get, refl, sym, ap, subst, ◌∙◌}
use Rattle.std.specs.Option.{option_map_or}
use Rattle.std.proofs.lemmas.Bool.{false≢true}
use Rattle.std.proofs.lemmas.Option.{none-some, same_Some, slice_get_within}
use Rattle.clmodel.specs.Launch.{Launch}
use Rattle.clmodel.specs.Law.{Reaches, Shows}
use Rattle.clmodel.specs.Next.{finish, walk}
use Rattle.clmodel.specs.Run.{State, Events, after, item_step, next_action, start, step, stop_of}
use Rattle.clmodel.specs.Setup.{group_items}
use Rattle.clmodel.specs.declared.action.Action.{Action}
use Rattle.clmodel.specs.declared.action.Action.TheVariants as action
use Rattle.clmodel.specs.declared.action.Stop.{Stop}
use Rattle.clmodel.specs.declared.action.Stop.TheVariants as stop
use Rattle.clmodel.specs.declared.fault.Fault.{Fault}
use Rattle.clmodel.specs.declared.fault.Fault.TheVariants as fault
use Rattle.clmodel.specs.declared.schedule.Event.{Event}
use Rattle.clmodel.specs.declared.schedule.Event.TheVariants as event
use Rattle.fault_play.specs.PlayedOut.{IsPlayedOut, is_access}
use Rattle.fault_play.specs.declared.played.Played.{Played}
use Rattle.explain_items.specs.Named.{AreTold, AreToldInside, AtAccess, AtEnd, AtStand, IsBefore, IsHere, IsTold, Site, in_order, site_of, told_items}
use Rattle.explain_items.specs.Spotted.{StandsInside}
use Rattle.explain_items.specs.declared.context.Context.{Context}
use Rattle.explain_items.proofs.Spotting.{named_at}
use Rattle.explanation.specs.declared.told.NamedItem.{NamedItem}
use Rattle.launch_facts.specs.Facts.{named_items}
use Rattle.item_state.proofs.Going.{code_kept}
use Rattle.item_step.specs.Launches as launches
use Rattle.item_step.specs.Launches.{code_of, started}
use Rattle.item_step.specs.Running.{Running, Makes}
use Rattle.item_step.specs.declared.launch.Launch as item
use Rattle.fault_play.proofs.Marking.{lead_after}
use Rattle.fault_play.specs.Marks.{ActsFrom, Lead, item_of}
use Rattle.fault_play.specs.declared.marks.Mark.{Mark}
use Rattle.replay.specs.declared.conflicts.Pair.{Pair}
use Rattle.regcode.specs.Listing.{Listing}
use Rattle.regcode.specs.Machine.{act}
use Rattle.regcode.specs.declared.instruction.Instruction.{Instruction}
use Rattle.replay.specs.declared.slot.Stand.{Stand}
use Rattle.telling.specs.Told.{AreNamed}

-- what makes another action than the end is an instruction
makes_inside : (running : Running) (made : Action) → Makes running made → (made ≡ action.End → ⊥) → running.state.place < length running.code.instructions
makes_inside running made makes other = go (slice_get running.code.instructions running.state.place) refl
  where
    go : (o : Option Instruction) → slice_get running.code.instructions running.state.place ≡ o → running.state.place < length running.code.instructions
    go (Some i) here = slice_get_within running.code.instructions running.state.place i here
    go None here =
        absurd (other (sym (makes (λ s. finish) (λ s. finish))
        ∙ ap (λ o. walk (act running.given o (λ s. finish) (λ s. finish) running.state) running.ticks []) here))

-- an event of an item isn't its end
goes_on : (launch : Launch) (state next : State) (number : ℕ) → step launch state (event.Item number) ≡ Some next → next_action launch state number ≡ action.End → ⊥
unfolding step
goes_on launch state next number goes ends = go (nat_lt number launch.items) goes
  where
    go : (b : Bool) → (if b then item_step launch state number (next_action launch state number) else None) ≡ Some next → ⊥
    go true h = none-some next (sym (ap (item_step launch state number) ends) ∙ h)
    go false h = none-some next h

-- whether an event is an access or none
item_event : (e : Event) → is_access e ≡ true → (number : ℕ) × (e ≡ event.Item number)
item_event (event.Item number) h = (number, refl)
item_event (event.Release group) h = absurd (false≢true h)

-- where an item is told, it stands at an instruction
abbrev SiteInside : item.Launch → List Mark → ℕ × Site → Type 0
SiteInside of marks t = ((stand : Stand) → IsHere marks t.1 stand → StandsInside of stand) × ((stand : Stand) → IsBefore marks t.0 t.1 stand → StandsInside of stand)

abbrev EachInside : item.Launch → List Mark → List (ℕ × Site) → Type 0
EachInside of marks [] = Unit {0}
EachInside of marks (t ∷ ts) = SiteInside of marks t × EachInside of marks ts

module _ (of : item.Launch) (launch : Launch) where
  -- where an item stands whose next action isn't its end
  acts_inside : (state : State) (number : ℕ) (stand : Stand) → ActsFrom launch (started of) state number (Some stand) → (next_action launch state number ≡ action.End → ⊥) → StandsInside of stand
  acts_inside state number stand (running, at, turns, machine) other =
      subst (λ n. n < length (code_of of).instructions) at
      (subst (λ (c : Listing). running.state.place < length c.instructions) (code_kept machine.arrives) (makes_inside running (next_action launch state number) machine.makes other))

  -- the state before an event of marks, and the one behind it
  record Passes (mark : Mark) (size : ℕ) : Type 0 where
    pub before : State
    pub next : State
    pub acts : ActsFrom launch (started of) before (item_of size mark.event) mark.stand
    pub goes : step launch before mark.event ≡ Some next

  passes : (size : ℕ) (state end : State) (marks : List Mark) (number : ℕ) (mark : Mark) → Lead launch (started of) size state marks end → slice_get marks number ≡ Some mark → Passes mark size
  passes size state end [] number mark led at = absurd (none-some mark at)
  passes size state end (x ∷ marks) zero mark (acts, next, goes, counted, rest) at =
      subst (λ (m : Mark). Passes m size) (same_Some x mark at) (record { before = state; next = next; acts = acts; goes = goes })
  passes size state end (x ∷ marks) (suc number) mark (acts, next, goes, counted, rest) at = passes size next end marks number mark rest at

  -- where an item stood at an event of its own
  mark_inside : (size : ℕ) (state end : State) (marks : List Mark) (number : ℕ) (mark : Mark) (by : ℕ) (stand : Stand) → Lead launch (started of) size state marks end
      → slice_get marks number ≡ Some mark → mark.event ≡ event.Item by → mark.stand ≡ Some stand → StandsInside of stand
  mark_inside size state end marks number mark by stand led at is stands =
      let p = passes size state end marks number mark led at in
      acts_inside p.before by stand
      (subst (λ (o : Option Stand). ActsFrom launch (started of) p.before by o) stands (subst (λ (e : Event). ActsFrom launch (started of) p.before (item_of size e) mark.stand) is p.acts))
      (goes_on launch p.before p.next by (subst (λ (e : Event). step launch p.before e ≡ Some p.next) is p.goes))

  module _ (size : ℕ) (marks : List Mark) (end : State) (led : Lead launch (started of) size (start launch) marks end) where
    access_inside : (number access : ℕ) → SiteInside of marks (number, AtAccess access)
    access_inside number access = (
      λ stand h. let e = item_event h.made.mark.event h.made.makes in mark_inside size (start launch) end marks h.number h.made.mark e.0 stand led h.made.at e.1 h.at,
      λ stand no. absurd no,
    )

    end_inside : (number : ℕ) → SiteInside of marks (number, AtEnd)
    end_inside number = (λ stand no. absurd no, λ stand h. mark_inside size (start launch) end marks h.number h.event.mark number stand led h.event.at h.event.is h.at)

    nowhere_inside : (number : ℕ) → SiteInside of marks (number, AtStand None)
    nowhere_inside number = (λ stand is. absurd (none-some stand is), λ stand no. absurd no)

    stand_inside : (number told : ℕ) (o : Option Stand) → ActsFrom launch (started of) end number o → (next_action launch end number ≡ action.End → ⊥) → SiteInside of marks (told, AtStand o)
    stand_inside number told o acts other =
        (λ stand is. acts_inside end number stand (subst (λ (x : Option Stand). ActsFrom launch (started of) end number x) is acts) other, λ stand no. absurd no)

    stop_inside : (number told : ℕ) (s : Stop) (o : Option Stand) → ActsFrom launch (started of) end number o → stop_of (next_action launch end number) ≡ Some s → SiteInside of marks (told, site_of s o)
    stop_inside number told stop.Ended o acts stops = end_inside told
    stop_inside number told (stop.At instance) o acts stops =
        stand_inside number told o acts (λ ends. let e : Some stop.Ended ≡ Some (stop.At instance) = sym (ap stop_of ends) ∙ stops in cc)

    pair_inside : (o : Option Pair) (one other : ℕ)
        → EachInside of marks (option_map_or (λ pair. in_order pair (one, AtAccess pair.first) (other, AtAccess pair.second)) o ((one, AtStand None) ∷ (other, AtStand None) ∷ []))
    pair_inside None one other = (nowhere_inside one, (nowhere_inside other, tt))
    pair_inside (Some pair) one other = go (nat_lt pair.second pair.first)
      where
        go : (b : Bool)
            → EachInside of marks (if b then (other, AtAccess pair.second) ∷ (one, AtAccess pair.first) ∷ [] else (one, AtAccess pair.first) ∷ (other, AtAccess pair.second) ∷ [])
        go true = (access_inside other pair.second, (access_inside one pair.first, tt))
        go false = (access_inside one pair.first, (access_inside other pair.second, tt))

    -- the one item of a fault
    alone_inside : (f : Fault) (number first second : ℕ) (played : Played) → named_items f ≡ number ∷ [] → AreNamed f first second → ActsFrom launch (started of) end first played.first.stand
        → (next_action launch end number ≡ action.End → ⊥) → EachInside of marks ((played.first.item, AtStand played.first.stand) ∷ [])
    alone_inside f number first second played is named acts other =
        (stand_inside first played.first.item played.first.stand acts (λ ends. other (ap (next_action launch end) (same named) ∙ ends)), tt)
      where
        same : AreNamed f first second → number ≡ first
        same (inl (one, twice)) = let e : number ∷ [] ≡ first ∷ [] = sym is ∙ one in cc
        same (inr two) = let e : number ∷ [] ≡ first ∷ second ∷ [] = sym is ∙ two in cc

    all_inside : (f : Fault) (first second : ℕ) (played : Played) → AreNamed f first second → Shows launch end f → ActsFrom launch (started of) end first played.first.stand
        → ActsFrom launch (started of) end second played.second.stand → EachInside of marks (told_items f played)
    all_inside (fault.Conflict clash one kind other other_kind location byte) first second played named shows acts others = pair_inside played.pair one other
    all_inside (fault.Divergence one s other t) first second played (inl (named, twice)) shows acts others = let e : one ∷ other ∷ [] ≡ first ∷ [] = named in cc
    all_inside (fault.Divergence one s other t) first second played (inr named) (below, other_below, grouped, stops, other_stops, apart) acts others =
        let same : one ≡ first = (let e : one ∷ other ∷ [] ≡ first ∷ second ∷ [] = named in cc) in
        let other_same : other ≡ second = (let e : one ∷ other ∷ [] ≡ first ∷ second ∷ [] = named in cc) in (
          stop_inside first played.first.item s played.first.stand acts (ap (λ n. stop_of (next_action launch end n)) (sym same) ∙ stops),
          (stop_inside second played.second.item t played.second.stand others (ap (λ n. stop_of (next_action launch end n)) (sym other_same) ∙ other_stops), tt),
        )
    all_inside (fault.Bounds number kind location element) first second played named (object, operation, below, does, of_kind, lies, past) acts others =
        alone_inside (fault.Bounds number kind location element) number first second played refl named acts (λ ends. let e : action.Access object element operation ≡ action.End = sym does ∙ ends in cc)
    all_inside (fault.PrivateBounds number array element) first second played named (cause, below, fails, is) acts others =
        alone_inside (fault.PrivateBounds number array element) number first second played refl named acts (λ ends. let e : action.Fault cause ≡ action.End = sym fails ∙ ends in cc)
    all_inside (fault.Unset number kind location byte) first second played named (object, element, operation, at, below, does, of_kind, lies, inside, reads, lowest) acts others =
        alone_inside (fault.Unset number kind location byte) number first second played refl named acts (λ ends. let e : action.Access object element operation ≡ action.End = sym does ∙ ends in cc)
    all_inside (fault.UnsetVariable number variable) first second played named (cause, below, fails, is) acts others =
        alone_inside (fault.UnsetVariable number variable) number first second played refl named acts (λ ends. let e : action.Fault cause ≡ action.End = sym fails ∙ ends in cc)
    all_inside (fault.UnsetElement number array element) first second played named (cause, below, fails, is) acts others =
        alone_inside (fault.UnsetElement number array element) number first second played refl named acts (λ ends. let e : action.Fault cause ≡ action.End = sym fails ∙ ends in cc)
    all_inside (fault.DivideByZero number) first second played named (cause, below, fails, is) acts others =
        alone_inside (fault.DivideByZero number) number first second played refl named acts (λ ends. let e : action.Fault cause ≡ action.End = sym fails ∙ ends in cc)
    all_inside (fault.DivideOverflow number) first second played named (cause, below, fails, is) acts others =
        alone_inside (fault.DivideOverflow number) number first second played refl named acts (λ ends. let e : action.Fault cause ≡ action.End = sym fails ∙ ends in cc)
    all_inside (fault.Budget number) first second played named (cause, below, fails, is) acts others =
        alone_inside (fault.Budget number) number first second played refl named acts (λ ends. let e : action.Fault cause ≡ action.End = sym fails ∙ ends in cc)

-- the items of a fault that a schedule leads to
pub each_inside : (of : item.Launch) (launch : Launch) (events : Events) (f : Fault) (first second most : ℕ) (played : Played) → AreNamed f first second
    → IsPlayedOut launch (started of) (group_items (launches.setup_of of).range) events f first second most played → Reaches launch events f → EachInside of played.marks.items (told_items f played)
each_inside of launch events f first second most played named plays (state, leads, shows) =
    all_inside of launch (group_items (launches.setup_of of).range) played.marks.items plays.end plays.led f first second played named
    (subst (λ (s : State). Shows launch s f) (same_Some state plays.end (sym leads ∙ (ap (after launch (start launch)) (sym plays.marked) ∙ lead_after launch (started of) _ (start launch) plays.end played.marks.items plays.led))) shows)
    plays.first_acts plays.second_acts

-- so it needn't be said of them
pub told_inside : (context : Context) (marks : List Mark) (told : List (ℕ × Site)) (items : List NamedItem) → EachInside context.launch.now marks told → AreToldInside context marks told items
    → AreTold context marks told items
told_inside context marks [] [] inside h = tt
told_inside context marks [] (n ∷ ns) inside h = absurd h
told_inside context marks (t ∷ ts) [] inside h = absurd h
told_inside context marks (t ∷ ts) (n ∷ ns) inside h = (one, told_inside context marks ts ns inside.1 h.1)
  where
    one : IsTold context marks t n
    one =
        named_at context.launch.now context.program.text.now context.program.first_line (λ s. IsHere marks t.1 s × StandsInside context.launch.now s)
        (λ s. IsBefore marks t.0 t.1 s × StandsInside context.launch.now s) (λ s. IsHere marks t.1 s) (λ s. IsBefore marks t.0 t.1 s) t.0 n (λ s p. p.0) (λ s p. (p, inside.0.0 s p)) (λ s p. p.0)
        (λ s p. (p, inside.0.1 s p)) h.0
