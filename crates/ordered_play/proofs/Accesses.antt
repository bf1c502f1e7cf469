-- An item's access: whether it can be made, and what it leads to.
use Rattle.std.proofs.Common.{◌≡◌, ℕ, zero, suc, ◌+◌, ◌*◌, ◌<◌, ◌^◌, ℤ, Bool, true, false, if◌then◌else◌, Option, None, Some, List, ◌∷◌, refl, sym, ap, ◌∙◌, subst}
use Rattle.std.proofs.lemmas.Bool.{false≢true}
use Rattle.clmodel.specs.Cells.{Cells, byte_count, found, joined, lowest_unset, number, reads, size_of, unset_or}
use Rattle.clmodel.specs.Launch.{Launch, group_of, kind_of, location_of, region_of}
use Rattle.clmodel.specs.Run.{State, access_of, byte_at, next_action, step, stop_of}
use Rattle.clmodel.specs.Law.{Shows, access_turn, fault_of, item_turn, unset_turn}
use Rattle.clmodel.specs.declared.access.Access.{Access}
use Rattle.clmodel.specs.declared.access.Object.{Object}
use Rattle.clmodel.specs.declared.access.Operation.{Operation}
use Rattle.clmodel.specs.declared.action.Action.TheVariants as action
use Rattle.clmodel.specs.declared.action.Cause.{Cause}
use Rattle.clmodel.specs.declared.action.Cause.TheVariants as cause
use Rattle.clmodel.specs.declared.fault.Fault.TheVariants as fault
use Rattle.clmodel.specs.declared.schedule.Event.{Event}
use Rattle.clmodel.specs.declared.schedule.Event.TheVariants.{Item}
use Rattle.clmodel.proofs.Steps.{none_some, some_inj, if_some, if_true, if_false, made, region_for, item_at}
use Rattle.replay.specs.States.{IsPlayed}
use Rattle.ordered_runs.specs.Ordered.{is_order}
use Rattle.ordered_play.specs.Stepping.{CannotGo, IsJudged, IsStepped, MakesAccess}
use Rattle.ordered_play.specs.declared.stepping.Stepped.{Stepped}
use Rattle.ordered_play.specs.declared.stepping.Stepped.TheVariants as stepped

-- ---- bytes of which none is unset make a number

number_set : (cells : Cells) (first count : ℕ) → lowest_unset cells first count ≡ None → (x : ℕ) × (number cells first count ≡ Some x)
number_set cells first zero h = (0, refl)
number_set cells first (suc count) h = at_byte (cells first) refl h (number_set cells (suc first) count)
  where
    at_byte :
        (o : Option ℕ) → cells first ≡ o → unset_or o first (lowest_unset cells (suc first) count) ≡ None
        → (lowest_unset cells (suc first) count ≡ None → (x : ℕ) × (number cells (suc first) count ≡ Some x))
        → (x : ℕ) × (joined (cells first) (number cells (suc first) count) ≡ Some x)
    at_byte None e q rest = absurd (none_some first (sym q))
    at_byte (Some low) e q rest =
        let r : (x : ℕ) × (number cells (suc first) count ≡ Some x) = rest q in (
          low + 256 * r.0,
          ap (λ o. joined o (number cells (suc first) count)) e ∙ ap (joined (Some low)) r.1,
        )

found_set :
    (operation : Operation) (cells : Cells) (first : ℕ) → (if reads operation then lowest_unset cells first (size_of operation) else None) ≡ None
    → (x : ℕ) × (found operation cells first ≡ Some x)
found_set operation cells first h = go (reads operation) refl h
  where
    go :
        (r : Bool) → reads operation ≡ r → (if r then lowest_unset cells first (size_of operation) else None) ≡ None
        → (x : ℕ) × ((if reads operation then number cells first (size_of operation) else Some 0) ≡ Some x)
    go true e q =
        let w : (x : ℕ) × (number cells first (size_of operation) ≡ Some x) = number_set cells first (size_of operation) q in
        (w.0, if_true (reads operation) (number cells first (size_of operation)) (Some 0) e ∙ w.1)
    go false e q = (0, if_false (reads operation) (number cells first (size_of operation)) (Some 0) e)

-- ---- an access

cons_inj : (x y : Access) (xs ys : List Access) → x ∷ xs ≡ y ∷ ys → x ≡ y
cons_inj x y xs ys h = cc

-- the lowest unset byte that an access reads
abbrev pub unset_at : Launch → State → ℕ → Object → Operation → ℕ → Option ℕ
unset_at l s k o op first = if reads op then lowest_unset (s.memory (region_of (group_of l k) o)) first (size_of op) else None

module _
    (l : Launch) (s : State) (k : ℕ) (o : Object) (element : ℤ) (op : Operation) (below : k < l.items) (acts : next_action l s k ≡ action.Access o element op) where
  -- it is out of range
  pub out_of_range : byte_at l k o element op ≡ None → CannotGo l s k (fault.Bounds k (kind_of op) (location_of l (region_of (group_of l k) o)) element)
  out_of_range p =
      record {
        goes = ap stop_of acts;
        reports = λ first. ap (item_turn l s first k) acts ∙ ap (access_turn l s k o element op) p;
        shows = (o, op, below, acts, refl, refl, p);
        no_order = refl;
      }

  -- it reads an unset byte
  pub reads_unset :
      (first byte : ℕ) → byte_at l k o element op ≡ Some first → unset_at l s k o op first ≡ Some byte
      → CannotGo l s k (fault.Unset k (kind_of op) (location_of l (region_of (group_of l k) o)) byte)
  reads_unset first byte p u =
      let w = if_some (reads op) (lowest_unset (s.memory (region_of (group_of l k) o)) first (size_of op)) byte u in
      record {
        goes = ap stop_of acts;
        reports = λ lead. ap (item_turn l s lead k) acts ∙ ap (access_turn l s k o element op) p ∙ ap (unset_turn l k (kind_of op) (region_of (group_of l k) o)) u;
        shows = (o, element, op, first, below, acts, refl, refl, p, w.0, w.1);
        no_order = refl;
      }

  -- it is possible
  leads :
      (first : ℕ) → byte_at l k o element op ≡ Some first → unset_at l s k o op first ≡ None
      → (value : ℕ) × (step l s (Item k) ≡ Some (made l s k (region_for l k o) first op value))
  leads first p u =
      let w : (x : ℕ) × (found op (s.memory (region_of (group_of l k) o)) first ≡ Some x) = found_set op (s.memory (region_of (group_of l k) o)) first u in
      (w.0, item_at l s k o element op first w.0 below acts p w.1)

  pub never_refused : (first : ℕ) → byte_at l k o element op ≡ Some first → unset_at l s k o op first ≡ None → step l s (Item k) ≡ None → ⊥
  never_refused first p u none = none_some _ (sym none ∙ (leads first p u).1)

  -- it was made
  pub was_made :
      (first : ℕ) (t : State) → byte_at l k o element op ≡ Some first → unset_at l s k o op first ≡ None → step l s (Item k) ≡ Some t → MakesAccess l s k t
  was_made first t p u h =
      record {
        goes = ap stop_of acts;
        makes = λ lead. ap (item_turn l s lead k) acts ∙ ap (access_turn l s k o element op) p ∙ ap (unset_turn l k (kind_of op) (region_of (group_of l k) o)) u;
        steps = h;
      }

  -- and where it lies
  pub lies :
      (first : ℕ) (t : State) → byte_at l k o element op ≡ Some first → unset_at l s k o op first ≡ None → step l s (Item k) ≡ Some t
      → first + size_of op < 2 ^ 64 → (x : Access) (earlier : List Access) → t.log ≡ x ∷ earlier → x.first + byte_count x.width < 2 ^ 64
  lies first t p u h small x earlier e =
      let w : (value : ℕ) × (step l s (Item k) ≡ Some (made l s k (region_for l k o) first op value)) = leads first p u in
      let same : made l s k (region_for l k o) first op w.0 ≡ t = some_inj _ t (sym w.1 ∙ h) in
      let newest : access_of l s k (region_for l k o) first op ≡ x = cons_inj _ x _ earlier (ap (λ (z : State). z.log) same ∙ e) in
      subst (λ (z : Access). z.first + byte_count z.width < 2 ^ 64) newest small

-- an item that can do nothing more
failure_shown : (l : Launch) (s : State) (k : ℕ) (c : Cause) → k < l.items → next_action l s k ≡ action.Fault c → Shows l s (fault_of l k c) × (is_order (fault_of l k c) ≡ false)
failure_shown l s k (cause.PrivateBounds array element) b e = ((_, b, e, refl), refl)
failure_shown l s k (cause.UnsetVariable variable) b e = ((_, b, e, refl), refl)
failure_shown l s k (cause.UnsetElement array element) b e = ((_, b, e, refl), refl)
failure_shown l s k cause.DivideByZero b e = ((_, b, e, refl), refl)
failure_shown l s k cause.DivideOverflow b e = ((_, b, e, refl), refl)
failure_shown l s k cause.Budget b e = ((_, b, e, refl), refl)

pub failed : (l : Launch) (s : State) (k : ℕ) (c : Cause) → k < l.items → next_action l s k ≡ action.Fault c → CannotGo l s k (fault_of l k c)
failed l s k c b acts =
    let w : Shows l s (fault_of l k c) × (is_order (fault_of l k c) ≡ false) = failure_shown l s k c b acts in
    record {
      goes = ap stop_of acts;
      reports = λ first. ap (item_turn l s first k) acts;
      shows = w.0;
      no_order = w.1;
    }

-- ---- an event that was played

pub played : (l : Launch) (s : State) (e : Event) (new : State → Type 0) (yes : Bool) → yes ≡ true → IsPlayed l s e new yes → (next : State) × (step l s e ≡ Some next) × new next
played l s e new true is h = h
played l s e new false is h = absurd (false≢true is)

pub unplayed : (l : Launch) (s : State) (e : Event) (new : State → Type 0) (yes : Bool) → yes ≡ false → IsPlayed l s e new yes → step l s e ≡ None
unplayed l s e new true is h = absurd (false≢true (sym is))
unplayed l s e new false is h = h.0

-- what came of an access that was made
pub made_judged :
    (l : Launch) (s : State) (k : ℕ) (new : State → Type 0) (t : State) (x : Stepped) → MakesAccess l s k t → new t → IsJudged l t x → IsStepped l s k new x
made_judged l s k new t stepped.Made made holds j = (t, made, j, holds)
made_judged l s k new t (stepped.Races f) made holds j = (t, made, j, holds)
made_judged l s k new t (stepped.Stops stop) made holds j = absurd j
made_judged l s k new t (stepped.Fails f) made holds j = absurd j
