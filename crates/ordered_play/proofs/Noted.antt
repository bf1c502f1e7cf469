-- A launch as it is played, whose accesses a filter notes.
use Rattle.std.proofs.Common.{◌≡◌, ℕ, Bool, true, false, Option, None, Some, List, [], ◌∷◌, ◌++◌, refl, sym, ap, ◌∙◌, subst}
use Rattle.std.specs.Prelude.{reverse}
use Rattle.std.proofs.lemmas.Bool.{false≢true}
use Rattle.std.proofs.lemmas.List.{reverse-append, reverse-reverse}
use Rattle.clmodel.specs.Launch.{Launch, group_of}
use Rattle.clmodel.specs.Run.{State, step}
use Rattle.clmodel.specs.declared.access.Access.{Access}
use Rattle.clmodel.specs.declared.schedule.Event.TheVariants.{Item, Release}
use Rattle.clmodel.proofs.Steps.{ItemStep, ReleaseStep, item_inverse, release_inverse}
use Rattle.item_step.specs.Running.{Running}
use Rattle.ordered_runs.specs.Ordered.{newest_race}
use Rattle.race_filter.specs.Filters.{IsPassed, Keeps}
use Rattle.race_filter.specs.declared.filter.RaceFilter.{RaceFilter}
use Rattle.replay.specs.States.{IsAt, IsPlayed}
use Rattle.replay.specs.declared.player.Player.{Player}
use Rattle.ordered_play.specs.Watched.{IsMade, IsWatched}
use Rattle.ordered_play.specs.declared.watching.Watched.{Watched}
use Rattle.ordered_play.proofs.Accesses.{played, unplayed}

-- ---- what came of an access

pub made_of :
    (l : Launch) (s : State) (k : ℕ) (new : State → Type 0) (made : Option Bool) (quiet : Bool) → made ≡ Some quiet → IsMade l s k new made
    → (next : State) × (step l s (Item k) ≡ Some next) × new next × (quiet ≡ true → newest_race l next.log ≡ None)
made_of l s k new made quiet is h = subst (IsMade l s k new) is h

pub unmade_of : (l : Launch) (s : State) (k : ℕ) (new : State → Type 0) (made : Option Bool) → made ≡ None → IsMade l s k new made → step l s (Item k) ≡ None
unmade_of l s k new made is h = (subst (IsMade l s k new) is h).0

-- ---- logs

head_inj : (x y : Access) (xs ys : List Access) → x ∷ xs ≡ y ∷ ys → x ≡ y
head_inj x y xs ys e = cc

tail_inj : (x y : Access) (xs ys : List Access) → x ∷ xs ≡ y ∷ ys → xs ≡ ys
tail_inj x y xs ys e = cc

-- an item's event puts one access in front of the log
one_more : (l : Launch) (s : State) (k : ℕ) (next : State) → step l s (Item k) ≡ Some next → (x : Access) × (next.log ≡ x ∷ s.log)
one_more l s k next h =
    let w : ItemStep l s k next = item_inverse l s k next h in
    (_, sym (ap (λ (z : State). z.log) w.gives))

-- which is the last of a log that has the oldest first
newest_is :
    (l : Launch) (s : State) (k : ℕ) (next : State) (log earlier : List Access) (newest : Access) → step l s (Item k) ≡ Some next → log ≡ reverse next.log → log ≡ earlier ++ newest ∷ []
    → newest ∷ s.log ≡ next.log
newest_is l s k next log earlier newest h told split =
    let w : (x : Access) × (next.log ≡ x ∷ s.log) = one_more l s k next h in
    let e : next.log ≡ newest ∷ reverse earlier = sym (ap reverse told ∙ reverse-reverse next.log) ∙ ap reverse split ∙ reverse-append earlier (newest ∷ []) in
    ap (λ (z : Access). z ∷ s.log) (head_inj newest w.0 (reverse earlier) s.log (sym e ∙ w.1)) ∙ sym w.1

-- a release leaves the log
same_log : (l : Launch) (s : State) (g : ℕ) (next : State) → step l s (Release g) ≡ Some next → s.log ≡ next.log
same_log l s g next h =
    let w : ReleaseStep l s g next = release_inverse l s g next h in
    ap (λ (z : State). z.log) w.gives

none_kept : (l : Launch) (filter : RaceFilter) → Keeps l filter []
none_kept l filter whole y w = absurd w

-- which is the item's own
item_is :
    (l : Launch) (s : State) (k : ℕ) (next : State) (log earlier : List Access) (newest : Access) → step l s (Item k) ≡ Some next → log ≡ reverse next.log → log ≡ earlier ++ newest ∷ []
    → newest.item ≡ k
item_is l s k next log earlier newest h told split =
    let w : ItemStep l s k next = item_inverse l s k next h in
    let first : (x : Access) × (next.log ≡ x ∷ s.log) × (x.item ≡ k) = (_, sym (ap (λ (z : State). z.log) w.gives), refl) in
    ap (λ (z : Access). z.item) (head_inj newest first.0 s.log s.log (newest_is l s k next log earlier newest h told split ∙ first.1)) ∙ first.2

-- ---- with the filter

module _ {D : Type 0} (launch_of : D → Launch) (started_of : D → ℕ → Running) (l : Launch) (r : ℕ → Running) (s : State) where
  abbrev At : Player D → State → Type 0
  At = IsAt {D = D} launch_of started_of l r

  abbrev Watches : Watched D → State → Type 0
  Watches = IsWatched {D = D} launch_of started_of l r

  -- an access that isn't possible
  pub not_made :
      (k : ℕ) (old : Watched D) (player : Player D) (yes : Bool) → Watches old s → yes ≡ false → IsPlayed l s (Item k) (At player) yes
      → IsMade l s k (Watches (record old { player = player })) None
  not_made k old player true is off h = absurd (false≢true (sym off))
  not_made k old player false is off h = (h.0, record { at = h.1; kept = is.kept })

  -- one that was made, of a log in which it isn't told
  pub made_untold :
      (k : ℕ) (old : Watched D) (player : Player D) (yes : Bool) (log : List Access) → Watches old s → yes ≡ true → IsPlayed l s (Item k) (At player) yes
      → ((state : State) → At player state → log ≡ reverse state.log) → log ≡ [] → IsMade l s k (Watches (record old { player = player })) (Some false)
  made_untold k old player false log is so h told empty = absurd (false≢true so)
  made_untold k old player true log is so h told empty =
      let none : next_log ≡ [] = sym (ap reverse (told h.0 h.2) ∙ reverse-reverse next_log) ∙ ap reverse empty in
      (h.0, h.1, record { at = h.2; kept = subst (Keeps l old.filter) (sym none) (none_kept l old.filter) }, λ e. absurd (false≢true e))
    where
      next_log : List Access
      next_log = h.0.log

  -- one that was made, and passed the filter
  pub made_noted :
      (group : ℕ) (uniform : Bool) (k : ℕ) (old : Watched D) (player : Player D) (filter : RaceFilter) (yes quiet : Bool) (log earlier : List Access) (newest : Access) → l.uniform ≡ uniform → group_of l k ≡ group → Watches old s → yes ≡ true
      → IsPlayed l s (Item k) (At player) yes → ((state : State) → At player state → log ≡ reverse state.log) → log ≡ earlier ++ newest ∷ [] → IsPassed group uniform newest old.filter filter quiet
      → IsMade l s k (Watches (record { player = player; filter = filter })) (Some quiet)
  made_noted group uniform k old player filter false quiet log earlier newest alike own is so h told split claims = absurd (false≢true so)
  made_noted group uniform k old player filter true quiet log earlier newest alike own is so h told split claims =
      let same : newest ∷ s.log ≡ h.0.log = newest_is l s k h.0 log earlier newest h.1 (told h.0 h.2) split in
      let c = claims l s.log alike (ap (group_of l) (item_is l s k h.0 log earlier newest h.1 (told h.0 h.2) split) ∙ own) is.kept in
      (h.0, h.1, record { at = h.2; kept = subst (Keeps l filter) same c.0 }, λ e. ap (newest_race l) (sym same) ∙ c.1 e)

  -- a release
  pub released_too :
      (g : ℕ) (old : Watched D) (player : Player D) (yes : Bool) → Watches old s → IsPlayed l s (Release g) (At player) yes
      → IsPlayed l s (Release g) (Watches (record old { player = player })) yes
  released_too g old player true is h = (h.0, h.1, record { at = h.2; kept = subst (Keeps l old.filter) (same_log l s g h.0 h.1) is.kept })
  released_too g old player false is h = (h.0, record { at = h.1; kept = is.kept })
