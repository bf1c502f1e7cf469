-- What each step tells. All of it is own: the standard doesn't say how a queue is kept.
use Rattle.std.specs.Prelude.{◌≡◌, ◌≢◌, ℕ, ◌+◌, ◌<◌, ◌≤◌, List, [], ◌∷◌, ◌++◌, length, Option, Some, None}
use mathlib.Core.Option.{some}
use lib.ListN.{get_elem?}
use Rattle.atomic_table.specs.Table.{Me, Step}
use Rattle.host_queue.specs.declared.view.Request.{Request}
use Rattle.host_queue.specs.declared.view.Request.TheVariants.{Asked, Answered}
use Rattle.host_queue.specs.declared.view.Stage.TheVariants.{Idle, Drawn, Taken}
use Rattle.host_queue.specs.declared.view.Held.{Held}
use Rattle.host_queue.specs.declared.view.Entry.{Entry}
use Rattle.host_queue.specs.declared.view.View.{View}
use Rattle.host_queue.specs.History.{Begins, Runs}
use Rattle.host_queue.specs.Views.{entry, held}

-- the next ticket of the list is none of those that the seat heard of
abbrev pub IsUnheard : {D C R : Type 0} → View D C R → Type 0
IsUnheard {D} {C} {R} v = (i : ℕ) (t : Held C) → get_elem? v.heard_tickets i ≡ some t → t.number ≢ length v.known

module _ {D C R B : Type 0} (content : B → Request C R) where
  -- the next number was drawn, which none of the seat's own tickets has; or all are drawn
  abbrev pub drew : Step (Option B) → Me (Option B) (View D C R) → ℕ → Me (Option B) (View D C R) → Type 0
  drew st m n m' = (n < st.slots → (m'.0 ≡ record m.0 { stage = Drawn n; floor = n + 1; count = m.0.count + 1 }) × (m'.1 ≡ (n, None) ∷ m.1) × (m.0.floor ≤ n) × (length m.0.known ≤ n))
      × (st.slots ≤ n → (m'.0 ≡ record m.0 { credit = 0; floor = n + 1 }) × (m'.1 ≡ m.1) × (m.0.floor ≤ n))

  -- the request in hand was placed
  abbrev pub placed : Step (Option B) → Me (Option B) (View D C R) → ℕ → Me (Option B) (View D C R) → Type 0
  placed st m e m' = (n : ℕ) (b : B) (c : C) (more : List (ℕ × Option B)) → m.0.stage ≡ Drawn n → m.1 ≡ (n, Some b) ∷ more → content b ≡ Asked c
      → (m'.0 ≡ record m.0 { stage = Idle; tickets = m.0.tickets ++ held n c ∷ [] }) × (m'.1 ≡ more)

  -- the next ticket's request was taken, or is not there, so that the seat has not heard of it
  abbrev pub took : Step (Option B) → Me (Option B) (View D C R) → ℕ → Me (Option B) (View D C R) → Type 0
  took st m e m' = (e ≡ 1 → (b : B) × (c : C) × (content b ≡ Asked c) × (m'.0 ≡ record m.0 { stage = Taken (c ∷ []) }) × (m'.1 ≡ (length m.0.known, Some b) ∷ m.1)) × (e ≢ 1 → (m' ≡ m) × IsUnheard m.0)

  -- the answer in hand was put, and stands in the history
  abbrev pub answered : Step (Option B) → Me (Option B) (View D C R) → ℕ → Me (Option B) (View D C R) → Type 0
  answered st m e m' = (b : B) (c : C) (r : R) (more : List (ℕ × Option B)) → m.0.stage ≡ Taken (c ∷ []) → m.1 ≡ (length m.0.known, Some b) ∷ more → content b ≡ Answered r
      → (m'.0 ≡ record m.0 { stage = Idle; known = m.0.known ++ entry c r ∷ [] }) × (m'.1 ≡ more)

module _ {D C R : Type 0} (step : D → C → R → D → Type 0) where
  -- a list that began so is a run, and has the seat's commands at its tickets
  pub record Fits (v : View D C R) (known : List (Entry C R)) : Type 0 where
    pub goes_on : Begins v.known known
    pub runs : (d : D) → v.start ≡ d ∷ [] → Runs step d known
    pub own : (i : ℕ) (t : Held C) → get_elem? v.tickets i ≡ some t → (x : Entry C R) → get_elem? known t.number ≡ some x → x.command ≡ t.command

module _ {D C R B : Type 0} (step : D → C → R → D → Type 0) (content : B → Request C R) where
  -- the answer of the ticket was collected, or is not there
  abbrev pub gathered : Step (Option B) → Me (Option B) (View D C R) → ℕ → Me (Option B) (View D C R) → Type 0
  gathered st m e m' = (n : ℕ) → st.word ≡ n + 32 → Fits step m.0 m'.0.known × Begins m.0.heard_known m'.0.known
      × (e ≡ 3 → (b : B) × (x : Entry C R) × (m'.0 ≡ record m.0 { collected = n ∷ m.0.collected; known = m'.0.known }) × (m'.1 ≡ (n, Some b) ∷ m.1)
      × (get_elem? m'.0.known n ≡ some x) × (content b ≡ Answered x.reply))
      × (e ≢ 3 → (m'.0 ≡ record m.0 { known = m'.0.known }) × (m'.1 ≡ m.1) × (length m'.0.known ≤ n))

  -- the driver's list was seen, and the count of draws; what was heard agrees with the list
  pub record Saw (v : View D C R) (known : List (Entry C R)) (floor : ℕ) : Type 0 where
    pub fits : Fits step v known
    pub own_known : 0 < v.driving → known ≡ v.known
    pub leads : Begins v.known known
    pub floors : (v.floor ≤ floor) × (v.heard_floor ≤ floor) × (length known ≤ floor)
    pub heard : Begins v.heard_known known
    pub heard_own : (i : ℕ) (t : Held C) → get_elem? v.heard_tickets i ≡ some t → (x : Entry C R) → get_elem? known t.number ≡ some x → x.command ≡ t.command
    pub apart : v.heard_name ≢ v.name → (i j : ℕ) (t u : Held C) → get_elem? v.heard_tickets i ≡ some t → get_elem? v.tickets j ≡ some u → t.number ≢ u.number

  abbrev pub looked : Step (Option B) → Me (Option B) (View D C R) → ℕ → Me (Option B) (View D C R) → Type 0
  looked st m e m' = (m'.0 ≡ record m.0 { known = m'.0.known; floor = e }) × (m'.1 ≡ m.1) × Saw m.0 m'.0.known e
      × (0 < m.0.driving → m.0.share ≡ m.0.admitted → (e ≤ st.slots → m.0.count ≡ e) × (st.slots ≤ e → m.0.count ≡ st.slots))
