-- What a seat knows at first, and words for lists of it. All of it is own.
use Rattle.std.specs.Prelude.{◌≡◌, ℕ, ◌+◌, List, [], ◌∷◌}
use mathlib.Core.Option.{some}
use lib.ListN.{get_elem?}
use Rattle.host_queue.specs.declared.view.Stage.TheVariants.{Idle}
use Rattle.host_queue.specs.declared.view.Held.{Held}
use Rattle.host_queue.specs.declared.view.Entry.{Entry}
use Rattle.host_queue.specs.declared.view.View.{View}

-- f of each, added up
abbrev pub total : {A : Type 0} → (A → ℕ) → List A → ℕ
total f [] = 0
total f (x ∷ xs) = f x + total f xs

abbrev pub Has : List ℕ → ℕ → Type 0
Has xs n = (i : ℕ) × (get_elem? xs i ≡ some n)

abbrev pub entry : {C R : Type 0} → C → R → Entry C R
entry c r = record { command = c; reply = r }

abbrev pub held : {C : Type 0} → ℕ → C → Held C
held n c = record { number = n; command = c }

module _ {D C R : Type 0} where
  abbrev pub credit : View D C R → ℕ
  credit v = v.credit

  abbrev pub share : View D C R → ℕ
  share v = v.share

  abbrev pub count : View D C R → ℕ
  count v = v.count

  -- a view with no part: it is what every seat may know
  abbrev pub newcomer : List D → ℕ → ℕ → List (Entry C R) → View D C R
  newcomer start part name known = record { start = start; part = part; name = name; credit = part; share = part; count = 0; driving = 0; admitted = 0; stage = Idle; tickets = []; collected = []; known = known; floor = 0; heard_name = 0; heard_floor = 0; heard_tickets = []; heard_known = [] }

  -- the driver's view at the start
  abbrev pub first_view : D → View D C R
  first_view d = record { start = d ∷ []; part = 0; name = 0; credit = 16; share = 0; count = 0; driving = 1; admitted = 0; stage = Idle; tickets = []; collected = []; known = []; floor = 0; heard_name = 0; heard_floor = 0; heard_tickets = []; heard_known = [] }
