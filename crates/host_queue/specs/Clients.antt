-- What holds of a client, of the driver and of a note between two calls.
-- Numbers of sections are those of OpenCL 1.2; "own" is what this project decided.
use Rattle.std.specs.Prelude.{◌≡◌, ◌≢◌, ℕ, ◌<◌, List, [], ◌∷◌, length}
use mathlib.Core.Option.{some}
use lib.ListN.{get_elem?}
use Rattle.atomic_table.specs.declared.shared.Seat.{Seat}
use Rattle.host_queue.specs.declared.view.Stage.TheVariants.{Idle}
use Rattle.host_queue.specs.declared.view.Held.{Held}
use Rattle.host_queue.specs.declared.view.Entry.{Entry}
use Rattle.host_queue.specs.declared.view.View.{View}
use Rattle.host_queue.specs.History.{Begins, RunsTo}
use Rattle.host_queue.specs.Views.{Has}
use Rattle.host_queue.specs.Plays.{Fits}

module _ {D C R : Type 0} where
  -- a client's seat that may draw (own)
  pub record IsReady (v : View D C R) : Type 0 where
    pub idle : v.stage ≡ Idle
    pub part : v.part ≡ 1
    pub share : v.share ≡ 1
    pub count : v.count ≡ length v.tickets
    pub driving : v.driving ≡ 0
    pub below : (i : ℕ) (t : Held C) → get_elem? v.tickets i ≡ some t → (t.number < v.floor) × (t.number < 4096)
    pub collected : (n : ℕ) → Has v.collected n → n < v.floor

  -- a client's seat between two calls (own)
  pub record IsClient (step : D → C → R → D → Type 0) (v : View D C R) : Type 0 where
    pub ready : IsReady v
    pub fits : Fits step v v.known

  -- the driver's seat between two calls: what it knows is all that the queue did, and left this machine (3.2.1, 5.11)
  pub record IsDriver (step : D → C → R → D → Type 0) (v : View D C R) (machine : D) : Type 0 where
    pub idle : v.stage ≡ Idle
    pub driving : v.driving ≡ 1
    pub left : v.share ≡ 0 → v.count ≡ 0
    pub runs : (d : D) → v.start ≡ d ∷ [] → RunsTo step d v.known machine

  -- the seat of a note (own)
  pub record IsNote (v : View D C R) : Type 0 where
    pub idle : v.stage ≡ Idle
    pub share : v.share ≡ 0
    pub count : v.count ≡ 0

module _ {B D C R : Type 0} where
  -- the client drew the ticket n, and has not collected its reply (own)
  abbrev pub IsOpen : Seat B (View D C R) → ℕ → Type 0
  IsOpen client n = (i : ℕ) × (t : Held C) × (get_elem? client.me.0.tickets i ≡ some t) × (t.number ≡ n) × (Has client.me.0.collected n → ⊥)

  -- each ticket that was open is open (own)
  abbrev pub StaysOpen : Seat B (View D C R) → Seat B (View D C R) → Type 0
  StaysOpen old new = (n : ℕ) → IsOpen old n → IsOpen new n

  -- each ticket that was open is open, but for n (own)
  abbrev pub StaysOpenBut : ℕ → Seat B (View D C R) → Seat B (View D C R) → Type 0
  StaysOpenBut n old new = (m : ℕ) → m ≢ n → IsOpen old m → IsOpen new m

  -- the driver let one client in, and each ticket of the client is answered, as the client knows (own)
  pub record IsOnly (driver client : Seat B (View D C R)) : Type 0 where
    pub admitted : driver.me.0.admitted ≡ 1
    pub share : driver.me.0.share ≡ 0
    pub answered : length client.me.0.tickets ≡ length driver.me.0.known
    pub known : Begins driver.me.0.known client.me.0.known

  -- no ticket is that of both clients (own)
  abbrev pub IsApart : Seat B (View D C R) → Seat B (View D C R) → Type 0
  IsApart one other = (i j : ℕ) (t u : Held C) → get_elem? one.me.0.tickets i ≡ some t → get_elem? other.me.0.tickets j ≡ some u → t.number ≢ u.number

module _ {C : Type 0} where
  -- the tickets are below the number (own)
  abbrev pub AllBelow : List (Held C) → ℕ → Type 0
  AllBelow tickets n = (i : ℕ) (t : Held C) → get_elem? tickets i ≡ some t → t.number < n

module _ {C R : Type 0} where
  -- the list has these commands at these tickets, as far as it goes (3.2.1)
  abbrev pub AgreeAt : List (Held C) → List (Entry C R) → Type 0
  AgreeAt tickets known = (i : ℕ) (t : Held C) → get_elem? tickets i ≡ some t → (x : Entry C R) → get_elem? known t.number ≡ some x → x.command ≡ t.command

  -- the list has each of these tickets, with its command (3.2.1)
  abbrev pub Serves : List (Held C) → List (Entry C R) → Type 0
  Serves tickets log = (i : ℕ) (t : Held C) → get_elem? tickets i ≡ some t → (x : Entry C R) × (get_elem? log t.number ≡ some x) × (x.command ≡ t.command)
