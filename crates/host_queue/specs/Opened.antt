-- The clients and the driver of a queue that was just opened. All of it is own.
use Rattle.std.specs.Prelude.{◌≡◌, ℕ, List, [], ◌∷◌}
use mathlib.Core.Option.{some}
use lib.ListN.{get_elem?}
use Rattle.atomic_table.specs.declared.shared.Seat.{Seat}
use Rattle.host_queue.specs.declared.view.View.{View}

-- P of each item and its index
abbrev pub Each : {A : Type 0} → List A → (ℕ → A → Type 0) → Type 0
Each {A} xs P = (k : ℕ) (x : A) → get_elem? xs k ≡ some x → P k x

module _ {B D C R : Type 0} where
  -- the client k of a queue, which has drawn and seen nothing
  abbrev pub IsGuest : List D → ℕ → Seat B (View D C R) → Type 0
  IsGuest start k client = (client.me.0.name ≡ k) × (client.me.0.start ≡ start) × (client.me.0.tickets ≡ []) × (client.me.0.known ≡ [])

  -- the driver of a queue over this machine, which let so many clients in, and has answered nothing
  pub record IsNewDriver (machine : D) (clients : ℕ) (driver : Seat B (View D C R)) : Type 0 where
    pub start : driver.me.0.start ≡ machine ∷ []
    pub known : driver.me.0.known ≡ []
    pub admitted : driver.me.0.admitted ≡ clients
    pub share : driver.me.0.share ≡ 0
