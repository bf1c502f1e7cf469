-- What the contracts say of a seat: what it knows, and what a call leaves of it.
-- Numbers of sections are those of OpenCL 1.2; "own" is what this project decided.
use Rattle.std.specs.Prelude.{◌≡◌, ℕ, ◌+◌, ◌<◌, ◌≤◌, List, [], ◌∷◌, ◌++◌, length}
use mathlib.Core.Option.{some}
use lib.ListN.{get_elem?}
use Rattle.atomic_table.specs.declared.shared.Seat.{Seat}
use Rattle.host_queue.specs.declared.queue.TheConstants.{TICKETS}
use Rattle.host_queue.specs.declared.view.Request.{Request}
use Rattle.host_queue.specs.declared.view.Request.TheVariants.{Asked, Answered}
use Rattle.host_queue.specs.declared.view.Held.{Held}
use Rattle.host_queue.specs.declared.view.Entry.{Entry}
use Rattle.host_queue.specs.declared.view.View.{View}
use Rattle.host_queue.specs.History.{Begins, RunsTo}
use Rattle.host_queue.specs.Views.{held}
use Rattle.host_queue.specs.Clients.{Serves}
use Rattle.host_queue.specs.Plays.{Fits, IsUnheard}
use Rattle.host_queue.specs.Notes.{host_of, guest_of}

module _ {B D C R : Type 0} where
  -- the commands that the seat knows to be done, in their order, with their replies (3.2.1)
  abbrev pub known_of : Seat B (View D C R) → List (Entry C R)
  known_of seat = seat.me.0.known

  -- how many tickets the seat knows to be answered (own)
  abbrev pub answered_count : Seat B (View D C R) → ℕ
  answered_count seat = length seat.me.0.known

  -- the tickets that a client drew, with their commands, the first one first (3.2.1)
  abbrev pub tickets_of : Seat B (View D C R) → List (Held C)
  tickets_of client = client.me.0.tickets

  -- how many tickets a client drew (own)
  abbrev pub ticket_count : Seat B (View D C R) → ℕ
  ticket_count client = length client.me.0.tickets

  -- the tickets whose replies a client collected, the last one first (own)
  abbrev pub collected_of : Seat B (View D C R) → List ℕ
  collected_of client = client.me.0.collected

  -- the least number that a client can draw next (own)
  abbrev pub floor_of : Seat B (View D C R) → ℕ
  floor_of client = client.me.0.floor

  -- the number of a client (own)
  abbrev pub name_of : Seat B (View D C R) → ℕ
  name_of client = client.me.0.name

  -- the machine that the queue was opened with (own)
  abbrev pub start_of : Seat B (View D C R) → List D
  start_of seat = seat.me.0.start

  -- how many clients the driver let in (own)
  abbrev pub admitted_of : Seat B (View D C R) → ℕ
  admitted_of driver = driver.me.0.admitted

  -- how many clients left: the driver has their rights to draw (own)
  abbrev pub left_count : Seat B (View D C R) → ℕ
  left_count driver = driver.me.0.share

  -- how many tickets the clients drew that left (own)
  abbrev pub left_tickets : Seat B (View D C R) → ℕ
  left_tickets driver = driver.me.0.count

  -- the seat is what it was (own)
  abbrev pub IsUnchanged : Seat B (View D C R) → Seat B (View D C R) → Type 0
  IsUnchanged old new = new.me.0 ≡ old.me.0

  -- a number is a ticket that a client may draw: none that it drew, or that it knows to be answered (own)
  abbrev pub MayDraw : Seat B (View D C R) → ℕ → Type 0
  MayDraw client n = (n < TICKETS) × (client.me.0.floor ≤ n) × (length client.me.0.known ≤ n)

  -- a client drew the ticket n for this request: it is the last of its tickets (3.2.1)
  abbrev pub Drew : Request C R → ℕ → Seat B (View D C R) → Seat B (View D C R) → Type 0
  Drew request n old new = (c : C) × (request ≡ Asked c) × (new.me.0.tickets ≡ old.me.0.tickets ++ held n c ∷ [])

  -- the same client, which knows and has collected no more (own)
  abbrev pub OnlyDrew : Seat B (View D C R) → Seat B (View D C R) → Type 0
  OnlyDrew old new = (new.me.0.known ≡ old.me.0.known) × (new.me.0.collected ≡ old.me.0.collected) × (new.me.0.start ≡ old.me.0.start) × (new.me.0.name ≡ old.me.0.name)

  -- a request has the reply that stands in the history at the ticket n, as the client knows (3.2.1)
  abbrev pub HasReply : Seat B (View D C R) → ℕ → Request C R → Type 0
  HasReply client n request = (x : Entry C R) × (get_elem? client.me.0.known n ≡ some x) × (request ≡ Answered x.reply)

  -- a client collected the reply of the ticket n (own)
  abbrev pub Collected : ℕ → Seat B (View D C R) → Seat B (View D C R) → Type 0
  Collected n old new = new.me.0.collected ≡ n ∷ old.me.0.collected

  -- the same client, which has drawn nothing (own)
  abbrev pub OnlyCollected : Seat B (View D C R) → Seat B (View D C R) → Type 0
  OnlyCollected old new = (new.me.0.tickets ≡ old.me.0.tickets) × (new.me.0.floor ≡ old.me.0.floor) × (new.me.0.start ≡ old.me.0.start) × (new.me.0.name ≡ old.me.0.name)

  -- what a client knows begins with what it knew, is a run of the machine, and has its commands at its tickets (3.2.1)
  abbrev pub LearnedMore : (D → C → R → D → Type 0) → Seat B (View D C R) → Seat B (View D C R) → Type 0
  LearnedMore step old new = Fits step old.me.0 new.me.0.known

  -- the same client, which has drawn and collected nothing (own)
  abbrev pub OnlyLearned : Seat B (View D C R) → Seat B (View D C R) → Type 0
  OnlyLearned old new = (new.me.0.tickets ≡ old.me.0.tickets) × (new.me.0.collected ≡ old.me.0.collected) × (new.me.0.start ≡ old.me.0.start) × (new.me.0.name ≡ old.me.0.name)

  -- of two clients, what the one knows begins what the other knows (3.2.1)
  abbrev pub ShareHistory : Seat B (View D C R) → Seat B (View D C R) → Type 0
  ShareHistory one other =
      (length one.me.0.known ≤ length other.me.0.known → Begins one.me.0.known other.me.0.known)
      × (length other.me.0.known ≤ length one.me.0.known → Begins other.me.0.known one.me.0.known)

  -- a client knows what these two knew (own)
  abbrev pub KnowsBoth : Seat B (View D C R) → Seat B (View D C R) → Seat B (View D C R) → Type 0
  KnowsBoth one other new = Begins one.me.0.known new.me.0.known × Begins other.me.0.known new.me.0.known

  -- a client draws above what these two drew (own)
  abbrev pub DrawsAbove : Seat B (View D C R) → Seat B (View D C R) → Seat B (View D C R) → Type 0
  DrawsAbove one other new = (one.me.0.floor ≤ new.me.0.floor) × (other.me.0.floor ≤ new.me.0.floor)

  -- the same client, which lent its right to draw and has it back (own)
  abbrev pub OnlyLent : Seat B (View D C R) → Seat B (View D C R) → Type 0
  OnlyLent old new = (new.me.0.tickets ≡ old.me.0.tickets) × (new.me.0.collected ≡ old.me.0.collected) × (new.me.0.known ≡ old.me.0.known) × (new.me.0.floor ≡ old.me.0.floor) × (new.me.0.start ≡ old.me.0.start) × (new.me.0.name ≡ old.me.0.name)

  -- the driver let one client in, which is there (own)
  abbrev pub HasOneClient : Seat B (View D C R) → Type 0
  HasOneClient driver = (driver.me.0.admitted ≡ 1) × (driver.me.0.share ≡ 0)

  -- the driver heard of all tickets of a client (own)
  abbrev pub HeardOf : Seat B (View D C R) → Seat B (View D C R) → Type 0
  HeardOf driver client = driver.me.0.heard_tickets ≡ client.me.0.tickets

  -- each ticket that is drawn is this client's (own)
  abbrev pub DrewAll : Seat B (View D C R) → Type 0
  DrewAll client = (client.me.0.floor ≤ TICKETS → client.me.0.floor ≤ length client.me.0.tickets) × (TICKETS ≤ client.me.0.floor → TICKETS ≤ length client.me.0.tickets)

  -- the driver answered one ticket at most (3.2.1)
  abbrev pub AnsweredAtMostOne : Seat B (View D C R) → Seat B (View D C R) → Type 0
  AnsweredAtMostOne old new = Begins old.me.0.known new.me.0.known × (length new.me.0.known ≤ length old.me.0.known + 1)

  -- all tickets are answered, or the driver heard of no client that drew the next one (own)
  abbrev pub IsWaiting : Seat B (View D C R) → Type 0
  IsWaiting driver = length driver.me.0.known < TICKETS → IsUnheard driver.me.0

  -- the driver of the same queue, to which no client came and which none left (own)
  abbrev pub HasSameClients : Seat B (View D C R) → Seat B (View D C R) → Type 0
  HasSameClients old new = (new.me.0.start ≡ old.me.0.start) × (new.me.0.admitted ≡ old.me.0.admitted) × (new.me.0.share ≡ old.me.0.share) × (new.me.0.count ≡ old.me.0.count)

  -- the driver may let one client in (own)
  abbrev pub MayAdmit : Seat B (View D C R) → Type 0
  MayAdmit driver = 0 < driver.me.0.credit

  -- the driver let nobody in, and may let so many clients in (own)
  abbrev pub MayAdmitFirst : ℕ → Seat B (View D C R) → Type 0
  MayAdmitFirst clients driver = (clients ≤ 16) × (driver.me.0.credit ≡ 16) × (driver.me.0.admitted ≡ 0)

  -- the driver let one client more in (own)
  abbrev pub LetIn : Seat B (View D C R) → Seat B (View D C R) → Type 0
  LetIn old new = new.me.0 ≡ host_of old.me.0

  -- the client that this driver lets in next (own)
  abbrev pub IsNext : Seat B (View D C R) → Seat B (View D C R) → Type 0
  IsNext driver client = client.me.0 ≡ guest_of driver.me.0

  -- all clients left (own)
  abbrev pub HasNoClients : Seat B (View D C R) → Type 0
  HasNoClients driver = driver.me.0.share ≡ driver.me.0.admitted

  -- a list begins with what a client knows, and has its commands at its tickets (3.2.1)
  abbrev pub IsServed : Seat B (View D C R) → List (Entry C R) → Type 0
  IsServed client log = Begins client.me.0.known log × Serves client.me.0.tickets log

  -- so many clients left with so many tickets (own)
  abbrev pub HasLeft : ℕ → ℕ → Seat B (View D C R) → Seat B (View D C R) → Type 0
  HasLeft clients tickets old new = (new.me.0.share ≡ old.me.0.share + clients) × (new.me.0.count ≡ old.me.0.count + tickets)

  -- the driver of the same queue, which let nobody in (own)
  abbrev pub LetNobodyIn : Seat B (View D C R) → Seat B (View D C R) → Type 0
  LetNobodyIn old new = (new.me.0.start ≡ old.me.0.start) × (new.me.0.admitted ≡ old.me.0.admitted)

  -- a list is a run of the machine that the queue was opened with, and leaves `end` (3.2.1, 5.11)
  abbrev pub EndsAt : (D → C → R → D → Type 0) → Seat B (View D C R) → List (Entry C R) → D → Type 0
  EndsAt step driver log end = (d : D) → driver.me.0.start ≡ d ∷ [] → RunsTo step d log end
