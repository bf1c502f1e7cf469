-- What the calls of the driver promise.
-- Numbers of sections are those of OpenCL 1.2; "own" is what this project decided.
use Rattle.std.specs.Prelude.{◌≡◌, ◌+◌, ◌<◌, [], ◌∷◌, ◌++◌, Option, IfSome, IfNone, Result, IfOk, IfErr}
use Rattle.std.specs.Box.{box_value}
use Rattle.std.specs.declared.alloc.Global.{Global}
use Rattle.std.specs.declared.boxed.Box.{Box}
use Rattle.host_queue.specs.declared.machine.Machine.{Ghosts}
use Rattle.host_queue.specs.declared.queue.TheConstants.{TICKETS}
use Rattle.host_queue.specs.declared.queue.Answered.{Answered}
use Rattle.host_queue.specs.declared.queue.Client.{Client}
use Rattle.host_queue.specs.declared.queue.Driver.{Driver}
use Rattle.host_queue.specs.declared.queue.Full.{Full}
use Rattle.host_queue.specs.declared.view.Request.{Request}
use Rattle.host_queue.specs.declared.view.Request.TheVariants.{Asked, Answered as AnsweredBy}
use Rattle.host_queue.specs.declared.view.Entry.{Entry}
use Rattle.host_queue.specs.Views.{entry}
use Rattle.host_queue.specs.Clients.{IsOnly, StaysOpen}
use Rattle.host_queue.specs.Seats.{known_of, answered_count, start_of, name_of, admitted_of, left_count, IsUnchanged, AnsweredAtMostOne, IsWaiting, HasSameClients}

module _ {D C R : Type 0} {m : Ghosts D C R} where
  -- the driver of the same queue, with the same machine, which only heard of a client (own)
  abbrev pub OnlyHeard : Driver D C R m → Driver D C R m → Type 0
  OnlyHeard old new =
      (new.machine ≡ old.machine) × (known_of new.seat ≡ known_of old.seat) × (start_of new.seat ≡ start_of old.seat)
      × (admitted_of new.seat ≡ admitted_of old.seat) × (left_count new.seat ≡ left_count old.seat)

  -- the driver of the same queue, with the same machine, which only let clients in (own)
  abbrev pub OnlyLetIn : Driver D C R m → Driver D C R m → Type 0
  OnlyLetIn old new =
      (new.seat.table_id ≡ old.seat.table_id) × (new.machine ≡ old.machine) × (start_of new.seat ≡ start_of old.seat)
      × (known_of new.seat ≡ known_of old.seat) × (left_count new.seat ≡ left_count old.seat)

  -- the driver and its machine are what they were (own)
  abbrev pub DidNothing : Driver D C R m → Driver D C R m → Type 0
  DidNothing old new = (new.machine ≡ old.machine) × IsUnchanged old.seat new.seat

module _ {D C R : Type 0} {m : Ghosts D C R} (step : D → C → R → D → Type 0) where
  -- the driver answered the next ticket: its command was done on the machine, and is the last of the history (3.2.1)
  abbrev pub DidNext : Driver D C R m → Driver D C R m → Type 0
  DidNext old new = (x : Entry C R) × (known_of new.seat ≡ known_of old.seat ++ x ∷ []) × step old.machine x.command x.reply new.machine

  -- the driver answered the next ticket, and the note counts it and knows what the driver knows (3.2.1, own)
  abbrev pub AnsweredNext : Driver D C R m → Driver D C R m → Answered D C R m → Type 0
  AnsweredNext old new note =
      (note.seat.table_id ≡ old.seat.table_id) × (note.count ≡ answered_count old.seat + 1) × (known_of note.seat ≡ known_of new.seat) × DidNext old new

  -- the driver drove once: it answered the next ticket, or its request isn't there and nothing changed (3.2.1, own)
  pub record Drove (old new : Driver D C R m) (result : Option (Answered D C R m)) : Type 0 where
    pub one : new.seat.table_id ≡ old.seat.table_id
    pub some : IfSome result (AnsweredNext old new)
    pub grows : AnsweredAtMostOne old.seat new.seat
    pub none : IfNone result (DidNothing old new)
    pub waits : IfNone result (IsWaiting old.seat)
    pub same : HasSameClients old.seat new.seat

  -- the request's command was done on the machine, is the last of the history, and the reply lies in `answer` (3.2.1)
  abbrev pub DidRequest : Request C R → Request C R → Driver D C R m → Driver D C R m → Type 0
  DidRequest request answer old new =
      (c : C) × (r : R) × (request ≡ Asked c) × (answer ≡ AnsweredBy r) × step old.machine c r new.machine × (known_of new.seat ≡ known_of old.seat ++ entry c r ∷ [])

  -- the driver did its only client's request at once; or all tickets are answered, and nothing changed (3.2.1, own)
  pub record AnsweredAtOnce (request : Box (Request C R) Global) (old new : Driver D C R m) (client client' : Client D C R m) (result : Result (Box (Request C R) Global) (Full C R)) : Type 0 where
    pub one : (new.seat.table_id ≡ old.seat.table_id) × (client'.seat.table_id ≡ client.seat.table_id)
    pub only : IsOnly new.seat client'.seat
    pub ok : IfOk result (λ answer. DidRequest (box_value request) (box_value answer) old new)
    pub room : IfOk result (λ _. answered_count old.seat < TICKETS)
    pub err : IfErr result (λ full. (full.request ≡ request) × (answered_count old.seat ≡ TICKETS) × (new ≡ old) × (client' ≡ client))
    pub others : StaysOpen client.seat client'.seat
    pub start : (start_of new.seat ≡ start_of old.seat) × (start_of client'.seat ≡ start_of client.seat) × (name_of client'.seat ≡ name_of client.seat)
