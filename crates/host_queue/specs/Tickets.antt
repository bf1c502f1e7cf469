-- The rule of the table. All of it is own: the standard says that a queue's commands are done in order (3.2.1, 5.11 of
-- OpenCL 1.2), and not how it is kept. Word 16 counts the draws. Word n + 32 is that of the ticket n: 0 empty, 1
-- placed, 2 taken, 3 answered, 4 collected. The slot n is the ticket's. Nobody changes another word: these keep the
-- count of draws out of the cache lines of the tickets' words, and of word 0, which is loaded where a seat is cut or
-- joined.
use Rattle.std.specs.Prelude.{◌≡◌, ◌≢◌, ℕ, ◌+◌, ◌<◌, ◌≤◌, List, [], ◌∷◌, length, slice_index_or, Option, Some, None}
use mathlib.Core.Option.{some}
use mathlib.Core.Option as maybe
use lib.ListN.{get_elem?}
use Rattle.atomic_table.specs.Table.{State}
use Rattle.host_queue.specs.declared.view.Request.{Request}
use Rattle.host_queue.specs.declared.view.Request.TheVariants.{Asked, Answered}
use Rattle.host_queue.specs.declared.view.Stage.{Stage}
use Rattle.host_queue.specs.declared.view.Stage.TheVariants.{Idle, Drawn, Taken}
use Rattle.host_queue.specs.declared.view.Held.{Held}
use Rattle.host_queue.specs.declared.view.Entry.{Entry}
use Rattle.host_queue.specs.declared.view.View.{View}
use Rattle.host_queue.specs.History.{Begins, Runs}
use Rattle.host_queue.specs.Views.{total, Has, credit, share, count}

-- how often a number was drawn
abbrev pub drawn_of : List ℕ → ℕ
drawn_of words = slice_index_or words 16 0

-- the word of the ticket n
abbrev pub word_of : List ℕ → ℕ → ℕ
word_of words n = slice_index_or words (n + 32) 0

-- B is a boxed request, and content what it holds
-- one ticket: its command, its word and what is at home in its slot
pub record TicketOk {C R B : Type 0} (content : B → Request C R) (drawn : ℕ) (log : List (Entry C R)) (n : ℕ) (command : Option C) (word : ℕ) (home : maybe.Option (maybe.Option (Option B))) : Type 0 where
  pub free : drawn ≤ n → (word ≡ 0) × (home ≡ some (some None))
  pub unplaced : word ≡ 0 → command ≡ None
  pub placed : word ≡ 1 → (b : B) × (c : C) × (command ≡ Some c) × (content b ≡ Asked c) × (home ≡ some (some (Some b)))
  pub answered : word ≡ 3 → (b : B) × (x : Entry C R) × (get_elem? log n ≡ some x) × (content b ≡ Answered x.reply) × (home ≡ some (some (Some b)))
  pub logged : n < length log → (3 ≤ word) × ((x : Entry C R) × (get_elem? log n ≡ some x) × (command ≡ Some x.command))
  pub unlogged : length log ≤ n → word < 3
  pub last : word < 5

module _ {D C R : Type 0} (slots drawn : ℕ) (log : List (Entry C R)) (owner : ℕ → ℕ) (command : ℕ → Option C) (word : ℕ → ℕ) (v : View D C R) where
  abbrev pub AtStage : Stage C → Type 0
  AtStage Idle = Unit {0}
  AtStage (Drawn n) = (0 < v.part) × (owner n ≡ v.name) × (n < v.floor) × (n < slots) × (word n ≡ 0)
  AtStage (Taken []) = ⊥
  AtStage (Taken (c ∷ _)) = (0 < v.driving) × (length log < slots) × (word (length log) ≡ 2) × (command (length log) ≡ Some c)

pub record SeatOk {D C R : Type 0} (start : D) (slots drawn driver admitted : ℕ) (log : List (Entry C R)) (owner seat_of : ℕ → ℕ) (command : ℕ → Option C) (word : ℕ → ℕ) (j : ℕ) (v : View D C R) : Type 0 where
  pub begun : (d : D) → v.start ≡ d ∷ [] → d ≡ start
  pub known : Begins v.known log
  pub floor : v.floor ≤ drawn
  pub mine : 0 < v.part → (seat_of v.name ≡ j) × (v.name < admitted)
  pub drives : 0 < v.driving → (j ≡ driver) × (v.known ≡ log) × (v.admitted ≡ admitted) × (v.start ≡ start ∷ [])
  pub tickets : (i : ℕ) (t : Held C) → get_elem? v.tickets i ≡ some t → (0 < v.part) × (owner t.number ≡ v.name) × (t.number < v.floor) × (t.number < slots) × (command t.number ≡ Some t.command) × (0 < word t.number)
  pub collected : (n : ℕ) → n < slots → 0 < v.part → owner n ≡ v.name → word n ≡ 4 → Has v.collected n
  pub stage : AtStage slots drawn log owner command word v v.stage
  pub heard_known : Begins v.heard_known log
  pub heard_floor : v.heard_floor ≤ drawn
  pub heard_tickets : (i : ℕ) (t : Held C) → get_elem? v.heard_tickets i ≡ some t → (owner t.number ≡ v.heard_name) × (t.number < v.heard_floor) × (t.number < slots) × (command t.number ≡ Some t.command) × (0 < word t.number)
  pub busy : 0 < v.driving → (m : ℕ) → word m ≡ 2 → (v.stage ≢ Idle) × (m ≡ length log)

pub record Kept {D C R B : Type 0} (step : D → C → R → D → Type 0) (content : B → Request C R) (start : D) (s : State (Option B) (View D C R)) : Type 0 where
  pub log : List (Entry C R)
  pub driver : ℕ
  pub admitted : ℕ
  pub owner : ℕ → ℕ
  pub seat_of : ℕ → ℕ
  pub command : ℕ → Option C
  pub wide : length s.words ≡ length s.homes + 32
  pub small : length s.homes < 4294967296
  pub runs : Runs step start log
  pub short : length log ≤ drawn_of s.words
  pub credits : (total credit s.views ≤ 16) × (drawn_of s.words + total credit s.views ≤ length s.homes + 16)
  pub shares : total share s.views ≡ admitted
  pub counts : (drawn_of s.words ≤ length s.homes → total count s.views ≡ drawn_of s.words) × (length s.homes ≤ drawn_of s.words → total count s.views ≡ length s.homes)
  pub left : (j : ℕ) (v : View D C R) → get_elem? s.views j ≡ some v → v.share ≡ 0 → v.count ≡ 0
  pub owned : (n : ℕ) → n < drawn_of s.words → n < length s.homes → owner n < admitted
  pub each_ticket : (n : ℕ) → n < length s.homes → TicketOk content (drawn_of s.words) log n (command n) (word_of s.words n) (get_elem? s.homes n)
  pub each_seat : (j : ℕ) (v : View D C R) → get_elem? s.views j ≡ some v → SeatOk start (length s.homes) (drawn_of s.words) driver admitted log owner seat_of command (word_of s.words) j v
