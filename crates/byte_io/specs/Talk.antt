-- What is heard of a peer and told to it, in order (own).
use Rattle.std.specs.Prelude.{◌≡◌, ℕ, Option, List, [], ◌∷◌, ◌++◌, length, map, IfSome, Result, Ok, Err, refl}
use Rattle.std.specs.Coded.{Coded, code_by, coded×, coded_bool, coded_list, coded_ℕ}
use Rattle.std.specs.Prelude.{Bool, true, false}
use Rattle.std.specs.List.{flat_map}
use Rattle.std.specs.Io.{StopsAt}
use Rattle.std.specs.Io.BufRead.{take_through}
use Rattle.std.specs.Io.KnownBytes.{Consumes}
use Rattle.byte_io.specs.Sink.{Sink, Wrote, Stopped, CountsUp}
use Rattle.byte_io.specs.declared.counted.ReadFault.{ReadFault}
use Rattle.byte_io.specs.declared.counted.ReadFault.TheVariants as fault

-- bytes that were heard, or a text that was told whole
pub data Event : Type 0 where
  Heard : List ℕ → Event
  Told : List ℕ → Event

-- an event is stored as whether it was heard, with its bytes
abbrev pub event_pair : Event → Bool × List ℕ
event_pair (Heard bytes) = (true, bytes)
event_pair (Told bytes) = (false, bytes)

abbrev pub pair_event : Bool × List ℕ → Event
pair_event (true, bytes) = Heard bytes
pair_event (false, bytes) = Told bytes

pub pair_back : (e : Event) → pair_event (event_pair e) ≡ e
pair_back (Heard bytes) = refl
pair_back (Told bytes) = refl

abbrev pub event_code : Coded Event
event_code = code_by (Bool × List ℕ) (coded× coded_bool (coded_list coded_ℕ)) event_pair pair_event pair_back

abbrev pub talk_code : Coded (List Event)
talk_code = coded_list event_code

abbrev pub heard_in : Event → List ℕ
heard_in (Heard bytes) = bytes
heard_in (Told bytes) = []

abbrev pub told_in : Event → List ℕ
told_in (Heard bytes) = []
told_in (Told bytes) = bytes

-- all that was heard, and all that was told
abbrev pub heard : List Event → List ℕ
heard events = flat_map heard_in events

abbrev pub told : List Event → List ℕ
told events = flat_map told_in events

-- pieces that are heard one after another
abbrev pub hearing : List (List ℕ) → List Event
hearing pieces = map Heard pieces

-- a peer: the bytes that are left to hear, where they are known, the count of failures to hear, what was told, and all
-- events so far
pub record Conversation : Type 0 where
  pub rest : Option (List ℕ)
  pub failures : ℕ
  pub sink : Sink
  pub talk : List Event

-- how hearing these bytes ended: well, at the first line feed that is left or at the end; or by a failure, which is
-- counted, or out of memory
abbrev pub HearingEnds : Conversation → Conversation → List ℕ → Result ℕ ReadFault → Type 0
HearingEnds old new bytes (Ok n) = (n ≡ length bytes) × (new.failures ≡ old.failures) × IfSome old.rest (λ xs. bytes ≡ take_through 10 xs)
HearingEnds old new bytes (Err fault.Failed) = CountsUp old.failures new.failures
HearingEnds old new bytes (Err fault.OutOfMemory) = new.failures ≡ old.failures

-- bytes were heard, with no line feed but at their end, and added to the line; nothing was told
pub record Hears (old new : Conversation) (before after : List ℕ) (result : Result ℕ ReadFault) : Type 0 where
  pub bytes : List ℕ
  pub added : after ≡ before ++ bytes
  pub piece : StopsAt bytes 10
  pub taken : Consumes old.rest new.rest bytes
  pub talk : new.talk ≡ old.talk ++ Heard bytes ∷ []
  pub sink : new.sink ≡ old.sink
  pub ends : HearingEnds old new bytes result

-- a text was told, and nothing is held back; or that failed, and a beginning of it was. Nothing was heard
abbrev pub Tells : {A E : Type 0} → Conversation → Conversation → List ℕ → Result A E → Type 0
Tells old new text (Ok _) =
    (new.talk ≡ old.talk ++ Told text ∷ []) × Wrote old.sink new.sink text × (new.sink.held ≡ [])
    × (new.rest ≡ old.rest) × (new.failures ≡ old.failures)
Tells old new text (Err _) = (new.talk ≡ old.talk) × Stopped old.sink new.sink text × (new.rest ≡ old.rest) × (new.failures ≡ old.failures)

-- these events were all: what was heard was taken from the rest, what was told was written, and nothing is held back
-- that wasn't before
pub record Said (old new : Conversation) (events : List Event) : Type 0 where
  pub talk : new.talk ≡ old.talk ++ events
  pub heard : Consumes old.rest new.rest (heard events)
  pub told : Wrote old.sink new.sink (told events)
  pub released : old.sink.held ≡ [] → new.sink.held ≡ []
