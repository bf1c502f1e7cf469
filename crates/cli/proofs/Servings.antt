-- A talk, turn by turn.
use Rattle.std.proofs.Common.{◌≡◌, ℕ, ◌+◌, ◌≤◌, Option, None, Some, List, [], ◌∷◌, ◌++◌, length, refl, ap, sym, ◌∙◌, subst, arith, append_assoc}
use Rattle.std.proofs.lemmas.List.{append-nil}
use Rattle.std.specs.Prelude.{IfSome}
use Rattle.std.specs.Io.KnownBytes.{Consumes, IsAtEnd}
use Rattle.device.specs.Machine.{Machine, Step, opening}
use Rattle.host_commands.specs.declared.command.Command.{Command}
use Rattle.host_commands.specs.declared.command.Reply.{Reply}
use Rattle.cli.specs.declared.session.RunEnd.{RunEnd}
use Rattle.cli.specs.Session.{Plays, one_end, end_of, Ran}
use Rattle.cli.specs.Serving.{Served, Begun, ServeFailed}
use Rattle.cli.specs.Serves.{Serves}
use Rattle.cli.proofs.Sessions.{plays_more, lines-more, fold-more}
use Rattle.byte_io.specs.Pieces.{joined}
use Rattle.byte_io.specs.Sink.{Wrote}
use Rattle.byte_io.specs.Source.{Are}
use Rattle.byte_io.proofs.Puts.{stopped_then}
use Rattle.byte_io.specs.Talk.{Event, Heard, Told, heard, told, hearing, Conversation, Said}
use Rattle.byte_io.proofs.Talks.{said_then, heard-append, told-append, heard-hearing, told-hearing}
use Rattle.serving.specs.declared.server.Server.{Server}
use Rattle.serving.specs.Hearing.{HearFails, NotHeard}
use Rattle.serving.specs.Turns.{greeting, FirstTellsNone, AreTurns}
use Rattle.serving.specs.Serving.{Opened, NotOpened, HeardNone, HeardCommand, NoCommand, ToldReply, NotTold, HeardNext, up_to_most}
use Rattle.serving.proofs.Sources.{fails_then}
use Rattle.serving.proofs.Commands.{ends_then}
use Rattle.simfile.specs.declared.faults.Reader.TheVariants as reader
use Rattle.simfile.specs.declared.faults.RunFault.{RunFault}
use Rattle.simfile.specs.declared.faults.RunFault.TheVariants as fault
use Rattle.simfile.specs.declared.lines.Version.{Version}
use Rattle.simfile.specs.declared.lines.Version.TheVariants as version
use Rattle.simfile.specs.Lines.{line, lines}
use Rattle.simfile.specs.Script.{IsText, Begins, head, line_feeds}
use Rattle.simfile.proofs.LineLaws.{feeds_append}
use Rattle.limits.specs.declared.Configuration.{Configuration}

pub is_none : {A : Type 0} (o : Option A) → ((a : A) → o ≡ Some a → ⊥) → o ≡ None
is_none None h = refl
is_none (Some a) h = absurd (h a refl)

-- what a talk's events are, heard and told

heard_greeting : (v : Version) → heard (greeting v) ≡ head v
heard_greeting version.One = refl
heard_greeting version.Two = refl
heard_greeting version.Three = refl

told_greeting : (v : Version) → told (greeting v) ≡ []
told_greeting version.One = refl
told_greeting version.Two = refl
told_greeting version.Three = refl

told_turns : (v : Version) (cs : List Command) (rs : List Reply) (es : List Event) → AreTurns v cs rs es → told es ≡ lines rs
told_turns v [] [] es h = ap told h
told_turns v [] (r ∷ rs) es h = absurd h
told_turns v (c ∷ cs) [] es h = absurd h
told_turns v (c ∷ cs) (r ∷ rs) es h =
    ap told h.2 ∙ (told-append (hearing h.0) (Told (line r) ∷ h.1) ∙ (ap (λ l. l ++ (line r ++ told h.1)) (told-hearing h.0)
    ∙ ap (λ l. line r ++ l) (told_turns v cs rs h.1 h.4)))

begins_turns : (v : Version) (cs : List Command) (rs : List Reply) (es : List Event) → AreTurns v cs rs es → Begins v (heard es) cs []
begins_turns v [] [] es h = ap heard h
begins_turns v [] (r ∷ rs) es h = absurd h
begins_turns v (c ∷ cs) [] es h = absurd h
begins_turns v (c ∷ cs) (r ∷ rs) es h =
    (joined h.0, heard h.1, ap heard h.2 ∙ (heard-append (hearing h.0) (Told (line r) ∷ h.1) ∙ ap (λ l. l ++ heard h.1) (heard-hearing h.0)), h.3, begins_turns v cs rs h.1 h.4)

told_so_far : (v : Version) (cs : List Command) (rs : List Reply) (turns : List Event) → AreTurns v cs rs turns → (es : List Event) → told es ≡ [] → told (greeting v ++ turns ++ es) ≡ lines rs
told_so_far v cs rs turns h es none =
    told-append (greeting v ++ turns) es ∙ (ap (λ l. told (greeting v ++ turns) ++ l) none ∙ (append-nil (told (greeting v ++ turns))
    ∙ (told-append (greeting v) turns ∙ (ap (λ l. l ++ told turns) (told_greeting v) ∙ told_turns v cs rs turns h))))

-- the line feeds that were heard

feeds : List Event → ℕ
feeds es = line_feeds (heard es)

feeds_more : (es fs : List Event) → feeds (es ++ fs) ≡ feeds es + feeds fs
unfolding feeds
feeds_more es fs = ap line_feeds (heard-append es fs) ∙ feeds_append (heard es) (heard fs)

most_most : (a b : ℕ) → up_to_most (up_to_most a + b) ≡ up_to_most (a + b)
most_most a b = omega arith

-- a turn more

turns_more : (v : Version) (cs : List Command) (rs : List Reply) (es : List Event) (c : Command) (r : Reply) (pieces : List (List ℕ)) → AreTurns v cs rs es → IsText v (joined pieces) c
    → AreTurns v (cs ++ c ∷ []) (rs ++ r ∷ []) (es ++ (hearing pieces ++ Told (line r) ∷ []))
turns_more v [] [] es c r pieces h t = (pieces, [], ap (λ l. l ++ (hearing pieces ++ Told (line r) ∷ [])) h, t, refl)
turns_more v [] (x ∷ rs) es c r pieces h t = absurd h
turns_more v (x ∷ cs) [] es c r pieces h t = absurd h
turns_more v (x ∷ cs) (y ∷ rs) es c r pieces h t =
    let new : List Event = hearing pieces ++ Told (line r) ∷ [] in
    (h.0, h.1 ++ new, ap (λ l. l ++ new) h.2 ∙ append_assoc (hearing h.0) (Told (line y) ∷ h.1) new, h.3, turns_more v cs rs h.1 c r pieces h.4 t)

regroup : (before : List Event) (e : Event) (es : List Event) → (before ++ e ∷ []) ++ es ≡ before ++ e ∷ es
regroup before e es = append_assoc before (e ∷ []) es

turn_events : (first turns : List Event) (e : Event) (es : List Event) (t : Event) → (((first ++ turns) ++ e ∷ []) ++ es) ++ t ∷ [] ≡ first ++ (turns ++ (e ∷ es ++ t ∷ []))
turn_events first turns e es t =
    ap (λ l. l ++ t ∷ []) (append_assoc (first ++ turns) (e ∷ []) es)
    ∙ (append_assoc (first ++ turns) (e ∷ es) (t ∷ []) ∙ append_assoc first turns (e ∷ es ++ t ∷ []))

said_as : {a b : Conversation} {es fs : List Event} → es ≡ fs → Said a b es → Said a b fs
said_as {a} {b} e h = subst (λ (l : List Event). Said a b l) e h

abbrev begun_by : {old now new : Conversation} {configuration : Configuration} {server : Server} {machine : Machine} {end : RunEnd} (pieces : List (List ℕ)) → Serves old now configuration server machine end → Said now new (hearing pieces) → Begun old new configuration
begun_by {server = server} {machine = machine} pieces h k = record {
  version = server.version;
  commands = h.commands;
  replies = h.replies;
  last = machine;
  turns = h.turns;
  pieces = server.text.items ∷ pieces;
  are = h.are;
  plays = h.plays;
  said = said_as (regroup (greeting server.version ++ h.turns) (Heard server.text.items) (hearing pieces)) (said_then h.said k);
}

-- the first line stays the first

first_then : (es : List Event) (text : List ℕ) (more : List Event) → FirstTellsNone (es ++ Heard text ∷ []) → FirstTellsNone (es ++ Heard text ∷ more)
first_then [] text more h = h
first_then (Heard line ∷ es) text more h = h
first_then (Told line ∷ es) text more h = h

first_kept : (es : List Event) (text : List ℕ) (more fs : List Event) → FirstTellsNone (es ++ Heard text ∷ []) → FirstTellsNone ((es ++ Heard text ∷ more) ++ fs)
first_kept [] text more fs h = h
first_kept (Heard line ∷ es) text more fs h = h
first_kept (Told line ∷ es) text more fs h = h

-- a command was answered, and its reply told
record Turned (old new : Conversation) (configuration : Configuration) (v : Version) (machine : Machine) (end : RunEnd) (count : ℕ) : Type 0 where
  commands : List Command
  replies : List Reply
  turns : List Event
  are : AreTurns v commands replies turns
  plays : Plays (opening configuration) commands replies machine
  said : Said old new (greeting v ++ turns)
  untold : v ≡ version.One → (es : List Event) → FirstTellsNone (turns ++ es)
  failures : new.failures ≡ old.failures
  lines : count ≡ up_to_most (line_feeds (heard (greeting v ++ turns)))
  counts : end ≡ end_of replies

lines_of_turn : (first turns : List Event) (text : List ℕ) (pieces : List (List ℕ)) (told : List ℕ) (before count : ℕ) → before ≡ up_to_most (line_feeds (heard (first ++ turns))) → count ≡ before + line_feeds (text ++ joined pieces)
    → up_to_most count ≡ up_to_most (line_feeds (heard (first ++ (turns ++ (Heard text ∷ hearing pieces ++ Told told ∷ [])))))
unfolding feeds
lines_of_turn first turns text pieces told before count h k =
    let all : feeds (first ++ (turns ++ (Heard text ∷ hearing pieces ++ Told told ∷ []))) ≡ feeds (first ++ turns) + line_feeds (text ++ joined pieces) =
    ap feeds (sym (append_assoc first turns (Heard text ∷ hearing pieces ++ Told told ∷ []))) ∙ (feeds_more (first ++ turns) (Heard text ∷ hearing pieces ++ Told told ∷ [])
    ∙ ap (λ n. feeds (first ++ turns) + n) (ap line_feeds (ap (λ l. text ++ l) (heard-append (hearing pieces) (Told told ∷ []) ∙ (append-nil (heard (hearing pieces)) ∙ heard-hearing pieces))))) in
    ap up_to_most (k ∙ ap (λ n. n + line_feeds (text ++ joined pieces)) h) ∙ (most_most (feeds (first ++ turns)) (line_feeds (text ++ joined pieces)) ∙ ap up_to_most (sym all))

turned : {old now mid new : Conversation} {configuration : Configuration} {server server' server'' : Server} {machine after : Machine} {end : RunEnd} (c : Command) (r : Reply) → Serves old now configuration server machine end → HeardCommand now mid server server' c → Step machine c r after → ToldReply mid new server' server'' r
    → Turned old new configuration server.version after (one_end r end) (up_to_most (server''.lines + line_feeds server''.text.items))
turned {configuration = configuration} {server = server} {server' = server'} {server'' = server''} {machine = machine} {after = after} {end = end} c r h k s t = record {
  commands = h.commands ++ c ∷ [];
  replies = h.replies ++ r ∷ [];
  turns = h.turns ++ (Heard server.text.items ∷ hearing k.pieces ++ Told (line r) ∷ []);
  are = turns_more server.version h.commands h.replies h.turns c r (server.text.items ∷ k.pieces) h.are k.tells;
  plays = plays_more (opening configuration) machine after h.commands h.replies c r h.plays s;
  said = said_as (turn_events (greeting server.version) h.turns (Heard server.text.items) (hearing k.pieces) (Told (line r))) (said_then (said_then h.said k.said) t.said);
  untold = λ is es. first_kept h.turns server.text.items (hearing k.pieces ++ Told (line r) ∷ []) es (h.untold is);
  failures = t.failures ∙ (k.failures ∙ h.failures);
  lines = lines_of_turn (greeting server.version) h.turns server.text.items k.pieces (line r) server.lines (server''.lines + line_feeds server''.text.items) h.lines
      (ap (λ n. n + line_feeds server''.text.items) (t.lines ∙ k.lines) ∙ ap (λ l. server.lines + line_feeds l) (ap (λ x. x.items) t.text ∙ k.text));
  counts = ap (one_end r) h.counts ∙ sym (fold-more h.replies r (end_of []));
}

-- between two turns

pub serves_first : {old new : Conversation} (configuration : Configuration) {server : Server} → Opened old new server → Serves old new configuration server (opening configuration) (end_of [])
serves_first {old} {new} configuration {server} h = record {
  commands = [];
  replies = [];
  turns = [];
  are = refl;
  plays = refl;
  said = said_as (ap (λ l. l ++ Heard server.text.items ∷ []) (sym (append-nil (greeting server.version)))) h.said;
  untold = h.untold;
  ended = h.ended;
  failures = h.failures;
  lines = h.lines ∙ first_lines server.version;
  counts = refl;
} where
  first_lines : (v : Version) → line_feeds (head v) ≡ up_to_most (line_feeds (heard (greeting v ++ [])))
  first_lines version.One = refl
  first_lines version.Two = refl
  first_lines version.Three = refl

-- the same, on the machine of a new device
pub serves_new : {old new : Conversation} (configuration : Configuration) {server : Server} {machine : Machine} → machine ≡ opening configuration → Opened old new server → Serves old new configuration server machine (end_of [])
serves_new {old} {new} configuration {server} {machine} e h = subst (λ (m : Machine). Serves old new configuration server m (end_of [])) (sym e) (serves_first configuration h)

pub serves_more : {old now mid told_at new : Conversation} {configuration : Configuration} {server server' server'' last : Server} {machine after : Machine} {end : RunEnd} (c : Command) (r : Reply) → Serves old now configuration server machine end → HeardCommand now mid server server' c → Step machine c r after
    → ToldReply mid told_at server' server'' r → HeardNext told_at new server'' last → Serves old new configuration last after (one_end r end)
serves_more {old} {now} {mid} {told_at} {new} {configuration} {server} {server'} {server''} {last} {machine} {after} {end} c r h k s t n =
    let u = turned c r h k s t in
    let same : last.version ≡ server.version = n.version ∙ (t.version ∙ k.version) in
    subst (λ (v : Version). (last.version ≡ v) → Serves old new configuration last after (one_end r end)) same (λ is. record {
      commands = u.commands;
      replies = u.replies;
      turns = u.turns;
      are = subst (λ (v : Version). AreTurns v u.commands u.replies u.turns) (sym same) u.are;
      plays = u.plays;
      said = subst (λ (v : Version). Said old new (greeting v ++ u.turns ++ Heard last.text.items ∷ [])) (sym same) (said_then u.said n.said);
      untold = λ one. u.untold (sym same ∙ one) (Heard last.text.items ∷ []);
      ended = λ e. ends_then old.rest told_at.rest new.rest (heard (greeting server.version ++ u.turns)) u.said.heard (n.ended e);
      failures = n.failures ∙ u.failures;
      lines = subst (λ (v : Version). last.lines ≡ up_to_most (line_feeds (heard (greeting v ++ u.turns)))) (sym same) (n.lines ∙ u.lines);
      counts = u.counts;
    }) same

-- how a talk ends

pub served_all : {old now new : Conversation} {configuration : Configuration} {server : Server} {machine : Machine} {end : RunEnd} → Serves old now configuration server machine end → HeardNone now new server → Served old new configuration end
served_all {old} {now} {new} {configuration} {server} {machine} {end} h k = subst (λ (c : Conversation). Served old c configuration end) (sym k.same) (record {
  version = server.version;
  commands = h.commands;
  replies = h.replies;
  last = machine;
  turns = h.turns;
  are = h.are;
  plays = h.plays;
  said = subst (λ (l : List ℕ). Said old now (greeting server.version ++ h.turns ++ Heard l ∷ [])) k.empty h.said;
  ended = h.ended (ap line_feeds k.empty);
  failures = h.failures;
  end = h.counts;
})

-- a failure to hear, behind what was heard so far
fails_hearing : (old now new : Conversation) (configuration : Configuration) (why : RunFault) → now.failures ≡ old.failures → Begun old new configuration → HearFails now.failures new.failures why → ServeFailed old new configuration why
fails_hearing old now new configuration (fault.Read reader.First) e h k = (h, fails_then new.failures (fault.Read reader.First) e k)
fails_hearing old now new configuration (fault.Read reader.Second) e h k = absurd k
fails_hearing old now new configuration fault.OutOfMemory e h k = (h, fails_then new.failures fault.OutOfMemory e k)
fails_hearing old now new configuration fault.Write e h k = absurd k
fails_hearing old now new configuration (fault.BadLine n) e h k = absurd k
fails_hearing old now new configuration fault.NoSuchKernel e h k = absurd k
fails_hearing old now new configuration fault.BadSchedule e h k = absurd k
fails_hearing old now new configuration (fault.NotALaunch ticket) e h k = absurd k
fails_hearing old now new configuration (fault.CommandRefused ticket) e h k = absurd k

pub not_opened : {old new : Conversation} (configuration : Configuration) (why : RunFault) → NotOpened old new why → ServeFailed old new configuration why
not_opened {old} {new} configuration why h = fails_hearing old old new configuration why refl (record {
  version = h.version;
  commands = [];
  replies = [];
  last = opening configuration;
  turns = [];
  pieces = h.bytes ∷ [];
  are = refl;
  plays = refl;
  said = said_as (ap (λ l. l ++ Heard h.bytes ∷ []) (sym (append-nil (greeting h.version)))) h.said;
}) h.fails

pub no_command : {old now : Conversation} (new : Conversation) {configuration : Configuration} {server : Server} {machine : Machine} {end : RunEnd} (why : RunFault) → Serves old now configuration server machine end → NoCommand now new server why → ServeFailed old new configuration why
no_command {old} {now} new {configuration} (fault.Read by) h k = fails_hearing old now new configuration (fault.Read by) h.failures (begun_by k.pieces h k.said) k.fails
no_command {old} {now} new {configuration} fault.OutOfMemory h k = fails_hearing old now new configuration fault.OutOfMemory h.failures (begun_by k.pieces h k.said) k.fails
no_command new {server = server} (fault.BadLine n) h k = record {
  begun = begun_by k.pieces h k.said;
  untold = λ is. first_then h.turns server.text.items (hearing k.pieces) (h.untold is);
  bad = k.bad;
  number = k.number ∙ (ap (λ m. up_to_most (m + 1)) h.lines ∙ most_most (line_feeds (heard (greeting server.version ++ h.turns))) 1);
  failures = k.failures ∙ h.failures;
}
no_command new fault.Write h k = absurd k
no_command new fault.NoSuchKernel h k = absurd k
no_command new fault.BadSchedule h k = absurd k
no_command new (fault.NotALaunch ticket) h k = absurd k
no_command new (fault.CommandRefused ticket) h k = absurd k

pub not_told : {old now mid : Conversation} (new : Conversation) {configuration : Configuration} {server server' : Server} {machine after : Machine} {end : RunEnd} (c : Command) (r : Reply) (why : RunFault) → Serves old now configuration server machine end → HeardCommand now mid server server' c → Step machine c r after → NotTold mid new r why
    → ServeFailed old new configuration why
not_told {old} {now} {mid} new {configuration} {server} {server'} {machine} {after} {end} c r fault.Write h k s t =
    let b = begun_by k.pieces h k.said in
    let pieces : List (List ℕ) = server.text.items ∷ k.pieces in
    let so_far : told (greeting server.version ++ h.turns ++ hearing pieces) ≡ lines h.replies = told_so_far server.version h.commands h.replies h.turns h.are (hearing pieces) (told-hearing pieces) in
    let wrote : Wrote old.sink mid.sink (lines h.replies) = subst (λ (l : List ℕ). Wrote old.sink mid.sink l) so_far b.said.told in
    record {
      version = server.version;
      commands = h.commands;
      replies = h.replies;
      last = machine;
      turns = h.turns;
      pieces = pieces;
      command = c;
      reply = r;
      after = after;
      are = h.are;
      plays = h.plays;
      tells = k.tells;
      step = s;
      talk = t.talk ∙ b.said.talk;
      taken = subst (λ (o : Option (List ℕ)). Consumes old.rest o (heard (greeting server.version ++ h.turns ++ hearing pieces))) (sym t.rest) b.said.heard;
      stopped = rw (lines-more h.replies r) (stopped_then wrote t.stopped);
      failures = t.failures ∙ (k.failures ∙ h.failures);
    }
not_told {old} {now} {mid} new {configuration} c r fault.OutOfMemory h k s t =
    subst (λ (m : Conversation). Begun old m configuration × (m.failures ≡ old.failures)) (sym t) (begun_by k.pieces h k.said, k.failures ∙ h.failures)
not_told new c r (fault.Read by) h k s t = absurd t
not_told new c r (fault.BadLine n) h k s t = absurd t
not_told new c r fault.NoSuchKernel h k s t = absurd t
not_told new c r fault.BadSchedule h k s t = absurd t
not_told new c r (fault.NotALaunch ticket) h k s t = absurd t
not_told new c r (fault.CommandRefused ticket) h k s t = absurd t

pub not_heard : {old now mid told_at new : Conversation} {configuration : Configuration} {server server' server'' : Server} {machine after : Machine} {end : RunEnd} (c : Command) (r : Reply) (why : RunFault) → Serves old now configuration server machine end → HeardCommand now mid server server' c → Step machine c r after
    → ToldReply mid told_at server' server'' r → NotHeard told_at new why → ServeFailed old new configuration why
not_heard {old = old} {told_at = told_at} {new = new} {configuration = configuration} {server = server} {after = after} c r why h k s t n =
    let u = turned c r h k s t in
    fails_hearing old told_at new configuration why u.failures (record {
      version = server.version;
      commands = u.commands;
      replies = u.replies;
      last = after;
      turns = u.turns;
      pieces = n.bytes ∷ [];
      are = u.are;
      plays = u.plays;
      said = said_then u.said n.said;
    }) n.fails

-- serving and running

all_read : (a b : Option (List ℕ)) (bytes : List ℕ) → Consumes a b bytes → IfSome a (λ _. IsAtEnd b) → Are a bytes
all_read None b bytes h k = tt
all_read (Some xs) None bytes h k = absurd h
all_read (Some xs) (Some ys) bytes h k = sym (h ∙ (ap (λ l. bytes ++ l) k ∙ append-nil bytes))

pub is_ran : (old new : Conversation) (configuration : Configuration) (outcome : RunEnd) → (s : Served old new configuration outcome) → length s.commands ≤ 4096 → old.sink.held ≡ [] → Ran [] old.rest configuration old.sink new.sink outcome
is_ran old new configuration outcome s few held =
    let events : List Event = greeting s.version ++ s.turns ++ Heard [] ∷ [] in
    let bytes : heard events ≡ head s.version ++ heard s.turns =
    heard-append (greeting s.version ++ s.turns) (Heard [] ∷ []) ∙ (append-nil (heard (greeting s.version ++ s.turns))
    ∙ (heard-append (greeting s.version) s.turns ∙ ap (λ l. l ++ heard s.turns) (heard_greeting s.version))) in
    record {
      bytes = heard events;
      commands = s.commands;
      read = all_read old.rest new.rest (heard events) s.said.heard s.ended;
      script = (s.version, heard s.turns, bytes, begins_turns s.version s.commands s.replies s.turns s.are, few);
      answered = record {
        replies = s.replies;
        last = s.last;
        plays = s.plays;
        wrote = subst (λ (l : List ℕ). Wrote old.sink new.sink l) (told_so_far s.version s.commands s.replies s.turns s.are (Heard [] ∷ []) refl) s.said.told;
        released = s.said.released held;
        end = s.end;
      };
    }
