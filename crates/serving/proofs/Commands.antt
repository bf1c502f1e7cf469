-- A command that is heard, and a line that is bad.
use Rattle.std.proofs.Common.{◌≡◌, ℕ, ◌+◌, ◌<◌, Bool, true, false, Option, None, Some, List, [], ◌∷◌, ◌++◌, Result, Ok, Err, ◌⊎◌, inl, inr, refl, ap, sym, ◌∙◌, subst, arith}
use Rattle.std.proofs.lemmas.List.{append-nil}
use Rattle.std.specs.Prelude.{IfSome}
use Rattle.std.specs.Option.{MatchOption}
use Rattle.std.specs.Io.KnownBytes.{Consumes, Appends, IsAtEnd}
use Rattle.byte_io.specs.Pieces.{joined}
use Rattle.byte_io.specs.Sink.{Sink, Wrote}
use Rattle.host_commands.specs.declared.command.Command.{Command}
use Rattle.host_commands.specs.declared.command.Reply.{Reply}
use Rattle.byte_io.specs.Talk.{Event, Heard, Told, Conversation, heard, hearing, Said}
use Rattle.byte_io.proofs.Talks.{said_none, said_then}
use Rattle.serving.specs.declared.server.Server.{Server}
use Rattle.simfile.specs.declared.faults.RunFault.{RunFault}
use Rattle.simfile.specs.declared.faults.RunFault.TheVariants as fault
use Rattle.serving.specs.Hearing.{IsHeardLine, EndsWith, HeardLine, HeardSource, HearFails, NotHeard, NotHeardSource, AreSource}
use Rattle.serving.specs.Turns.{greeting, TellsNone, BeginsNone, IsBad}
use Rattle.serving.specs.Serving.{HeardOpening, NotOpened, HasLine, IsRest, HeardRest, HeardPart, HeardCommand, HeardBad, NoCommand, up_to_most}
use Rattle.serving.proofs.Sources.{fails_then}
use Rattle.simfile.specs.declared.lines.Version.{Version}
use Rattle.simfile.specs.declared.lines.Version.TheVariants as version
use Rattle.simfile.specs.Reading.{command_at}
use Rattle.simfile.specs.Script.{IsText, AreLines, line_feeds}
use Rattle.simfile.specs.Stepwise.{source_lines, TellsVersion, IsWhole}
use Rattle.simfile.proofs.Grammar.{command_takes, command_again}
use Rattle.simfile.proofs.LineLaws.{whole_read, whole_none, no_line, too_few, some_lines}

-- the first line

-- a line that is all of the text
record HeardAlone (old new : Conversation) (text : List ℕ) (whole : Bool) : Type 0 where
  said : Said old new (Heard text ∷ [])
  failures : new.failures ≡ old.failures
  line : IsHeardLine whole text
  ended : line_feeds text ≡ 0 → EndsWith old new

heard_alone : {old new : Conversation} {before text : List ℕ} {whole : Bool} → before ≡ [] → HeardLine old new before text whole → HeardAlone old new text whole
heard_alone {old} {new} {before} {text} {whole} empty h =
    let same : h.line ≡ text = sym (h.added ∙ ap (λ l. l ++ h.line) empty) in
    record {
      said = subst (λ (l : List ℕ). Said old new (Heard l ∷ [])) same h.said;
      failures = h.failures;
      line = subst (λ (l : List ℕ). IsHeardLine whole l) same h.is;
      ended = subst (λ (l : List ℕ). line_feeds l ≡ 0 → EndsWith old new) same h.ended;
    }

-- where no version is told of a line, it tells none
pub tells_none : {line slice : List ℕ} → slice ≡ line → ((v : Version) → TellsVersion slice v → ◌≡◌ {A = Option Version} None (Some v)) → TellsNone line
tells_none {line} {slice} same only v tells =
    let bad : ◌≡◌ {A = Option Version} None (Some v) = only v (subst (λ (l : List ℕ). TellsVersion l v) (sym same) tells) in
    cc

pub opening_one : {old new : Conversation} {before text : List ℕ} {whole : Bool} → before ≡ [] → TellsNone text → HeardLine old new before text whole → HeardOpening old new text version.One whole
opening_one empty none h =
    let first = heard_alone empty h in
    record { said = first.said; untold = λ is. none; failures = first.failures; line = first.line; ended = first.ended }

-- what ends the rest of a rest ends it
pub ends_then : (a b : Option (List ℕ)) (c : Option (List ℕ)) (bytes : List ℕ) → Consumes a b bytes → IfSome b (λ _. IsAtEnd c) → IfSome a (λ _. IsAtEnd c)
ends_then None b c bytes h k = tt
ends_then (Some xs) None c bytes h k = absurd h
ends_then (Some xs) (Some ys) c bytes h k = k

-- the line that tells a version is its greeting
greets : (line : List ℕ) (v : Version) → TellsVersion line v → ◌≡◌ {A = List Event} (Heard line ∷ []) (greeting v)
greets line version.One h = absurd h
greets line version.Two h = ap (λ l. Heard l ∷ []) h
greets line version.Three h = ap (λ l. Heard l ∷ []) h

greeted_by : {old mid : Conversation} {before first : List ℕ} {w : Bool} (v : Version) → before ≡ [] → HeardLine old mid before first w → TellsVersion first v → Said old mid (greeting v)
greeted_by {old} {mid} {before} {first} v empty h tells =
    let line : first ≡ h.line = h.added ∙ ap (λ l. l ++ h.line) empty in
    subst (λ (es : List Event). Said old mid es) (greets h.line v (subst (λ (l : List ℕ). TellsVersion l v) line tells)) h.said

pub opening_later : {old mid new : Conversation} {before first cleared text : List ℕ} {w whole : Bool} (v : Version) → before ≡ [] → HeardLine old mid before first w → TellsVersion first v → cleared ≡ [] → HeardLine mid new cleared text whole → HeardOpening old new text v whole
opening_later {old} {mid} {new} {before} {first} {cleared} {text} {w} {whole} v empty h tells none k =
    let second = heard_alone none k in
    let greeted : Said old mid (greeting v) = greeted_by v empty h tells in
    record {
      said = said_then greeted second.said;
      untold = λ is. absurd (subst (λ (w : Version). TellsVersion first w) is tells);
      failures = second.failures ∙ h.failures;
      line = second.line;
      ended = λ e. ends_then old.rest mid.rest new.rest (heard (Heard h.line ∷ [])) h.said.heard (second.ended e);
    }

pub not_opened : {old new : Conversation} (why : RunFault) → NotHeard old new why → NotOpened old new why
not_opened why h = record { version = version.One; bytes = h.bytes; said = h.said; fails = h.fails }

pub not_opened_later : {old mid new : Conversation} {before first : List ℕ} {w : Bool} (v : Version) (why : RunFault) → before ≡ [] → HeardLine old mid before first w → TellsVersion first v → NotHeard mid new why → NotOpened old new why
not_opened_later {old} {mid} {new} v why empty h tells k =
    let greeted : Said old mid (greeting v) = greeted_by v empty h tells in
    record { version = v; bytes = k.bytes; said = said_then greeted k.said; fails = fails_then new.failures why h.failures k.fails }

-- the rest of a command's text

-- where nothing more is heard
pub no_rest : (old : Conversation) (server : Server) (whole : Bool) → IsRest whole server.version server.text.items [] → HeardRest old old server server whole
no_rest old server whole is = record {
  pieces = [];
  said = said_none old;
  text = sym (append-nil server.text.items);
  version = refl;
  lines = refl;
  failures = refl;
  is = is;
}

pub open_line : (server : Server) → HasLine server → server.whole ≡ false → IsRest false server.version server.text.items []
open_line server has e =
    let none : line_feeds server.text.items ≡ 0 = subst (λ (w : Bool). IsHeardLine w server.text.items) e has in
    (ap (command_at server.version) (append-nil server.text.items) ∙ no_line server.version server.text.items none, inl (none, refl))

pub alone : (server : Server) → HasLine server → server.whole ≡ true → source_lines server.text.items ≡ None → IsRest true server.version server.text.items []
alone server has e none =
    let one : AreLines server.text.items 1 = subst (λ (w : Bool). IsHeardLine w server.text.items) e has in
    let nothing : List ℕ = [] in
    let P : Option ℕ → Type 0 = λ o. MatchOption o (nothing ≡ []) (λ n. AreLines nothing n) in
    (one, subst P (sym none) refl)

pub with_source : {old new : Conversation} (server server' : Server) (n : ℕ) (whole : Bool) → HasLine server → server.whole ≡ true → source_lines server.text.items ≡ Some n → server'.version ≡ server.version → server'.lines ≡ server.lines
    → HeardSource old new n server.text.items server'.text.items whole → HeardRest old new server server' whole
with_source {old} {new} server server' n whole has e some same count h = record {
  pieces = h.pieces;
  said = h.said;
  text = h.added;
  version = same;
  lines = count;
  failures = h.failures;
  is = is whole h.pieces h.is;
} where
  one : AreLines server.text.items 1
  one = subst (λ (w : Bool). IsHeardLine w server.text.items) e has

  is : (w : Bool) (pieces : List (List ℕ)) → AreSource w n pieces → IsRest w server.version server.text.items pieces
  is true pieces k = (one, subst (λ (o : Option ℕ). MatchOption o (joined pieces ≡ []) (λ m. AreLines (joined pieces) m)) (sym some) (k.1 (some_lines server.text.items n some)))
  is false pieces k = (too_few server.version server.text.items (joined pieces) n one some k.0, inr (record { whole = one; count = n; says = some; fewer = k.0; cut = k.1 }))

pub part_of : {old new : Conversation} {why : RunFault} → NotHeardSource old new why → HeardPart old new why
part_of h = record { pieces = h.pieces; said = h.said; fails = h.fails }

-- a failure to hear is no bad line
pub no_command : {old new : Conversation} (server : Server) (why : RunFault) → HeardPart old new why → NoCommand old new server why
no_command server (fault.Read by) h = h
no_command server fault.OutOfMemory h = h
no_command server fault.Write h = absurd h.fails
no_command server (fault.BadLine n) h = absurd h.fails
no_command server fault.NoSuchKernel h = absurd h.fails
no_command server fault.BadSchedule h = absurd h.fails
no_command server (fault.NotALaunch ticket) h = absurd h.fails
no_command server (fault.CommandRefused ticket) h = absurd h.fails

begins_none : (v : Version) (bytes : List ℕ) → command_at v bytes ≡ None → BeginsNone v bytes
begins_none v bytes none c text rest split tells =
    let again : command_at v bytes ≡ Some (c, rest) = ap (command_at v) split ∙ command_again v text c rest tells in
    cc

pub heard_command : {old new : Conversation} {server server' : Server} (c : Command) (rest : List ℕ) → HeardRest old new server server' true → command_at server'.version server'.text.items ≡ Some (c, rest) → HeardCommand old new server server' c
heard_command {old} {new} {server} {server'} c rest h e =
    let text = server.text.items ++ joined h.pieces in
    let read : command_at server.version text ≡ Some (c, rest) = sym (ap (command_at server.version) h.text) ∙ subst (λ (v : Version). command_at v server'.text.items ≡ Some (c, rest)) h.version e in
    let none : rest ≡ [] = whole_read server.version server.text.items (joined h.pieces) c rest h.is read in
    let t = command_takes server.version text c rest read in
    let all : text ≡ t.0 = t.1 ∙ (ap (λ l. t.0 ++ l) none ∙ append-nil t.0) in
    record {
      pieces = h.pieces;
      said = h.said;
      text = h.text;
      tells = subst (λ (l : List ℕ). IsText server.version l c) (sym all) t.2;
      version = h.version;
      lines = h.lines;
      failures = h.failures;
    }

pub bad_whole : {old new : Conversation} {server server' : Server} (n : ℕ) → HeardRest old new server server' true → command_at server'.version server'.text.items ≡ None → n ≡ up_to_most (server'.lines + 1) → HeardBad old new server n
bad_whole {old} {new} {server} {server'} n h e number =
    let text = server.text.items ++ joined h.pieces in
    let read : command_at server.version text ≡ None = sym (ap (command_at server.version) h.text) ∙ subst (λ (v : Version). command_at v server'.text.items ≡ None) h.version e in
    record {
      pieces = h.pieces;
      said = h.said;
      failures = h.failures;
      bad = record {
        none = begins_none server.version text read;
        final = inl (h.is, λ more. begins_none server.version (text ++ more) (whole_none server.version server.text.items (joined h.pieces) more h.is read));
      };
      number = number ∙ ap (λ k. up_to_most (k + 1)) h.lines;
    }

pub bad_cut : {old new : Conversation} {server server' : Server} (n : ℕ) → HeardRest old new server server' false → n ≡ up_to_most (server'.lines + 1) → HeardBad old new server n
bad_cut {server = server} n h number = record {
  pieces = h.pieces;
  said = h.said;
  failures = h.failures;
  bad = record { none = begins_none server.version (server.text.items ++ joined h.pieces) h.is.0; final = inr h.is.1 };
  number = number ∙ ap (λ k. up_to_most (k + 1)) h.lines;
}

-- the same, where whether all of it was heard is a value

pub heard_command_by : {old new : Conversation} {server server' : Server} (c : Command) (rest : List ℕ) (w : Bool) → w ≡ true → HeardRest old new server server' w → command_at server'.version server'.text.items ≡ Some (c, rest) → HeardCommand old new server server' c
heard_command_by {old} {new} {server} {server'} c rest w is h e = heard_command c rest (subst (λ (v : Bool). HeardRest old new server server' v) is h) e

pub bad_whole_by : {old new : Conversation} {server server' : Server} (n : ℕ) (w : Bool) → w ≡ true → HeardRest old new server server' w → command_at server'.version server'.text.items ≡ None → n ≡ up_to_most (server'.lines + 1) → HeardBad old new server n
bad_whole_by {old} {new} {server} {server'} n w is h e number = bad_whole n (subst (λ (v : Bool). HeardRest old new server server' v) is h) e number

pub bad_cut_by : {old new : Conversation} {server server' : Server} (n : ℕ) (w : Bool) → w ≡ false → HeardRest old new server server' w → n ≡ up_to_most (server'.lines + 1) → HeardBad old new server n
bad_cut_by {old} {new} {server} {server'} n w is h number = bad_cut n (subst (λ (v : Bool). HeardRest old new server server' v) is h) number

-- no memory was left for a command, all of whose text was heard
pub no_memory : {old new : Conversation} {server server' : Server} → HeardRest old new server server' true → HeardPart old new fault.OutOfMemory
no_memory h = record { pieces = h.pieces; said = h.said; fails = h.failures }

-- what was written to no bytes is all of them
pub written_is : (failed failed' : ℕ) (old new text : List ℕ) → old ≡ [] → Wrote (record { written = Some old; held = []; failed = failed }) (record { written = Some new; held = []; failed = failed' }) text → new ≡ text
written_is failed failed' old new text empty h = h.appended ∙ ap (λ l. l ++ text) empty
