-- Each reply of a script that is a fault or a refusal, told.
use Rattle.std.proofs.Common.{◌≡◌, ◌||◌, ◌++◌, ◌∷◌, [], ◌∙◌, ℕ, Bool, true, false, ◌⊎◌, List, Option, Some, length, inl, inr, refl, sym, ap, subst, append_assoc}
use Rattle.std.specs.Prelude.{MatchBool, slice_get}
use Rattle.std.proofs.lemmas.Bool.{false≢true}
use Rattle.std.proofs.lemmas.List.{append-nil}
use Rattle.clmodel.specs.declared.fault.Fault.{Fault}
use Rattle.clmodel.specs.declared.schedule.EventRun.{EventRun}
use Rattle.device.specs.Machine.{Machine, Step, opening}
use Rattle.host_commands.specs.declared.command.Command.{Command}
use Rattle.host_commands.specs.declared.command.Refusal.{Refusal}
use Rattle.host_commands.specs.declared.command.Refusal.TheVariants as refusal
use Rattle.host_commands.specs.declared.command.Reply.{Reply}
use Rattle.host_commands.specs.declared.command.Reply.TheVariants as reply
use Rattle.placed_scripts.specs.Placed.{IsTold}
use Rattle.placed_scripts.specs.declared.placed.PlacedScript.{PlacedScript}
use Rattle.limits.specs.declared.Configuration.{Configuration}
use Rattle.simfile.specs.Script.{IsScript}
use Rattle.explaining.proofs.Performing.{cleanly, first_behind, get_behind, through_more}
use Rattle.explaining.specs.Every.{IsEndAdded, TellsCommand}
use Rattle.explaining.specs.Explaining.{Found}
use Rattle.explaining.specs.Leading.{EndsAt, HadMemory, IsFirst, IsMet, RepliesAt, StandsBehind, goes_on, is_done, is_ordered}
use Rattle.explaining.specs.Whole.{IsHeaded, SaysAll, TellsAny, TellsEach, TellsEnd, TellsReply, heading, word_of}
use Rattle.explaining.specs.declared.every.Met.{Met}
use Rattle.explaining.specs.declared.facts.ExplainOptions.{ExplainOptions}
use Rattle.explaining.specs.declared.walks.Walked.{Walked}
use Rattle.explaining.specs.declared.walks.Walked.TheVariants as walked

-- the next command
pub next_is : (commands done rest : List Command) (c : Command) (n : ℕ) → commands ≡ done ++ c ∷ rest → n ≡ length done → slice_get commands n ≡ Some c
next_is commands done rest c n split counted = ap (λ l. slice_get l n) split ∙ ap (λ n. slice_get (done ++ c ∷ rest) n) counted ∙ get_behind done rest c

-- a reply at which a walk ends is a fault or a refusal
ends_false : (ticket : ℕ) (r : Reply) (w : Walked) → EndsAt ticket r w → goes_on r ≡ false
ends_false ticket r (walked.Passed ordered) h = absurd h
ends_false ticket r (walked.Faulted case) (same, is) = ap goes_on is
ends_false ticket r (walked.Unbuilt build) (same, is) = ap goes_on is
ends_false ticket r (walked.Refused case) (same, is) = ap goes_on is

pub stands_at : (commands : List Command) (before new : Machine) (c : Command) (ticket : ℕ) (r : Reply) (w : Walked) → EndsAt ticket r w → slice_get commands ticket ≡ Some c → Step before c r new
    → StandsBehind commands new w
stands_at commands before new c ticket r w ends at step = go w ends
  where
    replies : RepliesAt commands new ticket r
    replies = record { before = before; command = c; at = at; replied = step }

    go : (w : Walked) → EndsAt ticket r w → StandsBehind commands new w
    go (walked.Passed ordered) h = absurd h
    go (walked.Faulted case) (same, is) =
        subst (λ n. RepliesAt commands new n (reply.Fault case.fault case.schedule)) (sym same) (subst (RepliesAt commands new ticket) is replies)
    go (walked.Unbuilt build) (same, is) =
        subst (λ n. RepliesAt commands new n (reply.Refused (refusal.BuildFailed build.fault))) (sym same) (subst (RepliesAt commands new ticket) is replies)
    go (walked.Refused case) (same, is) = subst (λ n. RepliesAt commands new n (reply.Refused case.refusal)) (sym same) (subst (RepliesAt commands new ticket) is replies)

-- what is told of the end of a walk is told of the reply
tells_reply :
    (options : ExplainOptions) (name : List ℕ) (script : PlacedScript) (commands : List Command) (done : List Bool) (m : Machine) (ticket : ℕ) (r : Reply) (w : Walked) (text : List ℕ) → EndsAt ticket r w
    → TellsEnd options name script commands done m w text → TellsReply options name script commands done m ticket r text
tells_reply options name script commands done m ticket r (walked.Passed ordered) text h tells = absurd h
tells_reply options name script commands done m ticket r (walked.Faulted case) text (same, is) tells =
    subst (λ (a : Reply). TellsReply options name script commands done m ticket a text) (sym is)
    (subst (λ n. TellsReply options name script commands done m n (reply.Fault case.fault case.schedule) text) same tells)
tells_reply options name script commands done m ticket r (walked.Unbuilt build) text (same, is) tells =
    subst (λ (a : Reply). TellsReply options name script commands done m ticket a text) (sym is)
    (subst (λ n. TellsReply options name script commands done m n (reply.Refused (refusal.BuildFailed build.fault)) text) same tells)
tells_reply options name script commands done m ticket r (walked.Refused case) text (same, is) tells =
    subst (λ (a : Reply). TellsReply options name script commands done m ticket a text) (sym is)
    (subst (λ n. TellsReply options name script commands done m n (reply.Refused case.refusal) text) same tells)

-- of a reply that goes on nothing is told
pub goes_told :
    (options : ExplainOptions) (name : List ℕ) (script : PlacedScript) (commands : List Command) (done all : List Bool) (old : Machine) (c : Command) (new : Machine) (r : Reply) (text : List ℕ) (met met' : Met)
    → Step old c r new → HadMemory r → all ≡ done ++ is_done r ∷ [] → goes_on r ≡ true → met'.end ≡ met.end → met'.ordered ≡ (met.ordered || is_ordered r)
    → TellsCommand options name script commands done old c new all text text met met'
goes_told options name script commands done all old c new r text met met' step memory noted on same ordered = record {
  answer = r;
  replied = step;
  memory = memory;
  noted = noted;
  part = [];
  tells = subst (λ b. MatchBool b (◌≡◌ {A = List ℕ} [] []) (IsHeaded options name script commands all new (length done) r [])) (sym on) refl;
  added = sym (append-nil text);
  stays = λ e. same;
  turns = λ e. absurd (false≢true (sym e ∙ on));
  ordered = ordered;
}

-- and of another one what is told of the end of a walk
pub end_told :
    (options : ExplainOptions) (name : List ℕ) (script : PlacedScript) (commands : List Command) (done all : List Bool) (ticket : ℕ) (old : Machine) (c : Command) (new : Machine) (r : Reply) (w : Walked) (before after : List ℕ) (met met' : Met)
    → Step old c r new → HadMemory r → all ≡ done ++ is_done r ∷ [] → ticket ≡ length done → EndsAt ticket r w → IsEndAdded options name script commands all new ticket w before after
    → met'.end ≡ true → met'.ordered ≡ (met.ordered || is_ordered r) → TellsCommand options name script commands done old c new all before after met met'
end_told options name script commands done all ticket old c new r w before after met met' step memory noted same ends told turned ordered = record {
  answer = r;
  replied = step;
  memory = memory;
  noted = noted;
  part = part;
  tells = subst (λ n. TellsAny options name script commands all new n r part) same any;
  added = told.added;
  stays = λ e. absurd (false≢true (sym (ends_false ticket r w ends) ∙ e));
  turns = λ e. turned;
  ordered = ordered;
}
  where
    part : List ℕ
    part = heading options.format ticket told.place.line ++ told.own

    headed : IsHeaded options name script commands all new ticket r part
    headed = record { place = told.place; stands = told.stands; own = told.own; tells = tells_reply options name script commands all new ticket r w told.own ends told.tells; whole = refl }

    any : TellsAny options name script commands all new ticket r part
    any = subst (λ b. MatchBool b (part ≡ []) (IsHeaded options name script commands all new ticket r part)) (sym (ends_false ticket r w ends)) headed

-- one command more is told
pub each_more :
    (options : ExplainOptions) (name : List ℕ) (script : PlacedScript) (commands : List Command) (first_done : List Bool) (old now new : Machine) (done : List Command) (c : Command) (r : Reply) (all : List Bool) (text part whole : List ℕ)
    → TellsEach options name script commands first_done old done now all text → Step now c r new → HadMemory r → TellsAny options name script commands (all ++ is_done r ∷ []) new (length all) r part
    → whole ≡ text ++ part → TellsEach options name script commands first_done old (done ++ c ∷ []) new (all ++ is_done r ∷ []) whole
each_more options name script commands first_done old now new [] c r all text part whole (same, kept, empty) step memory tells added = (
  new,
  r,
  part,
  [],
  subst (λ m. Step m c r new) same step,
  memory,
  subst (λ (l : List Bool). TellsAny options name script commands (l ++ is_done r ∷ []) new (length l) r part) kept tells,
  (refl, ap (λ l. l ++ is_done r ∷ []) kept, refl),
  added ∙ ap (λ t. t ++ part) empty ∙ sym (append-nil part),
)
each_more options name script commands first_done old now new (d ∷ done) c r all text part whole (mid, s, first, rest, did, had, any, more, split) step memory tells added = (
  mid,
  s,
  first,
  rest ++ part,
  did,
  had,
  any,
  each_more options name script commands (first_done ++ is_done s ∷ []) mid now new done c r all rest part (rest ++ part) more step memory tells refl,
  added ∙ ap (λ t. t ++ part) split ∙ append_assoc first rest part,
)

-- a command is told behind others
pub command_more :
    (options : ExplainOptions) (name : List ℕ) (script : PlacedScript) (commands : List Command) (old now new : Machine) (done : List Command) (c : Command) (flags all : List Bool) (text whole : List ℕ) (met met' : Met)
    → TellsEach options name script commands [] old done now flags text → TellsCommand options name script commands flags now c new all text whole met met'
    → TellsEach options name script commands [] old (done ++ c ∷ []) new all whole
command_more options name script commands old now new done c flags all text whole met met' each told =
    subst (λ (l : List Bool). TellsEach options name script commands [] old (done ++ c ∷ []) new l whole) (sym told.noted)
    (each_more options name script commands [] old now new done c told.answer flags text told.part whole each told.replied told.memory
    (subst (λ (l : List Bool). TellsAny options name script commands l new (length flags) told.answer told.part) told.noted told.tells) told.added)

-- and whether a fault or a refusal was met
pub met_more :
    (options : ExplainOptions) (name : List ℕ) (script : PlacedScript) (all : List Command) (old now new : Machine) (commands done rest : List Command) (c : Command) (flags flags' : List Bool) (text whole : List ℕ) (met met' : Met)
    → commands ≡ done ++ c ∷ rest → IsMet old commands done now met.end met.ordered → TellsCommand options name script all flags now c new flags' text whole met met'
    → IsMet old commands (done ++ c ∷ []) new met'.end met'.ordered
met_more options name script all old now new commands done rest c flags flags' text whole met met' split so_far told = go (goes_on told.answer) refl met.end so_far told.stays
  where
    Behind : Bool → Type 0
    Behind end = IsMet old commands (done ++ c ∷ []) new end met'.ordered

    go : (b : Bool) → goes_on told.answer ≡ b → (end : Bool) → IsMet old commands done now end met.ordered → (goes_on told.answer ≡ true → met'.end ≡ end) → Behind met'.end
    go true e true h stays = subst Behind (sym (stays e)) h
    go true e false h stays = subst Behind (sym (stays e)) (through_more old now new done c told.answer met.ordered met'.ordered h told.replied told.memory e told.ordered)
    go false e true h stays = subst Behind (sym (told.turns e)) h
    go false e false h stays =
        subst Behind (sym (told.turns e))
        (record {
          ticket = length done;
          machine = new;
          answer = told.answer;
          first = first_behind old commands done rest c now new split (cleanly old now done met.ordered h) told.answer told.replied (length done) refl;
          ends = e;
        })

-- what is said of a script whose commands are all done
found :
    (configuration : Configuration) (script : List ℕ) (commands : List Command) (m : Machine) (end ordered : Bool) → IsScript script commands → IsMet (opening configuration) commands commands m end ordered
    → Found configuration script end
found configuration script commands m false ordered is h = record { commands = commands; machine = m; is = is; led = cleanly (opening configuration) m commands ordered h }
found configuration script commands m true ordered is h =
    record { commands = commands; ticket = h.ticket; machine = h.machine; is = is; found = split h.answer h.first h.ends }
  where
    First : Reply → Type 0
    First r = IsFirst (opening configuration) commands h.machine h.ticket r

    split : (r : Reply) → First r → goes_on r ≡ false → ((f : Fault) × (runs : List EventRun) × First (reply.Fault f runs)) ⊎ ((why : Refusal) × First (reply.Refused why))
    split reply.Done first ends = absurd (false≢true (sym ends))
    split (reply.Data bytes) first ends = absurd (false≢true (sym ends))
    split reply.Clean first ends = absurd (false≢true (sym ends))
    split reply.Ordered first ends = absurd (false≢true (sym ends))
    split (reply.Fault f runs) first ends = inl (f, runs, first)
    split (reply.Refused why) first ends = inr (why, first)

pub found_all :
    (configuration : Configuration) (script : List ℕ) (commands same : List Command) (first m : Machine) (met : Met) (answer : Bool) → IsScript script commands → same ≡ commands
    → first ≡ opening configuration → IsMet first same same m met.end met.ordered → answer ≡ met.end → Found configuration script answer
found_all configuration script commands same first m met answer is equal opened h answered =
    subst (Found configuration script) (sym answered)
    (found configuration script commands m met.end met.ordered is
    (subst (λ (s : Machine). IsMet s commands commands m met.end met.ordered) opened (subst (λ (l : List Command). IsMet first l l m met.end met.ordered) equal h)))

pub says_all :
    (options : ExplainOptions) (name script : List ℕ) (written : Option PlacedScript) (by : PlacedScript) (commands same : List Command) (done : List Bool) (first m : Machine) (met : Met) (answer : Bool) (told text : List ℕ) → IsScript script commands
    → IsTold script commands written by
    → same ≡ commands → first ≡ opening options.configuration → TellsEach options name by commands [] first same m done told → IsMet first same same m met.end met.ordered → answer ≡ met.end
    → (met.end ≡ true → text ≡ told) → (met.end ≡ false → text ≡ word_of met.ordered) → SaysAll options name script written answer text
says_all options name script written by commands same done first m met answer told text is lines equal opened each h answered some none =
    subst (λ y. SaysAll options name script written y text) (sym answered)
    (go met.end (subst (λ (s : Machine). IsMet s commands commands m met.end met.ordered) opened (subst (λ (l : List Command). IsMet first l l m met.end met.ordered) equal h)) some none)
  where
    here : TellsEach options name by commands [] (opening options.configuration) commands m done told
    here =
        subst (λ (s : Machine). TellsEach options name by commands [] s commands m done told) opened
        (subst (λ (l : List Command). TellsEach options name by commands [] first l m done told) equal each)

    go :
        (b : Bool) → IsMet (opening options.configuration) commands commands m b met.ordered → (b ≡ true → text ≡ told) → (b ≡ false → text ≡ word_of met.ordered) → SaysAll options name script written b text
    go true h some none = record {
      commands = commands;
      machine = m;
      done = done;
      is = is;
      by = by;
      lines = lines;
      each = subst (λ (t : List ℕ). TellsEach options name by commands [] (opening options.configuration) commands m done t) (sym (some refl)) here;
    }
    go false h some none = record { commands = commands; machine = m; ordered = met.ordered; is = is; led = h; says = none refl }
