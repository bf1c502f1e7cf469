-- The log of a group's run, event by event.
use Rattle.std.proofs.Common.{◌≡◌, ℕ, zero, suc, ◌+◌, ◌<◌, Option, None, Some, List, [], ◌∷◌, ◌++◌, length, take, map, refl, sym, ap, ap₂, ◌∙◌, subst, arith, inl, inr, length-append}
use Rattle.std.specs.Prelude.{reverse}
use Rattle.std.proofs.lemmas.List.{append-nil, append_assoc, reverse-append, reverse-reverse, length-reverse, take_at}
use Rattle.std.specs.Option.{option_map}
use Rattle.clmodel.specs.Cells.{byte_count}
use Rattle.clmodel.specs.Launch.{Launch, conflict}
use Rattle.clmodel.specs.Run.{State, Events, step, or_else}
use Rattle.clmodel.specs.Law.{Logged, Makes, conflict_on, conflict_from, newest_conflict}
use Rattle.clmodel.specs.declared.access.Access.{Access}
use Rattle.clmodel.specs.declared.access.Clash.{Clash}
use Rattle.clmodel.specs.declared.schedule.Event.{Event}
use Rattle.clmodel.specs.declared.schedule.Event.TheVariants.{Item, Release}
use Rattle.clmodel.proofs.Steps.{item_inverse, release_inverse}
use Rattle.clmodel.proofs.Conflicts.{Harmless, harmless_more}
use Rattle.clmodel.proofs.Turns.{quiet_makes}
use Rattle.access_list.specs.declared.log.Entry.{Entry}
use Rattle.joining.specs.Group.{Plan, turn_of, RunsIn}
use Rattle.joining.specs.Crossings.{up_to}
use Rattle.group_run.specs.Logs.{numbered}

-- the accesses of entries
abbrev pub accesses : List Entry → List Access
accesses entries = map (λ e. e.access) entries

-- these events, the newest first, make these accesses, and none but the newest has a conflict with those before it
abbrev pub Follows : Launch → Events → List Access → Type 0
Follows l [] [] = Unit {0}
Follows l [] (x ∷ log) = ⊥
Follows l (Item i ∷ past) [] = ⊥
Follows l (Item i ∷ past) (x ∷ log) = (newest_conflict l log ≡ None) × Follows l past log
Follows l (Release g ∷ past) log = (newest_conflict l log ≡ None) × Follows l past log

follows_step : (p : Plan) (s n : State) (past : Events) (e : Event) → Follows p.launch past s.log → turn_of p s ≡ Makes e → step p.launch s e ≡ Some n → Follows p.launch (e ∷ past) n.log
follows_step p s n past (Item i) f t h =
    subst (λ z. Follows p.launch (Item i ∷ past) z.log) (item_inverse p.launch s i n h).gives (quiet_makes p.launch (newest_conflict p.launch s.log) _ (Item i) t, f)
follows_step p s n past (Release g) f t h =
    subst (λ z. Follows p.launch (Release g ∷ past) z.log) (release_inverse p.launch s g n h).gives (quiet_makes p.launch (newest_conflict p.launch s.log) _ (Release g) t, f)

reverse_cons : (e : Event) (es past : Events) → reverse es ++ (e ∷ past) ≡ reverse (e ∷ es) ++ past
reverse_cons e es past = sym (append_assoc (reverse es) (e ∷ []) past) ∙ ap (λ z. z ++ past) (sym (reverse-append (e ∷ []) es))

runs_on : (p : Plan) (s end : State) (past es : Events) → Follows p.launch past s.log → RunsIn p s es end → Follows p.launch (reverse es ++ past) end.log
runs_on p s end past [] f r = subst (λ z. Follows p.launch past z.log) r f
runs_on p s end past (e ∷ es) f r =
    subst (λ z. Follows p.launch z end.log) (reverse_cons e es past) (runs_on p r.0 end (e ∷ past) es (follows_step p s r.0 past e f r.1 r.2) r.3)

-- a run's log follows from its events
pub runs_follow : (p : Plan) (s end : State) (es : Events) → s.log ≡ [] → RunsIn p s es end → Follows p.launch (reverse es) end.log
runs_follow p s end es h r =
    subst (λ z. Follows p.launch z end.log) (append-nil (reverse es)) (runs_on p s end [] es (subst (λ z. Follows p.launch [] z) (sym h) tt) r)

-- ---- conflicts within the log

none_on : (judge : Access → Access → ℕ → Option Clash) (x : Access) (byte : ℕ) (log : List Access) → ((y : Access) → Logged log y → judge y x byte ≡ None) → conflict_on judge x byte log ≡ None
none_on judge x byte [] h = refl
none_on judge x byte (z ∷ log) h =
    ap₂ (λ a b. or_else a (option_map (λ clash. record { earlier = z; later = x; byte = byte; clash = clash }) b))
    (none_on judge x byte log (λ y w. h y (inr w))) (h z (inl refl))

-- an access without a conflict with any of a log has none with the log
pub none_from : (judge : Access → Access → ℕ → Option Clash) (x : Access) (log : List Access) → ((y : Access) → Logged log y → (byte : ℕ) → judge y x byte ≡ None)
    → (byte count : ℕ) → conflict_from judge x log byte count ≡ None
none_from judge x log h byte zero = refl
none_from judge x log h byte (suc count) = ap₂ or_else (none_on judge x byte log (λ y w. h y w byte)) (none_from judge x log h (suc byte) count)

harmless : (l : Launch) (past : Events) (log : List Access) → Follows l past log → newest_conflict l log ≡ None → Harmless l log
harmless l [] [] f n = λ x y byte a b. absurd a
harmless l [] (x ∷ log) f n = absurd f
harmless l (Item i ∷ past) [] f n = absurd f
harmless l (Item i ∷ past) (x ∷ log) f n = harmless_more l x log n (harmless l past log f.1 f.0)
harmless l (Release g ∷ past) log f n = harmless l past log f.1 f.0

-- an access that is there already has no conflict
pub repeat_calm : (l : Launch) (past : Events) (x : Access) (log : List Access) → Follows l past (x ∷ log) → Logged log x → newest_conflict l (x ∷ log) ≡ None
repeat_calm l [] x log f w = absurd f
repeat_calm l (Item i ∷ past) x log f w =
    none_from (conflict l) x log (λ y a byte. harmless l past log f.1 f.0 y x byte a w) x.first (byte_count x.width)
repeat_calm l (Release g ∷ past) x log f w = repeat_calm l past x log f.1 w

-- an access before the newest has no conflict
pub inner_calm : (l : Launch) (past : Events) (z : Access) (more log : List Access) → Follows l past (z ∷ (more ++ log)) → newest_conflict l log ≡ None
inner_calm l [] z more log f = absurd f
inner_calm l (Item i ∷ past) z [] log f = f.0
inner_calm l (Item i ∷ past) z (y ∷ more) log f = inner_calm l past y more log f.1
inner_calm l (Release g ∷ past) z more log f = inner_calm l past z more log f.1

-- ---- the place of an access

pub numbered_all : (l : Launch) (past : Events) (log : List Access) → Follows l past log → accesses (numbered past log) ≡ log
numbered_all l [] [] f = refl
numbered_all l [] (x ∷ log) f = absurd f
numbered_all l (Item i ∷ past) [] f = absurd f
numbered_all l (Item i ∷ past) (x ∷ log) f = ap (λ z. x ∷ z) (numbered_all l past log f.1)
numbered_all l (Release g ∷ past) log f = numbered_all l past log f.1

-- the events round that of an access, the newest first
pub record Placed (l : Launch) (past : Events) (e : Entry) (rest : List Entry) : Type 0 where
  pub after : Events
  pub item : ℕ
  pub before : Events
  pub parts : past ≡ after ++ Item item ∷ before
  pub number : length before ≡ e.event
  pub follows : Follows l before (accesses rest)

no_entry : (later rest : List Entry) (e : Entry) → ◌≡◌ {A = List Entry} [] (later ++ e ∷ rest) → ⊥
no_entry [] rest e h = cc
no_entry (z ∷ later) rest e h = cc

same_head : (x y : Entry) (xs ys : List Entry) → x ∷ xs ≡ y ∷ ys → x ≡ y
same_head x y xs ys h = cc

same_tail : (x y : Entry) (xs ys : List Entry) → x ∷ xs ≡ y ∷ ys → xs ≡ ys
same_tail x y xs ys h = cc

pub placed : (l : Launch) (past : Events) (log : List Access) (later rest : List Entry) (e : Entry) → Follows l past log → numbered past log ≡ later ++ e ∷ rest → Placed l past e rest
placed l [] log later rest e f h = absurd (no_entry later rest e h)
placed l (Release g ∷ past) log later rest e f h =
    let r : Placed l past e rest = placed l past log later rest e f.1 h in
    record { after = Release g ∷ r.after; item = r.item; before = r.before; parts = ap (λ z. Release g ∷ z) r.parts; number = r.number; follows = r.follows }
placed l (Item i ∷ past) [] later rest e f h = absurd f
placed l (Item i ∷ past) (x ∷ log) [] rest e f h =
    record {
      after = [];
      item = i;
      before = past;
      parts = refl;
      number = ap (λ z. z.event) (same_head _ e _ rest h);
      follows = subst (λ z. Follows l past z) (sym (numbered_all l past log f.1) ∙ ap accesses (same_tail _ e _ rest h)) f.1;
    }
placed l (Item i ∷ past) (x ∷ log) (z ∷ later) rest e f h =
    let r : Placed l past e rest = placed l past log later rest e f.1 (same_tail _ z _ (later ++ e ∷ rest) h) in
    record { after = Item i ∷ r.after; item = r.item; before = r.before; parts = ap (λ z. Item i ∷ z) r.parts; number = r.number; follows = r.follows }

-- how many of some events are items'
abbrev items : Events → ℕ
items [] = 0
items (Item i ∷ es) = suc (items es)
items (Release g ∷ es) = items es

items_follow : (l : Launch) (past : Events) (log : List Access) → Follows l past log → items past ≡ length log
items_follow l [] [] f = refl
items_follow l [] (x ∷ log) f = absurd f
items_follow l (Item i ∷ past) [] f = absurd f
items_follow l (Item i ∷ past) (x ∷ log) f = ap suc (items_follow l past log f.1)
items_follow l (Release g ∷ past) log f = items_follow l past log f.1

items_push : (es : Events) (e : Event) → items (es ++ e ∷ []) ≡ items (e ∷ es)
items_push [] e = refl
items_push (Item i ∷ es) (Item j) = ap suc (items_push es (Item j))
items_push (Item i ∷ es) (Release g) = ap suc (items_push es (Release g))
items_push (Release g ∷ es) (Item j) = items_push es (Item j)
items_push (Release g ∷ es) (Release h) = items_push es (Release h)

items_more : (e : Event) (es fs : Events) → items es ≡ items fs → items (e ∷ es) ≡ items (e ∷ fs)
items_more (Item i) es fs h = ap suc h
items_more (Release g) es fs h = h

items_reverse : (es : Events) → items (reverse es) ≡ items es
items_reverse [] = refl
items_reverse (e ∷ es) = ap items (reverse-append (e ∷ []) es) ∙ items_push (reverse es) e ∙ items_more e (reverse es) es (items_reverse es)

up_to_items : (es : Events) (i : ℕ) (fs : Events) → up_to (suc (items es)) (es ++ Item i ∷ fs) ≡ es ++ Item i ∷ []
up_to_items [] i fs = refl
up_to_items (Item j ∷ es) i fs = ap (λ z. Item j ∷ z) (up_to_items es i fs)
up_to_items (Release g ∷ es) i fs = ap (λ z. Release g ∷ z) (up_to_items es i fs)

turned : (events after before : Events) (i : ℕ) → reverse events ≡ after ++ Item i ∷ before → events ≡ reverse before ++ Item i ∷ reverse after
turned events after before i h =
    sym (reverse-reverse events) ∙ ap reverse h ∙ reverse-append after (Item i ∷ before)
    ∙ ap (λ z. z ++ reverse after) (reverse-append (Item i ∷ []) before) ∙ append_assoc (reverse before) (Item i ∷ []) (reverse after)

-- the events up to that of an access, by the number of accesses and by the number of events
pub record Cut (events : Events) (e : Entry) (rest : List Entry) : Type 0 where
  pub inside : e.event < length events
  pub same : up_to (suc (length (accesses rest))) events ≡ take (e.event + 1) events

pub cut : (l : Launch) (events : Events) (e : Entry) (rest : List Entry) → Placed l (reverse events) e rest → Cut events e rest
cut l events e rest p =
    record {
      inside = omega (arith, ap length parts, length-append (reverse p.before) (Item p.item ∷ reverse p.after), long);
      same =
          ap₂ up_to (ap suc (sym (items_follow l p.before (accesses rest) p.follows) ∙ sym (items_reverse p.before))) parts
          ∙ up_to_items (reverse p.before) p.item (reverse p.after)
          ∙ sym (take_at (reverse p.before ++ Item p.item ∷ []) (reverse p.after) (e.event + 1) (length-append (reverse p.before) (Item p.item ∷ []) ∙ ap (λ z. z + 1) long))
          ∙ ap (take (e.event + 1)) (append_assoc (reverse p.before) (Item p.item ∷ []) (reverse p.after) ∙ sym parts);
    }
  where
    parts : events ≡ reverse p.before ++ Item p.item ∷ reverse p.after
    parts = turned events p.after p.before p.item p.parts

    long : length (reverse p.before) ≡ e.event
    long = length-reverse p.before ∙ p.number
