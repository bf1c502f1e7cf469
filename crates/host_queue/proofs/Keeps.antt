-- What stays of the rule over a step.
use Rattle.std.proofs.Common.{◌≡◌, ◌≢◌, ℕ, suc, eqb, ◌+◌, ◌%◌, ◌^◌, ◌<◌, ◌≤◌, List, [], ◌∷◌, ◌++◌, length, get_or, set, sym, refl, ap, ◌∙◌, subst, ⊎_elim, arith, length-append, length-set, get_or-set_other, get_or-set_same, Option, Some, None}
use mathlib.Core.Logic.{dite}
use mathlib.Core.Option.{none, some, some-ne-none, some-injective}
use mathlib.Core.Option as maybe
use mathlib.Core.Path.{Path}
use native.Mathlib.Decide.{ℕ_discrete, dec_le}
use lib.ListN.{get_elem?}
use lib.Seq.{set-get_or}
use prog.Atomic.{either}
use Rattle.atomic_table.specs.Table.{State, Me, step, Act, keeps, takes, gives, stepped, carried_after, Valid, Allows, rest}
use Rattle.atomic_table.proofs.Lists.{at_set, at_last, set_here, set_else, exchanged}
use Rattle.host_queue.specs.declared.view.Request.{Request}
use Rattle.host_queue.specs.declared.view.Request.TheVariants.{Asked, Answered}
use Rattle.host_queue.specs.declared.view.Stage.{Stage}
use Rattle.host_queue.specs.declared.view.Stage.TheVariants.{Idle, Drawn, Taken}
use Rattle.host_queue.specs.declared.view.Held.{Held}
use Rattle.host_queue.specs.declared.view.Entry.{Entry}
use Rattle.host_queue.specs.declared.view.View.{View}
use Rattle.host_queue.specs.History.{Begins, Runs}
use Rattle.host_queue.specs.Views.{total, Has, entry, held, credit, share, count}
use Rattle.host_queue.specs.Tickets.{drawn_of, word_of, TicketOk, AtStage, SeatOk, Kept}
use Rattle.host_queue.specs.Plays.{drew, placed, took, answered, Fits, gathered}
use Rattle.host_queue.proofs.Basics.{put, put_here, put_else, put_set, put_not, head_or, some_same, asked_same, at_inside, at_end, begins_refl, begins_trans, begins_more, begins_long, total_set}

-- the seat j may know v, as the table stands
abbrev pub Knows : {D C R B : Type 0} {model : D → C → R → D → Type 0} {content : B → Request C R} {start : D} (s : State (Option B) (View D C R)) → Kept model content start s → (j : ℕ) → (v : View D C R) → Type 0
Knows {start = start} s r = SeatOk start (length s.homes) (drawn_of s.words) r.driver r.admitted r.log r.owner r.seat_of r.command (word_of s.words)

-- who has no right to draw has drawn nothing that counts
abbrev pub IsCounted : {D C R : Type 0} → ℕ → View D C R → Type 0
IsCounted j v = v.share ≡ 0 → v.count ≡ 0

module _ {D C R B : Type 0} (model : D → C → R → D → Type 0) (content : B → Request C R) (start : D) where
  abbrev V : Type 0
  V = View D C R

  abbrev E : Type 0
  E = Entry C R

  abbrev S : Type 0
  S = State (Option B) V

  abbrev Home : Type 0
  Home = maybe.Option (maybe.Option (Option B))

  abbrev Rule : S → Type 0
  Rule = Kept model content start

  pub ticket_stays : (drawn drawn' : ℕ) (log log' : List E) (n : ℕ) (c c' : Option C) (word word' : ℕ) (home home' : Home) → (drawn' ≤ n → drawn ≤ n) → Begins log log' → (n < length log' → n < length log)
      → Path (Option C) c' c → word' ≡ word → Path Home home' home → TicketOk content drawn log n c word home → TicketOk content drawn' log' n c' word' home'
  ticket_stays drawn drawn' log log' n c c' word word' home home' d b l ec ew eh k = subst (λ (z : Option C × ℕ × Home). TicketOk content drawn' log' n z.0 z.1 z.2) (λ i. (sym ec i, sym ew i, sym eh i))
      record {
        free = λ h. k.free (d h);
        unplaced = k.unplaced;
        placed = k.placed;
        answered = λ h. let a = k.answered h in (a.0, a.1, b n a.1 a.2, a.3, a.4);
        logged = λ h. let a = k.logged (l h) in (a.0, (a.1.0, b n a.1.0 a.1.1, a.1.2));
        unlogged = λ h. k.unlogged (let m = begins_long log log' b in omega arith);
        last = k.last;
      }

  -- what another seat knows stays so
  module _ (slots drawn drawn' driver admitted admitted' : ℕ) (log log' : List E) (owner owner' seat_of seat_of' : ℕ → ℕ) (command command' : ℕ → Option C) (word word' : ℕ → ℕ) where
    stage_stays : (v : V) → (0 < v.driving → Path (List E) log' log × (word (length log) ≡ 2 → word' (length log) ≡ 2)) → ((m : ℕ) → m < drawn → owner' m ≡ owner m)
        → ((m : ℕ) (c : C) → command m ≡ Some c → command' m ≡ Some c) → ((m : ℕ) → 0 < v.part → owner m ≡ v.name → m < drawn → word m ≡ 0 → word' m ≡ 0) → v.floor ≤ drawn
        → (st : Stage C) → AtStage slots drawn log owner command word v st → AtStage slots drawn' log' owner' command' word' v st
    stage_stays v drive own cmd unset floor Idle k = tt
    stage_stays v drive own cmd unset floor (Drawn n) k = let l : n < drawn = (let a = k.2 in omega arith) in (k.0, own n l ∙ k.1, k.2, k.3, unset n k.0 k.1 l k.4)
    stage_stays v drive own cmd unset floor (Taken []) k = k
    stage_stays v drive own cmd unset floor (Taken (c ∷ cs)) k = let d = drive k.0 in
        subst (λ (z : List E). (0 < v.driving) × (length z < slots) × (word' (length z) ≡ 2) × (command' (length z) ≡ Some c)) (sym d.0) (k.0, k.1, d.1 k.2, cmd (length log) c k.3)

    pub seat_stays : (j : ℕ) (v : V) → drawn ≤ drawn' → Begins log log' → (0 < v.driving → Path (List E) log' log × (admitted' ≡ admitted) × (word (length log) ≡ 2 → word' (length log) ≡ 2) × ((m : ℕ) → word' m ≡ 2 → word m ≡ 2)) → ((m : ℕ) → m < drawn → owner' m ≡ owner m)
        → (0 < v.part → seat_of' v.name ≡ seat_of v.name) → admitted ≤ admitted' → ((m : ℕ) (c : C) → command m ≡ Some c → command' m ≡ Some c) → ((m : ℕ) → 0 < word m → 0 < word' m)
        → ((m : ℕ) → m < slots → 0 < v.part → owner' m ≡ v.name → word' m ≡ 4 → (owner m ≡ v.name) × (word m ≡ 4)) → ((m : ℕ) → 0 < v.part → owner m ≡ v.name → m < drawn → word m ≡ 0 → word' m ≡ 0)
        → SeatOk start slots drawn driver admitted log owner seat_of command word j v → SeatOk start slots drawn' driver admitted' log' owner' seat_of' command' word' j v
    seat_stays j v more b drive own place enter cmd up done unset k = let fl : v.floor ≤ drawn = k.floor in let hf : v.heard_floor ≤ drawn = k.heard_floor in record {
      begun = k.begun;
      known = begins_trans v.known log log' k.known b;
      floor = omega arith;
      mine = λ p. let a = k.mine p in let l : v.name < admitted = a.1 in (place p ∙ a.0, omega arith);
      drives = λ p. let a = k.drives p in let d = drive p in (a.0, a.1 ∙ sym d.0, a.2 ∙ sym d.1, a.3);
      tickets = λ i t e. let a = k.tickets i t e in let l : t.number < v.floor = a.2 in (a.0, own t.number (omega arith) ∙ a.1, l, a.3, cmd t.number t.command a.4, up t.number a.5);
      collected = λ m l p o w. let d = done m l p o w in k.collected m l p d.0 d.1;
      stage = stage_stays v (λ p. let d = drive p in (d.0, d.2)) own cmd unset fl v.stage k.stage;
      heard_known = begins_trans v.heard_known log log' k.heard_known b;
      heard_floor = omega arith;
      heard_tickets = λ i t e. let a = k.heard_tickets i t e in let l : t.number < v.heard_floor = a.1 in (own t.number (omega arith) ∙ a.0, l, a.2, cmd t.number t.command a.3, up t.number a.4);
      busy = λ p m two. let d = drive p in let a = k.busy p m (d.3 m two) in (a.0, a.1 ∙ sym (ap length d.0));
    }

  -- one seat's view changes, and what each other knows stays
  pub seats_move : (P : ℕ → V → Type 0) (vs : List V) (id : ℕ) (w : V) → P id w → ((j : ℕ) (u : V) → j ≢ id → get_elem? vs j ≡ some u → P j u) → (j : ℕ) (u : V) → get_elem? (set vs id w) j ≡ some u → P j u
  seats_move P vs id w mine others j u e = ⊎_elim (λ (t : (j ≡ id) × Path V w u). subst (λ (x : ℕ × V). P x.0 x.1) (λ i. (sym t.0 i, t.1 i)) mine)
      (λ (t : (j ≢ id) × (get_elem? vs j ≡ some u)). others j u t.0 t.1) (at_set vs id j w u e)

  -- two seats with parts and one name are one seat
  pub apart : (s : S) (r : Rule s) (id j : ℕ) (v u : V) → get_elem? s.views id ≡ some v → get_elem? s.views j ≡ some u → 0 < v.part → 0 < u.part → v.name ≡ u.name → j ≡ id
  apart s r id j v u a b p q e = sym ((r.each_seat j u b).mine q).0 ∙ (ap r.seat_of (sym e) ∙ ((r.each_seat id v a).mine p).0)

  -- a step of the seat id on the ticket n, whose word becomes x
  pub moved : (s : S) (r : Rule s) (n x id : ℕ) (log' : List E) (command' : ℕ → Option C) (homes' : List (maybe.Option (Option B))) (v w : V) → n < length s.homes → get_elem? s.views id ≡ some v → length homes' ≡ length s.homes
      → ((m : ℕ) → m ≢ n → get_elem? homes' m ≡ get_elem? s.homes m) → ((m : ℕ) → m ≢ n → command' m ≡ r.command m) → ((c : C) → r.command n ≡ Some c → command' n ≡ Some c)
      → Runs model start log' → Begins r.log log' → length log' ≤ drawn_of s.words → ((m : ℕ) → m ≢ n → m < length log' → m < length r.log)
      → TicketOk content (drawn_of s.words) log' n (command' n) x (get_elem? homes' n) → (w.credit ≡ v.credit) × (w.share ≡ v.share) × (w.count ≡ v.count) → 0 < x
      → (x ≡ 4 → (0 < v.part) × (r.owner n ≡ v.name)) → (word_of s.words n ≡ 0 → (0 < v.part) × (r.owner n ≡ v.name))
      → (id ≢ r.driver → Path (List E) log' r.log × (word_of s.words n ≢ 2) × (x ≢ 2))
      → SeatOk start (length s.homes) (drawn_of s.words) r.driver r.admitted log' r.owner r.seat_of command' (put (word_of s.words) n x) id w
      → Rule record { words = set s.words (n + 32) x; homes = homes'; views = set s.views id w }
  moved s r n x id log' command' homes' v w near at deep home cmd cmd_n runs b short grows ticket same_credit pos done unset drive mine =
      let same_c = same_credit.0 in let same_s = same_credit.1 in let same_n = same_credit.2 in let sum_s = total_set share s.views id v w at in let sum_n = total_set count s.views id v w at in let sh = r.shares in let k0 = r.counts.0 in let k1 = r.counts.1 in
      let word : ℕ → ℕ = word_of s.words in let word' : ℕ → ℕ = word_of (set s.words (n + 32) x) in
      let wide : length s.words ≡ length s.homes + 32 = r.wide in let drawn : ℕ = drawn_of s.words in
      let here : word' n ≡ x = get_or-set_same s.words (n + 32) x 0 (omega arith) in
      let else_ = λ (m : ℕ) (ne : m ≢ n). let e : word' m ≡ word m = get_or-set_other s.words (n + 32) (m + 32) x 0 (λ h. ne (omega arith)) in e in
      let same0 : drawn_of (set s.words (n + 32) x) ≡ drawn = get_or-set_other s.words (n + 32) 16 x 0 (λ h. omega arith) in
      let sum = total_set credit s.views id v w at in let c0 = r.credits.0 in let c1 = r.credits.1 in
      let words_are = words_put s.words n x (omega arith) in
      record {
        log = log';
        driver = r.driver;
        admitted = r.admitted;
        owner = r.owner;
        seat_of = r.seat_of;
        command = command';
        wide = length-set s.words (n + 32) x ∙ (wide ∙ ap (λ (z : ℕ). z + 32) (sym deep));
        small = (let l = r.small in omega arith);
        runs = runs;
        short = omega arith;
        credits = (omega arith, omega arith);
        shares = omega arith;
        counts = ((λ h. let g = k0 (omega arith) in omega arith), λ h. let g = k1 (omega arith) in omega arith);
        left = seats_move IsCounted s.views id w (λ h. same_n ∙ r.left id v at (sym same_s ∙ h)) (λ j u _ e. r.left j u e);
        owned = λ m a b. r.owned m (omega arith) (omega arith);
        each_ticket = λ m l. dite (ℕ_discrete m n)
            (λ e. subst (λ (z : ℕ). TicketOk content (drawn_of (set s.words (n + 32) x)) log' z (command' z) (word' z) (get_elem? homes' z)) (sym e)
            (ticket_stays drawn (drawn_of (set s.words (n + 32) x)) log' log' n (command' n) (command' n) x (word' n) (get_elem? homes' n) (get_elem? homes' n) (λ h. omega arith) (begins_refl log') (λ h. h) refl here refl ticket))
            (λ ne. ticket_stays drawn (drawn_of (set s.words (n + 32) x)) r.log log' m (r.command m) (command' m) (word m) (word' m) (get_elem? s.homes m) (get_elem? homes' m) (λ h. omega arith) b (grows m ne) (cmd m ne) (else_ m ne) (home m ne) (r.each_ticket m (omega arith)));
        each_seat = seats_move (SeatOk start (length homes') (drawn_of (set s.words (n + 32) x)) r.driver r.admitted log' r.owner r.seat_of command' word') s.views id w
            (subst (λ (z : ℕ × ℕ × (ℕ → ℕ)). SeatOk start z.0 z.1 r.driver r.admitted log' r.owner r.seat_of command' z.2 id w) (λ i. (sym deep i, sym same0 i, λ m. sym (words_are m) i)) mine)
            (λ j u ne e. subst (λ (z : ℕ). SeatOk start z (drawn_of (set s.words (n + 32) x)) r.driver r.admitted log' r.owner r.seat_of command' word' j u) (sym deep)
            (seat_stays (length s.homes) drawn (drawn_of (set s.words (n + 32) x)) r.driver r.admitted r.admitted r.log log' r.owner r.owner r.seat_of r.seat_of r.command command' word word' j u (omega arith) b
            (λ p. let d = drive (λ (h : id ≡ r.driver). ne (((r.each_seat j u e).drives p).0 ∙ sym h)) in (
              d.0,
              refl,
              (λ two. else_ (length r.log) (λ (h : length r.log ≡ n). d.1 (ap word (sym h) ∙ two)) ∙ two),
              λ m two. dite (ℕ_discrete m n) (λ q. absurd (d.2 (sym here ∙ (ap word' (sym q) ∙ two)))) (λ q. sym (else_ m q) ∙ two),
            ))
            (λ m l. refl) (λ p. refl) (omega arith)
            (λ m c h. dite (ℕ_discrete m n) (λ q. subst (λ (z : ℕ). command' z ≡ Some c) (sym q) (cmd_n c (subst (λ (z : ℕ). r.command z ≡ Some c) q h))) (λ q. cmd m q ∙ h))
            (λ m l. dite (ℕ_discrete m n) (λ q. let g : word' m ≡ x = ap word' q ∙ here in omega arith) (λ q. let g : word' m ≡ word m = else_ m q in omega arith))
            (λ m _ p o four. dite (ℕ_discrete m n)
            (λ q. let d = done (sym here ∙ (ap word' (sym q) ∙ four)) in absurd (ne (apart s r id j v u at e d.0 p (sym d.1 ∙ (ap r.owner (sym q) ∙ o)))))
            (λ q. (o, sym (else_ m q) ∙ four)))
            (λ m p o l none. dite (ℕ_discrete m n)
            (λ q. let d = unset (ap word (sym q) ∙ none) in absurd (ne (apart s r id j v u at e d.0 p (sym d.1 ∙ (ap r.owner (sym q) ∙ o)))))
            (λ q. else_ m q ∙ none))
            (r.each_seat j u e)));
      }
    where
      words_put : (words : List ℕ) (n x : ℕ) → n + 32 < length words → (m : ℕ) → word_of (set words (n + 32) x) m ≡ put (word_of words) n x m
      words_put words n x l m = dite (ℕ_discrete m n)
          (λ q. subst (λ (z : ℕ). word_of (set words (n + 32) x) z ≡ put (word_of words) n x z) (sym q) (get_or-set_same words (n + 32) x 0 l ∙ sym (put_here (word_of words) n x)))
          (λ q. get_or-set_other words (n + 32) (m + 32) x 0 (λ h. q (omega arith)) ∙ sym (put_else (word_of words) n x m q))

  abbrev Mine : Type 0
  Mine = Me (Option B) V

  -- in a state where the rule holds, a step by which the word i becomes new keeps it
  abbrev MayStep : S → ℕ → ℕ → Mine → (Mine → Type 0) → ℕ → Type 0
  MayStep s i id me told new = (w : V) × (a : Act (Option B)) × Valid s.homes me.1 a × Rule (stepped s i new id me.1 w a) × told (w, carried_after me.1 a)

  -- only the views change, and who has which name
  pub reviewed : (s : S) (r : Rule s) (vs : List V) (admitted' : ℕ) (seat_of' : ℕ → ℕ) → r.admitted ≤ admitted' → total credit vs ≤ total credit s.views → total share vs ≡ admitted' → total count vs ≡ total count s.views
      → ((j : ℕ) (u : V) → get_elem? vs j ≡ some u → IsCounted j u)
      → ((j : ℕ) (u : V) → get_elem? vs j ≡ some u → SeatOk start (length s.homes) (drawn_of s.words) r.driver admitted' r.log r.owner seat_of' r.command (word_of s.words) j u)
      → Rule record { words = s.words; homes = s.homes; views = vs }
  reviewed s r vs admitted' seat_of' more fewer shares counts lefts seats = let c0 = r.credits.0 in let c1 = r.credits.1 in record {
    log = r.log;
    driver = r.driver;
    admitted = admitted';
    owner = r.owner;
    seat_of = seat_of';
    command = r.command;
    wide = r.wide;
    small = r.small;
    runs = r.runs;
    short = r.short;
    credits = (omega arith, omega arith);
    shares = shares;
    counts = ((λ h. counts ∙ r.counts.0 h), λ h. counts ∙ r.counts.1 h);
    left = lefts;
    owned = λ m a b. let h = r.owned m a b in omega arith;
    each_ticket = r.each_ticket;
    each_seat = seats;
  }

  -- a step that changes one view alone
  pub unmoved : (s : S) (r : Rule s) (i id : ℕ) (v w : V) → get_elem? s.views id ≡ some v → (w.credit ≡ v.credit) × (w.share ≡ v.share) × (w.count ≡ v.count) → Knows s r id w
      → Rule record { words = set s.words i (get_or s.words i 0); homes = s.homes; views = set s.views id w }
  unmoved s r i id v w at same mine = let same_c = same.0 in let same_s = same.1 in let same_n = same.2 in let sum_s = total_set share s.views id v w at in let sum_n = total_set count s.views id v w at in let sh = r.shares in
      let sum = total_set credit s.views id v w at in
      subst (λ (ws : List ℕ). Rule record { words = ws; homes = s.homes; views = set s.views id w }) (sym (set-get_or s.words i 0))
      (reviewed s r (set s.views id w) r.admitted r.seat_of (omega arith) (omega arith) (omega arith) (omega arith)
      (seats_move IsCounted s.views id w (λ h. same_n ∙ r.left id v at (sym same_s ∙ h)) (λ j u _ e. r.left j u e))
      (seats_move (Knows s r) s.views id w mine (λ j u _ e. r.each_seat j u e)))

  -- a ticket whose word is set was drawn
  pub was_drawn : (s : S) (r : Rule s) (m : ℕ) → m < length s.homes → 0 < word_of s.words m → m < drawn_of s.words
  was_drawn s r m near pos = dite (dec_le (drawn_of s.words) m) (λ h. let z = ((r.each_ticket m near).free h).0 in absurd (omega arith)) (λ h. omega arith)

  pub at_stage : (s : S) (r : Rule s) (id : ℕ) (v : V) (st : Stage C) → get_elem? s.views id ≡ some v → v.stage ≡ st
      → AtStage (length s.homes) (drawn_of s.words) r.log r.owner r.command (word_of s.words) v st
  at_stage s r id v st at is = subst (AtStage (length s.homes) (drawn_of s.words) r.log r.owner r.command (word_of s.words) v) is (r.each_seat id v at).stage

  some_none : (c : C) → Path (Option C) None (Some c) → ⊥
  some_none c e = cc

  drawn_is : (n m : ℕ) → Path (Stage C) (Drawn n) (Drawn m) → n ≡ m
  drawn_is n m e = cc

  taken_is : (c d : C) → Path (Stage C) (Taken (c ∷ [])) (Taken (d ∷ [])) → Path C c d
  taken_is c d e = cc

  idle_taken : (c : C) → Path (Stage C) Idle (Taken (c ∷ [])) → ⊥
  idle_taken c e = cc

  answered_is : (c d : R) → Path (Request C R) (Answered c) (Answered d) → Path R c d
  answered_is c d e = cc

  places_in : (slots id : ℕ) (v : V) (n : ℕ) (b : B) (c : C) (more : List (ℕ × Option B)) → v.driving ≡ 0 → v.stage ≡ Drawn n → content b ≡ Asked c
      → Allows Rule slots id (v, (n, Some b) ∷ more) (n + 32) (λ y. either (eqb y 0) 1 y) (placed content (step slots (n + 32) 0 1 none) (v, (n, Some b) ∷ more))
  places_in slots id v n b c more idles st asked s r wide at _ = let told = placed content (step slots (n + 32) 0 1 none) (v, (n, Some b) ∷ more) in
      let k = r.each_seat id v at in let g = at_stage s r id v (Drawn n) at st in let part : 0 < v.part = g.0 in let near : n < length s.homes = g.3 in let none_yet : word_of s.words n ≡ 0 = g.4 in
      let below : n < drawn_of s.words = (let a : n < v.floor = g.2 in let f : v.floor ≤ drawn_of s.words = k.floor in omega arith) in
      let old = r.each_ticket n near in let w : V = record v { stage = Idle; tickets = v.tickets ++ held n c ∷ [] } in let command' = put r.command n (Some c) in let word : ℕ → ℕ = word_of s.words in let word' = put word n 1 in
      exchanged (word_of s.words n) 0 1 (MayStep s (n + 32) id (v, (n, Some b) ∷ more) (told (word_of s.words n)))
      (λ _. (
        w,
        gives,
        tt,
        moved s r n 1 id r.log command' (set s.homes n (some (Some b))) v w near at (length-set s.homes n (some (Some b))) (λ m ne. set_else s.homes n m (some (Some b)) ne) (λ m ne. put_else r.command n (Some c) m ne)
            (λ c' e. absurd (some_none c' (sym (old.unplaced none_yet) ∙ e))) r.runs (begins_refl r.log) r.short (λ m _ l. l)
            record {
              free = λ h. absurd (omega arith);
              unplaced = λ h. absurd (omega arith);
              placed = λ _. (b, c, put_here r.command n (Some c), asked, set_here s.homes n (some (Some b)) near);
              answered = λ h. absurd (omega arith);
              logged = λ l. let h = (old.logged l).0 in absurd (omega arith);
              unlogged = λ _. omega arith;
              last = omega arith;
            }
            (refl, refl, refl) (omega arith) (λ h. absurd (omega arith)) (λ _. (part, g.1)) (λ _. (refl, (λ h. omega arith), λ h. omega arith))
            record {
              begun = k.begun;
              known = k.known;
              floor = k.floor;
              mine = k.mine;
              drives = k.drives;
              tickets = λ i t e. ⊎_elim
                  (λ (h : get_elem? v.tickets i ≡ some t). let a = k.tickets i t h in let ne : t.number ≢ n = (λ q. let z : word t.number ≡ word n = ap word q in let u : 0 < word t.number = a.5 in omega arith) in
                  (a.0, a.1, a.2, a.3, put_else r.command n (Some c) t.number ne ∙ a.4, subst (λ (z : ℕ). 0 < z) (sym (put_else word n 1 t.number ne)) a.5))
                  (λ (h : (i ≡ length v.tickets) × Path (Held C) (held n c) t). subst (λ (z : Held C). (0 < v.part) × (r.owner z.number ≡ v.name) × (z.number < v.floor) × (z.number < length s.homes) × (command' z.number ≡ Some z.command) × (0 < word' z.number)) h.1
                  (part, g.1, g.2, near, put_here r.command n (Some c), subst (λ (z : ℕ). 0 < z) (sym (put_here word n 1)) (omega arith)))
                  (at_end v.tickets (held n c) t i e);
              collected = λ m l p o four. k.collected m l p o (put_not word n 1 4 m (omega arith) four);
              stage = tt;
              heard_known = k.heard_known;
              heard_floor = k.heard_floor;
              heard_tickets = λ i t e. let a = k.heard_tickets i t e in let ne : t.number ≢ n = (λ q. let z : word t.number ≡ word n = ap word q in let u : 0 < word t.number = a.4 in omega arith) in
                  (a.0, a.1, a.2, put_else r.command n (Some c) t.number ne ∙ a.3, subst (λ (z : ℕ). 0 < z) (sym (put_else word n 1 t.number ne)) a.4);
              busy = λ p. let d : 0 < v.driving = p in absurd (omega arith);
            },
        (λ n' b' c' more' is has asked'. let nn : n ≡ n' = drawn_is n n' (sym st ∙ is) in let bb = some_same b b' (ap (head_or None) has) in
            let cc' = asked_same {R = R} c c' (sym asked ∙ (ap content bb ∙ asked')) in
            (λ i. record v { stage = Idle; tickets = v.tickets ++ held (nn i) (cc' i) ∷ [] }, ap rest has)),
      ))
      (λ miss. absurd (miss none_yet))

  pub places : (slots id : ℕ) (me : Mine) (n : ℕ) (b : B) (c : C) (more : List (ℕ × Option B)) → me.0.driving ≡ 0 → me.0.stage ≡ Drawn n → me.1 ≡ (n, Some b) ∷ more → content b ≡ Asked c
      → Allows Rule slots id me (n + 32) (λ y. either (eqb y 0) 1 y) (placed content (step slots (n + 32) 0 1 none) me)
  places slots id me n b c more idles st has asked = subst (λ (cs : List (ℕ × Option B)). Allows Rule slots id (me.0, cs) (n + 32) (λ y. either (eqb y 0) 1 y) (placed content (step slots (n + 32) 0 1 none) (me.0, cs))) (sym has)
      (places_in slots id me.0 n b c more idles st asked)

  -- a step on the count of draws, which goes up by one
  counted : (s : S) (r : Rule s) (id : ℕ) (owner' : ℕ → ℕ) (homes' : List (maybe.Option (Option B))) (v w : V) → get_elem? s.views id ≡ some v → length homes' ≡ length s.homes
      → ((m : ℕ) → m ≢ drawn_of s.words → get_elem? homes' m ≡ get_elem? s.homes m) → ((m : ℕ) → m < drawn_of s.words → owner' m ≡ r.owner m)
      → (drawn_of s.words + 1 + total credit (set s.views id w) ≤ length s.homes + 16) → total credit (set s.views id w) ≤ 16
      → ((m : ℕ) → m < drawn_of s.words + 1 → m < length s.homes → owner' m < r.admitted) → w.share ≡ v.share → (drawn_of s.words < length s.homes → (0 < v.share) × (w.count ≡ v.count + 1)) → (length s.homes ≤ drawn_of s.words → w.count ≡ v.count)
      → SeatOk start (length s.homes) (drawn_of s.words + 1) r.driver r.admitted r.log owner' r.seat_of r.command (word_of s.words) id w
      → Rule record { words = set s.words 16 (drawn_of s.words + 1); homes = homes'; views = set s.views id w }
  counted s r id owner' homes' v w at deep home own credits fewer names same_s low high mine =
      let sum_s = total_set share s.views id v w at in let sum_n = total_set count s.views id v w at in let sh = r.shares in let k0 = r.counts.0 in let k1 = r.counts.1 in
      let y : ℕ = drawn_of s.words in let x : ℕ = drawn_of (set s.words 16 (y + 1)) in let word : ℕ → ℕ = word_of s.words in let word' : ℕ → ℕ = word_of (set s.words 16 (y + 1)) in
      let wide : length s.words ≡ length s.homes + 32 = r.wide in let is : x ≡ y + 1 = get_or-set_same s.words 16 (y + 1) 0 (omega arith) in
      let else_ = λ (m : ℕ). let e : word' m ≡ word m = get_or-set_other s.words 16 (m + 32) (y + 1) 0 (λ h. omega arith) in e in
      let empty = λ (m : ℕ) (l : m < length s.homes) (h : y ≤ m). ((r.each_ticket m l).free h).0 in record {
        log = r.log;
        driver = r.driver;
        admitted = r.admitted;
        owner = owner';
        seat_of = r.seat_of;
        command = r.command;
        wide = length-set s.words 16 (y + 1) ∙ (wide ∙ ap (λ (z : ℕ). z + 32) (sym deep));
        small = (let l = r.small in omega arith);
        runs = r.runs;
        short = (let l = r.short in omega arith);
        credits = (fewer, omega arith);
        shares = omega arith;
        counts = ((λ h. let g = k0 (omega arith) in let c = (low (omega arith)).1 in omega arith), λ h. dite (dec_le (length s.homes) y) (λ q. let g = k1 q in let c = high q in omega arith) (λ q. let g = k0 (omega arith) in let c = (low (omega arith)).1 in omega arith));
        left = seats_move IsCounted s.views id w
            (λ h. dite (dec_le (length s.homes) y) (λ q. high q ∙ r.left id v at (sym same_s ∙ h)) (λ q. let p = (low (omega arith)).0 in absurd (omega arith))) (λ j u _ e. r.left j u e);
        owned = λ m a b. names m (omega arith) (omega arith);
        each_ticket = λ m l. dite (ℕ_discrete m y)
            (λ q. let k = r.each_ticket m (omega arith) in let z : word m ≡ 0 = empty m (omega arith) (omega arith) in let z' : word' m ≡ 0 = else_ m ∙ z in record {
              free = λ h. absurd (omega arith);
              unplaced = λ _. k.unplaced z;
              placed = λ h. absurd (omega arith);
              answered = λ h. absurd (omega arith);
              logged = λ h. absurd (let a = (k.logged h).0 in omega arith);
              unlogged = λ h. omega arith;
              last = omega arith;
            })
            (λ ne. ticket_stays y x r.log r.log m (r.command m) (r.command m) (word m) (word' m) (get_elem? s.homes m) (get_elem? homes' m) (λ h. omega arith) (begins_refl r.log) (λ h. h) refl (else_ m) (home m ne) (r.each_ticket m (omega arith)));
        each_seat = seats_move (SeatOk start (length homes') x r.driver r.admitted r.log owner' r.seat_of r.command word') s.views id w
            (subst (λ (z : ℕ × ℕ × (ℕ → ℕ)). SeatOk start z.0 z.1 r.driver r.admitted r.log owner' r.seat_of r.command z.2 id w) (λ i. (sym deep i, sym is i, λ m. sym (else_ m) i)) mine)
            (λ j u _ e. subst (λ (z : ℕ). SeatOk start z x r.driver r.admitted r.log owner' r.seat_of r.command word' j u) (sym deep)
            (seat_stays (length s.homes) y x r.driver r.admitted r.admitted r.log r.log r.owner owner' r.seat_of r.seat_of r.command r.command word word' j u (omega arith) (begins_refl r.log)
            (λ p. (refl, refl, (λ two. else_ (length r.log) ∙ two), λ m two. sym (else_ m) ∙ two)) own (λ p. refl) (omega arith) (λ m c h. h) (λ m l. let g : word' m ≡ word m = else_ m in omega arith)
            (λ m l p o four. let g : word m ≡ 4 = sym (else_ m) ∙ four in let below : m < y = was_drawn s r m l (omega arith) in (sym (own m below) ∙ o, g))
            (λ m p o l z. else_ m ∙ z)
            (r.each_seat j u e)));
      }

  -- a seat between two calls that counts a draw: it is then at the stage st
  draws_on : (s : S) (r : Rule s) (id : ℕ) (v : V) (owner' : ℕ → ℕ) (cr ct : ℕ) (st : Stage C) → get_elem? s.views id ≡ some v → v.stage ≡ Idle → ((m : ℕ) → m < drawn_of s.words → owner' m ≡ r.owner m)
      → AtStage (length s.homes) (drawn_of s.words + 1) r.log owner' r.command (word_of s.words) (record v { credit = cr; stage = st; floor = drawn_of s.words + 1; count = ct }) st
      → SeatOk start (length s.homes) (drawn_of s.words + 1) r.driver r.admitted r.log owner' r.seat_of r.command (word_of s.words) id (record v { credit = cr; stage = st; floor = drawn_of s.words + 1; count = ct })
  draws_on s r id v owner' cr ct st at idle own stage = let k = r.each_seat id v at in let y : ℕ = drawn_of s.words in let fl = k.floor in let hf = k.heard_floor in record {
    begun = k.begun;
    known = k.known;
    floor = (let g : y + 1 ≤ y + 1 = omega arith in g);
    mine = k.mine;
    drives = k.drives;
    tickets = λ i t e. let a = k.tickets i t e in let l : t.number < v.floor = a.2 in let l' : t.number < y + 1 = omega arith in (a.0, own t.number (omega arith) ∙ a.1, l', a.3, a.4, a.5);
    collected = λ m l p o four. k.collected m l p (sym (own m (was_drawn s r m l (omega arith))) ∙ o) four;
    stage = stage;
    heard_known = k.heard_known;
    heard_floor = omega arith;
    heard_tickets = λ i t e. let a = k.heard_tickets i t e in let l : t.number < v.heard_floor = a.1 in (own t.number (omega arith) ∙ a.0, l, a.2, a.3, a.4);
    busy = λ p m two. absurd ((k.busy p m two).0 idle);
  }

  pub draws : (slots id : ℕ) (me : Mine) → me.0.stage ≡ Idle → 0 < me.0.part → 0 < me.0.credit → 0 < me.0.share
      → Allows Rule slots id me 16 (λ y. (y + 1) % 2 ^ 64) (drew content (step slots 16 1 0 none) me)
  draws slots id me st part some_credit shared s r wide at _ =
      let y : ℕ = drawn_of s.words in let v : V = me.0 in let k = r.each_seat id v at in let told = drew content (step slots 16 1 0 none) me in
      let c0 = r.credits.0 in let c1 = r.credits.1 in let tiny = r.small in
      let next : (y + 1) % 2 ^ 64 ≡ y + 1 = omega arith in
      subst (MayStep s 16 id me (told y)) (sym next)
      (dite (dec_le slots y)
      (λ full. let w : V = record v { credit = 0; floor = y + 1 } in let sum = total_set credit s.views id v w at in let fl = k.floor in (
        w,
        keeps,
        tt,
        counted s r id r.owner s.homes v w at refl (λ m _. refl) (λ m _. refl) (omega arith) (omega arith) (λ m a b. r.owned m (omega arith) b) refl (λ l. absurd (omega arith)) (λ _. refl)
            (draws_on s r id v r.owner 0 v.count v.stage at st (λ m l. refl) (subst (AtStage (length s.homes) (y + 1) r.log r.owner r.command (word_of s.words) w) (sym st) tt)),
        ((λ l. absurd (omega arith)), λ _. (refl, refl, fl)),
      ))
      (λ some_left. let w : V = record v { stage = Drawn y; floor = y + 1; count = v.count + 1 } in let owner' = put r.owner y v.name in let near : y < length s.homes = omega arith in let sum = total_set credit s.views id v w at in
      let free = (r.each_ticket y near).free (omega arith) in let fl = k.floor in let short = r.short in let long = begins_long v.known r.log k.known in
      let own = λ (m : ℕ) (l : m < y). put_else r.owner y v.name m (λ q. omega arith) in (
        w,
        takes y None,
        free.1,
        counted s r id owner' (set s.homes y none) v w at (length-set s.homes y none) (λ m ne. set_else s.homes y m none ne) own (omega arith) (omega arith)
            (λ m a b. dite (ℕ_discrete m y) (λ q. let h = (k.mine part).1 in let g : owner' m ≡ v.name = ap owner' q ∙ put_here r.owner y v.name in omega arith) (λ q. let h = r.owned m (omega arith) b in let g : owner' m ≡ r.owner m = put_else r.owner y v.name m q in omega arith))
            refl (λ _. (shared, refl)) (λ l. absurd (omega arith))
            (draws_on s r id v owner' v.credit (v.count + 1) (Drawn y) at st own (part, put_here r.owner y v.name, (let g : y < y + 1 = omega arith in g), near, free.0)),
        ((λ _. (refl, refl, fl, (let g : length v.known ≤ y = omega arith in g))), λ l. absurd (omega arith)),
      )))

  -- a seat after its own step on the ticket n, whose word becomes x: it is then at the stage st
  stepped_on : (s : S) (r : Rule s) (id n x : ℕ) (v : V) (log' known' : List E) (had : List ℕ) (st : Stage C) → get_elem? s.views id ≡ some v → 0 < x → Begins r.log log' → Begins known' log'
      → (0 < v.driving → (id ≡ r.driver) × (known' ≡ log') × (v.admitted ≡ r.admitted) × (v.start ≡ start ∷ []))
      → ((m : ℕ) → m < length s.homes → 0 < v.part → r.owner m ≡ v.name → put (word_of s.words) n x m ≡ 4 → Has had m)
      → AtStage (length s.homes) (drawn_of s.words) log' r.owner r.command (put (word_of s.words) n x) (record v { stage = st; collected = had; known = known' }) st
      → (0 < v.driving → (m : ℕ) → put (word_of s.words) n x m ≡ 2 → (st ≢ Idle) × (m ≡ length log'))
      → SeatOk start (length s.homes) (drawn_of s.words) r.driver r.admitted log' r.owner r.seat_of r.command (put (word_of s.words) n x) id (record v { stage = st; collected = had; known = known' })
  stepped_on s r id n x v log' known' had st at set grown begins drives all_had stage busy = let k = r.each_seat id v at in let word : ℕ → ℕ = word_of s.words in record {
    begun = k.begun;
    known = begins;
    floor = k.floor;
    mine = k.mine;
    drives = drives;
    tickets = λ i t e. let a = k.tickets i t e in (a.0, a.1, a.2, a.3, a.4, put_set word n x t.number set a.5);
    collected = all_had;
    stage = stage;
    heard_known = begins_trans v.heard_known r.log log' k.heard_known grown;
    heard_floor = k.heard_floor;
    heard_tickets = λ i t e. let a = k.heard_tickets i t e in (a.0, a.1, a.2, a.3, put_set word n x t.number set a.4);
    busy = busy;
  }

  pub takes_next : (slots id : ℕ) (me : Mine) → me.0.stage ≡ Idle → 0 < me.0.driving → length me.0.known < slots
      → Allows Rule slots id me (length me.0.known + 32) (λ y. either (eqb y 1) 2 y) (took content (step slots (length me.0.known + 32) 1 2 none) me)
  takes_next slots id me st drives below s r wide at _ =
      let v : V = me.0 in let n : ℕ = length v.known in let k = r.each_seat id v at in let told = took content (step slots (n + 32) 1 2 none) me in let d = k.drives drives in
      let nl : n ≡ length r.log = ap length d.1 in let near : n < length s.homes = omega arith in let old = r.each_ticket n near in let word : ℕ → ℕ = word_of s.words in
      exchanged (word_of s.words n) 1 2 (MayStep s (n + 32) id me (told (word_of s.words n)))
      (λ hit. let p = old.placed hit in let b = p.0 in let c = p.1 in let w : V = record v { stage = Taken (c ∷ []) } in let word' = put word n 2 in (
        w,
        takes n (Some b),
        p.4,
        moved s r n 2 id r.log r.command (set s.homes n none) v w near at (length-set s.homes n none) (λ m ne. set_else s.homes n m none ne) (λ m ne. refl) (λ c' e. e) r.runs (begins_refl r.log) r.short (λ m _ l. l)
            record {
              free = λ h. let z = (old.free h).0 in absurd (omega arith);
              unplaced = λ h. absurd (omega arith);
              placed = λ h. absurd (omega arith);
              answered = λ h. absurd (omega arith);
              logged = λ l. absurd (omega arith);
              unlogged = λ _. omega arith;
              last = omega arith;
            }
            (refl, refl, refl) (omega arith) (λ h. absurd (omega arith)) (λ h. absurd (omega arith)) (λ ne. absurd (ne d.0))
            (stepped_on s r id n 2 v r.log v.known v.collected (Taken (c ∷ [])) at (omega arith) (begins_refl r.log) k.known k.drives (λ m l p' o four. k.collected m l p' o (put_not word n 2 4 m (omega arith) four))
            (drives, (let g : length r.log < length s.homes = omega arith in g), ap word' (sym nl) ∙ put_here word n 2, ap r.command (sym nl) ∙ p.2)
            (λ p' m two. dite (ℕ_discrete m n) (λ q. ((λ z. idle_taken c (sym z)), q ∙ nl)) (λ q. absurd ((k.busy p' m (sym (put_else word n 2 m q) ∙ two)).0 st)))),
        ((λ _. (b, c, p.3, refl, refl)), λ ne. absurd (ne hit)),
      ))
      (λ miss. (
        v,
        keeps,
        tt,
        unmoved s r (n + 32) id v v at (refl, refl, refl) k,
        (
          (λ hit. absurd (miss hit)),
          λ _. (
            refl,
            λ i t e q. let a = k.heard_tickets i t e in let some_word : 0 < word n = subst (λ (z : ℕ). 0 < word z) q a.4 in
                let low : word n < 3 = old.unlogged (omega arith) in let ne : word n ≢ 1 = miss in let two : word n ≡ 2 = omega arith in (k.busy drives n two).0 st,
          ),
        ),
      ))

  answers_in : (slots id : ℕ) (v : V) (b : B) (c : C) (a : R) (more : List (ℕ × Option B)) → 0 < v.driving → ((d : D) → v.start ≡ d ∷ [] → Runs model d (v.known ++ entry c a ∷ [])) → v.stage ≡ Taken (c ∷ []) → content b ≡ Answered a
      → Allows Rule slots id (v, (length v.known, Some b) ∷ more) (length v.known + 32) (λ y. either (eqb y 2) 3 y) (answered content (step slots (length v.known + 32) 2 3 none) (v, (length v.known, Some b) ∷ more))
  answers_in slots id v b c a more drives runs st answer s r wide at _ = let n : ℕ = length v.known in let told = answered content (step slots (n + 32) 2 3 none) (v, (n, Some b) ∷ more) in
      let k = r.each_seat id v at in let d = k.drives drives in let g = at_stage s r id v (Taken (c ∷ [])) at st in let nl : n ≡ length r.log = ap length d.1 in let near : n < length s.homes = (let h = g.1 in omega arith) in
      let word : ℕ → ℕ = word_of s.words in let two : word n ≡ 2 = ap word nl ∙ g.2 in let cmd : r.command n ≡ Some c = ap r.command nl ∙ g.3 in let old = r.each_ticket n near in let drawn : ℕ = drawn_of s.words in
      let below : n < drawn = was_drawn s r n near (omega arith) in
      let log' : List E = v.known ++ entry c a ∷ [] in let long : length log' ≡ n + 1 = length-append v.known (entry c a ∷ []) in let w : V = record v { stage = Idle; known = log' } in let word' = put word n 3 in
      let grown : Begins r.log log' = subst (λ (l : List E). Begins l log') d.1 (begins_more v.known (entry c a ∷ [])) in
      exchanged (word_of s.words n) 2 3 (MayStep s (n + 32) id (v, (n, Some b) ∷ more) (told (word_of s.words n)))
      (λ _. (
        w,
        gives,
        tt,
        moved s r n 3 id log' r.command (set s.homes n (some (Some b))) v w near at (length-set s.homes n (some (Some b))) (λ m ne. set_else s.homes n m (some (Some b)) ne) (λ m ne. refl) (λ c' e. e)
            (runs start d.3) grown (omega arith) (λ m ne l. omega arith)
            record {
              free = λ h. absurd (omega arith);
              unplaced = λ h. absurd (omega arith);
              placed = λ h. absurd (omega arith);
              answered = λ _. (b, entry c a, at_last v.known (entry c a) n refl, answer, set_here s.homes n (some (Some b)) near);
              logged = λ _. (omega arith, (entry c a, at_last v.known (entry c a) n refl, cmd));
              unlogged = λ h. absurd (omega arith);
              last = omega arith;
            }
            (refl, refl, refl) (omega arith) (λ h. absurd (omega arith)) (λ h. absurd (omega arith)) (λ ne. absurd (ne d.0))
            (stepped_on s r id n 3 v log' log' v.collected Idle at (omega arith) grown (begins_refl log') (λ _. (d.0, refl, d.2, d.3)) (λ m l p o four. k.collected m l p o (put_not word n 3 4 m (omega arith) four)) tt
            (λ p m two'. let was = put_not word n 3 2 m (omega arith) two' in let z : m ≡ n = (k.busy p m was).1 ∙ sym nl in let three : word' m ≡ 3 = ap word' z ∙ put_here word n 3 in absurd (omega arith))),
        (λ b' c' a' more' is has answer'. let bb = some_same b b' (ap (head_or None) has) in let cc' = taken_is c c' (sym st ∙ is) in let aa = answered_is a a' (sym answer ∙ (ap content bb ∙ answer')) in
            (λ i. record v { stage = Idle; known = v.known ++ entry (cc' i) (aa i) ∷ [] }, ap rest has)),
      ))
      (λ miss. absurd (miss two))

  pub answers : (slots id : ℕ) (me : Mine) (b : B) (c : C) (a : R) (more : List (ℕ × Option B)) → 0 < me.0.driving → ((d : D) → me.0.start ≡ d ∷ [] → Runs model d (me.0.known ++ entry c a ∷ [])) → me.0.stage ≡ Taken (c ∷ [])
      → content b ≡ Answered a → me.1 ≡ (length me.0.known, Some b) ∷ more
      → Allows Rule slots id me (length me.0.known + 32) (λ y. either (eqb y 2) 3 y) (answered content (step slots (length me.0.known + 32) 2 3 none) me)
  answers slots id me b c a more drives runs st answer has =
      subst (λ (cs : List (ℕ × Option B)). Allows Rule slots id (me.0, cs) (length me.0.known + 32) (λ y. either (eqb y 2) 3 y) (answered content (step slots (length me.0.known + 32) 2 3 none) (me.0, cs))) (sym has)
      (answers_in slots id me.0 b c a more drives runs st answer)

  -- the list has a ticket's command at its number
  pub agrees : (s : S) (r : Rule s) (t : Held C) (x : E) → t.number < length s.homes → r.command t.number ≡ Some t.command → get_elem? r.log t.number ≡ some x → x.command ≡ t.command
  agrees s r t x near cmd at_x = let same = ((r.each_ticket t.number near).logged (at_inside r.log t.number x at_x)).1 in
      sym (some_same t.command x.command (sym cmd ∙ (same.2 ∙ ap (λ (z : E). Some z.command) (some-injective same.0 x (sym same.1 ∙ at_x)))))

  -- the driver's list goes on from what a seat knows, and has the seat's commands
  pub fits_now : (s : S) (r : Rule s) (id : ℕ) (v : V) → get_elem? s.views id ≡ some v → Fits model v r.log
  fits_now s r id v at = let k = r.each_seat id v at in record {
    goes_on = k.known;
    runs = λ d e. subst (λ (z : D). Runs model z r.log) (sym (k.begun d e)) r.runs;
    own = λ i t e x at_x. let a = k.tickets i t e in agrees s r t x a.3 a.4 at_x;
  }

  -- a seat between two calls that learns the list, and draws no number below f
  pub looks_on : (s : S) (r : Rule s) (id : ℕ) (v : V) → get_elem? s.views id ≡ some v → v.stage ≡ Idle → (f : ℕ) → v.floor ≤ f → f ≤ drawn_of s.words → Knows s r id (record v { known = r.log; floor = f })
  looks_on s r id v at st f more drawn = let k = r.each_seat id v at in let w : V = record v { known = r.log; floor = f } in record {
    begun = k.begun;
    known = begins_refl r.log;
    floor = drawn;
    mine = k.mine;
    drives = λ p. let d = k.drives p in (d.0, refl, d.2, d.3);
    tickets = λ i t e. let a = k.tickets i t e in let l : t.number < v.floor = a.2 in (a.0, a.1, (let g : t.number < f = omega arith in g), a.3, a.4, a.5);
    collected = k.collected;
    stage = subst (AtStage (length s.homes) (drawn_of s.words) r.log r.owner r.command (word_of s.words) w) (sym st) tt;
    heard_known = k.heard_known;
    heard_floor = k.heard_floor;
    heard_tickets = k.heard_tickets;
    busy = k.busy;
  }

  pub collects : (slots id : ℕ) (me : Mine) (n i : ℕ) (t : Held C) → me.0.stage ≡ Idle → get_elem? me.0.tickets i ≡ some t → t.number ≡ n → (Has me.0.collected n → ⊥)
      → Allows Rule slots id me (n + 32) (λ y. either (eqb y 3) 4 y) (gathered model content (step slots (n + 32) 3 4 none) me)
  collects slots id me n i t st has is fresh s r wide at _ = let v : V = me.0 in let k = r.each_seat id v at in let told = gathered model content (step slots (n + 32) 3 4 none) me in let word : ℕ → ℕ = word_of s.words in
      let mine = subst (λ (z : ℕ). (0 < v.part) × (r.owner z ≡ v.name) × (z < v.floor) × (z < length s.homes) × (r.command z ≡ Some t.command) × (0 < word z)) is (k.tickets i t has) in
      let part : 0 < v.part = mine.0 in let near : n < length s.homes = mine.3 in let old = r.each_ticket n near in let fits = fits_now s r id v at in let word' = put word n 4 in
      let below : n < drawn_of s.words = (let f : v.floor ≤ drawn_of s.words = k.floor in let l : n < v.floor = mine.2 in omega arith) in
      exchanged (word_of s.words n) 3 4 (MayStep s (n + 32) id me (told (word_of s.words n)))
      (λ hit. let p = old.answered hit in let b = p.0 in let w : V = record v { collected = n ∷ v.collected; known = r.log } in (
        w,
        takes n (Some b),
        p.4,
        moved s r n 4 id r.log r.command (set s.homes n none) v w near at (length-set s.homes n none) (λ m ne. set_else s.homes n m none ne) (λ m ne. refl) (λ c' e. e) r.runs (begins_refl r.log) r.short (λ m _ l. l)
            record {
              free = λ h. absurd (omega arith);
              unplaced = λ h. absurd (omega arith);
              placed = λ h. absurd (omega arith);
              answered = λ h. absurd (omega arith);
              logged = λ l. (omega arith, (old.logged l).1);
              unlogged = λ h. let l = old.unlogged h in absurd (omega arith);
              last = omega arith;
            }
            (refl, refl, refl) (omega arith) (λ _. (part, mine.1)) (λ h. absurd (omega arith)) (λ _. (refl, (λ h. omega arith), λ h. omega arith))
            (stepped_on s r id n 4 v r.log r.log (n ∷ v.collected) v.stage at (omega arith) (begins_refl r.log) (begins_refl r.log) (λ p'. let d = k.drives p' in (d.0, refl, d.2, d.3))
            (λ m l p' o four. dite (ℕ_discrete m n) (λ q. (0, ap some (sym q))) (λ q. let h = k.collected m l p' o (sym (put_else word n 4 m q) ∙ four) in (suc h.0, h.1)))
            (subst (AtStage (length s.homes) (drawn_of s.words) r.log r.owner r.command word' w) (sym st) tt) (λ p' m two. absurd ((k.busy p' m (put_not word n 4 2 m (omega arith) two)).0 st))),
        λ n' is'. let nn : n ≡ n' = omega arith in (fits, k.heard_known, (λ _. (b, p.1, (λ z. record v { collected = nn z ∷ v.collected; known = r.log }), (λ z. (nn z, Some b) ∷ me.1), subst (λ (z : ℕ). get_elem? r.log z ≡ some p.1) nn p.2, p.3)), λ miss. absurd (miss hit)),
      ))
      (λ miss. let w : V = record v { known = r.log } in (
        w,
        keeps,
        tt,
        unmoved s r (n + 32) id v w at (refl, refl, refl) (looks_on s r id v at st v.floor (omega arith) k.floor),
        λ n' is'. let nn : n ≡ n' = omega arith in (
          fits,
          k.heard_known,
          (λ hit. absurd (miss hit)),
          λ _. (
            refl,
            refl,
            dite (dec_le (length r.log) n) (λ h. omega arith) (λ h. absurd (let l = (old.logged (omega arith)).0 in let top = old.last in
                let ne : word n ≢ 3 = miss in let four : word n ≡ 4 = omega arith in fresh (k.collected n near part mine.1 four))),
          ),
        ),
      ))

  -- the same, where the number is known by another name
  pub takes_at : (slots id : ℕ) (me : Mine) (n : ℕ) → n ≡ length me.0.known → me.0.stage ≡ Idle → 0 < me.0.driving → n < slots
      → Allows Rule slots id me (n + 32) (λ y. either (eqb y 1) 2 y) (took content (step slots (n + 32) 1 2 none) me)
  takes_at slots id me n is st drives below = subst (λ (k : ℕ). Allows Rule slots id me (k + 32) (λ y. either (eqb y 1) 2 y) (took content (step slots (k + 32) 1 2 none) me)) (sym is) (takes_next slots id me st drives (omega arith))

  pub answers_at : (slots id : ℕ) (me : Mine) (n : ℕ) (b : B) (c : C) (a : R) (more : List (ℕ × Option B)) → n ≡ length me.0.known → 0 < me.0.driving → ((d : D) → me.0.start ≡ d ∷ [] → Runs model d (me.0.known ++ entry c a ∷ []))
      → me.0.stage ≡ Taken (c ∷ []) → content b ≡ Answered a → me.1 ≡ (n, Some b) ∷ more
      → Allows Rule slots id me (n + 32) (λ y. either (eqb y 2) 3 y) (answered content (step slots (n + 32) 2 3 none) me)
  answers_at slots id me n b c a more is drives runs st answer has = subst (λ (k : ℕ). Allows Rule slots id me (k + 32) (λ y. either (eqb y 2) 3 y) (answered content (step slots (k + 32) 2 3 none) me)) (sym is)
      (answers slots id me b c a more drives runs st answer (has ∙ ap (λ (k : ℕ). (k, Some b) ∷ more) is))
