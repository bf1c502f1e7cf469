-- How the queue starts, how seats come, tell and leave, and what a look shows.
use Rattle.std.proofs.Common.{◌≡◌, ℕ, zero, suc, ◌+◌, ◌<◌, ◌≤◌, List, [], ◌∷◌, ◌++◌, length, map, replicate, get_or, set, sym, refl, ap, ◌∙◌, subst, ⊎_elim, arith, Option, Some, None}
use mathlib.Core.Option.{none, some, some-ne-none}
use mathlib.Core.Path.{Path}
use lib.ListN.{get_elem?, length-map, length-replicate}
use Rattle.atomic_table.specs.Table.{State, Me, step, keeps, Allows, Splits, Joins, opening}
use Rattle.atomic_table.proofs.Lists.{set_else}
use Rattle.host_queue.specs.declared.view.Request.{Request}
use Rattle.host_queue.specs.declared.view.Stage.TheVariants.{Idle}
use Rattle.host_queue.specs.declared.view.Held.{Held}
use Rattle.host_queue.specs.declared.view.Entry.{Entry}
use Rattle.host_queue.specs.declared.view.View.{View}
use Rattle.host_queue.specs.History.{Begins}
use Rattle.host_queue.specs.Views.{credit, share, count, newcomer, first_view}
use Rattle.host_queue.specs.Tickets.{drawn_of, word_of, AtStage, SeatOk, Kept}
use Rattle.host_queue.specs.Plays.{looked}
use Rattle.host_queue.specs.Notes.{host_of, guest_of, note_of, gone, farewell_of, told, spent}
use Rattle.host_queue.proofs.Basics.{put, put_here, put_else, one_same, at_end, begins_refl, total_set, total_snoc, total_alone, runs_none, runs_on}
use Rattle.host_queue.proofs.Keeps.{Knows, IsCounted, seat_stays, seats_move, reviewed, unmoved, was_drawn, agrees, fits_now, looks_on}

blank : {A : Type 0} (n i : ℕ) → i < n → get_elem? (map some (replicate {A = Option A} n None)) i ≡ some (some None)
blank zero i near = absurd (omega arith)
blank (suc n) zero near = refl
blank (suc n) (suc i) near = blank n i (omega arith)

module _ {D C R B : Type 0} (model : D → C → R → D → Type 0) (content : B → Request C R) (start : D) where
  abbrev V : Type 0
  V = View D C R

  abbrev S : Type 0
  S = State (Option B) V

  abbrev Rule : S → Type 0
  Rule = Kept model content start

  pub looks : (slots id : ℕ) (me : Me (Option B) V) → me.0.stage ≡ Idle → Allows Rule slots id me 16 (λ y. y) (looked model content (step slots 16 0 0 none) me)
  looks slots id me st s r wide at _ = let v : V = me.0 in let y : ℕ = drawn_of s.words in let k = r.each_seat id v at in let w : V = record v { known = r.log; floor = y } in let fl = k.floor in let hf = k.heard_floor in (
    w,
    keeps,
    tt,
    unmoved model content start s r 16 id v w at (refl, refl, refl) (looks_on model content start s r id v at st y fl (omega arith)),
    (
      refl,
      refl,
      record {
        fits = fits_now model content start s r id v at;
        leads = k.known;
        own_known = λ p. sym (k.drives p).1;
        floors = (fl, hf, r.short);
        heard = k.heard_known;
        heard_own = λ i t e x at_x. let a = k.heard_tickets i t e in agrees model content start s r t x a.2 a.3 at_x;
        apart = λ ne i j t u a b same. ne (sym (k.heard_tickets i t a).0 ∙ (ap r.owner same ∙ (k.tickets j u b).1));
      },
      λ p all. let d = k.drives p in let alone = total_alone share count s.views id v at (r.shares ∙ (sym d.2 ∙ sym all)) (λ j u e h. r.left j u e h) in let c0 = r.counts.0 in let c1 = r.counts.1 in
          ((λ l. sym alone ∙ c0 (omega arith)), λ l. sym alone ∙ (c1 (omega arith) ∙ wide)),
    ),
  )

  snoc_seats : (P : ℕ → V → Type 0) (vs : List V) (w : V) → ((j : ℕ) (u : V) → get_elem? vs j ≡ some u → P j u) → P (length vs) w → (j : ℕ) (u : V) → get_elem? (vs ++ w ∷ []) j ≡ some u → P j u
  snoc_seats P vs w all mine j u e = ⊎_elim (all j u) (λ (h : (j ≡ length vs) × Path V w u). subst (λ (z : ℕ × V). P z.0 z.1) (λ i. (sym h.0 i, h.1 i)) mine) (at_end vs w u j e)

  pub admits : (id : ℕ) (v : V) → v.stage ≡ Idle → 0 < v.driving → 0 < v.credit → Splits Rule id v (host_of v) (guest_of v)
  admits id v st drives some_credit s r at = let k = r.each_seat id v at in let d = k.drives drives in let vs : List V = set s.views id (host_of v) in let seat_of' = put r.seat_of r.admitted (length vs) in
      let word : ℕ → ℕ = word_of s.words in let drawn : ℕ = drawn_of s.words in let n : ℕ = length s.homes in
      let c = total_set credit s.views id v (host_of v) at in let c' = total_snoc credit vs (guest_of v) in let h = total_set share s.views id v (host_of v) at in let h' = total_snoc share vs (guest_of v) in
      let t = total_set count s.views id v (host_of v) at in let t' = total_snoc count vs (guest_of v) in let sh = r.shares in
      reviewed model content start s r (vs ++ guest_of v ∷ []) (r.admitted + 1) seat_of' (omega arith) (omega arith) (omega arith) (omega arith)
      (snoc_seats IsCounted vs (guest_of v) (seats_move model content start IsCounted s.views id (host_of v) (r.left id v at) (λ j u _ e. r.left j u e)) (λ z. refl))
      (snoc_seats (SeatOk start n drawn r.driver (r.admitted + 1) r.log r.owner seat_of' r.command word) vs (guest_of v)
      (seats_move model content start (SeatOk start n drawn r.driver (r.admitted + 1) r.log r.owner seat_of' r.command word) s.views id (host_of v)
      record {
        begun = k.begun;
        known = k.known;
        floor = k.floor;
        mine = λ p. let a = k.mine p in let l : v.name < r.admitted = a.1 in (put_else r.seat_of r.admitted (length vs) v.name (λ q. omega arith) ∙ a.0, (let g : v.name < r.admitted + 1 = omega arith in g));
        drives = λ p. (d.0, d.1, ap (λ (z : ℕ). z + 1) d.2, d.3);
        tickets = k.tickets;
        collected = k.collected;
        stage = subst (AtStage n drawn r.log r.owner r.command word (host_of v)) (sym st) tt;
        heard_known = k.heard_known;
        heard_floor = k.heard_floor;
        heard_tickets = k.heard_tickets;
        busy = k.busy;
      }
      (λ j u ne e. let ku = r.each_seat j u e in seat_stays model content start n drawn drawn r.driver r.admitted (r.admitted + 1) r.log r.log r.owner r.owner r.seat_of seat_of' r.command r.command word word j u (omega arith) (begins_refl r.log)
      (λ p. absurd (ne ((ku.drives p).0 ∙ sym d.0))) (λ m l. refl) (λ p. put_else r.seat_of r.admitted (length vs) u.name (λ q. let l = (ku.mine p).1 in omega arith)) (omega arith) (λ m c e'. e') (λ m l. l) (λ m l p o w. (o, w)) (λ m p o l w. w) ku))
      record {
        begun = k.begun;
        known = λ i x e. absurd (some-ne-none x (sym e));
        floor = omega arith;
        mine = λ _. (ap seat_of' d.2 ∙ put_here r.seat_of r.admitted (length vs), (let g : v.admitted ≡ r.admitted = d.2 in omega arith));
        drives = λ p. absurd (omega arith);
        tickets = λ i t e. absurd (some-ne-none t (sym e));
        collected = λ m l _ o four. absurd (no_owner s r m v.admitted l o d.2 four);
        stage = tt;
        heard_known = λ i x e. absurd (some-ne-none x (sym e));
        heard_floor = omega arith;
        heard_tickets = λ i t e. absurd (some-ne-none t (sym e));
        busy = λ p. absurd (omega arith);
      })
    where
      no_owner : (s : S) (r : Rule s) (m a : ℕ) → m < length s.homes → r.owner m ≡ a → a ≡ r.admitted → word_of s.words m ≡ 4 → ⊥
      no_owner s r m a l o e four = let z = r.owned m (was_drawn model content start s r m l (omega arith)) l in absurd (omega arith)

  -- a seat between two calls, with another share and count, which has heard what u heard
  hears : (s : S) (r : Rule s) (id other : ℕ) (v u : V) (sh ct : ℕ) → v.stage ≡ Idle → Knows s r id v → Knows s r other u
      → Knows s r id (record v { share = sh; count = ct; heard_name = u.heard_name; heard_floor = u.heard_floor; heard_tickets = u.heard_tickets; heard_known = u.heard_known })
  hears s r id other v u sh ct st k h = record {
    begun = k.begun;
    known = k.known;
    floor = k.floor;
    mine = k.mine;
    drives = k.drives;
    tickets = k.tickets;
    collected = k.collected;
    stage = subst (AtStage (length s.homes) (drawn_of s.words) r.log r.owner r.command (word_of s.words) v) (sym st) tt;
    heard_known = h.heard_known;
    heard_floor = h.heard_floor;
    heard_tickets = h.heard_tickets;
    busy = k.busy;
  }

  -- a seat with no part in the queue
  stands_by : (s : S) (r : Rule s) (j : ℕ) (begun : List D) (known : List (Entry C R)) (sh ct name floor : ℕ) (tickets : List (Held C)) (heard : List (Entry C R)) → ((d : D) → begun ≡ d ∷ [] → d ≡ start) → Begins known r.log → floor ≤ drawn_of s.words
      → ((i : ℕ) (t : Held C) → get_elem? tickets i ≡ some t → (r.owner t.number ≡ name) × (t.number < floor) × (t.number < length s.homes) × (r.command t.number ≡ Some t.command) × (0 < word_of s.words t.number)) → Begins heard r.log
      → Knows s r j (record (newcomer begun 0 0 known) { share = sh; count = ct; heard_name = name; heard_floor = floor; heard_tickets = tickets; heard_known = heard })
  stands_by s r j begun known sh ct name floor tickets heard is_begun is_known is_floor are_tickets is_heard = record {
    begun = is_begun;
    known = is_known;
    floor = omega arith;
    mine = λ p. absurd (omega arith);
    drives = λ p. absurd (omega arith);
    tickets = λ i u e. absurd (some-ne-none u (sym e));
    collected = λ m l p. absurd (omega arith);
    stage = tt;
    heard_known = is_heard;
    heard_floor = is_floor;
    heard_tickets = are_tickets;
    busy = λ p. absurd (omega arith);
  }

  -- a seat keeps what it knows, with another share and count, and a note of it goes out
  notes : (id : ℕ) (v : V) (sh ct sh' ct' : ℕ) → v.stage ≡ Idle → sh + sh' ≡ v.share → ct + ct' ≡ v.count → (sh ≡ 0 → ct ≡ 0) → (sh' ≡ 0 → ct' ≡ 0)
      → Splits Rule id v (record v { share = sh; count = ct }) (record (note_of v) { share = sh'; count = ct' })
  notes id v sh ct sh' ct' st shares counts none_left none_given s r at = let k = r.each_seat id v at in let w : V = record v { share = sh; count = ct } in let o : V = record (note_of v) { share = sh'; count = ct' } in let vs : List V = set s.views id w in
      let c = total_set credit s.views id v w at in let c' = total_snoc credit vs o in let h = total_set share s.views id v w at in let h' = total_snoc share vs o in
      let t = total_set count s.views id v w at in let t' = total_snoc count vs o in let old = r.shares in
      reviewed model content start s r (vs ++ o ∷ []) r.admitted r.seat_of (omega arith) (omega arith) (omega arith) (omega arith)
      (snoc_seats IsCounted vs o (seats_move model content start IsCounted s.views id w none_left (λ j u _ e. r.left j u e)) none_given)
      (snoc_seats (Knows s r) vs o (seats_move model content start (Knows s r) s.views id w (hears s r id id v v sh ct st k k) (λ j u _ e. r.each_seat j u e))
      (stands_by s r (length vs) v.start v.known sh' ct' v.name v.floor v.tickets v.known k.begun k.known k.floor (λ i t e. let a = k.tickets i t e in (a.1, a.2, a.3, a.4, a.5)) k.known))

  pub tells : (id : ℕ) (v : V) → v.stage ≡ Idle → (v.share ≡ 0 → v.count ≡ 0) → Splits Rule id v v (note_of v)
  tells id v st left = notes id v v.share v.count 0 0 st (omega arith) (omega arith) left (λ _. refl)

  pub leaves : (id : ℕ) (v : V) → v.stage ≡ Idle → (v.share ≡ 0 → v.count ≡ 0) → Splits Rule id v (gone v) (farewell_of v)
  leaves id v st left = notes id v 0 0 v.share v.count st (omega arith) (omega arith) (λ _. refl) left

  pub learns : (id : ℕ) (v : V) (other : ℕ) (w : V) → v.stage ≡ Idle → Joins Rule id v other w (told v w) spent
  learns id v other w st s r at ne at' = let both : V = told v w in let vs : List V = set s.views id both in let at_w : get_elem? s.views other ≡ some w = sym (set_else s.views id other both ne) ∙ at' in
      let c = total_set credit s.views id v both at in let c' = total_set credit vs other w spent at' in let h = total_set share s.views id v both at in let h' = total_set share vs other w spent at' in
      let t = total_set count s.views id v both at in let t' = total_set count vs other w spent at' in let old = r.shares in
      reviewed model content start s r (set vs other spent) r.admitted r.seat_of (omega arith) (omega arith) (omega arith) (omega arith)
      (seats_move model content start IsCounted vs other spent (λ _. refl) (λ j u _ e. seats_move model content start IsCounted s.views id both
      (λ z. let a = r.left id v at (omega arith) in let b = r.left other w at_w (omega arith) in omega arith) (λ j u _ e. r.left j u e) j u e))
      (seats_move model content start (Knows s r) vs other spent
      (stands_by s r other [] [] 0 0 0 0 [] [] (λ d e. absurd (none_some d e)) (λ i x e. absurd (some-ne-none x (sym e))) (omega arith) (λ i t e. absurd (some-ne-none t (sym e))) (λ i x e. absurd (some-ne-none x (sym e))))
      (λ j u _ e. seats_move model content start (Knows s r) s.views id both (hears s r id other v w (v.share + w.share) (v.count + w.count) st (r.each_seat id v at) (r.each_seat other w at_w)) (λ j u _ e. r.each_seat j u e) j u e))
    where
      none_some : (d : D) → Path (List D) [] (d ∷ []) → ⊥
      none_some d e = cc

  pub starts : (words : List ℕ) (n : ℕ) → length words ≡ n + 32 → n < 4294967296 → ((i : ℕ) → get_or words i 0 ≡ 0) → Rule (opening words (replicate n None) (first_view start))
  starts words n wide small empty = let hs : ℕ = length (map some (replicate {A = Option B} n None)) in let deep : hs ≡ n = length-map (replicate {A = Option B} n None) (λ (x : Option B). some x) ∙ length-replicate n None in let none_drawn = empty 16 in record {
    log = [];
    driver = 0;
    admitted = 0;
    owner = λ _. 0;
    seat_of = λ _. 0;
    command = λ _. None;
    wide = omega arith;
    small = omega arith;
    runs = runs_on model start start [] (runs_none model start);
    short = omega arith;
    credits = (omega arith, omega arith);
    shares = refl;
    counts = ((λ _. sym none_drawn), λ h. (let g : 0 ≡ hs = omega arith in g));
    left = λ j v e. ⊎_elim (λ (h : get_elem? [] j ≡ some v). absurd (some-ne-none v (sym h))) (λ (h : (j ≡ 0) × Path V (first_view start) v). λ _. sym (ap count h.1)) (at_end [] (first_view start) v j e);
    owned = λ m a b. absurd (omega arith);
    each_ticket = λ m l. let z = empty (m + 32) in record {
      free = λ _. (z, blank n m (omega arith));
      unplaced = λ _. refl;
      placed = λ h. absurd (omega arith);
      answered = λ h. absurd (omega arith);
      logged = λ h. absurd (omega arith);
      unlogged = λ _. omega arith;
      last = omega arith;
    };
    each_seat = λ j v e. ⊎_elim (λ (h : get_elem? [] j ≡ some v). absurd (some-ne-none v (sym h)))
        (λ (h : (j ≡ 0) × Path V (first_view start) v). subst (λ (z : ℕ × V). SeatOk start hs (drawn_of words) 0 0 [] (λ _. 0) (λ _. 0) (λ _. None) (word_of words) z.0 z.1) (λ i. (sym h.0 i, h.1 i))
        record {
          begun = λ d q. sym (one_same start d q);
          known = begins_refl [];
          floor = omega arith;
          mine = λ p. absurd (omega arith);
          drives = λ _. (refl, refl, refl, refl);
          tickets = λ i t q. absurd (some-ne-none t (sym q));
          collected = λ m l p. absurd (omega arith);
          stage = tt;
          heard_known = begins_refl [];
          heard_floor = omega arith;
          heard_tickets = λ i t q. absurd (some-ne-none t (sym q));
          busy = λ p m two. let z = empty (m + 32) in absurd (omega arith);
        })
        (at_end [] (first_view start) v j e);
  }
