-- What stays of a client's and of the driver's view over a call.
use Rattle.std.proofs.Common.{◌≡◌, ◌≢◌, ℕ, zero, suc, replicate, get_or, ◌+◌, ◌<◌, ◌≤◌, List, [], ◌∷◌, ◌++◌, length, sym, refl, ap, ◌∙◌, subst, ⊎_elim, arith, length-append, Option, Some, None, IfNone, IfSome}
use Rattle.std.specs.Option.{IsSome}
use mathlib.Core.Option.{some, some-ne-none, some-injective}
use mathlib.Core.Path.{Path}
use mathlib.Core.Logic.{dite}
use native.Mathlib.Decide.{ℕ_discrete, dec_le}
use lib.ListN.{get_elem?}
use Rattle.atomic_table.specs.declared.shared.Seat.{Seat}
use Rattle.atomic_table.proofs.Lists.{at_last, at_longer}
use Rattle.host_queue.specs.declared.view.Stage.TheVariants.{Idle, Drawn, Taken}
use Rattle.host_queue.specs.declared.view.Held.{Held}
use Rattle.host_queue.specs.declared.view.Entry.{Entry}
use Rattle.host_queue.specs.declared.view.View.{View}
use Rattle.host_queue.specs.History.{Begins, Runs, RunsTo}
use Rattle.host_queue.specs.Views.{held, entry, Has, first_view}
use Rattle.host_queue.specs.Plays.{Fits}
use Rattle.host_queue.specs.Clients.{IsReady, IsClient, IsDriver, IsNote, IsOpen, StaysOpen, StaysOpenBut, AllBelow, AgreeAt, Serves}
use Rattle.host_queue.specs.Notes.{told, gone, note_of, host_of, guest_of}
use Rattle.host_queue.proofs.Basics.{head_or, one_same, at_inside, there, at_end, begins_refl, begins_long, begins_both, runs_on, runs_none, runs_more}

module _ {D C R : Type 0} (model : D → C → R → D → Type 0) where
  abbrev V : Type 0
  V = View D C R

  pub client_full : (v w : V) (f : ℕ) → IsClient model v → v.floor ≤ f → w ≡ record v { credit = 0; floor = f } → IsClient model w
  client_full v w f k more e = let a = k.ready in subst (IsClient model) (sym e) record {
    ready = record {
      idle = a.idle;
      part = a.part;
      share = a.share;
      count = a.count;
      driving = a.driving;
      below = λ i t at. let b = a.below i t at in let l = b.0 in ((let g : t.number < f = omega arith in g), b.1);
      collected = λ n has. let l = a.collected n has in (let g : n < f = omega arith in g);
    };
    fits = record { goes_on = k.fits.goes_on; runs = k.fits.runs; own = k.fits.own };
  }

  -- the view after a draw and a placing
  abbrev pub placed_view : V → ℕ → C → V
  placed_view v n c = record v { stage = Idle; floor = n + 1; count = v.count + 1; tickets = v.tickets ++ held n c ∷ [] }

  pub placed_is : (v a b w : V) (n : ℕ) (c : C) → a ≡ record v { stage = Drawn n; floor = n + 1; count = v.count + 1 } → b ≡ a → w ≡ record b { stage = Idle; tickets = b.tickets ++ held n c ∷ [] } → w ≡ placed_view v n c
  placed_is v a b w n c e f h = h ∙ ap (λ (z : V). let r : V = record z { stage = Idle; tickets = z.tickets ++ held n c ∷ [] } in r) (f ∙ e)

  pub client_placed : (v w : V) (n : ℕ) (c : C) → IsClient model v → v.floor ≤ n → length v.known ≤ n → n < 4096 → w ≡ placed_view v n c → IsClient model w
  client_placed v w n c k low long high e = let a = k.ready in subst (IsClient model) (sym e) record {
    ready = record {
      idle = refl;
      part = a.part;
      share = a.share;
      count = ap (λ (z : ℕ). z + 1) a.count ∙ sym (length-append v.tickets (held n c ∷ []));
      driving = a.driving;
      below = λ i t at. ⊎_elim (λ (h : get_elem? v.tickets i ≡ some t). let b = a.below i t h in let l = b.0 in ((let g : t.number < n + 1 = omega arith in g), b.1))
          (λ (h : (i ≡ length v.tickets) × Path (Held C) (held n c) t). subst (λ (z : Held C). (z.number < n + 1) × (z.number < 4096)) h.1 (omega arith, high)) (at_end v.tickets (held n c) t i at);
      collected = λ m has. let l = a.collected m has in (let g : m < n + 1 = omega arith in g);
    };
    fits = record {
      goes_on = k.fits.goes_on;
      runs = k.fits.runs;
      own = λ i t at x at_x. ⊎_elim (λ (h : get_elem? v.tickets i ≡ some t). k.fits.own i t h x at_x)
          (λ (h : (i ≡ length v.tickets) × Path (Held C) (held n c) t). let m : n ≡ t.number = ap (λ (z : Held C). z.number) h.1 in absurd (let l = at_inside v.known t.number x at_x in omega arith)) (at_end v.tickets (held n c) t i at);
    };
  }

  -- a view that knows more, where the rest is as it was but for what was collected
  pub client_knows : (v w : V) (cs : List ℕ) (f : ℕ) → IsReady v → Fits model v w.known → v.floor ≤ f → ((n : ℕ) → Has cs n → n < v.floor) → w ≡ record v { collected = cs; known = w.known; floor = f } → IsClient model w
  client_knows v w cs f a fits more had e = subst (IsClient model) (sym e) record {
    ready = record { idle = a.idle; part = a.part; share = a.share; count = a.count; driving = a.driving; below = λ i t at. let b = a.below i t at in let l = b.0 in ((let g : t.number < f = omega arith in g), b.1); collected = λ n has. let l = had n has in (let g : n < f = omega arith in g) };
    fits = record { goes_on = begins_refl w.known; runs = fits.runs; own = fits.own };
  }

  -- what a note tells leaves a client ready
  pub ready_told : (v o w : V) → IsReady v → IsNote o → w ≡ told v o → IsReady w
  ready_told v o w a n e = let s = a.share in let z = n.share in subst IsReady (sym e) record { idle = a.idle; part = a.part; share = (let g : v.share + o.share ≡ 1 = omega arith in g); count = (let t = a.count in let u = n.count in let g : v.count + o.count ≡ length v.tickets = omega arith in g); driving = a.driving; below = a.below; collected = a.collected }

  -- what was collected stays below the floor, also with one of the client's tickets
  pub had_more : (v : V) (n i : ℕ) (t : Held C) → IsReady v → get_elem? v.tickets i ≡ some t → t.number ≡ n → (m : ℕ) → Has (n ∷ v.collected) m → m < v.floor
  had_more v n i t a at is m (zero, e) = let b = (a.below i t at).0 in let same : n ≡ m = some-injective n m e in omega arith
  had_more v n i t a at is m (suc j, e) = a.collected m (j, e)

  pub gathered_is : (v w z : V) (cs : List ℕ) → w ≡ record v { collected = cs; known = w.known } → z ≡ w → z ≡ record v { collected = cs; known = z.known }
  gathered_is v w z cs e now = subst (λ (y : V). y ≡ record v { collected = cs; known = y.known }) (sym now) e

  pub fits_is : (v w z : V) → Fits model v w.known → z ≡ w → Fits model v z.known
  fits_is v w z f now = subst (λ (y : V). Fits model v y.known) (sym now) f

  pub fits_told : (v o z w : V) → z ≡ told v o → Fits model z w.known → Fits model v w.known
  fits_told v o z w e f = let g = subst (λ (y : V). Fits model y w.known) e f in record { goes_on = g.goes_on; runs = g.runs; own = g.own }

  pub driver_first : (w : V) (d machine : D) → w ≡ first_view d → d ≡ machine → IsDriver model w machine
  driver_first w d machine e same = subst (λ (z : V). IsDriver model z machine) (sym e) record {
    idle = refl;
    driving = refl;
    left = λ _. refl;
    runs = λ x st. let is = one_same d x st in subst (λ (z : D). RunsTo model z [] machine) is (subst (λ (z : D). RunsTo model d [] z) same (runs_none model d));
  }

  pub driver_looked : (v o z w : V) (machine : D) (known : List (Entry C R)) (f : ℕ) → IsDriver model v machine → (o.share ≡ 0 → o.count ≡ 0) → z ≡ told v o → known ≡ z.known → w ≡ record z { known = known; floor = f } → IsDriver model w machine
  driver_looked v o z w machine known f k none e same is = let n : known ≡ v.known = same ∙ ap (λ (y : V). y.known) e in
      subst (λ (y : V). IsDriver model y machine) (sym (is ∙ ap (λ (y : V). let r : V = record y { known = known; floor = f } in r) e)) record {
        idle = k.idle;
        driving = k.driving;
        left = λ h. let a = k.left (omega arith) in let b = none (omega arith) in (let g : v.count + o.count ≡ 0 = omega arith in g);
        runs = λ d st. subst (λ (l : List (Entry C R)). RunsTo model d l machine) (sym n) (k.runs d st);
      }

  -- a look leaves the driver what it is
  pub driver_looks : (v w : V) (machine : D) (known : List (Entry C R)) (f : ℕ) → IsDriver model v machine → known ≡ v.known → w ≡ record v { known = known; floor = f } → IsDriver model w machine
  driver_looks v w machine known f k same is = subst (λ (y : V). IsDriver model y machine) (sym is) record {
    idle = k.idle;
    driving = k.driving;
    left = k.left;
    runs = λ d st. subst (λ (l : List (Entry C R)). RunsTo model d l machine) (sym same) (k.runs d st);
  }

  -- a driver that gave its right to draw away
  pub driver_gone : (v w : V) (machine : D) → IsDriver model v machine → w ≡ gone v → IsDriver model w machine
  driver_gone v w machine k e = subst (λ (z : V). IsDriver model z machine) (sym e) record { idle = k.idle; driving = k.driving; left = λ _. refl; runs = k.runs }

  -- a client that lent its right to draw, and has it back
  pub client_back : (v o w : V) → IsClient model v → o.share ≡ 1 → o.count ≡ length v.tickets → w ≡ told (gone v) o → IsClient model w
  client_back v o w k share count e = let a = k.ready in subst (IsClient model) (sym e) record {
    ready = record { idle = a.idle; part = a.part; share = (let g : 0 + o.share ≡ 1 = omega arith in g); count = (let g : 0 + o.count ≡ length v.tickets = omega arith in g); driving = a.driving; below = a.below; collected = a.collected };
    fits = record { goes_on = k.fits.goes_on; runs = k.fits.runs; own = k.fits.own };
  }

  pub driver_host : (v w : V) (machine : D) → IsDriver model v machine → w ≡ host_of v → IsDriver model w machine
  driver_host v w machine k e = subst (λ (z : V). IsDriver model z machine) (sym e) record { idle = k.idle; driving = k.driving; left = k.left; runs = k.runs }

  pub client_guest : (v w : V) → w ≡ guest_of v → IsClient model w
  client_guest v w e = subst (IsClient model) (sym e) record {
    ready = record { idle = refl; part = refl; share = refl; count = refl; driving = refl; below = λ i t at. absurd (some-ne-none t (sym at)); collected = λ n has. absurd (some-ne-none n (sym has.1)) };
    fits = record { goes_on = begins_refl []; runs = λ d st. runs_on model d d [] (runs_none model d); own = λ i t at. absurd (some-ne-none t (sym at)) };
  }

  pub driver_after : (v w : V) (machine after : D) (c : C) (r : R) → IsDriver model v machine → model machine c r after → w ≡ record v { stage = Idle; known = v.known ++ entry c r ∷ [] } → IsDriver model w after
  driver_after v w machine after c r k did e = subst (λ (z : V). IsDriver model z after) (sym e) record { idle = refl; driving = k.driving; left = k.left; runs = λ d st. runs_more model d machine after v.known c r (k.runs d st) did }

  pub runs_after : (v w : V) (machine after : D) (c : C) (r : R) → IsDriver model v machine → model machine c r after → w.start ≡ v.start → w.known ≡ v.known → (d : D) → w.start ≡ d ∷ [] → Runs model d (w.known ++ entry c r ∷ [])
  runs_after v w machine after c r k did same known d st = subst (λ (l : List (Entry C R)). Runs model d (l ++ entry c r ∷ [])) (sym known)
      (runs_on model d after (v.known ++ entry c r ∷ []) (runs_more model d machine after v.known c r (k.runs d (sym same ∙ st)) did))

  pub taken_view : (v a b z : V) (c c' : C) → a ≡ record v { stage = Taken (c ∷ []) } → b ≡ a → z ≡ b → c ≡ c' → z ≡ record v { stage = Taken (c' ∷ []) }
  taken_view v a b z c c' e f h same = h ∙ (f ∙ (e ∙ ap (λ (x : C). let r : V = record v { stage = Taken (x ∷ []) } in r) same))

  pub answered_view : (v a w z : V) (c : C) (r : R) → a ≡ record v { stage = Taken (c ∷ []) } → w ≡ record a { stage = Idle; known = a.known ++ entry c r ∷ [] } → z ≡ w → z ≡ record v { stage = Idle; known = v.known ++ entry c r ∷ [] }
  answered_view v a w z c r e f h = h ∙ (f ∙ ap (λ (x : V). let y : V = record x { stage = Idle; known = x.known ++ entry c r ∷ [] } in y) e)

pub same_head : {A : Type 0} (cs xs ys : List (ℕ × Option A)) (j k : ℕ) (a b : Option A) → cs ≡ (j, a) ∷ xs → cs ≡ (k, b) ∷ ys → a ≡ b
same_head cs xs ys j k a b e f = ap (head_or None) (sym e ∙ f)

module _ {B D C R : Type 0} where
  -- tickets stay open where none is added to what was collected
  pub stay_open : (v w : Seat B (View D C R)) → w.me.0.tickets ≡ v.me.0.tickets → w.me.0.collected ≡ v.me.0.collected → StaysOpen v w
  stay_open v w tickets collected n o = (o.0, o.1, ap (λ l. get_elem? l o.0) tickets ∙ o.2, o.3, λ has. o.4 (subst (λ (l : List ℕ). Has l n) collected has))

  pub stay_open_but : (v w : Seat B (View D C R)) (n : ℕ) → w.me.0.tickets ≡ v.me.0.tickets → w.me.0.collected ≡ n ∷ v.me.0.collected → StaysOpenBut n v w
  stay_open_but v w n tickets collected m other o = (o.0, o.1, ap (λ l. get_elem? l o.0) tickets ∙ o.2, o.3, λ has. not_in (subst (λ (l : List ℕ). Has l m) collected has))
    where
      not_in : Has (n ∷ v.me.0.collected) m → ⊥
      not_in (zero, e) = other (sym (some-injective n m e))
      not_in (suc j, e) = o.4 (j, e)

  -- a ticket that was placed is open
  pub opened : (v w : Seat B (View D C R)) (n : ℕ) (c : C) → IsReady v.me.0 → v.me.0.floor ≤ n → w.me.0.tickets ≡ v.me.0.tickets ++ held n c ∷ [] → w.me.0.collected ≡ v.me.0.collected → IsOpen w n
  opened v w n c a low tickets collected = (length v.me.0.tickets, held n c, ap (λ l. get_elem? l (length v.me.0.tickets)) tickets ∙ at_last v.me.0.tickets (held n c) (length v.me.0.tickets) refl, refl, λ has. absurd (let l = a.collected n (subst (λ (l : List ℕ). Has l n) collected has) in omega arith))

  pub stay_open_more : (v w : Seat B (View D C R)) (n : ℕ) (c : C) → w.me.0.tickets ≡ v.me.0.tickets ++ held n c ∷ [] → w.me.0.collected ≡ v.me.0.collected → StaysOpen v w
  stay_open_more v w n c tickets collected m o = (o.0, o.1, ap (λ l. get_elem? l o.0) tickets ∙ at_longer v.me.0.tickets (held n c ∷ []) o.0 o.1 o.2, o.3, λ has. o.4 (subst (λ (l : List ℕ). Has l m) collected has))

module _ {D C R : Type 0} where
  -- a client's tickets are below its floor
  pub all_below : (v : View D C R) (n : ℕ) → IsReady v → v.floor ≤ n → AllBelow v.tickets n
  all_below v n a low i t at = let b = (a.below i t at).0 in omega arith

  pub note_is : (v o : View D C R) → o ≡ note_of v → IsNote o
  note_is v o e = subst IsNote (sym e) record { idle = refl; share = refl; count = refl }

module _ {C R : Type 0} where
  -- a list that is long enough has each of the tickets
  pub serves : (tickets : List (Held C)) (n : ℕ) (known : List (Entry C R)) → AllBelow tickets n → n ≤ length known → AgreeAt tickets known → Serves tickets known
  serves tickets n known below long agree i t at = let b = below i t at in let x = there known t.number (omega arith) in (x.0, x.1, agree i t at x.0 x.1)

  pub serves_more : (tickets : List (Held C)) (known more : List (Entry C R)) → Begins known more → Serves tickets known → Serves tickets more
  serves_more tickets known more begins served i t at = let x = served i t at in (x.0, begins t.number x.0 x.1, x.2)

  -- a ticket below the count that a note told is answered
  pub told_hit : (heard answered known : List (Entry C R)) (n count e : ℕ) → heard ≡ answered → count ≡ length answered → n < count → Begins heard known → (e ≢ 3 → length known ≤ n) → e ≡ 3
  told_hit heard answered known n count e same counted l b miss = dite (ℕ_discrete e 3) (λ h. h) (λ h. let m = miss h in let long = begins_long heard known b in
      let q : length heard ≡ length answered = ap length same in absurd (omega arith))

  pub one_history : (xs ys zs : List (Entry C R)) → Begins xs zs → Begins ys zs → (length xs ≤ length ys → Begins xs ys) × (length ys ≤ length xs → Begins ys xs)
  one_history xs ys zs a b = (begins_both xs ys zs a b, begins_both ys xs zs b a)

-- where all clients have left, the list has as many entries as they have tickets
pub all_drawn : (draws tickets slots count old new : ℕ) → slots ≡ 4096 → (draws ≤ 4096 → tickets ≡ draws) → (4096 ≤ draws → tickets ≡ 4096) → (draws ≤ slots → count ≡ draws) → (slots ≤ draws → count ≡ slots) → old ≤ draws → old ≤ 4096 → tickets ≤ new → (old ≤ tickets → new ≤ tickets) → new ≡ count
all_drawn draws tickets slots count old new is few many low high short four reached more = dite (dec_le draws 4096)
    (λ h. let a = few h in let b = low (omega arith) in let m = more (omega arith) in omega arith)
    (λ h. let a = many (omega arith) in let b = high (omega arith) in let m = more (omega arith) in omega arith)

-- the count of draws is that of the tickets of the only client
pub all_heard : (draws count tickets floor slots : ℕ) → slots ≡ 4096 → (draws ≤ slots → count ≡ draws) → (slots ≤ draws → count ≡ slots) → count ≡ tickets → floor ≤ draws → (floor ≤ 4096 → floor ≤ tickets) × (4096 ≤ floor → 4096 ≤ tickets)
all_heard draws count tickets floor slots is few many all low = dite (dec_le draws 4096)
    (λ h. let a = few (omega arith) in ((λ l. omega arith), λ l. omega arith))
    (λ h. let a = many (omega arith) in ((λ l. omega arith), λ l. omega arith))

pub some_of : {A : Type 0} {P : Type 0} (r : Option A) → IfNone r P → (P → ⊥) → IsSome r
some_of (Some x) none never = refl
some_of None none never = absurd (never none)

pub some_gives : {A : Type 0} (r : Option A) (x : A) (P : A → Type 0) → r ≡ Some x → IfSome r P → P x
some_gives {A = A} r x P e h = subst (λ (z : Option A). IfSome z P) e h

pub zeros : (n i : ℕ) → ◌≡◌ {A = ℕ} (get_or (replicate n 0) i 0) 0
zeros zero i = refl
zeros (suc n) zero = refl
zeros (suc n) (suc i) = zeros n i
