-- Each step keeps the rule.
use Rattle.std.proofs.Common.{◌≡◌, ◌≢◌, ◌⊎◌, ℕ, zero, suc, ◌+◌, ◌-◌, ◌%◌, ◌^◌, ◌<◌, ◌≤◌, List, [], ◌∷◌, ◌++◌, set, slice_set, slice_index, min, refl, sym, ap, ap₂, ◌∙◌, subst, ⊎_elim, inl, inr, arith}
use mathlib.Core.Option.{some, none, some-ne-none, some-injective}
use mathlib.Core.Logic.{dite}
use native.Mathlib.Decide.{ℕ_discrete, dec_le}
use lib.ListN.{get_elem?}
use Rattle.atomic_table.proofs.Lists.{at_set, at_snoc}
use Rattle.atomic_table.specs.Table.{State, Me, step, keeps, Allows, Splits, Joins}
use Rattle.workers_draw.specs.declared.board.Hand.{Hand}
use Rattle.workers_draw.specs.Board.{total, total_below, is_it, is_past, Has, hand, IsStop, IsLeast, Kept, Holds, drew, looked, lowered, dealer, worker, both, nobody}
use Rattle.workers_draw.proofs.Totals.{total_set, total-append, total_le, total_alone, is_it-same, is_it-else, is_past-most, below_past, below_has, below_not}

-- a fact about each view, after one of them changed
each_set : (F : Hand → Type 0) (views : List Hand) (id : ℕ) (w : Hand) → ((j : ℕ) (v : Hand) → get_elem? views j ≡ some v → F v) → F w → (j : ℕ) (v : Hand) → get_elem? (set views id w) j ≡ some v → F v
each_set F views id w all mine j v e =
    ⊎_elim (λ (t : (j ≡ id) × (w ≡ v)). subst F t.1 mine) (λ (t : (j ≢ id) × (get_elem? views j ≡ some v)). all j v t.1) (at_set views id j w v e)

each_more : (F : Hand → Type 0) (vs : List Hand) (r : Hand) → ((j : ℕ) (u : Hand) → get_elem? vs j ≡ some u → F u) → F r → (j : ℕ) (u : Hand) → get_elem? (vs ++ r ∷ []) j ≡ some u → F u
each_more F vs r all new j u e = ⊎_elim (λ (t : get_elem? vs j ≡ some u). all j u t) (λ (t : r ≡ u). subst F t new) (at_snoc vs r u j e)

-- what a seat knows to stop is known after a change of one view that forgets no stop
still_stops : (views : List Hand) (id : ℕ) (v w : Hand) → get_elem? views id ≡ some v → (e : ℕ) → total (is_it e) v.stopped ≤ total (is_it e) w.stopped → IsStop views e → IsStop (set views id w) e
still_stops views id v w at e more h = let s = total_set (λ (u : Hand). total (is_it e) u.stopped) views id v w at in omega (arith, s, more, h)

module _ (count : ℕ) where
  still_least : (old new : List Hand) (e : ℕ) → (IsStop old e → IsStop new e) → IsLeast count old e → IsLeast count new e
  still_least old new e more = ⊎_elim (λ same. inl same) (λ stop. inr (more stop))

  few : (draws low : ℕ) (views : List Hand) → Kept count draws low views → draws ≤ count + 16
  few draws low views k =
      let h = below_past count draws in
      let e = k.drawn (is_past count) in
      let m = total_le (λ (v : Hand). total (is_past count) v.drawn) (λ (v : Hand). v.parts) views k.past in
      let p = k.parts in omega (arith, h, e, m, p)

  draws_on : (words : List ℕ) (views : List Hand) (id : ℕ) (v : Hand) → count < 2 ^ 32 → Holds count words views → get_elem? views id ≡ some v → total (is_past count) v.drawn < v.parts
      → Holds count (slice_set words 0 ((slice_index words 0 + 1) % 2 ^ 64)) (set views id (hand v.parts (v.drawn ++ slice_index words 0 ∷ []) v.seen v.stopped))
  draws_on [] views id v small h at room = absurd h
  draws_on (a ∷ []) views id v small h at room = absurd h
  draws_on (a ∷ b ∷ []) views id v small k at room =
      let f = few a b views k in
      let e : suc a ≡ (a + 1) % 2 ^ 64 = omega (arith, f, small) in
      let w : Hand = hand v.parts (v.drawn ++ a ∷ []) v.seen v.stopped in
      let more : (e : ℕ) → IsStop views e → IsStop (set views id w) e = λ e. still_stops views id v w at e (omega arith) in
      subst (λ n. Kept count n b (set views id w)) e
      (record {
        parts = (let s = total_set (λ (u : Hand). u.parts) views id v w at in let p = k.parts in omega (arith, s, p));
        drawn = λ h.
            let s = total_set (λ (u : Hand). total h u.drawn) views id v w at in
            let x = total-append h v.drawn (a ∷ []) in
            let p = k.drawn h in omega (arith, s, x, p);
        past = each_set (λ u. total (is_past count) u.drawn ≤ u.parts) views id w k.past (let x = total-append (is_past count) v.drawn (a ∷ []) in let m = is_past-most count a in omega (arith, x, m, room));
        idle = each_set (λ u. u.parts ≡ 0 → (u.drawn ≡ []) × (u.stopped ≡ [])) views id w k.idle (λ nil. absurd (omega (arith, nil, room)));
        least = still_least views (set views id w) b (more b) k.least;
        seen = each_set (λ u. (e : ℕ) → Has u.seen e → IsLeast count (set views id w) e) views id w (λ j u there e h. still_least views (set views id w) e (more e) (k.seen j u there e h)) (λ e h. still_least views (set views id w) e (more e) (k.seen id v at e h));
      })
  draws_on (a ∷ b ∷ c ∷ ws) views id v small h at room = absurd h

  looks_on : (words : List ℕ) (views : List Hand) (id : ℕ) (v : Hand) → Holds count words views → get_elem? views id ≡ some v
      → Holds count (slice_set words 1 (slice_index words 1)) (set views id (hand v.parts v.drawn (v.seen ++ slice_index words 1 ∷ []) v.stopped))
  looks_on [] views id v h at = absurd h
  looks_on (a ∷ []) views id v h at = absurd h
  looks_on (a ∷ b ∷ []) views id v k at =
      let w : Hand = hand v.parts v.drawn (v.seen ++ b ∷ []) v.stopped in
      let more : (e : ℕ) → IsStop views e → IsStop (set views id w) e = λ e. still_stops views id v w at e (omega arith) in
      record {
        parts = (let s = total_set (λ (u : Hand). u.parts) views id v w at in let p = k.parts in omega (arith, s, p));
        drawn = λ h. let s = total_set (λ (u : Hand). total h u.drawn) views id v w at in let p = k.drawn h in omega (arith, s, p);
        past = each_set (λ u. total (is_past count) u.drawn ≤ u.parts) views id w k.past (k.past id v at);
        idle = each_set (λ u. u.parts ≡ 0 → (u.drawn ≡ []) × (u.stopped ≡ [])) views id w k.idle (k.idle id v at);
        least = still_least views (set views id w) b (more b) k.least;
        seen = each_set (λ u. (e : ℕ) → Has u.seen e → IsLeast count (set views id w) e) views id w (λ j u there e h. still_least views (set views id w) e (more e) (k.seen j u there e h))
            (λ e h. still_least views (set views id w) e (more e) (has_more v.seen b (k.seen id v at) k.least e h));
      }
    where
      has_more : (xs : List ℕ) (b : ℕ) → ((e : ℕ) → Has xs e → IsLeast count views e) → IsLeast count views b → (e : ℕ) → Has (xs ++ b ∷ []) e → IsLeast count views e
      has_more xs b all new e h = dite (ℕ_discrete b e)
          (λ same. subst (IsLeast count views) same new)
          (λ other. all e (let a = total-append (is_it e) xs (b ∷ []) in let z = is_it-else e b other in omega (arith, a, z, h)))
  looks_on (a ∷ b ∷ c ∷ ws) views id v h at = absurd h

  lowers_on : (words : List ℕ) (views : List Hand) (id : ℕ) (v : Hand) (n : ℕ) → Holds count words views → get_elem? views id ≡ some v → 0 < v.parts
      → Holds count (slice_set words 1 (min (slice_index words 1) n)) (set views id (hand v.parts v.drawn v.seen (v.stopped ++ n ∷ [])))
  lowers_on [] views id v n h at some_part = absurd h
  lowers_on (a ∷ []) views id v n h at some_part = absurd h
  lowers_on (a ∷ b ∷ []) views id v n k at some_part =
      let w : Hand = hand v.parts v.drawn v.seen (v.stopped ++ n ∷ []) in
      let more : (e : ℕ) → IsStop views e → IsStop (set views id w) e = λ e. still_stops views id v w at e (let x = total-append (is_it e) v.stopped (n ∷ []) in omega (arith, x)) in
      let new : IsStop (set views id w) n =
      (let s = total_set (λ (u : Hand). total (is_it n) u.stopped) views id v w at in let x = total-append (is_it n) v.stopped (n ∷ []) in let o = is_it-same n in omega (arith, s, x, o)) in
      record {
        parts = (let s = total_set (λ (u : Hand). u.parts) views id v w at in let p = k.parts in omega (arith, s, p));
        drawn = λ h. let s = total_set (λ (u : Hand). total h u.drawn) views id v w at in let p = k.drawn h in omega (arith, s, p);
        past = each_set (λ u. total (is_past count) u.drawn ≤ u.parts) views id w k.past (k.past id v at);
        idle = each_set (λ u. u.parts ≡ 0 → (u.drawn ≡ []) × (u.stopped ≡ [])) views id w k.idle (λ nil. absurd (omega (arith, nil, some_part)));
        least = dite (dec_le b n)
            (λ le. subst (IsLeast count (set views id w)) (omega (arith, le)) (still_least views (set views id w) b (more b) k.least))
            (λ no. subst (IsLeast count (set views id w)) (omega (arith, no)) (inr new));
        seen = each_set (λ u. (e : ℕ) → Has u.seen e → IsLeast count (set views id w) e) views id w (λ j u there e h. still_least views (set views id w) e (more e) (k.seen j u there e h)) (λ e h. still_least views (set views id w) e (more e) (k.seen id v at e h));
      }
  lowers_on (a ∷ b ∷ c ∷ ws) views id v n h at some_part = absurd h

  deals_on : (words : List ℕ) (views : List Hand) (id : ℕ) (v : Hand) → Holds count words views → get_elem? views id ≡ some v → 0 < v.parts → v.drawn ≡ [] → v.stopped ≡ []
      → Holds count words (set views id (dealer v) ++ worker v ∷ [])
  deals_on [] views id v h at part nil calm = absurd h
  deals_on (a ∷ []) views id v h at part nil calm = absurd h
  deals_on (a ∷ b ∷ []) views id v k at part nil calm =
      let l : Hand = dealer v in let r : Hand = worker v in let vs = set views id l in
      let more : (e : ℕ) → IsStop views e → IsStop (vs ++ r ∷ []) e = λ e h.
      let s = total_set (λ (u : Hand). total (is_it e) u.stopped) views id v l at in
      let t = total-append (λ (u : Hand). total (is_it e) u.stopped) vs (r ∷ []) in omega (arith, s, t, h) in
      record {
        parts = (let s = total_set (λ (u : Hand). u.parts) views id v l at in let t = total-append (λ (u : Hand). u.parts) vs (r ∷ []) in let p = k.parts in omega (arith, s, t, p, part));
        drawn = λ h.
            let s = total_set (λ (u : Hand). total h u.drawn) views id v l at in
            let t = total-append (λ (u : Hand). total h u.drawn) vs (r ∷ []) in
            let p = k.drawn h in omega (arith, s, t, p);
        past = each_more (λ u. total (is_past count) u.drawn ≤ u.parts) vs r (each_set (λ u. total (is_past count) u.drawn ≤ u.parts) views id l k.past (subst (λ ds. total (is_past count) ds ≤ v.parts - 1) (sym nil) (omega arith))) (omega arith);
        idle = each_more (λ u. u.parts ≡ 0 → (u.drawn ≡ []) × (u.stopped ≡ [])) vs r (each_set (λ u. u.parts ≡ 0 → (u.drawn ≡ []) × (u.stopped ≡ [])) views id l k.idle (λ _. (nil, calm))) (λ _. (refl, refl));
        least = still_least views (vs ++ r ∷ []) b (more b) k.least;
        seen = each_more (λ u. (e : ℕ) → Has u.seen e → IsLeast count (vs ++ r ∷ []) e) vs r
            (each_set (λ u. (e : ℕ) → Has u.seen e → IsLeast count (vs ++ r ∷ []) e) views id l (λ j u there e h. still_least views (vs ++ r ∷ []) e (more e) (k.seen j u there e h)) (λ e h. still_least views (vs ++ r ∷ []) e (more e) (k.seen id v at e h)))
            (λ e h. absurd (omega (arith, h)));
      }
  deals_on (a ∷ b ∷ c ∷ ws) views id v h at part nil calm = absurd h

  joins_on : (words : List ℕ) (views : List Hand) (id : ℕ) (v : Hand) (other : ℕ) (w : Hand) → Holds count words views → get_elem? views id ≡ some v → ¬ (other ≡ id)
      → get_elem? (set views id (both v w)) other ≡ some w → Holds count words (set (set views id (both v w)) other nobody)
  joins_on [] views id v other w h at apart there = absurd h
  joins_on (a ∷ []) views id v other w h at apart there = absurd h
  joins_on (a ∷ b ∷ []) views id v other w k at apart there =
      let l : Hand = both v w in let vs = set views id l in let end = set vs other nobody in
      let old : get_elem? views other ≡ some w = ⊎_elim (λ (t : (other ≡ id) × (l ≡ w)). absurd (apart t.0)) (λ (t : (other ≢ id) × (get_elem? views other ≡ some w)). t.1) (at_set views id other l w there) in
      let more : (e : ℕ) → IsStop views e → IsStop end e = λ e h.
      let s = total_set (λ (u : Hand). total (is_it e) u.stopped) views id v l at in
      let t = total_set (λ (u : Hand). total (is_it e) u.stopped) vs other w nobody there in
      let c = total-append (is_it e) v.stopped w.stopped in omega (arith, s, t, c, h) in
      record {
        parts = (let s = total_set (λ (u : Hand). u.parts) views id v l at in let t = total_set (λ (u : Hand). u.parts) vs other w nobody there in let p = k.parts in omega (arith, s, t, p));
        drawn = λ h.
            let s = total_set (λ (u : Hand). total h u.drawn) views id v l at in
            let t = total_set (λ (u : Hand). total h u.drawn) vs other w nobody there in
            let c = total-append h v.drawn w.drawn in
            let p = k.drawn h in omega (arith, s, t, c, p);
        past = each_set (λ u. total (is_past count) u.drawn ≤ u.parts) vs other nobody (each_set (λ u. total (is_past count) u.drawn ≤ u.parts) views id l k.past
            (let c = total-append (is_past count) v.drawn w.drawn in let x = k.past id v at in let y = k.past other w old in omega (arith, c, x, y))) (omega arith);
        idle = each_set (λ u. u.parts ≡ 0 → (u.drawn ≡ []) × (u.stopped ≡ [])) vs other nobody (each_set (λ u. u.parts ≡ 0 → (u.drawn ≡ []) × (u.stopped ≡ [])) views id l k.idle
            (λ nil. let x = k.idle id v at (omega (arith, nil)) in let y = k.idle other w old (omega (arith, nil)) in
            (ap₂ (λ (x : List ℕ) (y : List ℕ). x ++ y) x.0 y.0, ap₂ (λ (x : List ℕ) (y : List ℕ). x ++ y) x.1 y.1))) (λ _. (refl, refl));
        least = still_least views end b (more b) k.least;
        seen = each_set (λ u. (e : ℕ) → Has u.seen e → IsLeast count end e) vs other nobody (each_set (λ u. (e : ℕ) → Has u.seen e → IsLeast count end e) views id l
            (λ j u there e h. still_least views end e (more e) (k.seen j u there e h))
            (λ e h. still_least views end e (more e) (either_has v.seen w.seen e (k.seen id v at e) (k.seen other w old e) h))) (λ e h. absurd (omega (arith, h)));
      }
    where
      either_has : (xs ys : List ℕ) (e : ℕ) → (Has xs e → IsLeast count views e) → (Has ys e → IsLeast count views e) → Has (xs ++ ys) e → IsLeast count views e
      either_has xs ys e f g h = dite (ℕ_discrete (total (is_it e) xs) 0)
          (λ z. g (let a = total-append (is_it e) xs ys in omega (arith, a, z, h)))
          (λ nz. f (omega (arith, nz)))
  joins_on (a ∷ b ∷ c ∷ ws) views id v other w h at apart there = absurd h

  module _ {S : Type 0} where
    pub draws : (slots id : ℕ) (me : Me S Hand) → count < 2 ^ 32 → total (is_past count) me.0.drawn < me.0.parts
        → Allows (λ (s : State S Hand). Holds count s.words s.views) slots id me 0 (λ n. (n + 1) % 2 ^ 64) (drew (step slots 0 1 0 none) me)
    draws slots id me small room s h homes at fits =
        (hand me.0.parts (me.0.drawn ++ slice_index s.words 0 ∷ []) me.0.seen me.0.stopped, keeps, tt, draws_on s.words s.views id me.0 small h at room, refl)

    pub looks : (slots id : ℕ) (me : Me S Hand)
        → Allows (λ (s : State S Hand). Holds count s.words s.views) slots id me 1 (λ n. n) (looked (step slots 1 0 0 none) me)
    looks slots id me s h homes at fits =
        (hand me.0.parts me.0.drawn (me.0.seen ++ slice_index s.words 1 ∷ []) me.0.stopped, keeps, tt, looks_on s.words s.views id me.0 h at, refl)

    pub lowers : (slots id : ℕ) (me : Me S Hand) (n : ℕ) → 0 < me.0.parts
        → Allows (λ (s : State S Hand). Holds count s.words s.views) slots id me 1 (λ k. min k n) (lowered (step slots 1 n 0 none) me)
    lowers slots id me n some_part s h homes at fits =
        (hand me.0.parts me.0.drawn me.0.seen (me.0.stopped ++ n ∷ []), keeps, tt, lowers_on s.words s.views id me.0 n h at some_part, refl)

    pub deals : (id : ℕ) (v : Hand) → 0 < v.parts → v.drawn ≡ [] → v.stopped ≡ [] → Splits (λ (s : State S Hand). Holds count s.words s.views) id v (dealer v) (worker v)
    deals id v part nil calm s h at = deals_on s.words s.views id v h at part nil calm

    pub joins : (id : ℕ) (v : Hand) (other : ℕ) (w : Hand) → Joins (λ (s : State S Hand). Holds count s.words s.views) id v other w (both v w) nobody
    joins id v other w s h at apart there = joins_on s.words s.views id v other w h at apart there

-- the words at the start
pub begins : (count : ℕ) → Holds count (0 ∷ count ∷ []) (hand 16 [] [] [] ∷ [])
begins count =
    record {
      parts = omega arith;
      drawn = λ h. refl;
      past = alone (λ u. total (is_past count) u.drawn ≤ u.parts) (omega arith);
      idle = alone (λ u. u.parts ≡ 0 → (u.drawn ≡ []) × (u.stopped ≡ [])) (λ _. (refl, refl));
      least = inl refl;
      seen = alone (λ u. (e : ℕ) → Has u.seen e → IsLeast count (hand 16 [] [] [] ∷ []) e) (λ e h. absurd (omega (arith, h)));
    }
  where
    alone : (F : Hand → Type 0) → F (hand 16 [] [] []) → (j : ℕ) (u : Hand) → get_elem? (hand 16 [] [] [] ∷ []) j ≡ some u → F u
    alone F f zero u e = subst F (some-injective _ _ e) f
    alone F f (suc j) u e = absurd (some-ne-none u (sym e))

-- What the end tells: a seat that has all parts, and one number past the end among those that it drew, drew each
-- number, and knows each stop that it saw.
pub all_drawn : (count : ℕ) (words : List ℕ) (views : List Hand) (id : ℕ) (v : Hand) → Holds count words views → get_elem? views id ≡ some v
    → v.parts ≡ 16 → (m : ℕ) → Has v.drawn m → count ≤ m → (x : ℕ) → x < count → Has v.drawn x
all_drawn count [] views id v h at all m drew past x low = absurd h
all_drawn count (a ∷ []) views id v h at all m drew past x low = absurd h
all_drawn count (a ∷ b ∷ []) views id v k at all m drew past x low =
    let same : (h : ℕ → ℕ) → total h v.drawn ≡ total_below h a = λ h.
    sym (total_alone (λ (u : Hand). total h u.drawn) (λ (u : Hand). u.parts) views id v at (let p = k.parts in omega (arith, p, all)) (λ j u there nil. ap (total h) (k.idle j u there nil).0)) ∙ k.drawn h in
    let far : m < a = dite (dec_le a m) (λ le. absurd (let z = below_not m a le in let e = same (is_it m) in omega (arith, z, e, drew))) (λ no. omega (arith, no)) in
    let has = below_has x a (omega (arith, far, low, past)) in let e = same (is_it x) in omega (arith, has, e)
all_drawn count (a ∷ b ∷ c ∷ ws) views id v h at all m drew past x low = absurd h

pub all_seen : (count : ℕ) (words : List ℕ) (views : List Hand) (id : ℕ) (v : Hand) → Holds count words views → get_elem? views id ≡ some v
    → v.parts ≡ 16 → (e : ℕ) → Has v.seen e → (e ≡ count) ⊎ Has v.stopped e
all_seen count [] views id v h at all e saw = absurd h
all_seen count (a ∷ []) views id v h at all e saw = absurd h
all_seen count (a ∷ b ∷ []) views id v k at all e saw =
    let same : total (λ (u : Hand). total (is_it e) u.stopped) views ≡ total (is_it e) v.stopped =
    total_alone (λ (u : Hand). total (is_it e) u.stopped) (λ (u : Hand). u.parts) views id v at (let p = k.parts in omega (arith, p, all)) (λ j u there nil. ap (total (is_it e)) (k.idle j u there nil).1) in
    ⊎_elim (λ (end : e ≡ count). inl end) (λ (stop : IsStop views e). inr (subst (λ n. 0 < n) same stop)) (k.seen id v at e saw)
all_seen count (a ∷ b ∷ c ∷ ws) views id v h at all e saw = absurd h
