-- What a worker has done, draw by draw.
use Rattle.std.proofs.Common.{◌≡◌, ◌⊎◌, ℕ, ◌+◌, ◌<◌, ◌≤◌, List, [], ◌∷◌, ◌++◌, length, Any, sym, ◌∙◌, subst, ⊎_elim, inl, inr, arith}
use mathlib.Core.Logic.{dite}
use native.Mathlib.Decide.{ℕ_discrete}
use Rattle.std.proofs.lemmas.List.Quantifiers.{Any-push}
use Rattle.std.proofs.lemmas.List.Elements.{All-push, All-append}
use Rattle.std.proofs.lemmas.List.{get_or_append_left, get_or-append-add}
use lib.ListN.{length-append}
use Rattle.workers_draw.specs.declared.board.Hand.{Hand}
use Rattle.workers_draw.specs.Board.{total, is_it, is_past, Has, hand, both}
use Rattle.workers_draw.specs.Groups.{IsOfSome, Worked, IsDone, AreStops}
use Rattle.workers_draw.proofs.Totals.{total-append, is_it-same, is_it-else, is_past-no}

pub has_more : (xs : List ℕ) (n e : ℕ) → Has (xs ++ n ∷ []) e → (e ≡ n) ⊎ Has xs e
has_more xs n e h = dite (ℕ_discrete n e) (λ same. inl (sym same)) (λ other. inr (let a = total-append (is_it e) xs (n ∷ []) in let z = is_it-else e n other in omega (arith, a, z, h)))

pub has_longer : (xs ys : List ℕ) (e : ℕ) → Has xs e → Has (xs ++ ys) e
has_longer xs ys e h = let a = total-append (is_it e) xs ys in omega (arith, a, h)

pub has_behind : (xs ys : List ℕ) (e : ℕ) → Has ys e → Has (xs ++ ys) e
has_behind xs ys e h = let a = total-append (is_it e) xs ys in omega (arith, a, h)

pub has_last : (xs : List ℕ) (n : ℕ) → Has (xs ++ n ∷ []) n
has_last xs n = has_behind xs (n ∷ []) n (let s = is_it-same n in omega (arith, s))

module _ {T : Type 0} (count : ℕ) (gives : ℕ → T → Type 0) where
  abbrev Covered : List ℕ → List T → ℕ → Type 0
  Covered seen outputs group = Any (gives group) outputs ⊎ ((least : ℕ) × Has seen least × (least < group))

  seen_more : (seen : List ℕ) (e : ℕ) (outputs : List T) (group : ℕ) → Covered seen outputs group → Covered (seen ++ e ∷ []) outputs group
  seen_more seen e outputs group = ⊎_elim (λ a. inl a) (λ (s : (least : ℕ) × Has seen least × (least < group)). inr (s.0, has_longer seen (e ∷ []) s.0 s.1, s.2))

  pub skipped : (v : Hand) (outputs : List T) (n e : ℕ) → Worked count gives v outputs → e < n → Worked count gives (hand v.parts (v.drawn ++ n ∷ []) (v.seen ++ e ∷ []) v.stopped) outputs
  skipped v outputs n e w low =
      record {
        each = w.each;
        covered = λ group has below. ⊎_elim
            (λ (same : group ≡ n). inr (e, has_last v.seen e, subst (λ k. e < k) (sym same) low))
            (λ (old : Has v.drawn group). seen_more v.seen e outputs group (w.covered group old below))
            (has_more v.drawn n group has);
      }

  pub ran : (v : Hand) (outputs : List T) (n e : ℕ) (o : T) → Worked count gives v outputs → n < count → gives n o → Worked count gives (hand v.parts (v.drawn ++ n ∷ []) (v.seen ++ e ∷ []) v.stopped) (outputs ++ o ∷ [])
  ran v outputs n e o w low is =
      record {
        each = All-push (IsOfSome count gives) outputs o w.each (n, low, is);
        covered = λ group has below. ⊎_elim
            (λ (same : group ≡ n). inl (Any-push (gives group) outputs o (subst (λ k. gives k o) (sym same) is)))
            (λ (old : Has v.drawn group). seen_more v.seen e (outputs ++ o ∷ []) group (⊎_elim (λ a. inl (any_longer (gives group) outputs o a)) (λ s. inr s) (w.covered group old below)))
            (has_more v.drawn n group has);
      }
    where
      any_longer : (P : T → Type 0) (xs : List T) (x : T) → Any P xs → Any P (xs ++ x ∷ [])
      any_longer P xs x a = (a.0, a.1, (let l = length-append xs (x ∷ []) in let b = a.2 in omega (arith, l, b)), get_or_append_left xs (x ∷ []) a.1 a.0 a.2 ∙ a.3, a.4)

  pub ended : (v : Hand) (outputs : List T) (n : ℕ) → Worked count gives v outputs → count ≤ n → Worked count gives (hand v.parts (v.drawn ++ n ∷ []) v.seen v.stopped) outputs
  ended v outputs n w far =
      record {
        each = w.each;
        covered = λ group has below. ⊎_elim
            (λ (same : group ≡ n). absurd (omega (arith, same, far, below)))
            (λ (old : Has v.drawn group). w.covered group old below)
            (has_more v.drawn n group has);
      }

  pub begun : (parts : ℕ) → Worked count gives (hand parts [] [] []) []
  begun parts = record { each = λ k d low. absurd (omega (arith, low)); covered = λ group has below. absurd (omega (arith, has)) }

  -- what a worker did stays so where the seat learns of stops alone
  pub noted : (v w : Hand) (outputs : List T) → w.drawn ≡ v.drawn → w.seen ≡ v.seen → Worked count gives v outputs → Worked count gives w outputs
  noted v w outputs d s h =
      record {
        each = h.each;
        covered = λ group has below. subst (λ xs. Covered xs outputs group) (sym s) (h.covered group (subst (λ xs. Has xs group) d has) below);
      }

pub still_below : (count n : ℕ) (drawn : List ℕ) → n < count → total (is_past count) drawn ≡ 0 → total (is_past count) (drawn ++ n ∷ []) ≡ 0
still_below count n drawn low z = let a = total-append (is_past count) drawn (n ∷ []) in let b = is_past-no count n low in omega (arith, a, b, z)

pub no_stops : (stops : ℕ → Type 0) (parts : ℕ) → AreStops stops (hand parts [] [] [])
no_stops stops parts e h = absurd (omega (arith, h))

pub one_stop : (stops : ℕ → Type 0) (v : Hand) (n : ℕ) → stops n → AreStops stops v → AreStops stops (hand v.parts v.drawn v.seen (v.stopped ++ n ∷ []))
one_stop stops v n is all e h = ⊎_elim (λ (same : e ≡ n). subst stops (sym same) is) (λ (old : Has v.stopped e). all e old) (has_more v.stopped n e h)

pub has_either : (xs ys : List ℕ) (e : ℕ) → Has (xs ++ ys) e → Has xs e ⊎ Has ys e
has_either xs ys e h = dite (ℕ_discrete (total (is_it e) xs) 0)
    (λ z. inr (let a = total-append (is_it e) xs ys in omega (arith, a, z, h)))
    (λ nz. inl (omega (arith, nz)))

module _ {T : Type 0} where
  any_front : (P : T → Type 0) (xs ys : List T) → Any P xs → Any P (xs ++ ys)
  any_front P xs ys a = (a.0, a.1, (let l = length-append xs ys in let b = a.2 in omega (arith, l, b)), get_or_append_left xs ys a.1 a.0 a.2 ∙ a.3, a.4)

  any_back : (P : T → Type 0) (xs ys : List T) → Any P ys → Any P (xs ++ ys)
  any_back P xs ys a = (length xs + a.0, a.1, (let l = length-append xs ys in let b = a.2 in omega (arith, l, b)), get_or-append-add xs ys a.0 a.1 ∙ a.3, a.4)

  module _ (count : ℕ) (gives : ℕ → T → Type 0) where
    pub joined : (v w : Hand) (xs ys : List T) → Worked count gives v xs → Worked count gives w ys → Worked count gives (both v w) (xs ++ ys)
    joined v w xs ys a b =
        record {
          each = All-append (IsOfSome count gives) xs ys a.each b.each;
          covered = λ group has below. ⊎_elim
              (λ (mine : Has v.drawn group). ⊎_elim (λ there. inl (any_front (gives group) xs ys there)) (λ (s : (least : ℕ) × Has v.seen least × (least < group)). inr (s.0, has_longer v.seen w.seen s.0 s.1, s.2)) (a.covered group mine below))
              (λ (theirs : Has w.drawn group). ⊎_elim (λ there. inl (any_back (gives group) xs ys there)) (λ (s : (least : ℕ) × Has w.seen least × (least < group)). inr (s.0, has_behind v.seen w.seen s.0 s.1, s.2)) (b.covered group theirs below))
              (has_either v.drawn w.drawn group has);
        }

pub both_stop : (stops : ℕ → Type 0) (v w : Hand) → AreStops stops v → AreStops stops w → AreStops stops (both v w)
both_stop stops v w a b e h = ⊎_elim (λ x. a e x) (λ y. b e y) (has_either v.stopped w.stopped e h)

pub still_done : (count : ℕ) (v w : Hand) → IsDone count v → IsDone count (both v w)
still_done count v w d = (d.0, has_longer v.drawn w.drawn d.0 d.1, d.2)
