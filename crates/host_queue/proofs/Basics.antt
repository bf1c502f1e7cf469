-- Lists read by `get_elem?`, functions changed at one number, sums over a list, and runs of the machine.
use Rattle.std.proofs.Common.{◌≡◌, ◌≢◌, ℕ, zero, suc, ◌+◌, ◌<◌, ◌≤◌, ◌⊎◌, inl, inr, List, [], ◌∷◌, ◌++◌, length, set, sym, refl, ap, ◌∙◌, subst, ⊎_elim, arith, length-append, Option, Some}
use mathlib.Core.Option.{some, some-ne-none, some-injective}
use mathlib.Core.Path.{Path}
use mathlib.Core.Logic.{dite, ∥∥₁_map}
use native.Mathlib.Decide.{ℕ_discrete}
use lib.ListN.{get_elem?}
use Rattle.host_queue.specs.declared.view.Request.{Request}
use Rattle.host_queue.specs.declared.view.Request.TheVariants.{Asked}
use Rattle.host_queue.specs.declared.view.Entry.{Entry}
use Rattle.host_queue.specs.History.{Begins, Runs, RunsTo}
use Rattle.host_queue.specs.Views.{total, entry}
use Rattle.atomic_table.proofs.Lists.{at_longer}

module _ {A : Type 0} where
  abbrev pick : {P : Type 0} → Dec P → A → A → A
  pick (yes _) a b = a
  pick (no _) a b = b

  pub put : (ℕ → A) → ℕ → A → ℕ → A
  put f i c j = pick (ℕ_discrete j i) c (f j)

  pub put_here : (f : ℕ → A) (i : ℕ) (c : A) → Path A (put f i c i) c
  unfolding put
  put_here f i c = go (ℕ_discrete i i)
    where
      go : (d : Dec (i ≡ i)) → Path A (pick d c (f i)) c
      go (yes _) = refl
      go (no n) = absurd (n refl)

  pub put_else : (f : ℕ → A) (i : ℕ) (c : A) (j : ℕ) → j ≢ i → Path A (put f i c j) (f j)
  unfolding put
  put_else f i c j other = go (ℕ_discrete j i)
    where
      go : (d : Dec (j ≡ i)) → Path A (pick d c (f j)) (f j)
      go (yes e) = absurd (other e)
      go (no _) = refl

  -- the value in hand
  abbrev pub head_or : Option A → List (ℕ × Option A) → Option A
  head_or d [] = d
  head_or d (x ∷ xs) = x.1

  pub some_same : (a b : A) → Path (Option A) (Some a) (Some b) → Path A a b
  some_same a b e = cc

  pub one_same : (a b : A) → Path (List A) (a ∷ []) (b ∷ []) → Path A a b
  one_same a b e = cc

  pub at_inside : (xs : List A) (i : ℕ) (x : A) → get_elem? xs i ≡ some x → i < length xs
  at_inside [] i x e = absurd (some-ne-none x (sym e))
  at_inside (y ∷ ys) zero x e = omega arith
  at_inside (y ∷ ys) (suc i) x e = let h = at_inside ys i x e in omega arith

  pub there : (xs : List A) (i : ℕ) → i < length xs → (x : A) × (get_elem? xs i ≡ some x)
  there [] i h = absurd (omega arith)
  there (y ∷ ys) zero h = (y, refl)
  there (y ∷ ys) (suc i) h = there ys i (omega arith)

  -- an item of a longer list is one of the list, or the last
  pub at_end : (xs : List A) (a b : A) (i : ℕ) → get_elem? (xs ++ a ∷ []) i ≡ some b → (get_elem? xs i ≡ some b) ⊎ ((i ≡ length xs) × (a ≡ b))
  at_end [] a b zero e = inr (refl, some-injective a b e)
  at_end [] a b (suc i) e = absurd (some-ne-none b (sym e))
  at_end (x ∷ xs) a b zero e = inl e
  at_end (x ∷ xs) a b (suc i) e = ⊎_elim (λ h. inl h) (λ h. let n = h.0 in inr (omega arith, h.1)) (at_end xs a b i e)

  pub begins_refl : (xs : List A) → Begins xs xs
  begins_refl xs i x e = e

  pub begins_trans : (xs ys zs : List A) → Begins xs ys → Begins ys zs → Begins xs zs
  begins_trans xs ys zs a b i x e = b i x (a i x e)

  pub begins_more : (xs ys : List A) → Begins xs (xs ++ ys)
  begins_more xs ys i x e = at_longer xs ys i x e

  pub begins_long : (xs ys : List A) → Begins xs ys → length xs ≤ length ys
  begins_long [] ys b = omega arith
  begins_long (x ∷ xs) [] b = absurd (some-ne-none x (sym (b zero x refl)))
  begins_long (x ∷ xs) (y ∷ ys) b = let h = begins_long xs ys (λ i z e. b (suc i) z e) in omega arith

  -- of two beginnings of one list the shorter begins the longer
  pub begins_both : (xs ys zs : List A) → Begins xs zs → Begins ys zs → length xs ≤ length ys → Begins xs ys
  begins_both xs ys zs a b le i x e = let h = at_inside xs i x e in let t = there ys i (omega arith) in t.1 ∙ (sym (b i t.0 t.1) ∙ a i x e)

  pub total_set : (f : A → ℕ) (xs : List A) (i : ℕ) (v w : A) → get_elem? xs i ≡ some v → total f (set xs i w) + f v ≡ total f xs + f w
  total_set f [] i v w e = absurd (some-ne-none v (sym e))
  total_set f (x ∷ xs) zero v w e = let h : f x ≡ f v = ap f (some-injective x v e) in omega arith
  total_set f (x ∷ xs) (suc i) v w e = let h = total_set f xs i v w e in omega arith

  pub total_has : (f : A → ℕ) (xs : List A) (i : ℕ) (v : A) → get_elem? xs i ≡ some v → f v ≤ total f xs
  total_has f [] i v e = absurd (some-ne-none v (sym e))
  total_has f (x ∷ xs) zero v e = let h : f x ≡ f v = ap f (some-injective x v e) in omega arith
  total_has f (x ∷ xs) (suc i) v e = let h = total_has f xs i v e in omega arith

  pub total_snoc : (f : A → ℕ) (xs : List A) (w : A) → total f (xs ++ w ∷ []) ≡ total f xs + f w
  total_snoc f [] w = omega arith
  total_snoc f (x ∷ xs) w = let h = total_snoc f xs w in omega arith

  total_none : (f g : A → ℕ) (xs : List A) → total f xs ≡ 0 → ((j : ℕ) (u : A) → get_elem? xs j ≡ some u → f u ≡ 0 → g u ≡ 0) → total g xs ≡ 0
  total_none f g [] e h = refl
  total_none f g (x ∷ xs) e h = let a : f x ≡ 0 = omega arith in let b = h 0 x refl a in let c = total_none f g xs (omega arith) (λ j u z. h (suc j) u z) in omega arith

  -- one item has all of f, and where f is 0, so is g: it has all of g
  pub total_last : (xs ys : List A) (w : A) (f : A → ℕ) → xs ≡ ys ++ w ∷ [] → total f xs ≡ total f ys + f w
  total_last xs ys w f e = ap (total f) e ∙ total_snoc f ys w

  pub total_alone : (f g : A → ℕ) (xs : List A) (i : ℕ) (v : A) → get_elem? xs i ≡ some v → total f xs ≡ f v → ((j : ℕ) (u : A) → get_elem? xs j ≡ some u → f u ≡ 0 → g u ≡ 0) → total g xs ≡ g v
  total_alone f g [] i v at e h = absurd (some-ne-none v (sym at))
  total_alone f g (x ∷ xs) zero v at e h = let a : f x ≡ f v = ap f (some-injective x v at) in let b : g x ≡ g v = ap g (some-injective x v at) in
      let c = total_none f g xs (omega arith) (λ j u z. h (suc j) u z) in omega arith
  total_alone f g (x ∷ xs) (suc i) v at e h = let some_f = total_has f xs i v at in let a : f x ≡ 0 = omega arith in let b = h 0 x refl a in let c = total_alone f g xs i v at (omega arith) (λ j u z. h (suc j) u z) in omega arith

-- a word that was set stays set where another, or the same, is set
pub put_set : (word : ℕ → ℕ) (n x m : ℕ) → 0 < x → 0 < word m → 0 < put word n x m
put_set word n x m pos h = dite (ℕ_discrete m n) (λ q. subst (λ (z : ℕ). 0 < put word n x z) (sym q) (subst (λ (z : ℕ). 0 < z) (sym (put_here word n x)) pos)) (λ q. subst (λ (z : ℕ). 0 < z) (sym (put_else word n x m q)) h)

-- a word that is not the one that was set was so before
pub put_not : (word : ℕ → ℕ) (n x y m : ℕ) → x ≢ y → put word n x m ≡ y → word m ≡ y
put_not word n x y m ne is = dite (ℕ_discrete m n) (λ q. absurd (ne (sym (put_here word n x) ∙ (ap (put word n x) (sym q) ∙ is)))) (λ q. sym (put_else word n x m q) ∙ is)

pub asked_same : {C R : Type 0} (a b : C) → Path (Request C R) (Asked a) (Asked b) → Path C a b
asked_same a b e = cc

module _ {D C R : Type 0} (step : D → C → R → D → Type 0) where
  pub runs_begins : (start : D) (known log : List (Entry C R)) → Begins known log → Runs step start log → Runs step start known
  runs_begins start known log b run = ∥∥₁_map run (λ r. (r.0, record { first = r.1.first; each = λ i x e. r.1.each i x (b i x e) }))

  pub runs_none : (start : D) → RunsTo step start [] start
  runs_none start = ∣ ((λ _. start), record { first = refl; each = λ i x e. absurd (some-ne-none x (sym e)) }, refl) ∣₁

  pub runs_on : (start end : D) (log : List (Entry C R)) → RunsTo step start log end → Runs step start log
  runs_on start end log run = ∥∥₁_map run (λ r. (r.0, r.1))

  pub runs_more : (start end after : D) (log : List (Entry C R)) (c : C) (r : R) → RunsTo step start log end → step end c r after → RunsTo step start (log ++ entry c r ∷ []) after
  runs_more start end after log c r ran did = ∥∥₁_map ran (λ run. let n = length log in let at = run.0 in let at' = put at (suc n) after in (
    at',
    record {
      first = put_else at (suc n) after 0 (λ h. omega arith) ∙ run.1.first;
      each = λ i x e. ⊎_elim
          (λ (h : get_elem? log i ≡ some x). let l = at_inside log i x h in
          subst (λ (z : D × D). step z.0 x.command x.reply z.1) (λ k. (sym (put_else at (suc n) after i (λ q. omega arith)) k, sym (put_else at (suc n) after (suc i) (λ q. omega arith)) k)) (run.1.each i x h))
          (λ (h : (i ≡ n) × (entry c r ≡ x)).
          subst (λ (z : ℕ × Entry C R). step (at' z.0) z.1.command z.1.reply (at' (suc z.0))) (λ k. (sym h.0 k, h.1 k))
          (subst (λ (z : D × D). step z.0 c r z.1) (λ k. (sym (put_else at (suc n) after n (λ q. omega arith) ∙ run.2) k, sym (put_here at (suc n) after) k)) did))
          (at_end log (entry c r) x i e);
    },
    (let l : length (log ++ entry c r ∷ []) ≡ suc n = omega (arith, length-append log (entry c r ∷ [])) in ap at' l ∙ put_here at (suc n) after),
  ))
