-- The last number of which something holds, and the numbers that are chosen, one number further.
use Rattle.std.proofs.Common.{◌≡◌, ℕ, ◌+◌, ◌<◌, suc, Bool, true, false, Option, None, Some, List, [], ◌∷◌, ◌++◌, length, get_or, if◌then◌else◌, arith, refl, sym, ap, ◌∙◌, subst, below_more}
use Rattle.std.proofs.Math.ListN.{get_or-append}
use Rattle.std.proofs.Math.Seq.{get_or-append_seam}
use Rattle.std.proofs.lemmas.List.{length-append}
use Rattle.launch_facts.specs.Commands.{IsLast}
use Rattle.launch_facts.specs.Parameters.{true_places, AreChosen}

last_before : (p : ℕ → Bool) (n : ℕ) (o : Option ℕ) → p n ≡ false → IsLast p n o → IsLast p (n + 1) o
last_before p n None h i = below_more (λ k. p k ≡ false) n i h
last_before p n (Some last) h i =
    (omega (arith, i.0), i.1, λ k a b. below_more (λ j. last < j → p j ≡ false) n (λ j x y. i.2 j y x) (λ _. h) k b a)

pub last_more : (p : ℕ → Bool) (n : ℕ) (b : Bool) (old new : Option ℕ) → b ≡ p n → new ≡ (if b then Some n else old) → IsLast p n old → IsLast p (n + 1) new
last_more p n true old new h e i = subst (IsLast p (n + 1)) (sym e) (omega arith, sym h, λ k a b. absurd (omega arith))
last_more p n false old new h e i = subst (IsLast p (n + 1)) (sym e) (last_before p n old (sym h) i)

-- the places of what is true, with one more
places_more : (n : ℕ) (bs : List Bool) (b : Bool) → true_places n (bs ++ b ∷ []) ≡ true_places n bs ++ (if b then (n + length bs) ∷ [] else [])
places_more n [] true = ap (λ k. k ∷ []) (omega arith)
places_more n [] false = refl
places_more n (true ∷ bs) b = ap (λ ks. n ∷ ks) (places_more (suc n) bs b ∙ ap (λ k. true_places (suc n) bs ++ (if b then k ∷ [] else [])) (omega arith))
places_more n (false ∷ bs) b = places_more (suc n) bs b ∙ ap (λ k. true_places (suc n) bs ++ (if b then k ∷ [] else [])) (omega arith)

pub chosen_none : (q : ℕ → Bool → Type 0) → AreChosen q 0 []
chosen_none q = record { chosen = []; each = refl; values = λ j h. absurd (omega arith); are = refl }

seam : (bs : List Bool) (b : Bool) (n : ℕ) → length bs ≡ n → get_or (bs ++ b ∷ []) n false ≡ b
seam bs b n e = subst (λ k. get_or (bs ++ b ∷ []) k false ≡ b) e (get_or-append_seam bs b [] false)

before : (bs : List Bool) (b : Bool) (n j : ℕ) → length bs ≡ n → j < n → get_or (bs ++ b ∷ []) j false ≡ get_or bs j false
before bs b n j e h = get_or-append bs (b ∷ []) false j (omega arith)

pub chosen_more : (q : ℕ → Bool → Type 0) (n : ℕ) (b : Bool) (old new : List ℕ) → q n b → new ≡ old ++ (if b then n ∷ [] else []) → AreChosen q n old → AreChosen q (n + 1) new
chosen_more q n b old new h e c =
    let z : 0 + length c.chosen ≡ n = omega (arith, c.each) in
    record {
      chosen = c.chosen ++ b ∷ [];
      each = omega (arith, length-append c.chosen (b ∷ []), c.each);
      values = below_more (λ j. q j (get_or (c.chosen ++ b ∷ []) j false)) n
          (λ j l. subst (q j) (sym (before c.chosen b n j c.each l)) (c.values j l))
          (subst (q n) (sym (seam c.chosen b n c.each)) h);
      are = e ∙ ap (λ ks. ks ++ (if b then n ∷ [] else [])) c.are
          ∙ sym (places_more 0 c.chosen b ∙ ap (λ k. true_places 0 c.chosen ++ (if b then k ∷ [] else [])) z);
    }
