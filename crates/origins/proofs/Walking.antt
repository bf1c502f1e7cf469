-- Walks over one code behind another.
use Rattle.std.proofs.Common.{◌≡◌, ℕ, zero, suc, ◌+◌, ◌-◌, ◌<◌, ◌≤◌, Some, List, [], ◌∷◌, ◌++◌, length, replicate, Result, Ok, Err, slice_get, refl, ap, subst, ◌∙◌, arith}
use Rattle.std.proofs.lemmas.List.{length-append}
use Rattle.std.proofs.lemmas.Option.{slice_get_within}
use Rattle.origins.specs.Origins.{Origin, Node, itself, times, entered, node_of}
use Rattle.origins.specs.Walks.{Walks, huge}
use Rattle.origins.specs.declared.node.WalkEnd.{WalkEnd}
use Rattle.origins.specs.declared.node.WalkEnd.TheVariants as halt

-- what stands in the first of two lists, and in the second
pub get_left : {A : Type 0} (xs ys : List A) (n : ℕ) (x : A) → slice_get xs n ≡ Some x → slice_get (xs ++ ys) n ≡ Some x
get_left [] ys n x e = let h = slice_get_within [] n x e in absurd (omega (arith, h))
get_left (y ∷ xs) ys zero x e = e
get_left (y ∷ xs) ys (suc n) x e = get_left xs ys n x e

pub get_right : {A : Type 0} (xs ys : List A) (n : ℕ) → slice_get (xs ++ ys) (length xs + n) ≡ slice_get ys n
get_right [] ys n = ap (λ k. slice_get ys k) (let e : 0 + n ≡ n = omega arith in e)
get_right (x ∷ xs) ys n = ap (λ k. slice_get (x ∷ (xs ++ ys)) k) (let e : length (x ∷ xs) + n ≡ suc (length xs + n) = omega arith in e) ∙ get_right xs ys n

-- a walk that stops in the first of two codes stops in both
pub stops : (inside : ℕ → List Origin) (xs ys : List Origin) (n : ℕ) (h : WalkEnd) → Walks inside xs n (Err h) → Walks inside (xs ++ ys) n (Err h)
stops inside xs ys n (halt.Found node) w = record { leads = get_left xs ys n (itself (node_of node)) w.leads }
stops inside xs ys n (halt.Inside e) w = let l = w.leads in let longer = length-append xs ys in record { leads = (l.0, l.1, get_left xs ys n (entered e.call l.0) l.2, omega (arith, longer, l.3)) }
stops inside xs ys n halt.Lost w = let l = w.leads in let longer = length-append xs ys in record { leads = omega (arith, longer, l) }
stops inside xs ys n halt.OutOfMemory w = record { leads = tt }

-- one that passes the first goes on in the second
pub goes_on : (inside : ℕ → List Origin) (xs ys : List Origin) (n m : ℕ) (r : Result ℕ WalkEnd) → Walks inside xs n (Ok m) → Walks inside ys m r → Walks inside (xs ++ ys) n r
goes_on inside xs ys n m (Ok left) w v = let a = w.leads in let b = v.leads in record { leads = omega (arith, length-append xs ys, a, b) }
goes_on inside xs ys n m (Err (halt.Found node)) w v =
    record { leads = subst (λ k. slice_get (xs ++ ys) k ≡ Some (itself (node_of node))) w.leads (get_right xs ys m ∙ v.leads) }
goes_on inside xs ys n m (Err (halt.Inside e)) w v =
    let l = v.leads in
    let longer = length-append xs ys in
    record { leads = (l.0, l.1, subst (λ k. slice_get (xs ++ ys) k ≡ Some (entered e.call l.0)) w.leads (get_right xs ys m ∙ l.2), omega (arith, longer, l.3)) }
goes_on inside xs ys n m (Err halt.Lost) w v = let l = v.leads in let longer = length-append xs ys in record { leads = omega (arith, longer, l) }
goes_on inside xs ys n m (Err halt.OutOfMemory) w v = record { leads = tt }

-- instructions of one node
own_found : {A : Type 0} (count n : ℕ) (x : A) → n < count → slice_get (replicate count x) n ≡ Some x
own_found zero n x h = absurd (omega arith)
own_found (suc count) zero x h = refl
own_found (suc count) (suc n) x h = own_found count n x (omega (arith, h))

own_length : {A : Type 0} (count : ℕ) (x : A) → length (replicate count x) ≡ count
own_length zero x = refl
own_length (suc count) x = ap suc (own_length count x)

pub found_own : (inside : ℕ → List Origin) (count n : ℕ) (node : _) → n < count → Walks inside (times count (node_of node)) n (Err (halt.Found node))
found_own inside count n node h = record { leads = own_found count n (itself (node_of node)) h }

pub past_own : (inside : ℕ → List Origin) (count n : ℕ) (node : Node) → count ≤ n → Walks inside (times count node) n (Ok (n - count))
past_own inside count n node h = let e = own_length count (itself node) in record { leads = omega (arith, h, e) }

-- no code
pub nothing : (inside : ℕ → List Origin) (n : ℕ) → Walks inside [] n (Ok n)
nothing inside n = record { leads = omega arith }

-- a walk over code that stops behind so many instructions, where memory isn't wanted
abbrev pub IsNoWant : WalkEnd → Type 0
IsNoWant (halt.Found node) = Unit {0}
IsNoWant (halt.Inside e) = Unit {0}
IsNoWant halt.Lost = Unit {0}
IsNoWant halt.OutOfMemory = ⊥

stops_long : (inside : ℕ → List Origin) (os : List Origin) (h : WalkEnd) → IsNoWant h → Walks inside os huge (Err h) → huge ≤ length os
stops_long inside os (halt.Found node) k w = let l = slice_get_within os huge (itself (node_of node)) w.leads in omega (arith, l)
stops_long inside os (halt.Inside e) k w = let o = w.leads in let l = slice_get_within os huge (entered e.call o.0) o.2 in omega (arith, l)
stops_long inside os halt.Lost k w = w.leads
stops_long inside os halt.OutOfMemory k w = absurd k

pub is_long : (inside : ℕ → List Origin) (os : List Origin) (h g : WalkEnd) → h ≡ g → IsNoWant g → Walks inside os huge (Err h) → huge ≤ length os
is_long inside os h g is k w = stops_long inside os g k (subst (λ x. Walks inside os huge (Err x)) is w)
