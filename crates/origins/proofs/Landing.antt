-- Where a walk stops.
use Rattle.std.proofs.Common.{◌≡◌, ℕ, ◌≤◌, inr, Option, None, Some, List, length, slice_get, Err, ap, sym, subst, ◌∙◌, arith}
use Rattle.clmodel.specs.declared.tree.Function.{Function}
use Rattle.origins.specs.Finding.{IsFound, IsFoundInside}
use Rattle.origins.specs.Origins as spec
use Rattle.origins.specs.Origins.{itself, entered, node_of, origins_at}
use Rattle.origins.specs.Walks.{Walks, huge}
use Rattle.origins.specs.declared.node.Entered.{Entered}
use Rattle.origins.specs.declared.node.WalkEnd.{WalkEnd}
use Rattle.origins.specs.declared.node.WalkEnd.TheVariants as halt
use Rattle.origins.specs.declared.origin.Origin.{Origin}

pub found_at : (inside : ℕ → List spec.Origin) (os : List spec.Origin) (n : ℕ) (h : WalkEnd) (node : _) → h ≡ halt.Found node → Walks inside os n (Err h) → slice_get os n ≡ Some (itself (node_of node))
found_at inside os n h node is w = let v = subst (λ x. Walks inside os n (Err x)) is w in v.leads

pub inside_at : (inside : ℕ → List spec.Origin) (os : List spec.Origin) (n : ℕ) (h : WalkEnd) (e : Entered) → h ≡ halt.Inside e → Walks inside os n (Err h)
    → (o : spec.Origin) × (slice_get (inside e.place) e.left ≡ Some o) × (slice_get os n ≡ Some (entered e.call o)) × (length (inside e.place) ≤ length os)
inside_at inside os n h e is w = let v = subst (λ x. Walks inside os n (Err x)) is w in v.leads

pub lost_at : (inside : ℕ → List spec.Origin) (os : List spec.Origin) (n : ℕ) (h : WalkEnd) → h ≡ halt.Lost → Walks inside os n (Err h) → huge ≤ length os
lost_at inside os n h is w = let v = subst (λ x. Walks inside os n (Err x)) is w in v.leads

some_is : {A : Type 0} (x y : A) → Some x ≡ Some y → x ≡ y
some_is x y e = cc

-- what is found in the body of a helper is found in the code round it
pub found_round : (fs : List Function) (os : List spec.Origin) (n : ℕ) (e : Entered) (found : Option Origin)
    → (o : spec.Origin) × (slice_get (origins_at fs e.place) e.left ≡ Some o) × (slice_get os n ≡ Some (entered e.call o)) × (length (origins_at fs e.place) ≤ length os)
    → IsFoundInside fs e found → IsFound os n found
found_round fs os n e None l h = inr (let fits = l.3 in omega (arith, h, fits))
found_round fs os n e (Some o) l h = l.2 ∙ ap (λ v. Some (entered e.call v)) (some_is l.0 h.0 (sym l.1 ∙ h.1)) ∙ ap (λ v. Some v) (sym h.2)
