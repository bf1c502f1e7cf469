-- The call of a helper whose length is known.
use Rattle.std.proofs.Common.{◌≡◌, ℕ, zero, suc, ◌-◌, ◌<◌, ◌≤◌, None, Some, Option, List, [], ◌∷◌, length, map, slice_get, Ok, Err, refl, ap, ◌∙◌, arith}
use Rattle.std.specs.Option.{option_map}
use Rattle.std.proofs.lemmas.Option.{slice_get-map}
use Rattle.clmodel.specs.declared.tree.Function.{Function}
use Rattle.lower_code.specs.Emission.{functions_of}
use Rattle.origins.specs.Origins.{Node, entered, node_at, call_origins, origins_at}
use Rattle.origins.specs.Walks.{Walks, huge}
use Rattle.origins.specs.declared.node.WalkEnd.TheVariants as halt

got_one : {A : Type 0} (xs : List A) (k : ℕ) → k < length xs → (x : A) × (slice_get xs k ≡ Some x)
got_one [] k h = absurd (omega (arith, h))
got_one (x ∷ xs) zero h = (x, refl)
got_one (x ∷ xs) (suc k) h = got_one xs k (omega (arith, h))

same_length : {A B : Type 0} (f : A → B) (xs : List A) → length (map f xs) ≡ length xs
same_length f [] = refl
same_length f (x ∷ xs) = ap suc (same_length f xs)

pub enters : (fs : List Function) (call : Node) (name place n left : ℕ) → call_origins (functions_of fs) call name ≡ map (entered (node_at call)) (origins_at fs place) → n ≡ length (origins_at fs place) → left < n
    → Walks (λ p. origins_at fs p) (call_origins (functions_of fs) call name) left (Err (halt.Inside (record { call = node_at call; place = place; left = left })))
enters fs call name place n left e m h =
    let found = got_one (origins_at fs place) left (omega (arith, m, h)) in
    let same = ap (λ os. length os) e ∙ same_length (entered (node_at call)) (origins_at fs place) in
    record {
      leads = (
        found.0,
        found.1,
        ap (λ os. slice_get os left) e ∙ slice_get-map (entered (node_at call)) (origins_at fs place) left ∙ ap (λ o. option_map (entered (node_at call)) o) found.1,
        omega (arith, same),
      );
    }

pub loses : (fs : List Function) (call : Node) (name place left : ℕ) → call_origins (functions_of fs) call name ≡ map (entered (node_at call)) (origins_at fs place) → huge ≤ length (origins_at fs place)
    → Walks (λ p. origins_at fs p) (call_origins (functions_of fs) call name) left (Err halt.Lost)
loses fs call name place left e h =
    let same = ap (λ os. length os) e ∙ same_length (entered (node_at call)) (origins_at fs place) in
    record { leads = omega (arith, same, h) }

pub passes : (fs : List Function) (call : Node) (name place n left : ℕ) → call_origins (functions_of fs) call name ≡ map (entered (node_at call)) (origins_at fs place) → n ≡ length (origins_at fs place) → n ≤ left
    → Walks (λ p. origins_at fs p) (call_origins (functions_of fs) call name) left (Ok (left - n))
passes fs call name place n left e m h =
    let k = ap (λ os. length os) e ∙ same_length (entered (node_at call)) (origins_at fs place) in
    record { leads = omega (arith, k, m, h) }

pub is_none : {A : Type 0} (o : Option A) → ((x : A) → o ≡ Some x → ⊥) → o ≡ None
is_none None h = refl
is_none (Some x) h = absurd (h x refl)
