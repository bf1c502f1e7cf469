-- From a helper to the one that it calls, as long as the wanted instruction stands there.
use Rattle.std.proofs.Common.{◌≡◌, ℕ, ◌<◌, ◌≤◌, Option, None, Some, List, [], ◌∷◌, ◌++◌, take, length, get_or, slice_get, Ok, Err, refl, ap, sym, ◌∙◌, arith}
use Rattle.std.proofs.lemmas.List.{append_assoc, append-nil}
use Rattle.std.proofs.lemmas.Option.{slice_get_within}
use Rattle.clmodel.specs.Tree.{func}
use Rattle.clmodel.specs.declared.tree.Function.{Function}
use Rattle.origins.specs.Finding.{HasOrigin}
use Rattle.origins.specs.Origins.{Node, Origin, itself, entered, node_of, function_origins, origins_at, there}
use Rattle.origins.specs.Walks.{Walks, huge}
use Rattle.origins.specs.declared.node.Entered.{Entered}
use Rattle.origins.specs.declared.node.WalkEnd.TheVariants as halt
use Rattle.origins.proofs.Counting.{got_below, origins_before}
use Rattle.origins.proofs.Finding.{there_is}

-- in the bodies of helpers that are called there
abbrev pub within : List ℕ → Origin → Origin
within calls o = record o { through = calls ++ o.through }

-- of a node, by these calls
abbrev pub origin_by : Node → List ℕ → Origin
origin_by n calls = record { node = n; through = calls }

-- The instruction that is wanted in the body of a helper stands there, by these calls.
pub record Reached (fs : List Function) (e : Entered) (calls : List ℕ) (end left : ℕ) : Type 0 where
  pub whole : Origin
  pub here : Origin
  pub first : slice_get (origins_at fs e.place) e.left ≡ Some whole
  pub at : slice_get (origins_at fs end) left ≡ Some here
  pub same : entered e.call whole ≡ within calls here
  pub fits : length (origins_at fs end) ≤ length (origins_at fs e.place)

pub begins : (fs : List Function) (e : Entered) (calls : List ℕ) → calls ≡ e.call ∷ [] → HasOrigin (origins_at fs e.place) e.left → Reached fs e calls e.place e.left
begins fs e calls is h =
    record {
      whole = h.0;
      here = h.0;
      first = h.1;
      at = h.1;
      same = ap (λ cs. within cs h.0) (sym is);
      fits = omega arith;
    }

there_below : (fs : List Function) (end left : ℕ) (o : Origin) (f : Option Function) → slice_get fs end ≡ f → slice_get (there fs end f) left ≡ Some o → end < length fs
there_below fs end left o None is e = let h = slice_get_within [] left o e in absurd (omega (arith, h))
there_below fs end left o (Some f) is e = slice_get_within fs end f is

pub reached_below : (fs : List Function) (e : Entered) (calls : List ℕ) (end left : ℕ) → Reached fs e calls end left → end < length fs
reached_below fs e calls end left r = there_below fs end left r.here (slice_get fs end) refl r.at

some_is : {A : Type 0} (x y : A) → Some x ≡ Some y → x ≡ y
some_is x y e = cc

-- Where a walk over the body of the helper at a place leads.
module _ (fs : List Function) (e : Entered) (calls : List ℕ) (end left : ℕ) (f : Function) (below : end < length fs) (is : f ≡ get_or fs end f) (r : Reached fs e calls end left) where
  code : origins_at fs end ≡ function_origins (take end fs) (func f)
  code = there_is fs end f below is

  at : slice_get (function_origins (take end fs) (func f)) left ≡ Some r.here
  at = ap (λ os. slice_get os left) (sym code) ∙ r.at

  pub not_passed : (rest : ℕ) → Walks (origins_at (take end fs)) (function_origins (take end fs) (func f)) left (Ok rest) → ⊥
  not_passed rest w = let h = slice_get_within (function_origins (take end fs) (func f)) left r.here at in let l = w.leads in absurd (omega (arith, h, l))

  pub found_there : (node : _) → Walks (origins_at (take end fs)) (function_origins (take end fs) (func f)) left (Err (halt.Found node))
      → (o : Origin) × (slice_get (origins_at fs e.place) e.left ≡ Some o) × (origin_by (node_of node) calls ≡ entered e.call o)
  found_there node w =
      let here = some_is r.here (itself (node_of node)) (sym at ∙ w.leads) in (
        r.whole,
        r.first,
        ap (origin_by (node_of node)) (sym (append-nil calls)) ∙ ap (within calls) (sym here) ∙ sym r.same,
      )

  pub lost_there : Walks (origins_at (take end fs)) (function_origins (take end fs) (func f)) left (Err halt.Lost) → huge ≤ length (origins_at fs e.place)
  lost_there w = let l = w.leads in let fits = r.fits in let same = ap (λ os. length os) code in omega (arith, l, fits, same)

  below_end : (inside : Entered) (o : Origin) (g : Option Function) → slice_get (take end fs) inside.place ≡ g → slice_get (there (take end fs) inside.place g) inside.left ≡ Some o → inside.place < end
  below_end inside o None q h = let k = slice_get_within [] inside.left o h in absurd (omega (arith, k))
  below_end inside o (Some g) q h = got_below fs end inside.place g q

  pub further : (inside : Entered) → Walks (origins_at (take end fs)) (function_origins (take end fs) (func f)) left (Err (halt.Inside inside))
      → Reached fs e (calls ++ inside.call ∷ []) inside.place inside.left × (inside.place < end)
  further inside w =
      let l = w.leads in
      let nearer = below_end inside l.0 (slice_get (take end fs) inside.place) refl l.1 in
      let before = origins_before fs end inside.place nearer in
      let here = some_is r.here (entered inside.call l.0) (sym at ∙ l.2) in
      let fits = r.fits in
      let same = ap (λ os. length os) code in
      let shorter = ap (λ os. length os) before in (
        record {
          whole = r.whole;
          here = l.0;
          first = r.first;
          at = ap (λ os. slice_get os inside.left) (sym before) ∙ l.1;
          same = r.same ∙ ap (within calls) here ∙ ap (origin_by l.0.node) (sym (append_assoc calls (inside.call ∷ []) l.0.through));
          fits = omega (arith, fits, same, shorter, l.3);
        },
        nearer,
      )
