-- Runs of the machine over placed tokens.
use Rattle.std.proofs.Common.{◌≡◌, List, [], ◌∷◌, Some, refl, ◌∙◌}
use Rattle.clsyntax_terms.specs.Grammar.{Placed}
use Rattle.clsyntax_terms.specs.Machine.{State, step}

-- from a state at ps to one at qs, each token with its nesting
pub data Runs : State → List Placed → State → List Placed → Type 0 where
  stop : {s : State} {ps : List Placed} → Runs s ps s ps
  onward : {s t u : State} {p : Placed} {ps qs : List Placed} → step s p.token ≡ Some (p.nesting, t) → Runs t ps u qs → Runs s (p ∷ ps) u qs

pub joined : {s t u : State} {ps qs rs : List Placed} → Runs s ps t qs → Runs t qs u rs → Runs s ps u rs
joined stop r = r
joined (onward e q) r = onward e (joined q r)

-- two states move alike at the next token
abbrev pub Alike : State → State → List Placed → Type 0
Alike a b [] = Unit {0}
Alike a b (p ∷ ps) = step a p.token ≡ step b p.token

pub alike_same : (a : State) (ps : List Placed) → Alike a a ps
alike_same a [] = tt
alike_same a (p ∷ ps) = refl

pub alike_then : (a b c : State) (ps : List Placed) → Alike a b ps → Alike b c ps → Alike a c ps
alike_then a b c [] g h = tt
alike_then a b c (p ∷ ps) g h = g ∙ h

-- from a state at ps to one at qs that moves like another
pub record Meets (s : State) (ps : List Placed) (r : State) (qs : List Placed) : Type 0 where
  pub reached : State
  pub run : Runs s ps reached qs
  pub alike : Alike reached r qs

pub meets : {s r : State} {ps qs : List Placed} → Runs s ps r qs → Meets s ps r qs
meets {r = r} {qs = qs} q = record { reached = r; run = q; alike = alike_same r qs }

-- a run from a state is one from a state that moves like it
carried : (a : State) {b u : State} {ps qs : List Placed} → Alike a b ps → Runs b ps u qs → Meets a ps u qs
carried a h stop = record { reached = a; run = stop; alike = h }
carried a {u = u} {qs = qs} h (onward e q) = record { reached = u; run = onward (h ∙ e) q; alike = alike_same u qs }

pub meets_then : {s r u : State} {ps qs rs : List Placed} → Meets s ps r qs → Meets r qs u rs → Meets s ps u rs
meets_then {u = u} {rs = rs} g h =
    let c : Meets g.reached _ h.reached rs = carried g.reached g.alike h.run in
    record { reached = c.reached; run = joined g.run c.run; alike = alike_then c.reached h.reached u rs c.alike h.alike }

-- one token further
pub further : {s r u : State} {q : Placed} {ps qs : List Placed} → Meets s ps r (q ∷ qs) → step r q.token ≡ Some (q.nesting, u) → Runs s ps u qs
further m e = joined m.run (onward (m.alike ∙ e) stop)
