-- The helper of a name among functions.
use Rattle.std.proofs.Common.{◌≡◌, ℕ, ◌+◌, ◌<◌, Bool, true, false, Some, List, take, length, get_or, map, slice_get, ap, sym, ◌∙◌, eq-eqb, ne_eqb}
use Rattle.std.proofs.lemmas.Option.{slice_get-get_or}
use Rattle.clmodel.specs.Tree.{func}
use Rattle.clmodel.specs.declared.tree.Function.{Function}
use Rattle.lower_code.specs.Emission.{functions_of}
use Rattle.lower_code.proofs.Lists.{functions_more}
use Rattle.origins.specs.Origins.{Node, Origin, entered, node_at, call_origins, function_origins, origins_at, there}
use Rattle.origins.specs.Helpers.{found_type, type_there}

pub calls_hit : (gs : List Function) (i name : ℕ) (g : Function) (call : Node) → i < length gs → g ≡ get_or gs i g → name ≡ g.name
    → call_origins (functions_of (take (i + 1) gs)) call name ≡ map (entered (node_at call)) (function_origins (take i gs) (func g))
calls_hit gs i name g call h p t =
    ap (λ fs. call_origins fs call name) (functions_more gs i g h p)
    ∙ ap (λ (b : Bool). elim b as (λ _. List Origin) [ true ↦ map (entered (node_at call)) (function_origins (take i gs) (func g)) | false ↦ call_origins (functions_of (take i gs)) call name ]) (eq-eqb name g.name t)

pub calls_miss : (gs : List Function) (i name : ℕ) (g : Function) (call : Node) → i < length gs → g ≡ get_or gs i g → (name ≡ g.name → ⊥)
    → call_origins (functions_of (take (i + 1) gs)) call name ≡ call_origins (functions_of (take i gs)) call name
calls_miss gs i name g call h p t =
    ap (λ fs. call_origins fs call name) (functions_more gs i g h p)
    ∙ ap (λ (b : Bool). elim b as (λ _. List Origin) [ true ↦ map (entered (node_at call)) (function_origins (take i gs) (func g)) | false ↦ call_origins (functions_of (take i gs)) call name ]) (ne_eqb name g.name t)

got : (gs : List Function) (i : ℕ) (g : Function) → i < length gs → g ≡ get_or gs i g → slice_get gs i ≡ Some g
got gs i g h p = slice_get-get_or gs i g h ∙ ap (λ x. Some x) (sym p)

pub there_is : (gs : List Function) (i : ℕ) (g : Function) → i < length gs → g ≡ get_or gs i g → origins_at gs i ≡ function_origins (take i gs) (func g)
there_is gs i g h p = ap (λ f. there gs i f) (got gs i g h p)

pub type_is : (gs : List Function) (i : ℕ) (g : Function) → i < length gs → g ≡ get_or gs i g → found_type gs (Some i) ≡ g.result
type_is gs i g h p = ap type_there (got gs i g h p)
