-- The helper of a name among functions.
use Rattle.std.proofs.Common.{◌≡◌, ℕ, zero, suc, ◌+◌, ◌-◌, ◌<◌, ◌≤◌, ◌++◌, Bool, true, false, List, [], ◌∷◌, Option, take, length, get_or, refl, ap, sym, ◌∙◌, eq-eqb, ne_eqb, arith}
use Rattle.std.proofs.Math.Seq.{take-length}
use Rattle.clnum.specs.declared.int_type.IntType.{IntType}
use Rattle.clmodel.specs.declared.tree.Function.{Function}
use Rattle.clmodel.specs.Tree.{func}
use Rattle.regcode.specs.declared.instruction.Instruction.{Instruction}
use Rattle.lower_code.specs.Variables.{pass_code}
use Rattle.lower_code.specs.Code.{call_code, result_in, body_code}
use Rattle.lower_code.specs.Emission.{functions_of, inside}
use Rattle.lower_code.proofs.Lists.{functions_more}

-- the body of a function with those before it, in place of its call
abbrev pub body_at : List Function → ℕ → Function → List ℕ → ℕ → ℕ → ℕ → List Instruction
body_at gs i g arguments level depth site =
    pass_code g.parameters.items arguments level
    ++ body_code (call_code (functions_of (take i gs))) (result_in (functions_of (take i gs))) (inside (take i gs)) (func g) level depth site

pub code_hit : (gs : List Function) (i name : ℕ) (g : Function) (arguments : List ℕ) (level depth site : ℕ) → i < length gs → g ≡ get_or gs i g → name ≡ g.name
    → call_code (functions_of (take (i + 1) gs)) name arguments level depth site ≡ body_at gs i g arguments level depth site
code_hit gs i name g arguments level depth site h p t =
    ap (λ fs. call_code fs name arguments level depth site) (functions_more gs i g h p)
    ∙ ap (λ (b : Bool). elim b as (λ _. List Instruction) [ true ↦ body_at gs i g arguments level depth site | false ↦ call_code (functions_of (take i gs)) name arguments level depth site ]) (eq-eqb name g.name t)

pub code_miss : (gs : List Function) (i name : ℕ) (g : Function) (arguments : List ℕ) (level depth site : ℕ) → i < length gs → g ≡ get_or gs i g → (name ≡ g.name → ⊥)
    → call_code (functions_of (take (i + 1) gs)) name arguments level depth site ≡ call_code (functions_of (take i gs)) name arguments level depth site
code_miss gs i name g arguments level depth site h p t =
    ap (λ fs. call_code fs name arguments level depth site) (functions_more gs i g h p)
    ∙ ap (λ (b : Bool). elim b as (λ _. List Instruction) [ true ↦ body_at gs i g arguments level depth site | false ↦ call_code (functions_of (take i gs)) name arguments level depth site ]) (ne_eqb name g.name t)

pub result_hit : (gs : List Function) (i name : ℕ) (g : Function) → i < length gs → g ≡ get_or gs i g → name ≡ g.name → result_in (functions_of (take (i + 1) gs)) name ≡ g.result
result_hit gs i name g h p t =
    ap (λ fs. result_in fs name) (functions_more gs i g h p)
    ∙ ap (λ (b : Bool). elim b as (λ _. Option IntType) [ true ↦ g.result | false ↦ result_in (functions_of (take i gs)) name ]) (eq-eqb name g.name t)

pub result_miss : (gs : List Function) (i name : ℕ) (g : Function) → i < length gs → g ≡ get_or gs i g → (name ≡ g.name → ⊥)
    → result_in (functions_of (take (i + 1) gs)) name ≡ result_in (functions_of (take i gs)) name
result_miss gs i name g h p t =
    ap (λ fs. result_in fs name) (functions_more gs i g h p)
    ∙ ap (λ (b : Bool). elim b as (λ _. Option IntType) [ true ↦ g.result | false ↦ result_in (functions_of (take i gs)) name ]) (ne_eqb name g.name t)

-- the function at a place
pub function_there : (gs : List Function) (i : ℕ) → i < length gs → (g : Function) × (g ≡ get_or gs i g)
function_there [] i h = absurd (omega arith)
function_there (g ∷ gs) zero h = (g, refl)
function_there (g ∷ gs) (suc i) h = function_there gs i (omega arith)

-- what no function from a place on changes is said of those before it
from_place : {A : Type 0} (F : List Function → A) (gs : List Function) (end k : ℕ) → end + k ≤ length gs
    → ((i : ℕ) (g : Function) → end ≤ i → i < length gs → g ≡ get_or gs i g → F (take (i + 1) gs) ≡ F (take i gs))
    → F (take (end + k) gs) ≡ F (take end gs)
from_place F gs end zero small step = ap (λ n. F (take n gs)) (omega arith)
from_place F gs end (suc k) small step =
    let i = end + k in
    let below : i < length gs = omega (arith, small) in
    let found = function_there gs i below in
    let more : end + suc k ≡ i + 1 = omega arith in
    ap (λ n. F (take n gs)) more ∙ step i found.0 (omega arith) below found.1 ∙ from_place F gs end k (omega (arith, small)) step

pub from_end : {A : Type 0} (F : List Function → A) (gs : List Function) (end : ℕ) → end ≤ length gs
    → ((i : ℕ) (g : Function) → end ≤ i → i < length gs → g ≡ get_or gs i g → F (take (i + 1) gs) ≡ F (take i gs))
    → F gs ≡ F (take (end - 0) gs)
from_end F gs end small step =
    let all : length gs ≡ end + (length gs - end) = omega (arith, small) in
    let none : end ≡ end - 0 = omega arith in
    ap F (sym (take-length gs)) ∙ ap (λ n. F (take n gs)) all ∙ from_place F gs end (length gs - end) (omega (arith, small)) step
    ∙ ap (λ n. F (take n gs)) none
