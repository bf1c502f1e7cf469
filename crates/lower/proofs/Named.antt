-- The table of sizes has each function of a typed program.
use Rattle.std.proofs.Common.{◌≡◌, ℕ, zero, suc, ◌+◌, ◌*◌, ◌-◌, ◌<◌, ◌≤◌, ◌⊎◌, inl, inr, Bool, true, false, cond, nat_eq, Option, Some, List, [], ◌∷◌, ◌++◌, length, take, get_or, refl, ap, sym, subst, ◌∙◌, eq-eqb, arith}
use Rattle.std.specs.Map.{lookup}
use Rattle.std.proofs.Math.Logic.{∥∥₁_elim}
use Rattle.std.proofs.Math.Seq.{take-length}
use Rattle.std.proofs.lemmas.Bool.{cases_lt}
use Rattle.clmodel.specs.declared.tree.Function.{Function}
use Rattle.clmodel.specs.Tree.{Program, Func, Funcs, ThenFunc, func}
use Rattle.clmodel.specs.Typing.{IsTypedWithin, IsTypedProgram}
use Rattle.clmodel.specs.Typing.Functions.{names, size_of, AreTypedFunctions}
use Rattle.clmodel.specs.Typing.Rules.{length_limit}
use Rattle.clmodel.specs.Typing.Sizes.{Size, or_nothing, row_size, sizes_of, parameter_limit}
use Rattle.lower_code.specs.Helpers.{functions_of, sizes_in, nodes_in, NodesCounted, with_parameters, widths_of, width_of, widths_in, width_in, WidthsCounted, AreNarrow}
use Rattle.lower_code.specs.Room.{FewParameters, FewElements}
use Rattle.lower_code.specs.Trees.{all_of}
use Rattle.lower_code.specs.Variables.{row_elements}
use Rattle.lower_code.proofs.Lists.{functions_more}
use Rattle.lower.specs.Accepted.{Distinct}
use Rattle.lower_code.proofs.Looking.{look_last}
use Rattle.lower_code.proofs.Helpers.{function_there}
use Rattle.lower.proofs.SmallArrays.{row_arrays}
use Rattle.lower.proofs.CallCode.{distinct}
use Rattle.lower.proofs.Narrow.{widths_none, function_narrow}

step_stays : {V : Type 0} (v w : V) (b : Bool) (r other : Option V) → (r ≡ Some w → other ≡ Some w) → cond b (Some v) r ≡ Some w → cond b (Some v) other ≡ Some w
step_stays v w true r other go e = e
step_stays v w false r other go e = go e

-- what is found stays with one more behind
look_stays : {V : Type 0} (test : ℕ → Bool) (entries : List (ℕ × V)) (y : ℕ) (v w : V) → lookup test entries ≡ Some w → lookup test (entries ++ (y, v) ∷ []) ≡ Some w
look_stays test [] y v w e = absurd (cc)
look_stays test (x ∷ entries) y v w e =
    step_stays x.1 w (test x.0) (lookup test entries) (lookup test (entries ++ (y, v) ∷ [])) (λ h. look_stays test entries y v w h) e

-- what functions have that lack the last of others that have it, the first functions have if all have
first_have : (P : Funcs → Type 0) → ((fs : Funcs) (f : Func) → P (ThenFunc fs f) → P fs) → (gs : List Function) (k n : ℕ) → n + k ≡ length gs → P (functions_of gs) → P (functions_of (take n gs))
first_have P fewer gs zero n e h =
    let all : n ≡ length gs = omega (arith, e) in
    subst (λ (fs : List Function). P (functions_of fs)) (sym (ap (λ m. take m gs) all ∙ take-length gs)) h
first_have P fewer gs (suc k) n e h =
    let g = function_there gs n (omega (arith, e)) in
    let more : P (functions_of (take (n + 1) gs)) = first_have P fewer gs k (n + 1) (omega (arith, e)) h in
    fewer (functions_of (take n gs)) (func g.0) (subst P (functions_more gs n g.0 (omega (arith, e)) g.1) more)

-- the first functions have names of their own if all have
first_distinct : (gs : List Function) (k n : ℕ) → n + k ≡ length gs → Distinct (functions_of gs) → Distinct (functions_of (take n gs))
first_distinct = first_have Distinct (λ fs f h. h.0)

-- a function is in the table of those up to it, and of more
found_there : (gs : List Function) (k i : ℕ) (f : Function) → i + 1 + k ≤ length gs → f ≡ get_or gs i f → Distinct (functions_of gs)
    → lookup (nat_eq f.name) (sizes_in (take (i + 1 + k) gs)) ≡ Some (size_of (functions_of (take i gs)) (func f))
found_there gs zero i f small f_is h =
    let next : i + 1 + 0 ≡ i + 1 = omega arith in
    let more = functions_more gs i f (omega (arith, small)) f_is in
    let here : Distinct (functions_of (take (i + 1) gs)) = first_distinct gs (length gs - (i + 1)) (i + 1) (omega (arith, small)) h in
    let apart = (subst Distinct more here).1 in
    ap (λ m. lookup (nat_eq f.name) (sizes_in (take m gs))) next
    ∙ ap (λ fs. lookup (nat_eq f.name) (sizes_of fs)) more
    ∙ look_last (nat_eq f.name) (sizes_in (take i gs)) f.name (size_of (functions_of (take i gs)) (func f)) (eq-eqb f.name f.name refl) apart
found_there gs (suc k) i f small f_is h =
    let n = i + 1 + k in
    let next : i + 1 + suc k ≡ n + 1 = omega arith in
    let g = function_there gs n (omega (arith, small)) in
    let more = functions_more gs n g.0 (omega (arith, small)) g.1 in
    let before = found_there gs k i f (omega (arith, small)) f_is h in
    ap (λ m. lookup (nat_eq f.name) (sizes_in (take m gs))) next
    ∙ ap (λ fs. lookup (nat_eq f.name) (sizes_of fs)) more
    ∙ look_stays (nat_eq f.name) (sizes_in (take n gs)) g.0.name (size_of (functions_of (take n gs)) (func g.0)) _ before

distinct_counted : (gs : List Function) → Distinct (functions_of gs) → (count i : ℕ) (f : Function) → i < count → count ≤ length gs → f ≡ get_or gs i f
    → nodes_in (take count gs) f.name ≡ (size_of (functions_of (take i gs)) (func f)).nodes
distinct_counted gs h count i f below small f_is =
    let k = count - (i + 1) in
    let all : count ≡ i + 1 + k = omega (arith, below) in
    ap (λ m. nodes_in (take m gs) f.name) all
    ∙ ap (λ (o : Option Size). (or_nothing o).nodes) (found_there gs k i f (omega (arith, all, small)) f_is h)

typed_distinct : (p : Program) (gs : List Function) → p.functions ≡ functions_of gs → IsTypedProgram p → Distinct (functions_of gs)
unfolding IsTypedProgram IsTypedWithin
typed_distinct p gs same typed = subst Distinct same (distinct typed.0 (names p.functions) p.functions typed.1)

-- so each function of a typed program has no more nodes than are counted for its name
pub nodes_counted : (p : Program) (gs : List Function) → p.functions ≡ functions_of gs → ∥ IsTypedProgram p ∥₁ → NodesCounted gs
nodes_counted p gs same typed count i f below small f_is = go (cases_lt (nodes_in (take count gs) f.name) (size_of (functions_of (take i gs)) (func f)).nodes)
  where
    go : (nodes_in (take count gs) f.name < (size_of (functions_of (take i gs)) (func f)).nodes) ⊎ ((size_of (functions_of (take i gs)) (func f)).nodes ≤ nodes_in (take count gs) f.name)
        → (size_of (functions_of (take i gs)) (func f)).nodes ≤ nodes_in (take count gs) f.name
    go (inl less) = absurd (∥∥₁_elim typed (λ x y. absurd x) (λ t. let e = distinct_counted gs (typed_distinct p gs same t) count i f below small f_is in omega (arith, e, less)))
    go (inr le) = le

-- the same of the sizes with parameters
wide_there : (gs : List Function) (k i : ℕ) (f : Function) → i + 1 + k ≤ length gs → f ≡ get_or gs i f → Distinct (functions_of gs)
    → lookup (nat_eq f.name) (widths_in (take (i + 1 + k) gs)) ≡ Some (with_parameters (func f) (row_size (widths_in (take i gs)) (func f).body))
wide_there gs zero i f small f_is h =
    let next : i + 1 + 0 ≡ i + 1 = omega arith in
    let more = functions_more gs i f (omega (arith, small)) f_is in
    let here : Distinct (functions_of (take (i + 1) gs)) = first_distinct gs (length gs - (i + 1)) (i + 1) (omega (arith, small)) h in
    let apart = (subst Distinct more here).1 in
    ap (λ m. lookup (nat_eq f.name) (widths_in (take m gs))) next
    ∙ ap (λ fs. lookup (nat_eq f.name) (widths_of fs)) more
    ∙ look_last (nat_eq f.name) (widths_in (take i gs)) f.name (with_parameters (func f) (row_size (widths_in (take i gs)) (func f).body)) (eq-eqb f.name f.name refl)
    (widths_none (functions_of (take i gs)) (nat_eq f.name) apart)
wide_there gs (suc k) i f small f_is h =
    let n = i + 1 + k in
    let next : i + 1 + suc k ≡ n + 1 = omega arith in
    let g = function_there gs n (omega (arith, small)) in
    let more = functions_more gs n g.0 (omega (arith, small)) g.1 in
    let before = wide_there gs k i f (omega (arith, small)) f_is h in
    ap (λ m. lookup (nat_eq f.name) (widths_in (take m gs))) next
    ∙ ap (λ fs. lookup (nat_eq f.name) (widths_of fs)) more
    ∙ look_stays (nat_eq f.name) (widths_in (take n gs)) g.0.name (with_parameters (func g.0) (row_size (widths_in (take n gs)) (func g.0).body)) _ before

distinct_wide : (gs : List Function) → Distinct (functions_of gs) → (count i : ℕ) (f : Function) → i < count → count ≤ length gs → f ≡ get_or gs i f
    → width_in (take count gs) f.name ≡ width_of (functions_of (take i gs)) (func f)
distinct_wide gs h count i f below small f_is =
    let k = count - (i + 1) in
    let all : count ≡ i + 1 + k = omega (arith, below) in
    ap (λ m. width_in (take m gs) f.name) all
    ∙ ap (λ (o : Option Size). (or_nothing o).nodes) (wide_there gs k i f (omega (arith, all, small)) f_is h)

pub widths_counted : (p : Program) (gs : List Function) → p.functions ≡ functions_of gs → ∥ IsTypedProgram p ∥₁ → WidthsCounted gs
widths_counted p gs same typed count i f below small f_is = go (cases_lt (width_in (take count gs) f.name) (width_of (functions_of (take i gs)) (func f)))
  where
    go : (width_in (take count gs) f.name < width_of (functions_of (take i gs)) (func f)) ⊎ (width_of (functions_of (take i gs)) (func f) ≤ width_in (take count gs) f.name)
        → width_of (functions_of (take i gs)) (func f) ≤ width_in (take count gs) f.name
    go (inl less) = absurd (∥∥₁_elim typed (λ x y. absurd x) (λ t. let e = distinct_wide gs (typed_distinct p gs same t) count i f below small f_is in omega (arith, e, less)))
    go (inr le) = le

typed_narrow : (p : Program) (gs : List Function) → p.functions ≡ functions_of gs → IsTypedProgram p → AreNarrow gs
unfolding IsTypedProgram IsTypedWithin
typed_narrow p gs same typed i f below f_is =
    let Typed = AreTypedFunctions typed.0 (names p.functions) in
    let first = first_have Typed (λ fs g h. h.0) gs (length gs - (i + 1)) (i + 1) (omega (arith, below)) (subst Typed same typed.1) in
    let its = subst Typed (functions_more gs i f below f_is) first in
    function_narrow typed.0 (names p.functions) (functions_of (take i gs)) (func f) its.0 its.1

-- with the parameters of helpers it has at most twice as many
pub are_narrow : (p : Program) (gs : List Function) → p.functions ≡ functions_of gs → ∥ IsTypedProgram p ∥₁ → AreNarrow gs
are_narrow p gs same typed i f below f_is =
    go (cases_lt (2 * (row_size (sizes_in (take i gs)) (all_of f.body.items)).nodes) (row_size (widths_in (take i gs)) (all_of f.body.items)).nodes)
  where
    go : (2 * (row_size (sizes_in (take i gs)) (all_of f.body.items)).nodes < (row_size (widths_in (take i gs)) (all_of f.body.items)).nodes)
        ⊎ ((row_size (widths_in (take i gs)) (all_of f.body.items)).nodes ≤ 2 * (row_size (sizes_in (take i gs)) (all_of f.body.items)).nodes)
        → (row_size (widths_in (take i gs)) (all_of f.body.items)).nodes ≤ 2 * (row_size (sizes_in (take i gs)) (all_of f.body.items)).nodes
    go (inl more) = absurd (∥∥₁_elim typed (λ x y. absurd x) (λ t. let few = typed_narrow p gs same t i f below f_is in omega (arith, few, more)))
    go (inr few) = few

typed_few : (p : Program) (gs : List Function) → p.functions ≡ functions_of gs → IsTypedProgram p → FewParameters gs
unfolding IsTypedProgram IsTypedWithin
typed_few p gs same typed i f below f_is =
    let Typed = AreTypedFunctions typed.0 (names p.functions) in
    let first = first_have Typed (λ fs g h. h.0) gs (length gs - (i + 1)) (i + 1) (omega (arith, below)) (subst Typed same typed.1) in
    (subst Typed (functions_more gs i f below f_is) first).1.few

-- and few parameters
pub few_parameters : (p : Program) (gs : List Function) → p.functions ≡ functions_of gs → ∥ IsTypedProgram p ∥₁ → FewParameters gs
few_parameters p gs same typed i f below f_is = go (cases_lt parameter_limit (length f.parameters.items))
  where
    go : (parameter_limit < length f.parameters.items) ⊎ (length f.parameters.items ≤ parameter_limit) → length f.parameters.items ≤ parameter_limit
    go (inl more) = absurd (∥∥₁_elim typed (λ x y. absurd x) (λ t. let few = typed_few p gs same t i f below f_is in omega (arith, few, more)))
    go (inr few) = few

typed_elements : (p : Program) (gs : List Function) → p.functions ≡ functions_of gs → IsTypedProgram p → FewElements gs
unfolding IsTypedProgram IsTypedWithin
typed_elements p gs same typed i f below f_is =
    let Typed = AreTypedFunctions typed.0 (names p.functions) in
    let first = first_have Typed (λ fs g h. h.0) gs (length gs - (i + 1)) (i + 1) (omega (arith, below)) (subst Typed same typed.1) in
    row_arrays _ _ (subst Typed (functions_more gs i f below f_is) first).1.body

-- and arrays with few elements
pub few_elements : (p : Program) (gs : List Function) → p.functions ≡ functions_of gs → ∥ IsTypedProgram p ∥₁ → FewElements gs
few_elements p gs same typed i f below f_is = go (cases_lt length_limit (row_elements (all_of f.body.items)))
  where
    go : (length_limit < row_elements (all_of f.body.items)) ⊎ (row_elements (all_of f.body.items) ≤ length_limit) → row_elements (all_of f.body.items) ≤ length_limit
    go (inl more) = absurd (∥∥₁_elim typed (λ x y. absurd x) (λ t. let few = typed_elements p gs same t i f below f_is in omega (arith, few, more)))
    go (inr few) = few
