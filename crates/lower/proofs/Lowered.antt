-- The kernel of a name, its code with tables, and what is promised of it.
use Rattle.std.proofs.Common.{◌≡◌, ℕ, ◌*◌, ◌<◌, ◌≤◌, ◌^◌, ◌⊎◌, inl, inr, Some, length, take, ap, ap₂, sym, ◌∙◌, subst, arith}
use Rattle.std.proofs.Math.Logic.{∥∥₁_elim}
use Rattle.std.proofs.lemmas.Bool.{cases_lt}
use Rattle.clmodel.specs.Next.{all_sites, sites_in}
use Rattle.clmodel.specs.Setup.{kernel_in, functions_before}
use Rattle.clmodel.specs.Tree.{Program, Func, program, func}
use Rattle.clmodel.specs.Typing.{IsTypedProgram}
use Rattle.clmodel.specs.Typing.Functions.{size_of}
use Rattle.clmodel.specs.Typing.Rules.{length_limit}
use Rattle.clmodel.specs.Typing.Sizes.{row_size, node_limit, parameter_limit}
use Rattle.clmodel.specs.declared.tree.Function.{Function}
use Rattle.clmodel.specs.declared.tree.Tree.{Tree}
use Rattle.cltypes.specs.Kernels.{IsKernel}
use Rattle.regcode.specs.Listing.{Listing}
use Rattle.regcode.specs.Rules.{IsVerified}
use Rattle.lower_code.specs.Code.{kernel_code}
use Rattle.lower_code.specs.Helpers.{widths_of}
use Rattle.lower_code.specs.Variables.{row_elements}
use Rattle.lower.specs.Accepted.{TypedKernelsVerified}
use Rattle.lower.specs.Bounds.{IsWithinLimits, TypedKernelsFewBarriers, TypedKernelsShort}
use Rattle.lower.specs.Correct.{ActsAsTheTree}
use Rattle.lower.specs.Lists.{Lists}
use Rattle.lower.specs.Lowers.{IsLowered}
use Rattle.lower.proofs.FitKernels.{few_parameters}
use Rattle.lower.proofs.Narrow.{kernel_narrow}
use Rattle.lower.proofs.SmallArrays.{kernel_arrays}

-- what is made of a typed program's kernel is verified
lists_verified : (p : Program) (number : ℕ) (code : Listing) → TypedKernelsVerified → IsTypedProgram p → Lists p.functions number code → IsVerified code
unfolding TypedKernelsVerified
lists_verified p number code law typed lists = subst IsVerified (sym lists.same) (law p number lists.function typed lists.there)

pub never_rejected : (p : Program) (number : ℕ) (code : Listing) → TypedKernelsVerified → ∥ IsTypedProgram p ∥₁ → Lists p.functions number code → (IsVerified code → ⊥) → ⊥
never_rejected p number code law typed lists rejected = ∥∥₁_elim typed (λ x y. absurd x) (λ t. rejected (lists_verified p number code law t lists))

-- a typed program's kernel has few barriers
few_barriers : (p : Program) (number : ℕ) → TypedKernelsFewBarriers → ∥ IsTypedProgram p ∥₁ → (f : Func) → kernel_in p.functions number ≡ Some f → all_sites (sites_in (functions_before p.functions number)) f.body < 2 ^ 32
unfolding TypedKernelsFewBarriers
few_barriers p number law typed f is = go (cases_lt (all_sites (sites_in (functions_before p.functions number)) f.body) (2 ^ 32))
  where
    go : (all_sites (sites_in (functions_before p.functions number)) f.body < 2 ^ 32) ⊎ (2 ^ 32 ≤ all_sites (sites_in (functions_before p.functions number)) f.body)
        → all_sites (sites_in (functions_before p.functions number)) f.body < 2 ^ 32
    go (inl few) = few
    go (inr many) = absurd (∥∥₁_elim typed (λ x y. absurd x) (λ t. let most = law p number f t is in omega (arith, most, many)))

-- and few nodes
few_nodes : (p : Program) (number : ℕ) → TypedKernelsShort → ∥ IsTypedProgram p ∥₁ → (f : Func) → kernel_in p.functions number ≡ Some f → (size_of (functions_before p.functions number) f).nodes ≤ node_limit
unfolding TypedKernelsShort
few_nodes p number law typed f is = go (cases_lt node_limit (size_of (functions_before p.functions number) f).nodes)
  where
    go : (node_limit < (size_of (functions_before p.functions number) f).nodes) ⊎ ((size_of (functions_before p.functions number) f).nodes ≤ node_limit)
        → (size_of (functions_before p.functions number) f).nodes ≤ node_limit
    go (inl many) = absurd (∥∥₁_elim typed (λ x y. absurd x) (λ t. let most = (law p number f t is).1 in omega (arith, most, many)))
    go (inr few) = few

-- also with the parameters of helpers
narrow_kernel : (p : Program) (number : ℕ) → ∥ IsTypedProgram p ∥₁ → (f : Func) → kernel_in p.functions number ≡ Some f → (row_size (widths_of (functions_before p.functions number)) f.body).nodes ≤ 2 * node_limit
narrow_kernel p number typed f is = go (cases_lt (2 * node_limit) (row_size (widths_of (functions_before p.functions number)) f.body).nodes)
  where
    go : (2 * node_limit < (row_size (widths_of (functions_before p.functions number)) f.body).nodes) ⊎ ((row_size (widths_of (functions_before p.functions number)) f.body).nodes ≤ 2 * node_limit)
        → (row_size (widths_of (functions_before p.functions number)) f.body).nodes ≤ 2 * node_limit
    go (inl more) = absurd (∥∥₁_elim typed (λ x y. absurd x) (λ t. let most = kernel_narrow p number f t is in omega (arith, most, more)))
    go (inr few) = few

-- and few parameters
pub few_arguments : (p : Program) (number : ℕ) → ∥ IsTypedProgram p ∥₁ → (f : Func) → kernel_in p.functions number ≡ Some f → length f.parameters ≤ parameter_limit
few_arguments p number typed f is = go (cases_lt parameter_limit (length f.parameters))
  where
    go : (parameter_limit < length f.parameters) ⊎ (length f.parameters ≤ parameter_limit) → length f.parameters ≤ parameter_limit
    go (inl more) = absurd (∥∥₁_elim typed (λ x y. absurd x) (λ t. let most = few_parameters p number f t is in omega (arith, most, more)))
    go (inr few) = few

-- and arrays with few elements
small_arrays : (p : Program) (number : ℕ) → ∥ IsTypedProgram p ∥₁ → (f : Func) → kernel_in p.functions number ≡ Some f → row_elements f.body ≤ length_limit
small_arrays p number typed f is = go (cases_lt length_limit (row_elements f.body))
  where
    go : (length_limit < row_elements f.body) ⊎ (row_elements f.body ≤ length_limit) → row_elements f.body ≤ length_limit
    go (inl more) = absurd (∥∥₁_elim typed (λ x y. absurd x) (λ t. let most = kernel_arrays p number f t is in omega (arith, most, more)))
    go (inr few) = few

-- so a typed program's kernel is within the limits
pub within_limits : (tree : Tree) (place : ℕ) (function : Function) → TypedKernelsFewBarriers → TypedKernelsShort → ∥ IsTypedProgram (program tree) ∥₁
    → IsKernel tree place function → IsWithinLimits (take place tree.functions.items) function
within_limits tree place function few short typed found =
    let p = program tree in
    let f = func function in
    record {
      few = subst (λ fs. all_sites (sites_in fs) f.body < 2 ^ 32) (sym found.before) (few_barriers p function.name few typed f found.there);
      small = subst (λ fs. (size_of fs f).nodes ≤ node_limit) (sym found.before) (few_nodes p function.name short typed f found.there);
      wide = subst (λ fs. (row_size (widths_of fs) f.body).nodes ≤ 2 * node_limit) (sym found.before) (narrow_kernel p function.name typed f found.there);
      parameters = few_arguments p function.name typed f found.there;
      arrays = small_arrays p function.name typed f found.there;
    }

-- it is the code that is defined for the kernel
pub lists_same : (p : Program) (number : ℕ) (code made : Listing) → code ≡ made → Lists p.functions number made → Lists p.functions number code
lists_same p number code made same lists = subst (λ l. Lists p.functions number l) (sym same) lists

-- it acts as the kernel's tree
pub lists_lowered : (p : Program) (number : ℕ) (code made : Listing) → ActsAsTheTree → code ≡ made → Lists p.functions number made → IsLowered p number code
unfolding ActsAsTheTree
lists_lowered p number code made law same lists = record {
  there = (lists.function, lists.there);
  acts_as = λ setup program kernel item answers.
      law setup lists.function code
      (ap₂ (λ (q : Program) k. kernel_in q.functions k) program kernel ∙ lists.there)
      (ap (λ l. l.instructions) (same ∙ lists.same) ∙ sym (ap₂ (λ (q : Program) k. kernel_code (functions_before q.functions k) lists.function) program kernel))
      item answers;
}
