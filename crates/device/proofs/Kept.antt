-- Each kernel has its program and its code, and few arguments.
use Rattle.std.proofs.Common.{◌≡◌, ℕ, ◌+◌, ◌*◌, ◌<◌, ◌≤◌, ◌⊎◌, inl, inr, Bool, true, false, cond, List, [], ◌∷◌, ◌++◌, length, Option, None, Some, is_some, Result, Ok, Err, IfOk, OnOk, OnErr, IfSome, refl, ap, sym, ◌∙◌, subst, arith}
use Rattle.std.proofs.Math.Logic.{∥∥₁_elim}
use Rattle.std.proofs.lemmas.Bool.{cases_lt}
use Rattle.std.proofs.lemmas.List.{map-append, length-map, length-set, length-replicate}
use Rattle.std.proofs.lemmas.List.Elements.{All-push, All-weaker}
use Rattle.std.proofs.lemmas.Map.Views.{All-values-set_value, IfSome-lookup_from_All}
use Rattle.std.specs.List.{All}
use Rattle.std.specs.Map.{lookup, set_value, values_of}
use Rattle.clmodel.specs.Setup.{Setup}
use Rattle.clmodel.specs.Tree.{Program, program, func}
use Rattle.clmodel.specs.Typing.{IsTypedProgram}
use Rattle.clmodel.specs.Typing.Sizes.{node_limit, parameter_limit}
use Rattle.clmodel.specs.declared.setup.Argument.{Argument}
use Rattle.clmodel.specs.declared.tree.Function.{Function}
use Rattle.cltypes.specs.declared.checked.Checked.{Checked}
use Rattle.cltypes.specs.Kernels.{IsKernel}
use Rattle.host_commands.specs.Kernels.{KernelState, new_kernel}
use Rattle.item_step.specs.Launches.{code_of, setup_of}
use Rattle.item_step.specs.declared.launch.Launch.{Launch}
use Rattle.lower.proofs.Lowered.{few_arguments}
use Rattle.lower.specs.Bounds.{TypedKernelsFit, per_node}
use Rattle.lower.specs.Lists.{Lists}
use Rattle.lower.specs.Lowers.{IsLowered}
use Rattle.regcode.specs.Listing.{Listing}
use Rattle.renumbering.specs.Renamed.{renamed}
use Rattle.renumbering.specs.Same.{IsRenumbered}
use Rattle.spaces.specs.Tables.{Table, is, find}
use Rattle.device.specs.declared.compiled.CompiledKernel.{CompiledKernel}
use Rattle.device.specs.Kept.{ActsAs, IsCodeOf, IsCompiled, AllCompiled, with_argument_set}

-- what is found is found among more
found_among_more : {A B : Type 0} (test : A → Bool) (es : List (A × B)) (last : A × B) → is_some (lookup test es) ≡ true → lookup test (es ++ last ∷ []) ≡ lookup test es
found_among_more test [] last there = cc
found_among_more {A} {B} test (e ∷ es) last there = by (test e.0) (found_among_more test es last) there
  where
    by : (t : Bool) → (is_some (lookup test es) ≡ true → lookup test (es ++ last ∷ []) ≡ lookup test es) → is_some (cond t (Some e.1) (lookup test es)) ≡ true
        → cond t (Some e.1) (lookup test (es ++ last ∷ [])) ≡ cond t (Some e.1) (lookup test es)
    by true rest there = refl
    by false rest there = rest there

-- a kernel stays compiled where its program stays
pub still_compiled : (programs new : Table Checked) (compiled : CompiledKernel) → find new compiled.kernel.program ≡ find programs compiled.kernel.program → IsCompiled programs compiled → IsCompiled new compiled
still_compiled programs new compiled same was =
    record {
      there = ap is_some same ∙ was.there;
      acts_as = λ checked found. was.acts_as checked (sym same ∙ found);
      code_of = λ checked found. was.code_of checked (sym same ∙ found);
      few = was.few;
    }

-- one program more
kept_with_program : (programs : Table Checked) (kernels : Table CompiledKernel) (name : List ℕ) (checked : Checked) → AllCompiled programs kernels
    → AllCompiled (programs ++ (name, checked) ∷ []) kernels
kept_with_program programs kernels name checked kept =
    All-weaker (IsCompiled programs) (IsCompiled (programs ++ (name, checked) ∷ []))
    (λ c was. still_compiled programs (programs ++ (name, checked) ∷ []) c (found_among_more (is c.kernel.program) programs (name, checked) was.there) was)
    (values_of kernels) kept

-- a program that was added, or not
pub kept_after_program : {E : Type 0} (programs new : Table Checked) (kernels : Table CompiledKernel) (name : List ℕ) (checked : Checked) (added : Result (Unit {0}) E)
    → AllCompiled programs kernels → OnOk added (new ≡ programs ++ (name, checked) ∷ []) → OnErr added (new ≡ programs) → AllCompiled new kernels
kept_after_program programs new kernels name checked (Ok u) kept ok err = subst (λ (ps : Table Checked). AllCompiled ps kernels) (sym ok) (kept_with_program programs kernels name checked kept)
kept_after_program programs new kernels name checked (Err e) kept ok err = subst (λ (ps : Table Checked). AllCompiled ps kernels) (sym err) kept

-- one kernel more
kept_with_kernel : (programs : Table Checked) (kernels : Table CompiledKernel) (name : List ℕ) (compiled : CompiledKernel) → AllCompiled programs kernels → IsCompiled programs compiled
    → AllCompiled programs (kernels ++ (name, compiled) ∷ [])
kept_with_kernel programs kernels name compiled kept is_compiled =
    subst (λ (cs : List CompiledKernel). All (IsCompiled programs) cs) (sym (map-append (λ (e : List ℕ × CompiledKernel). e.1) kernels ((name, compiled) ∷ [])))
    (All-push (IsCompiled programs) (values_of kernels) compiled kept is_compiled)

-- a kernel that was added, or not
pub kept_after_kernel : {E : Type 0} (programs : Table Checked) (kernels new : Table CompiledKernel) (name : List ℕ) (compiled : CompiledKernel) (added : Result (Unit {0}) E)
    → AllCompiled programs kernels → IsCompiled programs compiled → OnOk added (new ≡ kernels ++ (name, compiled) ∷ []) → OnErr added (new ≡ kernels) → AllCompiled programs new
kept_after_kernel programs kernels new name compiled (Ok u) kept is_compiled ok err = subst (λ (ks : Table CompiledKernel). AllCompiled programs ks) (sym ok) (kept_with_kernel programs kernels name compiled kept is_compiled)
kept_after_kernel programs kernels new name compiled (Err e) kept is_compiled ok err = subst (λ (ks : Table CompiledKernel). AllCompiled programs ks) (sym err) kept

-- a kernel that is found
pub found_is_compiled : (programs : Table Checked) (kernels : Table CompiledKernel) (name : List ℕ) (compiled : CompiledKernel) → AllCompiled programs kernels → find kernels name ≡ Some compiled
    → IsCompiled programs compiled
found_is_compiled programs kernels name compiled kept found =
    subst (λ (o : Option CompiledKernel). IfSome o (IsCompiled programs)) found (IfSome-lookup_from_All (IsCompiled programs) (is name) kernels kept)

-- another argument
pub kept_with_argument : (programs : Table Checked) (kernels : Table CompiledKernel) (name : List ℕ) (compiled : CompiledKernel) (index : ℕ) (argument : Argument) → AllCompiled programs kernels
    → find kernels name ≡ Some compiled → AllCompiled programs (set_value (is name) kernels (with_argument_set compiled index argument))
kept_with_argument programs kernels name compiled index argument kept found =
    let was : IsCompiled programs compiled = found_is_compiled programs kernels name compiled kept found in
    All-values-set_value (is name) (IsCompiled programs) kernels (with_argument_set compiled index argument) kept
    (record { there = was.there; acts_as = was.acts_as; code_of = was.code_of; few = omega (arith, length-set compiled.kernel.arguments index (Some argument), was.few) })

-- a kernel that was made of one that was found in a checked program has few arguments
pub made_has_few : (checked : Checked) (place : ℕ) (function : Function) (program_name : List ℕ) (kernel : KernelState) → IsKernel checked.tree place function
    → kernel ≡ new_kernel program_name function.name (length function.parameters.items) → length kernel.arguments ≤ parameter_limit
made_has_few checked place function program_name kernel found made =
    let given : length kernel.arguments ≡ length function.parameters.items = ap (λ k. length k.arguments) made ∙ length-replicate (length function.parameters.items) None in
    let few : length function.parameters.items ≤ parameter_limit = few_arguments (program checked.tree) function.name checked.typed (func function) found.there in
    omega (arith, given, few)

-- code with other registers that acts alike is a kernel's code too
pub renumbered_is_lowered : (program : Program) (number : ℕ) (code same : Listing) → IsLowered program number code → IsRenumbered code same → IsLowered program number same
renumbered_is_lowered program number code same lowered is =
    record {
      there = lowered.there;
      acts_as = λ setup of_program of_kernel item answers. is.acts setup item answers ∙ lowered.acts_as setup of_program of_kernel item answers;
    }

-- and it is that of the kernel, and short
pub renumbered_is_code : (program : Program) (number : ℕ) (code same : Listing) → TypedKernelsFit → ∥ IsTypedProgram program ∥₁ → Lists program.functions number code → IsRenumbered code same
    → IsCodeOf program number same
unfolding TypedKernelsFit
renumbered_is_code program number code same law typed lists is =
    ∣ record { defined = code; lists = lists; renumbered = is; short = go (cases_lt most (length same.instructions)) } ∣₁
  where
    most : ℕ
    most = per_node * node_limit + parameter_limit + 2

    many : length same.instructions ≡ length code.instructions
    many = ap (λ l. length l) is.renamed.1 ∙ length-map code.instructions (renamed is.renamed.0)

    go : (most < length same.instructions) ⊎ (length same.instructions ≤ most) → length same.instructions ≤ most
    go (inl more) = absurd (∥∥₁_elim typed (λ x y. absurd x) (λ t. let few = (law program number lists.function t lists.there).0 in omega (arith, few, ap (λ (c : Listing). length c.instructions) lists.same, many, more)))
    go (inr few) = few

-- the code that a launch of it runs
pub launched_code : {E : Type 0} (launched : Result Launch E) (given setup : Setup) (code : Listing) → IfOk launched (λ launch. setup_of launch ≡ given) → IfOk launched (λ launch. code_of launch ≡ code)
    → given ≡ setup → IsCodeOf setup.program setup.kernel code → IfOk launched (λ launch. IsCodeOf (setup_of launch).program (setup_of launch).kernel (code_of launch))
launched_code (Ok launch) given setup code runs has same is =
    subst (λ (s : Setup). IsCodeOf s.program s.kernel (code_of launch)) (sym (runs ∙ same))
    (subst (λ (c : Listing). IsCodeOf setup.program setup.kernel c) (sym has) is)
launched_code (Err e) given setup code runs has same is = tt

-- a kernel that was made of a program that is there
pub made_is_compiled : (programs : Table Checked) (compiled : CompiledKernel) (checked : Checked) → find programs compiled.kernel.program ≡ Some checked
    → IsLowered (program checked.tree) compiled.kernel.function compiled.code → IsCodeOf (program checked.tree) compiled.kernel.function compiled.code
    → length compiled.kernel.arguments ≤ parameter_limit → IsCompiled programs compiled
made_is_compiled programs compiled checked found lowered code few =
    record {
      there = ap is_some found;
      acts_as = λ other found_too. subst (λ (c : Checked). ActsAs (program c.tree) compiled.kernel.function compiled.code) (some_is (sym found ∙ found_too)) lowered.acts_as;
      code_of = λ other found_too. subst (λ (c : Checked). IsCodeOf (program c.tree) compiled.kernel.function compiled.code) (some_is (sym found ∙ found_too)) code;
      few = few;
    }
  where
    some_is : {A : Type 0} {a b : A} → Some a ≡ Some b → a ≡ b
    some_is e = cc

-- the code of a kernel that is found with its program
pub code_acts : (programs : Table Checked) (kernels : Table CompiledKernel) (name : List ℕ) (compiled : CompiledKernel) (checked : Checked) → AllCompiled programs kernels
    → find kernels name ≡ Some compiled → find programs compiled.kernel.program ≡ Some checked → ActsAs (program checked.tree) compiled.kernel.function compiled.code
code_acts programs kernels name compiled checked kept found there = (found_is_compiled programs kernels name compiled kept found).acts_as checked there

-- which is that of the program's kernel
pub code_is_of : (programs : Table Checked) (kernels : Table CompiledKernel) (name : List ℕ) (compiled : CompiledKernel) (checked : Checked) → AllCompiled programs kernels
    → find kernels name ≡ Some compiled → find programs compiled.kernel.program ≡ Some checked → IsCodeOf (program checked.tree) compiled.kernel.function compiled.code
code_is_of programs kernels name compiled checked kept found there = (found_is_compiled programs kernels name compiled kept found).code_of checked there

-- and its arguments are few
pub code_has_few : (programs : Table Checked) (kernels : Table CompiledKernel) (name : List ℕ) (compiled : CompiledKernel) → AllCompiled programs kernels
    → find kernels name ≡ Some compiled → length compiled.kernel.arguments ≤ parameter_limit
code_has_few programs kernels name compiled kept found = (found_is_compiled programs kernels name compiled kept found).few
