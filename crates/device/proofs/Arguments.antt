-- From an argument that was set to the machine's answer.
use Rattle.std.proofs.Common.{◌≡◌, ℕ, Bool, true, false, not, List, [], ◌∷◌, Some, Option, map, refl, ap, sym, ◌∙◌, subst, slice_get}
use Rattle.std.specs.Map.{set_value}
use Rattle.std.specs.Option.{MatchOption, option_map_or}
use Rattle.device.specs.declared.compiled.CompiledKernel.{CompiledKernel}
use Rattle.device.specs.Kept.{with_argument_set}
use Rattle.device.proofs.Programs.{set_kernel}
use Rattle.clmodel.specs.Tree.{Program}
use Rattle.clmodel.specs.declared.setup.Argument.{Argument}
use Rattle.clmodel.specs.declared.tree.Parameter.{Parameter}
use Rattle.host_commands.specs.Kernels.{KernelState, parameters_of, suits, with_argument}
use Rattle.spaces.specs.Tables.{Table, is, find}
use Rattle.host_commands.specs.declared.command.Command.TheVariants as command
use Rattle.host_commands.specs.declared.command.Refusal.{Refusal}
use Rattle.host_commands.specs.declared.command.Refusal.TheVariants.{NoSuchName, BadArgument}
use Rattle.host_commands.specs.declared.command.Reply.TheVariants as reply
use Rattle.device.specs.Machine.{Machine, Answers, Does, first, has_kernel, kernel_of, program_of, fits, is_there}

-- none of three refusals
none_of_three : (a b c : Bool) (x y z : Refusal) (D : Type 0) (R : Refusal → Type 0) → a ≡ true → b ≡ true → c ≡ true → D → MatchOption (first ((not a, x) ∷ (not b, y) ∷ (not c, z) ∷ [])) D R
none_of_three true true true x y z D R p q r d = d
none_of_three false b c x y z D R p q r d = cc
none_of_three true false c x y z D R p q r d = cc
none_of_three true true false x y z D R p q r d = cc

-- an argument that suits a kernel's parameter
pub suits_there : (m : Machine) (name : List ℕ) (p : Program) (kernel : KernelState) (number index : ℕ) (parameters : List Parameter) (parameter : Parameter) (argument : Argument)
    → p ≡ program_of m (kernel_of m name).program → kernel ≡ kernel_of m name → number ≡ kernel.function → parameters ≡ parameters_of p number
    → slice_get parameters index ≡ Some parameter → suits m.configuration.limits parameter.kind argument ≡ true → fits m (kernel_of m name) index argument ≡ true
suits_there m name p kernel number index parameters parameter argument of_program of_kernel of_function of_parameters found suiting =
    let same : parameters ≡ parameters_of (program_of m (kernel_of m name).program) (kernel_of m name).function =
    of_parameters ∙ ap (λ q. parameters_of q number) of_program
    ∙ ap (parameters_of (program_of m (kernel_of m name).program)) (of_function ∙ ap (λ k. k.function) of_kernel) in
    ap (λ ps. option_map_or (λ p. suits m.configuration.limits p.kind argument) (slice_get ps index) false) (sym same)
    ∙ ap (λ o. option_map_or (λ p. suits m.configuration.limits p.kind argument) o false) found ∙ suiting

pub set_answers : (old new : Machine) (name : List ℕ) (index : ℕ) (argument : Argument) → has_kernel old name ≡ true → fits old (kernel_of old name) index argument ≡ true
    → is_there old argument ≡ true → new ≡ record old { kernels = set_value (is name) old.kernels (with_argument (kernel_of old name) index argument) }
    → Answers old (command.Arg name index argument) reply.Done new
set_answers old new name index argument has suiting there is_new =
    none_of_three (has_kernel old name) (fits old (kernel_of old name) index argument) (is_there old argument) NoSuchName BadArgument NoSuchName
    (Does old (command.Arg name index argument) reply.Done new) _ has suiting there (refl, is_new)

-- the argument of a kernel that is there
pub argument_set : (kernels new : Table CompiledKernel) (name : List ℕ) (compiled : CompiledKernel) (index : ℕ) (argument : Argument) → find kernels name ≡ Some compiled
    → MatchOption (find kernels name) (new ≡ kernels) (λ k. new ≡ set_value (is name) kernels (with_argument_set k index argument))
    → new ≡ set_value (is name) kernels (with_argument_set compiled index argument)
argument_set kernels new name compiled index argument found h =
    subst (λ (o : Option CompiledKernel). MatchOption o (new ≡ kernels) (λ k. new ≡ set_value (is name) kernels (with_argument_set k index argument))) found h

-- the same of the machine's kernel
pub argument_seen : (kernels new : Table CompiledKernel) (name : List ℕ) (compiled : CompiledKernel) (kernel : KernelState) (index : ℕ) (argument : Argument) → compiled.kernel ≡ kernel
    → new ≡ set_value (is name) kernels (with_argument_set compiled index argument)
    → map (λ e. (e.0, e.1.kernel)) new ≡ set_value (is name) (map (λ e. (e.0, e.1.kernel)) kernels) (with_argument kernel index argument)
argument_seen kernels new name compiled kernel index argument is_kernel is_new =
    ap (map (λ (e : List ℕ × CompiledKernel). (e.0, e.1.kernel))) is_new
    ∙ set_kernel kernels name (with_argument_set compiled index argument)
    ∙ ap (λ k. set_value (is name) (map (λ e. (e.0, e.1.kernel)) kernels) (with_argument k index argument)) is_kernel
