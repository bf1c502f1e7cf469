-- What the commands before a launch, each of which was done or refused, tell of its program (own; OpenCL 1.2, sections
-- 5.6 and 5.7).
use Rattle.std.specs.Prelude.{◌≡◌, ◌⊎◌, ℕ, ◌<◌, ◌&&◌, Bool, true, false, Option, None, Some, List, length, slice_get, option_and_then}
use Rattle.std.specs.Option.{option_map_or, unwrap_or}
use Rattle.clmodel.specs.Setup.{same_text}
use Rattle.host_commands.specs.declared.command.Command.{Command}
use Rattle.host_commands.specs.declared.command.Command.TheVariants as command

abbrev pub makes_kernel : List ℕ → Command → Bool
makes_kernel wanted (command.Kernel name program function) = same_text name wanted
makes_kernel wanted _ = false

abbrev pub makes_program : List ℕ → Command → Bool
makes_program wanted (command.Program name source) = same_text name wanted
makes_program wanted _ = false

-- the program and the function of the kernel that a command makes
abbrev pub kernel_names : Command → Option (List ℕ × List ℕ)
kernel_names (command.Kernel name program function) = Some (program, function)
kernel_names _ = None

-- the source of the program that a command makes
abbrev pub program_source : Command → Option (List ℕ)
program_source (command.Program name source) = Some source
program_source _ = None

abbrev pub was_done : List Bool → ℕ → Bool
was_done done number = unwrap_or (slice_get done number) false

-- the command of a number was done, and is such
abbrev pub did : (Command → Bool) → List Command → List Bool → ℕ → Bool
did is_such commands done number = option_map_or is_such (slice_get commands number) false && was_done done number

-- the last number below n of which p holds, if it holds of any
abbrev pub IsLast : (ℕ → Bool) → ℕ → Option ℕ → Type 0
IsLast p n None = (k : ℕ) → k < n → p k ≡ false
IsLast p n (Some last) = (last < n) × (p last ≡ true) × ((k : ℕ) → last < k → k < n → p k ≡ false)

-- the kernel of a name is that of the last command that was done and made it, and the source that of the last one
-- before it that made its program
pub record IsSource (commands : List Command) (done : List Bool) (kernel : List ℕ) (kernel_at : ℕ) (program function text : List ℕ) (program_at : ℕ) : Type 0 where
  pub kernel_last : IsLast (did (makes_kernel kernel) commands done) (length commands) (Some kernel_at)
  pub names : option_and_then kernel_names (slice_get commands kernel_at) ≡ Some (program, function)
  pub program_last : IsLast (did (makes_program program) commands done) kernel_at (Some program_at)
  pub source : option_and_then program_source (slice_get commands program_at) ≡ Some text

-- the kernel of a name is that of the last command that was done and made it, and no command before it that was done
-- made its program
pub record LacksProgram (commands : List Command) (done : List Bool) (kernel : List ℕ) : Type 0 where
  pub kernel_at : ℕ
  pub program : List ℕ
  pub function : List ℕ
  pub kernel_last : IsLast (did (makes_kernel kernel) commands done) (length commands) (Some kernel_at)
  pub names : option_and_then kernel_names (slice_get commands kernel_at) ≡ Some (program, function)
  pub no_program : IsLast (did (makes_program program) commands done) kernel_at None

-- there is no source: no command that was done made the kernel, or none before it its program
abbrev pub HasNoSource : List Command → List Bool → List ℕ → Type 0
HasNoSource commands done kernel = IsLast (did (makes_kernel kernel) commands done) (length commands) None ⊎ LacksProgram commands done kernel
