-- Kernels with their arguments (OpenCL 1.2, 5.7).
use Rattle.std.specs.Prelude.{ℕ, ℤ, Bool, true, false, not, ◌&&◌, nat_le, int_le, List, Option, None, Some, slice_set, [], replicate}
use Rattle.std.specs.Option.{option_map_or}
use Rattle.clnum.specs.Integer.{least, greatest}
use Rattle.clnum.specs.declared.int_type.IntType.{IntType}
use Rattle.clmodel.specs.Tree.{Program}
use Rattle.clmodel.specs.Setup.{kernel_in}
use Rattle.clmodel.specs.declared.setup.Argument.{Argument}
use Rattle.clmodel.specs.declared.setup.Argument.TheVariants as argument
use Rattle.clmodel.specs.declared.tree.Parameter.{Parameter}
use Rattle.clmodel.specs.declared.tree.VariableType.{VariableType}
use Rattle.clmodel.specs.declared.tree.VariableType.TheVariants as variable_type
use Rattle.clmodel.specs.declared.tree.AddressSpace.{AddressSpace}
use Rattle.clmodel.specs.declared.tree.AddressSpace.TheVariants as space
use Rattle.limits.specs.declared.Limits.{Limits}
use Rattle.spaces.specs.Tables.{is}

-- A kernel: the name of its program, its function by the number of its name, and an argument for each parameter, or
-- None where it wasn't given.
pub record KernelState : Type 0 where
  pub program : List ℕ
  pub function : ℕ
  pub arguments : List (Option Argument)

-- the parameters of a program's kernel, by the number of its name
abbrev pub parameters_of : Program → ℕ → List Parameter
parameters_of program number = option_map_or (λ f. f.parameters) (kernel_in program.functions number) []

-- a kernel with an argument set
abbrev pub with_argument : KernelState → ℕ → Argument → KernelState
with_argument kernel index argument = record kernel { arguments = slice_set kernel.arguments index (Some argument) }

-- a kernel of `count` parameters, none of which was given an argument
abbrev pub new_kernel : List ℕ → ℕ → ℕ → KernelState
new_kernel program function count = record { program = program; function = function; arguments = replicate count None }

abbrev pub no_kernel : KernelState
no_kernel = new_kernel [] 0 0

-- an argument names a buffer
abbrev pub names_buffer : List ℕ → Option Argument → Bool
names_buffer name None = false
names_buffer name (Some (argument.Buffer other)) = is name other
names_buffer name (Some (argument.Value n)) = false
names_buffer name (Some (argument.Local size)) = false

abbrev pub is_local : AddressSpace → Bool
is_local space.Global = false
is_local space.Local = true
is_local space.Constant = false

-- a number is in the range of a type (6.1.1)
abbrev pub is_in_range : IntType → ℤ → Bool
is_in_range kind n = int_le (least kind) n && int_le n (greatest kind)

-- an argument is of the kind that a parameter wants: a buffer for a pointer to global or constant memory, a size of at
-- least 1 and within the device's limit for one to local memory, a number of its type for an integer
abbrev pub suits : Limits → VariableType → Argument → Bool
suits limits (variable_type.Pointer p) (argument.Buffer name) = not (is_local p.space)
suits limits (variable_type.Pointer p) (argument.Local size) = is_local p.space && nat_le 1 size && nat_le size limits.local_bytes
suits limits (variable_type.Pointer p) (argument.Value n) = false
suits limits (variable_type.Integer kind) (argument.Value n) = is_in_range kind n
suits limits (variable_type.Integer kind) (argument.Buffer name) = false
suits limits (variable_type.Integer kind) (argument.Local size) = false
