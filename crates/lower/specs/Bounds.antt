-- How long a kernel's code is, and how many barriers it has (own).
use Rattle.std.specs.Prelude.{◌≡◌, ℕ, ◌+◌, ◌*◌, ◌<◌, ◌≤◌, ◌^◌, List, Some, length}
use Rattle.clmodel.specs.Next.{all_sites, sites_in}
use Rattle.clmodel.specs.Setup.{kernel_in, functions_before}
use Rattle.clmodel.specs.Tree.{Program, Func}
use Rattle.clmodel.specs.Typing.{IsTypedProgram}
use Rattle.clmodel.specs.Typing.Functions.{size_of}
use Rattle.clmodel.specs.Typing.Rules.{length_limit}
use Rattle.clmodel.specs.Typing.Sizes.{row_size, node_limit, parameter_limit}
use Rattle.clmodel.specs.declared.tree.Function.{Function}
use Rattle.lower_code.specs.Code.{kernel_code}
use Rattle.lower_code.specs.Helpers.{inside, sizes_in, widths_in}
use Rattle.lower_code.specs.Trees.{all_of}
use Rattle.lower_code.specs.Variables.{row_elements}
use Rattle.code_tables.specs.Tables.{register_count}

-- how many instructions a node has at most
abbrev pub per_node : ℕ
per_node = 7

-- The code of each kernel of a typed program has at most `per_node` instructions for each node of its body, one for
-- each parameter, and two more: so at most 7,000,002 besides those of its parameters.
unfoldable pub TypedKernelsShort : Type 0
TypedKernelsShort =
    (program : Program) (name : ℕ) (f : Func) → IsTypedProgram program → kernel_in program.functions name ≡ Some f →
    (length (kernel_code (functions_before program.functions name) f) ≤ per_node * (size_of (functions_before program.functions name) f).nodes + length f.parameters + 2)
    × ((size_of (functions_before program.functions name) f).nodes ≤ node_limit)

-- Each kernel of a typed program has no more barriers, those in the helpers that it calls among them, than its body has
-- nodes: so at most 1,000,000.
unfoldable pub TypedKernelsFewBarriers : Type 0
TypedKernelsFewBarriers =
    (program : Program) (name : ℕ) (f : Func) → IsTypedProgram program → kernel_in program.functions name ≡ Some f →
    all_sites (sites_in (functions_before program.functions name)) f.body ≤ node_limit

-- Its registers are those of levels below the count of its parameters with that of its nodes and one more: so at most
-- 16,000,016 besides 16 for each parameter.
unfoldable pub TypedKernelsFewRegisters : Type 0
TypedKernelsFewRegisters =
    (program : Program) (name : ℕ) (f : Func) → IsTypedProgram program → kernel_in program.functions name ≡ Some f →
    register_count (kernel_code (functions_before program.functions name) f) ≤ 16 * (length f.parameters + node_limit + 1)

-- So, with the limit of parameters, its code has at most 7,013,002 instructions and 16,208,016 registers: each length
-- of a jump and each register has a number of 32 bits.
unfoldable pub TypedKernelsFit : Type 0
TypedKernelsFit =
    (program : Program) (name : ℕ) (f : Func) → IsTypedProgram program → kernel_in program.functions name ≡ Some f →
    (length (kernel_code (functions_before program.functions name) f) ≤ per_node * node_limit + parameter_limit + 2)
    × (register_count (kernel_code (functions_before program.functions name) f) ≤ 16 * (parameter_limit + node_limit + 1))

-- What is wanted of a function, behind these, whose code is made: its barriers, those in the helpers that it calls
-- among them, have numbers of 32 bits, and it has no more nodes, no more parameters and no array of more elements than
-- typing allows on any device; nor with the parameters of the helpers that it calls more than twice as many nodes.
pub record IsWithinLimits (functions : List Function) (function : Function) : Type 0 where
  pub few : all_sites (inside functions) (all_of function.body.items) < 2 ^ 32
  pub small : (row_size (sizes_in functions) (all_of function.body.items)).nodes ≤ node_limit
  pub wide : (row_size (widths_in functions) (all_of function.body.items)).nodes ≤ 2 * node_limit
  pub parameters : length function.parameters.items ≤ parameter_limit
  pub arrays : row_elements (all_of function.body.items) ≤ length_limit
