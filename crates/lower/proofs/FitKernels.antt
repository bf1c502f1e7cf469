-- The code of a typed program's kernel has lengths and registers of 32 bits.
use Rattle.std.proofs.Common.{◌≡◌, ℕ, ◌+◌, ◌*◌, ◌≤◌, Some, length, arith}
use Rattle.clmodel.specs.Setup.{kernel_in, functions_before}
use Rattle.clmodel.specs.Tree.{Program, Func}
use Rattle.clmodel.specs.Typing.{IsTypedWithin, IsTypedProgram}
use Rattle.clmodel.specs.Typing.Functions.{names}
use Rattle.clmodel.specs.Typing.Sizes.{node_limit, parameter_limit}
use Rattle.lower_code.specs.Code.{kernel_code}
use Rattle.lower.specs.Bounds.{per_node, TypedKernelsShort, TypedKernelsFewRegisters, TypedKernelsFit}
use Rattle.code_tables.specs.Tables.{register_count}
use Rattle.lower.proofs.LowKernels.{kernels_few_registers}
use Rattle.lower.proofs.ShortKernels.{kernels_short}
use Rattle.lower.proofs.TypedKernels.{kernel_typed}

pub few_parameters : (program : Program) (name : ℕ) (f : Func) → IsTypedProgram program → kernel_in program.functions name ≡ Some f → length f.parameters ≤ parameter_limit
unfolding IsTypedProgram IsTypedWithin
few_parameters program name f typed is = (kernel_typed typed.0 (names program.functions) program.functions name f typed.1 is).0.1.few

lengths_fit : (program : Program) (name : ℕ) (f : Func) → TypedKernelsShort → IsTypedProgram program → kernel_in program.functions name ≡ Some f
    → length (kernel_code (functions_before program.functions name) f) ≤ per_node * node_limit + parameter_limit + 2
unfolding TypedKernelsShort
lengths_fit program name f law typed is =
    let most = law program name f typed is in
    let few = few_parameters program name f typed is in
    omega (arith, most.0, most.1, few)

registers_fit : (program : Program) (name : ℕ) (f : Func) → TypedKernelsFewRegisters → IsTypedProgram program → kernel_in program.functions name ≡ Some f
    → register_count (kernel_code (functions_before program.functions name) f) ≤ 16 * (parameter_limit + node_limit + 1)
unfolding TypedKernelsFewRegisters
registers_fit program name f law typed is =
    let most = law program name f typed is in
    let few = few_parameters program name f typed is in
    omega (arith, most, few)

pub kernels_fit : TypedKernelsFit
unfolding TypedKernelsFit
kernels_fit program name f typed is = (lengths_fit program name f kernels_short typed is, registers_fit program name f kernels_few_registers typed is)
