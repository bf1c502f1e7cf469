-- Which programs are typed within the limits of a device, and the fault of one that isn't (OpenCL 1.2, 6.1 to 6.12; the
-- limits are this project's own).
use Rattle.std.specs.Prelude.{ℕ}
use Rattle.limits.specs.declared.Limits.{Limits}
use Rattle.clmodel.specs.Tree.{Program}
use Rattle.clmodel.specs.Typing.Functions.{names, AreTypedFunctions, program_faults}
use Rattle.clmodel.specs.Typing.Least.{IsLeast}
use Rattle.clmodel.specs.declared.type_fault.TypeFault.{TypeFault}
pub mod Least
pub mod Context
pub mod Rules
pub mod Faults
pub mod Sizes
pub mod Functions
pub mod Greatest
pub mod Samples

-- a program that meets the rules of types within these limits
unfoldable pub IsTypedWithin : Limits → Program → Type 0
IsTypedWithin limits program = AreTypedFunctions limits (names program.functions) program.functions

-- typed within the limits of some device
unfoldable pub IsTypedProgram : Program → Type 0
IsTypedProgram program = (limits : Limits) × IsTypedWithin limits program

-- the fault that is answered of one that doesn't meet them within these limits: the first in the order of the text,
-- children before parents; of one node the lowest number
unfoldable pub IsTypeFault : Limits → Program → TypeFault → Type 0
IsTypeFault limits program fault = (place : ℕ) × IsLeast (program_faults limits program) place fault
