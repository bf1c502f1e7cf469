-- Instructions with other registers (own).
use Rattle.std.specs.Prelude.{ℕ, List, ◌++◌}
use Rattle.std.specs.List.{flat_map}
use Rattle.std.specs.Option.{option_map}
use Rattle.regcode.specs.Safety.{sources, targets}
use Rattle.regcode.specs.declared.instruction.FetchOperands.{FetchOperands}
use Rattle.regcode.specs.declared.instruction.FetchOperands.TheVariants as operands
use Rattle.regcode.specs.declared.instruction.Instruction.{Instruction}
use Rattle.regcode.specs.declared.instruction.Instruction.TheVariants as instruction

-- what an atomic operation is given, in other registers (own)
abbrev pub renamed_operands : (ℕ → ℕ) → FetchOperands → FetchOperands
renamed_operands name operands.Alone = operands.Alone
renamed_operands name (operands.Number value) = operands.Number (name value)
renamed_operands name (operands.Pair expected value) = operands.Pair (name expected) (name value)

-- an instruction with another register for each that it names (own)
abbrev pub renamed : (ℕ → ℕ) → Instruction → Instruction
renamed name (instruction.Constant to value) = instruction.Constant (name to) value
renamed name (instruction.Unset to) = instruction.Unset (name to)
renamed name (instruction.Move to from variable) = instruction.Move (name to) (name from) variable
renamed name (instruction.AssignConversion to from kind) = instruction.AssignConversion (name to) (name from) kind
renamed name (instruction.Convert to from kind) = instruction.Convert (name to) (name from) kind
renamed name (instruction.UsualConversion to from other) = instruction.UsualConversion (name to) (name from) other
renamed name (instruction.Unary to operator operand) = instruction.Unary (name to) operator (name operand)
renamed name (instruction.Binary to operator left right) = instruction.Binary (name to) operator (name left) (name right)
renamed name (instruction.Builtin to function first second) = instruction.Builtin (name to) function (name first) (option_map name second)
renamed name (instruction.Dimensions to) = instruction.Dimensions (name to)
renamed name (instruction.Query to function dimension) = instruction.Query (name to) function (name dimension)
renamed name (instruction.Argument to index kind) = instruction.Argument (name to) index kind
renamed name (instruction.Local to number element) = instruction.Local (name to) number element
renamed name (instruction.UnsetArray array count) = instruction.UnsetArray array count
renamed name (instruction.PrivateLoad to array index element variable) = instruction.PrivateLoad (name to) array (name index) element variable
renamed name (instruction.PrivateStore array index value element variable) = instruction.PrivateStore array (name index) (name value) element variable
renamed name (instruction.MovePointer to from) = instruction.MovePointer (name to) (name from)
renamed name (instruction.Offset to pointer index) = instruction.Offset (name to) (name pointer) (name index)
renamed name (instruction.Load to pointer) = instruction.Load (name to) (name pointer)
renamed name (instruction.Store pointer value) = instruction.Store (name pointer) (name value)
renamed name (instruction.Update function pointer value) = instruction.Update function (name pointer) (option_map name value)
renamed name (instruction.Fetch to function pointer given) = instruction.Fetch (name to) function (name pointer) (renamed_operands name given)
renamed name (instruction.Barrier site depth fences) = instruction.Barrier site depth fences
renamed name (instruction.Enter depth) = instruction.Enter depth
renamed name (instruction.Turn depth) = instruction.Turn depth
renamed name (instruction.Jump by) = instruction.Jump by
renamed name (instruction.JumpIfZero register by) = instruction.JumpIfZero (name register) by
renamed name (instruction.Back by) = instruction.Back by
renamed name instruction.End = instruction.End

-- the registers that an instruction names: the one that it writes, and those that it reads (own)
abbrev pub registers_named : Instruction → List ℕ
registers_named i = targets i ++ sources i

-- the registers that instructions name (own)
abbrev pub all_named : List Instruction → List ℕ
all_named instructions = flat_map registers_named instructions
