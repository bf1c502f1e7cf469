-- The text of code, a line for each instruction: its place, its name, and what it names (own).
use Rattle.std.specs.Prelude.{ℕ, ◌+◌, ◌-◌, suc, if◌then◌else◌, Option, None, Some, List, [], ◌∷◌, ◌++◌, codes, decimal}
use Rattle.std.specs.Fmt.{signed_decimal}
use Rattle.std.specs.List.{flat_map}
use Rattle.byte_io.specs.Pieces.{joined}
use Rattle.clnum.specs.declared.operators.BinaryOperator.{BinaryOperator}
use Rattle.clnum.specs.declared.operators.BinaryOperator.TheVariants as binary
use Rattle.clnum.specs.declared.operators.Builtin.{Builtin}
use Rattle.clnum.specs.declared.operators.Builtin.TheVariants as builtin
use Rattle.clnum.specs.declared.operators.UnaryOperator.{UnaryOperator}
use Rattle.clnum.specs.declared.operators.UnaryOperator.TheVariants as unary
use Rattle.clnum.specs.Integer.{Integer, type_word}
use Rattle.clmodel.specs.declared.action.Fences.{Fences}
use Rattle.clmodel.specs.declared.setup.AtomicFunction.{AtomicFunction}
use Rattle.clmodel.specs.declared.setup.AtomicFunction.TheVariants as atomic
use Rattle.clmodel.specs.declared.setup.WorkItemFunction.{WorkItemFunction}
use Rattle.clmodel.specs.declared.setup.WorkItemFunction.TheVariants as query
use Rattle.clmodel.specs.declared.tree.AddressSpace.{AddressSpace}
use Rattle.clmodel.specs.declared.tree.AddressSpace.TheVariants as space
use Rattle.clmodel.specs.declared.tree.VariableType.{VariableType}
use Rattle.clmodel.specs.declared.tree.VariableType.TheVariants as variable
use Rattle.regcode.specs.declared.instruction.FetchOperands.{FetchOperands}
use Rattle.regcode.specs.declared.instruction.FetchOperands.TheVariants as operands
use Rattle.regcode.specs.declared.instruction.Instruction.{Instruction}
use Rattle.regcode.specs.declared.instruction.Instruction.TheVariants as instruction

-- ---- words

-- the qualifier of an address space, with a space behind it
abbrev pub space_word : AddressSpace → List ℕ
space_word space.Global = codes "__global "
space_word space.Local = codes "__local "
space_word space.Constant = codes "__constant "

-- what a barrier fences
abbrev pub fences_word : Fences → List ℕ
fences_word f = if f.local then (if f.global then codes "local and global" else codes "local") else (if f.global then codes "global" else codes "none")

abbrev pub unary_word : UnaryOperator → List ℕ
unary_word unary.Plus = codes "plus"
unary_word unary.Negate = codes "negate"
unary_word unary.Complement = codes "complement"
unary_word unary.Not = codes "not"

abbrev pub binary_word : BinaryOperator → List ℕ
binary_word binary.Add = codes "add"
binary_word binary.Subtract = codes "subtract"
binary_word binary.Multiply = codes "multiply"
binary_word binary.Divide = codes "divide"
binary_word binary.Remainder = codes "remainder"
binary_word binary.ShiftLeft = codes "shift_left"
binary_word binary.ShiftRight = codes "shift_right"
binary_word binary.Less = codes "less"
binary_word binary.Greater = codes "greater"
binary_word binary.LessOrEqual = codes "less_or_equal"
binary_word binary.GreaterOrEqual = codes "greater_or_equal"
binary_word binary.Equal = codes "equal"
binary_word binary.NotEqual = codes "not_equal"
binary_word binary.BitAnd = codes "bit_and"
binary_word binary.BitXor = codes "bit_xor"
binary_word binary.BitOr = codes "bit_or"

abbrev pub builtin_word : Builtin → List ℕ
builtin_word builtin.Min = codes "min"
builtin_word builtin.Max = codes "max"
builtin_word builtin.Abs = codes "abs"
builtin_word builtin.Clz = codes "clz"
builtin_word builtin.Popcount = codes "popcount"
builtin_word builtin.Rotate = codes "rotate"

abbrev pub query_word : WorkItemFunction → List ℕ
query_word query.GlobalId = codes "get_global_id"
query_word query.LocalId = codes "get_local_id"
query_word query.GroupId = codes "get_group_id"
query_word query.GlobalOffset = codes "get_global_offset"
query_word query.GlobalSize = codes "get_global_size"
query_word query.LocalSize = codes "get_local_size"
query_word query.NumGroups = codes "get_num_groups"

abbrev pub atomic_word : AtomicFunction → List ℕ
atomic_word atomic.Add = codes "atomic_add"
atomic_word atomic.Sub = codes "atomic_sub"
atomic_word atomic.Min = codes "atomic_min"
atomic_word atomic.Max = codes "atomic_max"
atomic_word atomic.And = codes "atomic_and"
atomic_word atomic.Or = codes "atomic_or"
atomic_word atomic.Xor = codes "atomic_xor"
atomic_word atomic.Inc = codes "atomic_inc"
atomic_word atomic.Dec = codes "atomic_dec"
atomic_word atomic.Exchange = codes "atomic_xchg"
atomic_word atomic.CompareExchange = codes "atomic_cmpxchg"

-- the name of an instruction
abbrev pub word_of : Instruction → List ℕ
word_of (instruction.Constant to value) = codes "constant"
word_of (instruction.Unset to) = codes "unset"
word_of (instruction.Move to from name) = codes "move"
word_of (instruction.AssignConversion to from kind) = codes "assign"
word_of (instruction.Convert to from kind) = codes "convert"
word_of (instruction.UsualConversion to from other) = codes "usual"
word_of (instruction.Unary to operator operand) = unary_word operator
word_of (instruction.Binary to operator left right) = binary_word operator
word_of (instruction.Builtin to function first second) = builtin_word function
word_of (instruction.Dimensions to) = codes "get_work_dim"
word_of (instruction.Query to function dimension) = query_word function
word_of (instruction.Argument to index kind) = codes "argument"
word_of (instruction.Local to number element) = codes "local"
word_of (instruction.UnsetArray array count) = codes "unset_array"
word_of (instruction.PrivateLoad to array index element name) = codes "private_load"
word_of (instruction.PrivateStore array index value element name) = codes "private_store"
word_of (instruction.MovePointer to from) = codes "move_pointer"
word_of (instruction.Offset to pointer index) = codes "offset"
word_of (instruction.Load to pointer) = codes "load"
word_of (instruction.Store pointer value) = codes "store"
word_of (instruction.Update function pointer value) = atomic_word function
word_of (instruction.Fetch to function pointer given) = atomic_word function
word_of (instruction.Barrier site depth fences) = codes "barrier"
word_of (instruction.Enter depth) = codes "enter"
word_of (instruction.Turn depth) = codes "turn"
word_of (instruction.Jump by) = codes "jump"
word_of (instruction.JumpIfZero test by) = codes "jump_if_zero"
word_of (instruction.Back by) = codes "back"
word_of instruction.End = codes "end"

-- ---- what instructions name

abbrev pub register : ℕ → List ℕ
register r = joined (codes "r" ∷ decimal r ∷ [])

-- the element that the pointer in a register points to
abbrev pub pointed : ℕ → List ℕ
pointed r = joined (codes "[r" ∷ decimal r ∷ codes "]" ∷ [])

-- the element of a private array at the index in a register
abbrev pub private : ℕ → ℕ → List ℕ
private array r = joined (codes "a" ∷ decimal array ∷ codes "[r" ∷ decimal r ∷ codes "]" ∷ [])

-- a number of a type
abbrev pub typed : Integer → List ℕ
typed value = joined (type_word value.kind ∷ codes " " ∷ signed_decimal value.number ∷ [])

-- the type of a variable
abbrev pub variable_type : VariableType → List ℕ
variable_type (variable.Integer kind) = type_word kind
variable_type (variable.Pointer p) = joined (space_word p.space ∷ (if p.is_const then codes "const " else []) ∷ type_word p.element ∷ codes " *" ∷ [])

-- a register, if there is one
abbrev pub registers : Option ℕ → List (List ℕ)
registers None = []
registers (Some r) = register r ∷ []

-- the registers of what an atomic operation is given
abbrev pub given_registers : FetchOperands → List (List ℕ)
given_registers operands.Alone = []
given_registers (operands.Number value) = register value ∷ []
given_registers (operands.Pair expected value) = register expected ∷ register value ∷ []

-- What the instruction at a place names, what it makes first. Jumps name the place that they lead to.
abbrev pub names_in : ℕ → Instruction → List (List ℕ)
names_in place (instruction.Constant to value) = register to ∷ typed value ∷ []
names_in place (instruction.Unset to) = register to ∷ []
names_in place (instruction.Move to from name) = register to ∷ register from ∷ decimal name ∷ []
names_in place (instruction.AssignConversion to from kind) = register to ∷ register from ∷ variable_type kind ∷ []
names_in place (instruction.Convert to from kind) = register to ∷ register from ∷ type_word kind ∷ []
names_in place (instruction.UsualConversion to from other) = register to ∷ register from ∷ type_word other ∷ []
names_in place (instruction.Unary to operator operand) = register to ∷ register operand ∷ []
names_in place (instruction.Binary to operator left right) = register to ∷ register left ∷ register right ∷ []
names_in place (instruction.Builtin to function first second) = register to ∷ register first ∷ registers second
names_in place (instruction.Dimensions to) = register to ∷ []
names_in place (instruction.Query to function dimension) = register to ∷ register dimension ∷ []
names_in place (instruction.Argument to index kind) = register to ∷ decimal index ∷ variable_type kind ∷ []
names_in place (instruction.Local to number element) = register to ∷ decimal number ∷ type_word element ∷ []
names_in place (instruction.UnsetArray array count) = decimal array ∷ decimal count ∷ []
names_in place (instruction.PrivateLoad to array index element name) = register to ∷ private array index ∷ type_word element ∷ []
names_in place (instruction.PrivateStore array index value element name) = private array index ∷ register value ∷ type_word element ∷ []
names_in place (instruction.MovePointer to from) = register to ∷ register from ∷ []
names_in place (instruction.Offset to pointer index) = register to ∷ register pointer ∷ register index ∷ []
names_in place (instruction.Load to pointer) = register to ∷ pointed pointer ∷ []
names_in place (instruction.Store pointer value) = pointed pointer ∷ register value ∷ []
names_in place (instruction.Update function pointer value) = pointed pointer ∷ registers value
names_in place (instruction.Fetch to function pointer given) = register to ∷ pointed pointer ∷ given_registers given
names_in place (instruction.Barrier site depth fences) = decimal site ∷ decimal depth ∷ fences_word fences ∷ []
names_in place (instruction.Enter depth) = decimal depth ∷ []
names_in place (instruction.Turn depth) = decimal depth ∷ []
names_in place (instruction.Jump by) = decimal (place + 1 + by) ∷ []
names_in place (instruction.JumpIfZero test by) = register test ∷ decimal (place + 1 + by) ∷ []
names_in place (instruction.Back by) = decimal (place - by) ∷ []
names_in place instruction.End = []

-- ---- lines

abbrev pub further_name : List ℕ → List ℕ
further_name name = codes ", " ++ name

-- names, the first after a space and each other one after a comma and a space
abbrev pub listed : List (List ℕ) → List ℕ
listed [] = []
listed (name ∷ names) = (codes " " ++ name) ++ flat_map further_name names

-- the line of the instruction at a place
abbrev pub line_of : ℕ → Instruction → List ℕ
line_of place instruction = joined (decimal place ∷ codes " " ∷ word_of instruction ∷ listed (names_in place instruction) ∷ codes "\n" ∷ [])

-- the lines of instructions that stand from a place on
abbrev pub lines_from : ℕ → List Instruction → List ℕ
lines_from place [] = []
lines_from place (instruction ∷ instructions) = line_of place instruction ++ lines_from (suc place) instructions

-- the text of instructions, the first of which stands at place 0
abbrev pub text_of : List Instruction → List ℕ
text_of instructions = lines_from 0 instructions
