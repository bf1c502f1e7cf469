-- The tables of code, by its instructions (own).
use Rattle.std.specs.Prelude.{ℕ, zero, suc, ◌+◌, ◌-◌, ◌%◌, max, ◌==◌, if◌then◌else◌, get_or, None, Some, List, [], ◌∷◌, ◌++◌}
use Rattle.clnum.specs.declared.int_type.IntType.TheVariants.{Char, Uchar, Short, Ushort, Int, Uint, Long, Ulong}
use Rattle.clmodel.specs.declared.tree.VariableType.{VariableType}
use Rattle.regcode.specs.Listing.{Listing}
use Rattle.regcode.specs.Safety.{operand_sources}
use Rattle.regcode.specs.declared.instruction.Instruction.{Instruction}
use Rattle.regcode.specs.declared.instruction.Instruction.TheVariants as instruction
use Rattle.regcode.specs.declared.tables.Register.{Register}
use Rattle.regcode.specs.declared.tables.RegisterKind.{RegisterKind}
use Rattle.regcode.specs.declared.tables.RegisterKind.TheVariants.{Integer, Pointer}

-- the kinds of a level's registers
abbrev pub kinds : List RegisterKind
kinds =
    Integer Char ∷ Integer Uchar ∷ Integer Short ∷ Integer Ushort ∷ Integer Int ∷ Integer Uint ∷ Integer Long ∷ Integer Ulong
    ∷ Pointer Char ∷ Pointer Uchar ∷ Pointer Short ∷ Pointer Ushort ∷ Pointer Int ∷ Pointer Uint ∷ Pointer Long ∷ Pointer Ulong ∷ []

-- the kind of a register
abbrev pub register_kind : ℕ → RegisterKind
register_kind register = get_or kinds (register % 16) (Integer Int)

-- what each number below a count has
abbrev pub each_below : {A : Type 0} → (ℕ → A) → ℕ → List A
each_below of zero = []
each_below of (suc count) = each_below of count ++ of count ∷ []

-- the registers that an instruction names
abbrev pub registers_of : Instruction → List ℕ
registers_of (instruction.Constant to value) = to ∷ []
registers_of (instruction.Unset to) = to ∷ []
registers_of (instruction.Move to from name) = to ∷ from ∷ []
registers_of (instruction.AssignConversion to from kind) = to ∷ from ∷ []
registers_of (instruction.Convert to from kind) = to ∷ from ∷ []
registers_of (instruction.UsualConversion to from other) = to ∷ from ∷ []
registers_of (instruction.Unary to operator operand) = to ∷ operand ∷ []
registers_of (instruction.Binary to operator left right) = to ∷ left ∷ right ∷ []
registers_of (instruction.Builtin to function first None) = to ∷ first ∷ []
registers_of (instruction.Builtin to function first (Some second)) = to ∷ first ∷ second ∷ []
registers_of (instruction.Dimensions to) = to ∷ []
registers_of (instruction.Query to function dimension) = to ∷ dimension ∷ []
registers_of (instruction.Argument to index kind) = to ∷ []
registers_of (instruction.Local to number element) = to ∷ []
registers_of (instruction.PrivateLoad to array index element name) = to ∷ index ∷ []
registers_of (instruction.PrivateStore array index value element name) = index ∷ value ∷ []
registers_of (instruction.MovePointer to from) = to ∷ from ∷ []
registers_of (instruction.Offset to pointer index) = to ∷ pointer ∷ index ∷ []
registers_of (instruction.Load to pointer) = to ∷ pointer ∷ []
registers_of (instruction.Store pointer value) = pointer ∷ value ∷ []
registers_of (instruction.Update function pointer None) = pointer ∷ []
registers_of (instruction.Update function pointer (Some value)) = pointer ∷ value ∷ []
registers_of (instruction.Fetch to function pointer given) = to ∷ pointer ∷ operand_sources given
registers_of (instruction.JumpIfZero register by) = register ∷ []
registers_of _ = []

-- one more than the greatest of these numbers
abbrev pub room : List ℕ → ℕ
room [] = 0
room (number ∷ numbers) = max (number + 1) (room numbers)

-- the greatest number that an instruction of these has, 0 if there are none
abbrev pub greatest : (Instruction → ℕ) → List Instruction → ℕ
greatest number [] = 0
greatest number (i ∷ is) = max (number i) (greatest number is)

-- how many registers there are
abbrev pub register_count : List Instruction → ℕ
register_count code = greatest (λ i. room (registers_of i)) code

-- what a register is called behind an instruction: a move out of it has its name
abbrev pub renamed : ℕ → ℕ → Instruction → ℕ
renamed register name (instruction.Move to from other) = if from == register then other else name
renamed register name _ = name

-- what it is called behind code
abbrev pub name_behind : ℕ → List Instruction → ℕ → ℕ
name_behind name [] register = name
name_behind name (i ∷ is) register = name_behind (renamed register name i) is register

-- the name of a register: that of the last move out of it, 0 where there is none
abbrev pub register_name : List Instruction → ℕ → ℕ
register_name code register = name_behind 0 code register

-- a register of code
abbrev pub register_in : List Instruction → ℕ → Register
register_in code register = record { kind = register_kind register; name = register_name code register }

-- one more than the name that an instruction has
abbrev pub names_of : Instruction → ℕ
names_of (instruction.Move to from name) = name + 1
names_of (instruction.PrivateLoad to array index element name) = name + 1
names_of (instruction.PrivateStore array index value element name) = name + 1
names_of _ = 0

-- how many names there are: one at least, which registers have that no move reads
abbrev pub name_count : List Instruction → ℕ
name_count code = max 1 (greatest names_of code)

-- one more than the local object that an instruction names
abbrev pub objects_of : Instruction → ℕ
objects_of (instruction.Local to number element) = number + 1
objects_of _ = 0

-- how many local objects there are
abbrev pub object_count : List Instruction → ℕ
object_count code = greatest objects_of code

-- one more than the private array that an instruction names
abbrev pub arrays_of : Instruction → ℕ
arrays_of (instruction.UnsetArray array count) = array + 1
arrays_of (instruction.PrivateLoad to array index element name) = array + 1
arrays_of (instruction.PrivateStore array index value element name) = array + 1
arrays_of _ = 0

-- how many private arrays there are
abbrev pub array_count : List Instruction → ℕ
array_count code = greatest arrays_of code

-- how many elements an instruction gives to a private array
abbrev pub elements_for : ℕ → Instruction → ℕ
elements_for array (instruction.UnsetArray other count) = if other == array then count else 0
elements_for array _ = 0

-- the most that one of these gives to it
abbrev pub most_at : List Instruction → ℕ → ℕ
most_at code array = greatest (elements_for array) code

-- how many loops are entered behind an instruction: a loop ends with its way back
abbrev pub depth_after : ℕ → Instruction → ℕ
depth_after depth (instruction.Enter loop) = loop + 1
depth_after depth (instruction.Back by) = depth - 1
depth_after depth _ = depth

-- how many are entered where each instruction stands
abbrev pub loops_from : ℕ → List Instruction → List ℕ
loops_from depth [] = []
loops_from depth (i ∷ is) = depth ∷ loops_from (depth_after depth i) is

-- code with its tables
abbrev pub tabled : List Instruction → List VariableType → Listing
tabled code parameters =
    record {
      instructions = code;
      registers = each_below (register_in code) (register_count code);
      arrays = each_below (most_at code) (array_count code);
      objects = object_count code;
      names = name_count code;
      parameters = parameters;
      loops = loops_from 0 code;
    }
