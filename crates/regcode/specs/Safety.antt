-- What verified code never meets.
use Rattle.std.specs.Prelude.{◌≡◌, ℕ, ◌<◌, ◌≤◌, ◌⊎◌, IsTrue, None, Some, List, [], ◌∷◌, length, slice_get, slice_index}
use Rattle.clmodel.specs.Next.{Continuation, finish, fail, ask, tick}
use Rattle.clmodel.specs.declared.action.Action.{Action}
use Rattle.clmodel.specs.declared.action.Answer.{Answer}
use Rattle.clmodel.specs.declared.action.Cause.{Cause}
use Rattle.clmodel.specs.declared.operand.Operand.{Operand}
use Rattle.clmodel.specs.declared.operand.Operand.TheVariants.{Integral, Pointed}
use Rattle.clmodel.specs.declared.tree.VariableType.{VariableType}
use Rattle.regcode.specs.Listing.{Listing}
use Rattle.regcode.specs.Machine.{State, ItemContext, reg, array_of, name_of, act, at_start}
use Rattle.regcode.specs.Rules.{kind_at, loops_at, is_turn}
use Rattle.regcode.specs.declared.instruction.FetchOperands.{FetchOperands}
use Rattle.regcode.specs.declared.instruction.FetchOperands.TheVariants as operands
use Rattle.regcode.specs.declared.instruction.Instruction.{Instruction}
use Rattle.regcode.specs.declared.instruction.Instruction.TheVariants as instruction
use Rattle.regcode.specs.declared.tables.RegisterKind.{RegisterKind}
use Rattle.regcode.specs.declared.tables.RegisterKind.TheVariants.{Integer, Pointer}

-- what kind of register holds a value
abbrev pub operand_kind : Operand → RegisterKind
operand_kind (Integral v) = Integer v.kind
operand_kind (Pointed p) = Pointer p.element

-- A state that suits code: it stands at an instruction; it has as many registers and private arrays as the tables list,
-- each register's value is of its kind, and no array has more elements than there is room for; and the loops that are
-- entered there are counted.
pub record Suits (code : Listing) (s : State) : Type 0 where
  pub inside : s.place < length code.instructions
  pub registers : length s.registers.values ≡ length code.registers
  pub arrays : length s.registers.arrays ≡ length code.arrays
  pub typed : (r : ℕ) (v : Operand) → reg s.registers r ≡ Some v → kind_at code r ≡ Some (operand_kind v)
  pub room : (a : ℕ) → length (array_of s.registers a) ≤ slice_index code.arrays a
  pub counted : loops_at code s.place ≤ length s.counters

-- the registers of what an atomic operation is given
abbrev pub operand_sources : FetchOperands → List ℕ
operand_sources operands.Alone = []
operand_sources (operands.Number value) = value ∷ []
operand_sources (operands.Pair expected value) = expected ∷ value ∷ []

-- the registers that an instruction reads
abbrev pub sources : Instruction → List ℕ
sources (instruction.Move to from name) = from ∷ []
sources (instruction.AssignConversion to from kind) = from ∷ []
sources (instruction.Convert to from kind) = from ∷ []
sources (instruction.UsualConversion to from other) = from ∷ []
sources (instruction.Unary to operator operand) = operand ∷ []
sources (instruction.Binary to operator left right) = left ∷ right ∷ []
sources (instruction.Builtin to function first None) = first ∷ []
sources (instruction.Builtin to function first (Some second)) = first ∷ second ∷ []
sources (instruction.Query to function dimension) = dimension ∷ []
sources (instruction.PrivateLoad to array index element name) = index ∷ []
sources (instruction.PrivateStore array index value element name) = index ∷ value ∷ []
sources (instruction.MovePointer to from) = from ∷ []
sources (instruction.Offset to pointer index) = pointer ∷ index ∷ []
sources (instruction.Load to pointer) = pointer ∷ []
sources (instruction.Store pointer value) = pointer ∷ value ∷ []
sources (instruction.Update function pointer None) = pointer ∷ []
sources (instruction.Update function pointer (Some value)) = pointer ∷ value ∷ []
sources (instruction.Fetch to function pointer given) = pointer ∷ operand_sources given
sources (instruction.JumpIfZero register by) = register ∷ []
sources _ = []

-- the register that it writes
abbrev pub targets : Instruction → List ℕ
targets (instruction.Constant to value) = to ∷ []
targets (instruction.Unset to) = to ∷ []
targets (instruction.Move to from name) = to ∷ []
targets (instruction.AssignConversion to from kind) = to ∷ []
targets (instruction.Convert to from kind) = to ∷ []
targets (instruction.UsualConversion to from other) = to ∷ []
targets (instruction.Unary to operator operand) = to ∷ []
targets (instruction.Binary to operator left right) = to ∷ []
targets (instruction.Builtin to function first second) = to ∷ []
targets (instruction.Dimensions to) = to ∷ []
targets (instruction.Query to function dimension) = to ∷ []
targets (instruction.Argument to index kind) = to ∷ []
targets (instruction.Local to number element) = to ∷ []
targets (instruction.PrivateLoad to array index element name) = to ∷ []
targets (instruction.MovePointer to from) = to ∷ []
targets (instruction.Offset to pointer index) = to ∷ []
targets (instruction.Load to pointer) = to ∷ []
targets (instruction.Fetch to function pointer given) = to ∷ []
targets _ = []

-- the private arrays that it names
abbrev pub arrays_named : Instruction → List ℕ
arrays_named (instruction.UnsetArray array count) = array ∷ []
arrays_named (instruction.PrivateLoad to array index element name) = array ∷ []
arrays_named (instruction.PrivateStore array index value element name) = array ∷ []
arrays_named _ = []

-- the local objects
abbrev pub objects_named : Instruction → List ℕ
objects_named (instruction.Local to number element) = number ∷ []
objects_named _ = []

-- the places in the table of names
abbrev pub names_named : Instruction → List ℕ
names_named (instruction.Move to from name) = name ∷ []
names_named (instruction.PrivateLoad to array index element name) = name ∷ []
names_named (instruction.PrivateStore array index value element name) = name ∷ []
names_named _ = []

-- the parameters, each with the type that it is taken for
abbrev pub parameters_named : Instruction → List (ℕ × VariableType)
parameters_named (instruction.Argument to index kind) = (index, kind) ∷ []
parameters_named _ = []

-- all of these are places in a table with n entries
abbrev pub Below : ℕ → List ℕ → Type 0
Below count [] = Unit {0}
Below count (n ∷ numbers) = (n < count) × Below count numbers

-- all of these are parameters of their types
abbrev pub Declared : List VariableType → List (ℕ × VariableType) → Type 0
Declared parameters [] = Unit {0}
Declared parameters (p ∷ ps) = (slice_get parameters p.0 ≡ Some p.1) × Declared parameters ps

-- All that an instruction names is in the tables.
pub record InTables (code : Listing) (i : Instruction) : Type 0 where
  pub reads : Below (length code.registers) (sources i)
  pub writes : Below (length code.registers) (targets i)
  pub arrays : Below (length code.arrays) (arrays_named i)
  pub objects : Below code.objects (objects_named i)
  pub names : Below code.names (names_named i)
  pub parameters : Declared code.parameters (parameters_named i)

-- What an instruction does, where `on` and `after` are what follows: it fails, or asks or takes a tick and goes on,
-- always in a state of which `Next` holds. It ends only where `Ends` holds.
pub data Proceeds (Ends : Type 0) (Next : State → Type 0) (on after : State → Continuation) : Continuation → Type 0 where
  ended : Ends → Proceeds Ends Next on after finish
  failed : (cause : Cause) → Proceeds Ends Next on after (fail cause)
  on_at : (s : State) → Next s → Proceeds Ends Next on after (on s)
  after_at : (s : State) → Next s → Proceeds Ends Next on after (after s)
  asked : (wanted : Action) (then : Answer → Continuation) → ((answer : Answer) → Proceeds Ends Next on after (then answer)) → Proceeds Ends Next on after (ask wanted then)
  ticked : (then : Continuation) → Proceeds Ends Next on after then → Proceeds Ends Next on after (tick then)

-- The next state suits the code, and it stands further on, or at a turn of a loop.
pub record IsNext (code : Listing) (s : State) (next : State) : Type 0 where
  pub suits : Suits code next
  pub forward : (s.place < next.place) ⊎ IsTrue (is_turn (slice_get code.instructions next.place))

-- Verified code suits its start, and the name of each register of it is in the table of names. In a state that suits it
-- an instruction is there, which names nothing but entries of the tables. Whatever follows, it goes on in states that
-- suit the code; it ends only at its end.
pub record NeverSticks (code : Listing) : Type 0 where
  pub start : Suits code (at_start (length code.registers) (length code.arrays))
  pub named : (r : ℕ) → r < length code.registers → name_of (slice_get code.registers r) < code.names
  pub next : (given : ItemContext) (s : State) → Suits code s → (on after : State → Continuation)
      → (i : Instruction) × (slice_get code.instructions s.place ≡ Some i) × InTables code i
      × Proceeds (i ≡ instruction.End) (IsNext code s) on after (act given (slice_get code.instructions s.place) on after s)
