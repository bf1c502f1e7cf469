-- That code acts as a run does (own).
use Rattle.std.specs.Prelude.{◌≡◌, ℕ, ◌+◌, ◌*◌, ◌<◌, Bool, true, false, Some, List, [], ◌∷◌, slice_get}
use Rattle.clmodel.specs.Next.{Continuation, is_private_array}
use Rattle.clmodel.specs.Next.Expressions.{Destination, Named, ElementOf, Through}
use Rattle.clmodel.specs.Tree.{Target, TargetVariable, TargetElement, TargetDereference}
use Rattle.clmodel.specs.declared.operand.Operand.{Operand}
use Rattle.clmodel.specs.declared.operand.Operand.TheVariants.{Pointed}
use Rattle.clmodel.specs.declared.operand.Pointer.{Pointer}
use Rattle.regcode.specs.Machine.{Registers, reg, State, ItemContext}
use Rattle.regcode.specs.declared.instruction.Instruction.{Instruction}
use Rattle.regcode.proofs.Agreement.{Agree}
use Rattle.lower_expr.specs.Scope.{Scope}

-- these instructions stand in the code from a place on
abbrev pub HasAt : List Instruction → ℕ → List Instruction → Type 0
HasAt code place [] = Unit {0}
HasAt code place (i ∷ rest) = (slice_get code place ≡ Some i) × HasAt code (place + 1) rest

-- a state is at a place, with the registers below a level, the private arrays and the turns of another state
pub record Reached (level : ℕ) (s : State) (place : ℕ) (now : State) : Type 0 where
  pub at : now.place ≡ place
  pub kept : (i : ℕ) → i < 16 * level → reg now.registers i ≡ reg s.registers i
  pub arrays : now.registers.arrays ≡ s.registers.arrays
  pub turns : now.counters ≡ s.counters

-- these registers hold these values
abbrev pub Hold : Registers → List ℕ → List Operand → Type 0
Hold registers [] [] = Unit {0}
Hold registers [] (v ∷ values) = ⊥
Hold registers (i ∷ numbers) [] = ⊥
Hold registers (i ∷ numbers) (v ∷ values) = (reg registers i ≡ Some v) × Hold registers numbers values

-- A register holds what a destination goes by: the index of an element of a private array, or a pointer. A variable as
-- a whole goes by its name.
abbrev pub HoldsIndex : Registers → ℕ → ℕ → Destination → Type 0
HoldsIndex registers register name to = (i : Operand) × (to ≡ ElementOf name i) × (reg registers register ≡ Some i)

abbrev pub HoldsPointer : Registers → ℕ → Destination → Type 0
HoldsPointer registers register to = (p : Pointer) × (to ≡ Through p) × (reg registers register ≡ Some (Pointed p))

abbrev pub HoldsPart : Bool → Registers → ℕ → ℕ → Destination → Type 0
HoldsPart true registers register name to = HoldsIndex registers register name to
HoldsPart false registers register name to = HoldsPointer registers register to

abbrev pub HoldsTarget : Scope → Registers → ℕ → Target → Destination → Type 0
HoldsTarget scope registers register (TargetVariable at name) to = to ≡ Named name
HoldsTarget scope registers register (TargetElement at name index) to = HoldsPart (is_private_array scope.variables name) registers register name to
HoldsTarget scope registers register (TargetDereference at pointer) to = HoldsPointer registers register to

-- The code agrees with what follows a value, where the value is in a register at a place; with what follows values; and
-- with what follows a destination.
abbrev pub Follows : ItemContext → List Instruction → ℕ → ℕ → State → ℕ → ℕ → (Operand → Continuation) → Type 0
Follows given code bound level s place to after =
    (v : Operand) (now : State) → Reached level s place now → reg now.registers to ≡ Some v → Agree given code bound now (after v)

abbrev pub FollowsAll : ItemContext → List Instruction → ℕ → ℕ → State → ℕ → List ℕ → (List Operand → Continuation) → Type 0
FollowsAll given code bound level s place numbers after =
    (values : List Operand) (now : State) → Reached level s place now → Hold now.registers numbers values → Agree given code bound now (after values)

abbrev pub FollowsTarget : ItemContext → List Instruction → ℕ → Scope → ℕ → State → ℕ → ℕ → Target → (Destination → Continuation) → Type 0
FollowsTarget given code bound scope level s place register to after =
    (destination : Destination) (now : State) → Reached level s place now → HoldsTarget scope now.registers register to destination
    → Agree given code bound now (after destination)
