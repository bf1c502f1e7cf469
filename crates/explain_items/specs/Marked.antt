-- That the origins of a launch's kernel are those of the code that the launch runs (own).
use Rattle.std.specs.Prelude.{◌≡◌, ◌<◌, ℕ, true, is_some, Option, None, Some, List, [], ◌∷◌, length}
use Rattle.std.specs.Coded.{×_prop}
use Rattle.std.proofs.Props.{props}
use Rattle.clmodel.specs.Setup.{kernel_in, functions_before}
use Rattle.clmodel.specs.Tree.{Func}
use Rattle.clmodel.specs.declared.setup.AtomicFunction.{AtomicFunction}
use Rattle.item_step.specs.Launches.{code_of, setup_of}
use Rattle.item_step.specs.declared.launch.Launch.{Launch}
use Rattle.origins.specs.Marks.{CallsAtomic, CallsBarrier, Each, Marks, Suits, called}
use Rattle.origins.specs.Origins.{Node, Origin, kernel_origins}
use Rattle.origins.specs.Walks.{huge}
use Rattle.regcode.specs.declared.instruction.Instruction.{Instruction}
use Rattle.regcode.specs.declared.instruction.Instruction.TheVariants as instruction

-- the origins of the instructions of a launch's kernel
abbrev pub origins_of : Launch → Func → List Origin
origins_of launch kernel = kernel_origins (functions_before (setup_of launch).program.functions (setup_of launch).kernel) kernel

-- The code that a launch runs has as many instructions as its kernel has origins, and each is one that the node of the
-- origin with its number makes. They aren't so many that lengths of 64 bits can't tell them from more.
pub record CodeIsMarked (launch : Launch) : Type 0 where
  pub there : is_some (kernel_in (setup_of launch).program.functions (setup_of launch).kernel) ≡ true
  pub marks : (kernel : Func) → kernel_in (setup_of launch).program.functions (setup_of launch).kernel ≡ Some kernel → Marks (origins_of launch kernel) (code_of launch).instructions
  pub few : length (code_of launch).instructions < huge

-- it is a fact, which holds in one way
CallsAtomic-prop : (name : Option ℕ) (function : AtomicFunction) → IsProp (CallsAtomic name function)
CallsAtomic-prop None function = hlevel props
CallsAtomic-prop (Some name) function = hlevel props

CallsBarrier-prop : (name : Option ℕ) → IsProp (CallsBarrier name)
CallsBarrier-prop None = hlevel props
CallsBarrier-prop (Some name) = hlevel props

Suits-prop : (i : Instruction) (n : Node) → IsProp (Suits i n)
Suits-prop (instruction.Constant to value) n = hlevel props
Suits-prop (instruction.Unset to) n = hlevel props
Suits-prop (instruction.Move to from name) n = hlevel props
Suits-prop (instruction.AssignConversion to from kind) n = hlevel props
Suits-prop (instruction.Convert to from kind) n = hlevel props
Suits-prop (instruction.UsualConversion to from other) n = hlevel props
Suits-prop (instruction.Unary to operator operand) n = hlevel props
Suits-prop (instruction.Binary to operator left right) n = hlevel props
Suits-prop (instruction.Builtin to function first second) n = hlevel props
Suits-prop (instruction.Dimensions to) n = hlevel props
Suits-prop (instruction.Query to function dimension) n = hlevel props
Suits-prop (instruction.Argument to index kind) n = hlevel props
Suits-prop (instruction.Local to number element) n = hlevel props
Suits-prop (instruction.UnsetArray array count) n = hlevel props
Suits-prop (instruction.PrivateLoad to array index element name) n = hlevel props
Suits-prop (instruction.PrivateStore array index value element name) n = hlevel props
Suits-prop (instruction.MovePointer to from) n = hlevel props
Suits-prop (instruction.Offset to pointer index) n = hlevel props
Suits-prop (instruction.Load to pointer) n = hlevel props
Suits-prop (instruction.Store pointer value) n = hlevel props
Suits-prop (instruction.Update function pointer value) n = CallsAtomic-prop (called n) function
Suits-prop (instruction.Fetch to function pointer given) n = CallsAtomic-prop (called n) function
Suits-prop (instruction.Barrier site depth fences) n = CallsBarrier-prop (called n)
Suits-prop (instruction.Enter depth) n = hlevel props
Suits-prop (instruction.Turn depth) n = hlevel props
Suits-prop (instruction.Jump by) n = hlevel props
Suits-prop (instruction.JumpIfZero register by) n = hlevel props
Suits-prop (instruction.Back by) n = hlevel props
Suits-prop instruction.End n = hlevel props

Each-prop : (origins : List Origin) (code : List Instruction) → IsProp (Each origins code)
Each-prop [] [] = hlevel props
Each-prop [] (i ∷ is) = hlevel props
Each-prop (o ∷ os) [] = hlevel props
Each-prop (o ∷ os) (i ∷ is) = ×_prop (Suits-prop i o.node) (Each-prop os is)

Marks-prop : (origins : List Origin) (code : List Instruction) → IsProp (Marks origins code)
Marks-prop origins code = hlevel (props, Each-prop)

pub CodeIsMarked-prop : (launch : Launch) → IsProp (CodeIsMarked launch)
CodeIsMarked-prop launch = hlevel (props, Marks-prop)
