-- An instruction with other registers is one that its node makes, as it was.
use Rattle.std.proofs.Common.{◌≡◌, ℕ, Some, List, [], ◌∷◌, length, map, slice_get, zero, suc, refl, ap, subst}
use Rattle.std.proofs.lemmas.Option.{none-some, same_Some}
use Rattle.origins.specs.Marks.{Each, Marks, Suits}
use Rattle.origins.specs.Origins.{Node, Origin}
use Rattle.regcode.specs.declared.instruction.Instruction.{Instruction}
use Rattle.regcode.specs.declared.instruction.Instruction.TheVariants as instruction
use Rattle.renumbering.specs.Renamed.{renamed}

suits_renamed : (name : ℕ → ℕ) (i : Instruction) (n : Node) → Suits i n → Suits (renamed name i) n
suits_renamed name (instruction.Constant to value) n h = h
suits_renamed name (instruction.Unset to) n h = h
suits_renamed name (instruction.Move to from variable) n h = h
suits_renamed name (instruction.AssignConversion to from kind) n h = h
suits_renamed name (instruction.Convert to from kind) n h = h
suits_renamed name (instruction.UsualConversion to from other) n h = h
suits_renamed name (instruction.Unary to operator operand) n h = h
suits_renamed name (instruction.Binary to operator left right) n h = h
suits_renamed name (instruction.Builtin to function first second) n h = h
suits_renamed name (instruction.Dimensions to) n h = h
suits_renamed name (instruction.Query to function dimension) n h = h
suits_renamed name (instruction.Argument to index kind) n h = h
suits_renamed name (instruction.Local to number element) n h = h
suits_renamed name (instruction.UnsetArray array count) n h = h
suits_renamed name (instruction.PrivateLoad to array index element variable) n h = h
suits_renamed name (instruction.PrivateStore array index value element variable) n h = h
suits_renamed name (instruction.MovePointer to from) n h = h
suits_renamed name (instruction.Offset to pointer index) n h = h
suits_renamed name (instruction.Load to pointer) n h = h
suits_renamed name (instruction.Store pointer value) n h = h
suits_renamed name (instruction.Update function pointer value) n h = h
suits_renamed name (instruction.Fetch to function pointer given) n h = h
suits_renamed name (instruction.Barrier site depth fences) n h = h
suits_renamed name (instruction.Enter depth) n h = h
suits_renamed name (instruction.Turn depth) n h = h
suits_renamed name (instruction.Jump by) n h = h
suits_renamed name (instruction.JumpIfZero register by) n h = h
suits_renamed name (instruction.Back by) n h = h
suits_renamed name instruction.End n h = h

each_renamed : (name : ℕ → ℕ) (origins : List Origin) (code : List Instruction) → Each origins code → Each origins (map (renamed name) code)
each_renamed name [] [] h = tt
each_renamed name [] (i ∷ is) h = absurd h
each_renamed name (o ∷ os) [] h = absurd h
each_renamed name (o ∷ os) (i ∷ is) h = (suits_renamed name i o.node h.0, each_renamed name os is h.1)

pub marks_renamed : (name : ℕ → ℕ) (origins : List Origin) (code : List Instruction) → Marks origins code → Marks origins (map (renamed name) code)
marks_renamed name origins code h = record { each = each_renamed name origins code h.each }

-- the instruction that has an origin
pub instruction_at : (origins : List Origin) (code : List Instruction) (place : ℕ) (origin : Origin) → Each origins code → slice_get origins place ≡ Some origin
    → (i : Instruction) × (slice_get code place ≡ Some i) × Suits i origin.node
instruction_at [] code place origin h at = absurd (none-some origin at)
instruction_at (o ∷ os) [] place origin h at = absurd h
instruction_at (o ∷ os) (i ∷ is) zero origin h at = (i, refl, subst (λ (x : Origin). Suits i x.node) (same_Some o origin at) h.0)
instruction_at (o ∷ os) (i ∷ is) (suc place) origin h at = instruction_at os is place origin h.1 at

pub as_many : (origins : List Origin) (code : List Instruction) → Each origins code → length origins ≡ length code
as_many [] [] h = refl
as_many [] (i ∷ is) h = absurd h
as_many (o ∷ os) [] h = absurd h
as_many (o ∷ os) (i ∷ is) h = ap suc (as_many os is h.1)
