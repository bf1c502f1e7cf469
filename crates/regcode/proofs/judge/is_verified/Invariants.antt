use Rattle.std.proofs.Common.{◌≡◌, ℕ, ◌<◌, Some, slice_get}
use Rattle.regcode.specs.Listed.{listing}
use Rattle.regcode.specs.Rules.{IsFine}
use Rattle.regcode.specs.declared.instruction.Instruction.{Instruction}
use Rattle.regcode.proofs.judge.is_verified.Given as goal

abbrev pub invariant-loop-place : goal.invariant-loop-place
invariant-loop-place l =
    (place : ℕ) → place < l.place → (i : Instruction) → slice_get l.instructions place ≡ Some i → IsFine (listing l.instructions l.tables) place i
