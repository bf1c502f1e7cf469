-- What the judge of code has found.
use Rattle.std.proofs.Common.{◌≡◌, ℕ, Option, None, Some, slice_get, sym, ap, ◌∙◌, subst}
use Rattle.regcode.specs.Listing.{Listing}
use Rattle.regcode.specs.Rules.{IsFine}
use Rattle.regcode.specs.declared.instruction.Instruction.{Instruction}

-- two instructions at one place are one
pub same_instruction : (o : Option Instruction) (i j : Instruction) → o ≡ Some i → o ≡ Some j → i ≡ j
same_instruction o i j e f = ap (λ x. elim x [ None ↦ i | Some k ↦ k ]) (sym e ∙ f)

-- the instruction that was judged is the one at the place
pub fine_here : (code : Listing) (place : ℕ) (i : Instruction) → slice_get code.instructions place ≡ Some i → IsFine code place i
    → (j : Instruction) → slice_get code.instructions place ≡ Some j → IsFine code place j
fine_here code place i here fine j there = subst (IsFine code place) (same_instruction _ i j here there) fine
