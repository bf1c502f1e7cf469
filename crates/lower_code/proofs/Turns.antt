-- The loops in code that is kept backwards.
use Rattle.std.proofs.Common.{◌≡◌, ℕ, ◌+◌, List, [], ◌∷◌, ◌++◌, length, ap, sym, ◌∙◌}
use Rattle.std.proofs.lemmas.List.{append_assoc}
use Rattle.regcode.specs.declared.instruction.Instruction.{Instruction}
use Rattle.regcode.specs.declared.instruction.Instruction.TheVariants as instruction
use Rattle.lower_code.specs.Code.{turn_code}

-- the way back of a turn
pub turn_laid : (depth by : ℕ) (body condition rest : List Instruction) → by ≡ length body + length condition + 1
    → instruction.Turn depth ∷ ((body ++ condition) ++ instruction.Back by ∷ rest) ≡ turn_code depth body condition ++ rest
turn_laid depth by body condition rest e =
    ap (λ n. instruction.Turn depth ∷ ((body ++ condition) ++ instruction.Back n ∷ rest)) e
    ∙ ap (λ xs. instruction.Turn depth ∷ xs)
    (append_assoc body condition (instruction.Back (length body + length condition + 1) ∷ rest)
    ∙ ap (λ xs. body ++ xs) (sym (append_assoc condition (instruction.Back (length body + length condition + 1) ∷ []) rest))
    ∙ sym (append_assoc body (condition ++ instruction.Back (length body + length condition + 1) ∷ []) rest))
