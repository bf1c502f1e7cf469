-- Instructions that are set behind their placeholders.
use Rattle.std.proofs.Common.{◌≡◌, ℕ, ◌+◌, ◌-◌, List, [], ◌∷◌, ◌++◌, length, slice_set, refl, ap, sym, ◌∙◌, arith}
use Rattle.std.proofs.lemmas.List.{length-append, append_assoc}
use Rattle.regcode.specs.declared.instruction.Instruction.{Instruction}

set_here : (before after : List Instruction) (was now : Instruction) → slice_set (before ++ was ∷ after) (length before) now ≡ before ++ now ∷ after
set_here [] after was now = refl
set_here (i ∷ before) after was now = ap (λ rest. i ∷ rest) (set_here before after was now)

pub set_at : (before after : List Instruction) (was now : Instruction) (place : ℕ) → place ≡ length before → slice_set (before ++ was ∷ after) place now ≡ before ++ now ∷ after
set_at before after was now place e = ap (λ n. slice_set (before ++ was ∷ after) n now) e ∙ set_here before after was now

-- an instruction, and behind it what is added
pub patched : (items before after more : List Instruction) (was now : Instruction) (place : ℕ) → items ≡ before ++ was ∷ after → place ≡ length before + 1
    → slice_set (items ++ more) (place - 1) now ≡ before ++ now ∷ (after ++ more)
patched items before after more was now place e p =
    ap (λ xs. slice_set xs (place - 1) now) (ap (λ xs. xs ++ more) e ∙ append_assoc before (was ∷ after) more)
    ∙ set_at before (after ++ more) was now (place - 1) (omega (arith, p))

-- what two calls add
pub twice : (items middle all : List Instruction) (i : Instruction) (rest : List Instruction) → middle ≡ items ++ i ∷ [] → all ≡ middle ++ rest → all ≡ items ++ i ∷ rest
twice items middle all i rest e f = f ∙ ap (λ xs. xs ++ rest) e ∙ append_assoc items (i ∷ []) rest

-- a choice: what stands between its branches, and the jump before them
pub choice_laid : (items before one other : List Instruction) (t0 t1 c0 c1 j0 j1 last : Instruction) (first second : ℕ) → items ≡ before ++ (t0 ∷ (one ++ (c0 ∷ j0 ∷ other)))
    → first ≡ length before + 1 → second ≡ first + length one + 2
    → slice_set (slice_set (slice_set (items ++ last ∷ []) (second - 2) c1) (second - 1) j1) (first - 1) t1 ≡ before ++ (t1 ∷ ((one ++ c1 ∷ []) ++ j1 ∷ (other ++ last ∷ [])))
choice_laid items before one other t0 t1 c0 c1 j0 j1 last first second e p q =
    let front = before ++ t0 ∷ one in
    let rest = other ++ last ∷ [] in
    let size : length front ≡ length before + length one + 1 = omega (arith, length-append before (t0 ∷ one)) in
    let more : length (front ++ c1 ∷ []) ≡ length before + length one + 2 = omega (arith, size, length-append front (c1 ∷ [])) in
    let whole : items ++ last ∷ [] ≡ front ++ c0 ∷ j0 ∷ rest =
    ap (λ xs. xs ++ last ∷ []) (e ∙ sym (append_assoc before (t0 ∷ one) (c0 ∷ j0 ∷ other))) ∙ append_assoc front (c0 ∷ j0 ∷ other) (last ∷ []) in
    ap (λ xs. slice_set (slice_set (slice_set xs (second - 2) c1) (second - 1) j1) (first - 1) t1) whole
    ∙ ap (λ xs. slice_set (slice_set xs (second - 1) j1) (first - 1) t1) (set_at front (j0 ∷ rest) c0 c1 (second - 2) (omega (arith, size, p, q)) ∙ sym (append_assoc front (c1 ∷ []) (j0 ∷ rest)))
    ∙ ap (λ xs. slice_set xs (first - 1) t1) (set_at (front ++ c1 ∷ []) rest j0 j1 (second - 1) (omega (arith, more, p, q))
    ∙ ap (λ xs. xs ++ j1 ∷ rest) (append_assoc before (t0 ∷ one) (c1 ∷ [])) ∙ append_assoc before (t0 ∷ (one ++ c1 ∷ [])) (j1 ∷ rest))
    ∙ set_at before ((one ++ c1 ∷ []) ++ j1 ∷ rest) t0 t1 (first - 1) (omega (arith, p))
