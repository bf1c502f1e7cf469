-- The lines of the commands whose flags are set, one behind another.
use Rattle.std.proofs.Common.{◌≡◌, ◌+◌, ◌≤◌, ℕ, Bool, false, List, [], ◌∷◌, ◌++◌, length, drop, get_or, if◌then◌else◌, ap, sym, ◌∙◌, append_assoc, arith}
use Rattle.std.proofs.lemmas.List.{append-nil, drop-drop, drop_all, get_or-drop}
use Rattle.widening.specs.Widened.{is_free_at}
use Rattle.simfile.specs.declared.script.CommandPlace.{CommandPlace}
use Rattle.wide_text.specs.Told.{lines_of}

-- the lines so far, and those of what is left
abbrev pub Gathers : (flags : List Bool) (places : List CommandPlace) (lines : List ℕ) → ℕ → Type 0
Gathers flags places lines number = lines ++ lines_of (drop number flags) (drop number places) ≡ lines_of flags places

first_of : (flags : List Bool) (i : ℕ) → is_free_at (drop i flags) 0 ≡ is_free_at flags i
first_of flags i = get_or-drop i flags 0 false ∙ ap (λ k. get_or flags k false) (omega arith)

pub line_more : (flags : List Bool) (places : List CommandPlace) (lines : List ℕ) (i : ℕ) (place : CommandPlace) → drop i places ≡ place ∷ drop (i + 1) places → Gathers flags places lines i
    → Gathers flags places (lines ++ (if is_free_at flags i then place.line ∷ [] else [])) (i + 1)
line_more flags places lines i place here so_far =
    append_assoc lines (if is_free_at flags i then place.line ∷ [] else []) (lines_of (drop (i + 1) flags) (drop (i + 1) places))
    ∙ ap (λ t. lines ++ t) (ap (λ b. (if b then place.line ∷ [] else []) ++ lines_of (drop (i + 1) flags) (drop (i + 1) places)) (sym (first_of flags i))
    ∙ (ap (λ f. (if is_free_at (drop i flags) 0 then place.line ∷ [] else []) ++ lines_of f (drop (i + 1) places)) (sym (drop-drop 1 i flags))
    ∙ ap (lines_of (drop i flags)) (sym here)))
    ∙ so_far

pub lines_all : (flags : List Bool) (places : List CommandPlace) (lines : List ℕ) (i : ℕ) → length places ≤ i → Gathers flags places lines i → lines ≡ lines_of flags places
lines_all flags places lines i all so_far = sym (append-nil lines) ∙ (ap (λ ps. lines ++ lines_of (drop i flags) ps) (sym (drop_all i places all)) ∙ so_far)
