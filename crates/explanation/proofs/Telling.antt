-- Lines as they are told.
use Rattle.std.proofs.Common.{◌≡◌, Bool, true, false, ℕ, List, map, if◌then◌else◌, refl, sym, ap, ◌∙◌}
use Rattle.std.specs.Str.{IsUtf8, is_utf8}
use Rattle.std.proofs.lemmas.Str.{IsUtf8-from_is_utf8, is_utf8-from_IsUtf8}
use Rattle.explanation.specs.Lines.{told_byte, told_line}

-- a line that is UTF-8
pub told_as_it_is : (line : List ℕ) → IsUtf8 line → line ≡ told_line line
told_as_it_is line is = sym (ap (λ b. if b then line else map told_byte line) (is_utf8-from_IsUtf8 line is))

-- and one that isn't
pub told_in_ascii : (line : List ℕ) → (IsUtf8 line → ⊥) → map told_byte line ≡ told_line line
told_in_ascii line not = at (is_utf8 line) refl
  where
    at : (b : Bool) → is_utf8 line ≡ b → map told_byte line ≡ told_line line
    at true e = absurd (not (IsUtf8-from_is_utf8 line e))
    at false e = sym (ap (λ b. if b then line else map told_byte line) e)
