-- Code with the bodies of helpers left out.
use Rattle.std.proofs.Common.{◌≡◌, ◌+◌, List, [], ◌∷◌, ◌++◌, length, reverse, refl, ap, sym, ◌∙◌}
use Rattle.std.proofs.lemmas.List.{append_assoc, reverse-append, length-append}
use Rattle.lower_code.specs.declared.holes.CodePart.{CodePart}
use Rattle.lower_code.specs.Parts.{part_code, whole}

whole_append : (ps qs : List CodePart) → whole (ps ++ qs) ≡ whole ps ++ whole qs
whole_append [] qs = refl
whole_append (p ∷ ps) qs = ap (λ xs. part_code p ++ xs) (whole_append ps qs) ∙ sym (append_assoc (part_code p) (whole ps) (whole qs))

-- parts before others
pub draft_whole : (ps qs : List CodePart) → whole (reverse (ps ++ qs)) ≡ whole (reverse qs) ++ whole (reverse ps)
draft_whole ps qs = ap whole (reverse-append ps qs) ∙ whole_append (reverse qs) (reverse ps)

-- one part before others
pub part_whole : (ps : List CodePart) (p : CodePart) → whole (reverse (ps ++ p ∷ [])) ≡ part_code p ++ whole (reverse ps)
part_whole ps p = ap whole (reverse-append ps (p ∷ []))

pub part_length : (ps : List CodePart) (p : CodePart) → length (whole (reverse (ps ++ p ∷ []))) ≡ length (part_code p) + length (whole (reverse ps))
part_length ps p = ap length (part_whole ps p) ∙ length-append (part_code p) (whole (reverse ps))

pub draft_length : (ps qs : List CodePart) → length (whole (reverse (ps ++ qs))) ≡ length (whole (reverse qs)) + length (whole (reverse ps))
draft_length ps qs = ap length (draft_whole ps qs) ∙ length-append (whole (reverse qs)) (whole (reverse ps))
