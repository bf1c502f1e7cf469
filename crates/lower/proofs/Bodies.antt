-- The bodies that are being written, and the work that is left of them.
use Rattle.std.proofs.Common.{◌≡◌, ℕ, ◌+◌, ◌*◌, ◌-◌, ◌<◌, ◌≤◌, ◌^◌, List, [], ◌∷◌, ◌++◌, Some, length, reverse, Vec, refl, ap, sym, ◌∙◌, arith}
use Rattle.std.specs.declared.alloc.Global.{Global}
use Rattle.std.proofs.lemmas.List.{append_assoc, reverse-append, length-append}
use Rattle.std.proofs.lemmas.List.Elements.{All-pop, All-push, All-same}
use Rattle.lower_code.specs.Parts.{part_code, whole, IsKnown, AllKnown}
use Rattle.lower_code.specs.declared.holes.CodePart.{CodePart}
use Rattle.lower_code.specs.declared.holes.CodePart.TheVariants as part
use Rattle.lower_code.proofs.Drafts.{part_whole}
use Rattle.lower.specs.Bodies.{left, EachKnown, Opened}

pub left_more : (bodies : List (Vec CodePart Global)) (body : Vec CodePart Global) → left (reverse (bodies ++ body ∷ [])) ≡ whole (reverse body.items) ++ left (reverse bodies)
left_more bodies body = ap left (reverse-append bodies (body ∷ []))

-- A part is taken off the innermost of bodies, of which the rest goes back on the list.
pub record Taken (bodies front back : List (Vec CodePart Global)) (body rest : Vec CodePart Global) (p : CodePart) : Type 0 where
  pub last : bodies ≡ front ++ body ∷ []
  pub popped : body.items ≡ rest.items ++ p ∷ []
  pub pushed : back ≡ front ++ rest ∷ []

pub known_taken : (bodies front back : List (Vec CodePart Global)) (body rest : Vec CodePart Global) (p : CodePart) → Taken bodies front back body rest p
    → EachKnown bodies → EachKnown back × IsKnown p
known_taken bodies front back body rest p t known =
    let bodies_known = All-pop (λ (b : Vec CodePart Global). AllKnown b.items) bodies front (Some body) t.last known in
    let parts_known = All-pop IsKnown body.items rest.items (Some p) t.popped bodies_known.1 in
    let back_known = All-push (λ (b : Vec CodePart Global). AllKnown b.items) front rest bodies_known.0 parts_known.0 in
    (All-same (λ (b : Vec CodePart Global). AllKnown b.items) back (front ++ rest ∷ []) t.pushed back_known, parts_known.1)

pub left_taken : (bodies front back : List (Vec CodePart Global)) (body rest : Vec CodePart Global) (p : CodePart) → Taken bodies front back body rest p
    → left (reverse bodies) ≡ part_code p ++ left (reverse back)
left_taken bodies front back body rest p t =
    ap (λ bs. left (reverse bs)) t.last
    ∙ left_more front body
    ∙ ap (λ xs. xs ++ left (reverse front)) (ap (λ ps. whole (reverse ps)) t.popped ∙ part_whole rest.items p)
    ∙ append_assoc (part_code p) (whole (reverse rest.items)) (left (reverse front))
    ∙ ap (λ xs. part_code p ++ xs) (sym (left_more front rest))
    ∙ ap (λ bs. part_code p ++ left (reverse bs)) (sym t.pushed)

left_length : (bodies : List (Vec CodePart Global)) (body : Vec CodePart Global) → length (left (reverse (bodies ++ body ∷ []))) ≡ length (whole (reverse body.items)) + length (left (reverse bodies))
left_length bodies body = ap length (left_more bodies body) ∙ length-append (whole (reverse body.items)) (left (reverse bodies))

-- The steps that are left before the next instruction is written, where n bodies are on the list and these parts are
-- left of the innermost: those of which nothing is left go from the list, and no more are begun than memory holds.
abbrev steps : ℕ → List CodePart → ℕ
steps n [] = 2 ^ 63 + n
steps n (p ∷ ps) = 2 ^ 63 - n

abbrev innermost : List (Vec CodePart Global) → List CodePart
innermost [] = []
innermost (body ∷ bodies) = body.items

-- the work that is left
abbrev pub work : List (Vec CodePart Global) → ℕ
work bodies = 2 ^ 64 * length (left (reverse bodies)) + steps (length bodies) (innermost (reverse bodies))

steps_most : (n : ℕ) (ps : List CodePart) → steps n ps ≤ 2 ^ 63 + n
steps_most n [] = omega arith
steps_most n (p ∷ ps) = omega arith

steps_begun : (n : ℕ) (ps : List CodePart) → 0 < length ps → steps n ps ≡ 2 ^ 63 - n
steps_begun n [] h = absurd (omega (arith, h))
steps_begun n (p ∷ ps) h = refl

begun : (ps : List CodePart) → 0 < length (whole (reverse ps)) → 0 < length ps
begun [] h = absurd (omega (arith, h))
begun (p ∷ ps) h = omega arith

innermost_of : (bodies : List (Vec CodePart Global)) (body : Vec CodePart Global) → innermost (reverse (bodies ++ body ∷ [])) ≡ body.items
innermost_of bodies body = ap innermost (reverse-append bodies (body ∷ []))

counted : (bodies : List (Vec CodePart Global)) (body : Vec CodePart Global) → length (bodies ++ body ∷ []) ≡ length bodies + 1
counted bodies body = length-append bodies (body ∷ [])

-- a part is taken off and written
pub work_written : (bodies front back : List (Vec CodePart Global)) (new : Vec (Vec CodePart Global) Global) (body rest : Vec CodePart Global) (p : CodePart)
    → Taken bodies front back body rest p → IsKnown p → Opened p back new.items → work new.items < work bodies
work_written bodies front back new body rest (part.Own i) t known opened =
    let code = ap length (left_taken bodies front back body rest (part.Own i) t) ∙ length-append (part_code (part.Own i)) (left (reverse back)) in
    let own : length (part_code (part.Own i)) ≡ 1 = refl in
    let same = ap (λ bs. length (left (reverse bs))) opened in
    let most = steps_most (length new.items) (innermost (reverse new.items)) in
    omega (arith, code, own, same, most, new.ok, new.small)
work_written bodies front back new body rest (part.Left h) t known opened =
    let inner = opened.0 in
    let code = ap length (left_taken bodies front back body rest (part.Left h) t) ∙ length-append (part_code (part.Left h)) (left (reverse back)) in
    let more = ap (λ bs. length (left (reverse bs))) opened.1 ∙ left_length back inner in
    let whole_inner = ap length opened.2 in
    let coded : 0 < length (whole (reverse inner.items)) = omega (arith, whole_inner, known.code) in
    let some : 0 < length body.items = omega (arith, ap length t.popped, length-append rest.items (part.Left h ∷ [])) in
    let number = ap length t.last ∙ counted front body in
    let back_number = ap length t.pushed ∙ counted front rest in
    let new_number = ap length opened.1 ∙ counted back inner in
    let before = ap (λ bs. steps (length bodies) (innermost (reverse bs))) t.last ∙ ap (steps (length bodies)) (innermost_of front body) ∙ steps_begun (length bodies) body.items some in
    let after = ap (λ bs. steps (length new.items) (innermost (reverse bs))) opened.1 ∙ ap (steps (length new.items)) (innermost_of back inner)
    ∙ steps_begun (length new.items) inner.items (begun inner.items coded) in
    omega (arith, code, more, whole_inner, number, back_number, new_number, before, after, new.ok, new.small)
