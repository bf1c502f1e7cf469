-- How the parts of a line and the lines of code are put together.
use Rattle.std.proofs.Common.{◌≡◌, ℕ, ◌+◌, ◌<◌, suc, List, [], ◌∷◌, ◌++◌, codes, length, take, drop, get_or, Result, ap, sym, subst, ◌∙◌, append_assoc, arith}
use Rattle.std.proofs.lemmas.List.{append-nil, take_more, take-append-drop, length-take}
use Rattle.byte_io.specs.Pieces.{joined}
use Rattle.byte_io.specs.Sink.{Sink, Wrote, Stopped, Puts}
use Rattle.byte_io.proofs.Puts.{wrote_then, stopped_then, stopped_more}
use Rattle.regcode.specs.declared.instruction.Instruction.{Instruction}
use Rattle.code_text.specs.Text.{line_of, lines_from}

-- the text of a line, by what is written of it one after another
abbrev pub written_line : (place word first second third fourth : List ℕ) → List ℕ
written_line place word first second third fourth = (((((place ++ (codes " " ++ (word ++ []))) ++ first) ++ second) ++ third) ++ fourth) ++ codes "\n"

line_appended : (place space word first second third fourth end : List ℕ) → place ++ (space ++ (word ++ ((first ++ (second ++ (third ++ (fourth ++ [])))) ++ (end ++ [])))) ≡ (((((place ++ (space ++ (word ++ []))) ++ first) ++ second) ++ third) ++ fourth) ++ end
line_appended place space word first second third fourth end = grind (arith, append_assoc, append-nil)

-- what is known of the text that is written is known of the line
line_written : (P : List ℕ → Type 0) {word names : List ℕ} (place written first second third fourth : List ℕ) → written ≡ word → joined (first ∷ second ∷ third ∷ fourth ∷ []) ≡ names → P (written_line place written first second third fourth) → P (joined (place ∷ codes " " ∷ word ∷ names ∷ codes "\n" ∷ []))
line_written P {word} {names} place written first second third fourth is same p =
    let Q : List ℕ → Type 0 = λ names. P (joined (place ∷ codes " " ∷ written ∷ names ∷ codes "\n" ∷ [])) in
    let R : List ℕ → Type 0 = λ word. P (joined (place ∷ codes " " ∷ word ∷ names ∷ codes "\n" ∷ [])) in
    subst R is (subst Q same (subst P (sym (line_appended place (codes " ") written first second third fourth (codes "\n"))) p))

pub puts_line : {A E : Type 0} (a b : Sink) (r : Result A E) {word names : List ℕ} (place written first second third fourth : List ℕ) → written ≡ word → joined (first ∷ second ∷ third ∷ fourth ∷ []) ≡ names → Puts a r b (written_line place written first second third fourth) → Puts a r b (joined (place ∷ codes " " ∷ word ∷ names ∷ codes "\n" ∷ []))
puts_line a b r place written first second third fourth is same p = let P : List ℕ → Type 0 = λ t. Puts a r b t in line_written P place written first second third fourth is same p

pub stopped_line : {a b : Sink} {word names : List ℕ} (place written first second third fourth : List ℕ) → written ≡ word → joined (first ∷ second ∷ third ∷ fourth ∷ []) ≡ names → Stopped a b (written_line place written first second third fourth) → Stopped a b (joined (place ∷ codes " " ∷ word ∷ names ∷ codes "\n" ∷ []))
stopped_line {a} {b} place written first second third fourth is same p = let P : List ℕ → Type 0 = λ t. Stopped a b t in line_written P place written first second third fourth is same p

head_appended : (place space word rest : List ℕ) → place ++ (space ++ (word ++ rest)) ≡ (place ++ (space ++ (word ++ []))) ++ rest
head_appended place space word rest = grind (arith, append_assoc, append-nil)

pub stopped_head : {a b : Sink} {word : List ℕ} (place written rest : List ℕ) → written ≡ word → Stopped a b (place ++ (codes " " ++ (written ++ []))) → Stopped a b (place ++ (codes " " ++ (word ++ rest)))
stopped_head {a} {b} place written rest is p =
    let P : List ℕ → Type 0 = λ t. Stopped a b t in
    let Q : List ℕ → Type 0 = λ word. Stopped a b (place ++ (codes " " ++ (word ++ rest))) in
    subst Q is (subst P (sym (head_appended place (codes " ") written rest)) (stopped_more rest p))

pub lines_append : (n : ℕ) (xs ys : List Instruction) → lines_from n (xs ++ ys) ≡ lines_from n xs ++ lines_from (n + length xs) ys
lines_append n [] ys = ap (λ m. lines_from m ys) (omega arith)
lines_append n (x ∷ xs) ys =
    let e : suc n + length xs ≡ n + suc (length xs) = omega arith in
    ap (λ l. line_of n x ++ l) (lines_append (suc n) xs ys ∙ ap (λ m. lines_from (suc n) xs ++ lines_from m ys) e) ∙ sym (append_assoc (line_of n x) (lines_from (suc n) xs) (lines_from (n + suc (length xs)) ys))

-- the lines of the first instructions and of one more
pub lines_more : (xs : List Instruction) (k : ℕ) (x : Instruction) → k < length xs → lines_from 0 (take (k + 1) xs) ≡ lines_from 0 (take k xs) ++ line_of k (get_or xs k x)
lines_more xs k x h =
    let e : 0 + length (take k xs) ≡ k = omega (arith, length-take k xs) in
    let y = get_or xs k x in
    ap (lines_from 0) (take_more xs k x h) ∙ (lines_append 0 (take k xs) (y ∷ []) ∙ (ap (λ m. lines_from 0 (take k xs) ++ lines_from m (y ∷ [])) e ∙ ap (λ l. lines_from 0 (take k xs) ++ l) (append-nil (line_of k y))))

pub lines_wrote : {a b c : Sink} (xs : List Instruction) (k : ℕ) (x : Instruction) → x ≡ get_or xs k x → k < length xs → Wrote a b (lines_from 0 (take k xs)) → Wrote b c (line_of k x) → Wrote a c (lines_from 0 (take (k + 1) xs))
lines_wrote {b} {c} xs k x is h p q =
    let P : Instruction → Type 0 = λ y. Wrote b c (line_of k y) in
    let more = lines_more xs k x h in
    rw more (wrote_then p (subst P is q))

pub lines_stopped : {a b c : Sink} (xs : List Instruction) (k : ℕ) (x : Instruction) → x ≡ get_or xs k x → k < length xs → Wrote a b (lines_from 0 (take k xs)) → Stopped b c (line_of k x) → Stopped a c (lines_from 0 xs)
lines_stopped {b} {c} xs k x is h p q =
    let P : Instruction → Type 0 = λ y. Stopped b c (line_of k y) in
    let rest = lines_from (0 + length (take (k + 1) xs)) (drop (k + 1) xs) in
    let all : lines_from 0 xs ≡ (lines_from 0 (take k xs) ++ line_of k (get_or xs k x)) ++ rest =
    ap (lines_from 0) (sym (take-append-drop (k + 1) xs)) ∙ (lines_append 0 (take (k + 1) xs) (drop (k + 1) xs) ∙ ap (λ l. l ++ rest) (lines_more xs k x h)) in
    rw all (stopped_more rest (stopped_then p (subst P is q)))
