-- What gives parameters their arguments, from the last on.
use Rattle.std.proofs.Common.{◌≡◌, ℕ, zero, suc, ◌+◌, ◌<◌, ◌≤◌, List, [], ◌∷◌, ◌++◌, length, drop, get_or, refl, ap, ap₂, sym, ◌∙◌, arith}
use Rattle.std.proofs.Math.Seq.{drop-cons}
use Rattle.clmodel.specs.declared.tree.Parameter.{Parameter}
use Rattle.regcode.specs.declared.instruction.Instruction.{Instruction}
use Rattle.regcode.specs.declared.instruction.Instruction.TheVariants as instruction
use Rattle.lower_expr.specs.Scope.{register_at}
use Rattle.lower_code.specs.Variables.{pass_code, arguments_code}

pub drop_all : (ps : List Parameter) (n : ℕ) → length ps ≤ n → drop n ps ≡ []
drop_all [] zero h = refl
drop_all [] (suc n) h = refl
drop_all (p ∷ ps) zero h = absurd (omega arith)
drop_all (p ∷ ps) (suc n) h = drop_all ps n (omega arith)

-- a parameter, and those behind it
pub drop_one : (ps : List Parameter) (n : ℕ) (d : Parameter) → n < length ps → drop n ps ≡ get_or ps n d ∷ drop (n + 1) ps
drop_one ps n d h =
    let k : suc n ≡ n + 1 = omega arith in
    drop-cons ps n d h ∙ ap (λ m. get_or ps n d ∷ drop m ps) k

drop_more : (ns : List ℕ) (n : ℕ) → drop 1 (drop n ns) ≡ drop (suc n) ns
drop_more [] zero = refl
drop_more [] (suc n) = refl
drop_more (m ∷ ns) zero = refl
drop_more (m ∷ ns) (suc n) = drop_more ns n

abbrev head_or : Instruction → List Instruction → Instruction
head_or i [] = i
head_or i (j ∷ js) = j

passed_first : (x : Instruction) (p : Parameter) (ps : List Parameter) (ns : List ℕ) (level : ℕ) → x ∷ [] ≡ pass_code (p ∷ []) ns level
    → x ∷ pass_code ps (drop 1 ns) (level + 1) ≡ pass_code (p ∷ ps) ns level
passed_first x p ps [] level e = ap (λ xs. head_or x xs ∷ pass_code ps [] (level + 1)) e
passed_first x p ps (n ∷ ns) level e = ap (λ xs. head_or x xs ∷ pass_code ps ns (level + 1)) e

pub passed_more : (x : Instruction) (ps : List Parameter) (d : Parameter) (ns rest : List ℕ) (level at n k m : ℕ) (code old : List Instruction)
    → n < length ps → k ≡ n + 1 → m ≡ n → at ≡ level + n → rest ≡ drop n ns → x ∷ [] ≡ pass_code (get_or ps n d ∷ []) rest at
    → code ≡ pass_code (drop k ps) (drop k ns) (level + k) ++ old → x ∷ code ≡ pass_code (drop m ps) (drop m ns) (level + m) ++ old
passed_more x ps d ns rest level at n k m code old h k_is m_is at_is rest_is x_is code_is =
    let p = get_or ps n d in
    let one : suc n ≡ k = omega arith in
    let above : level + k ≡ at + 1 = omega arith in
    ap (λ xs. x ∷ xs) code_is
    ∙ ap (λ xs. x ∷ (xs ++ old)) (ap₂ (λ ys l. pass_code (drop k ps) ys l) (ap (λ j. drop j ns) (sym one) ∙ sym (drop_more ns n)) above)
    ∙ ap (λ xs. xs ++ old) (passed_first x p (drop k ps) (drop n ns) at (x_is ∙ ap (λ ys. pass_code (p ∷ []) ys at) rest_is))
    ∙ ap₂ (λ qs l. pass_code qs (drop n ns) l ++ old) (ap (λ j. p ∷ drop j ps) k_is ∙ sym (drop_one ps n d h)) at_is
    ∙ ap (λ j. pass_code (drop j ps) (drop j ns) (level + j) ++ old) (sym m_is)

pub arguments_more : (ps : List Parameter) (d : Parameter) (to at n k m : ℕ) (code old : List Instruction)
    → n < length ps → k ≡ n + 1 → m ≡ n → at ≡ n → to ≡ register_at at (get_or ps n d).kind
    → code ≡ arguments_code (drop k ps) k ++ old → instruction.Argument to at (get_or ps n d).kind ∷ code ≡ arguments_code (drop m ps) m ++ old
arguments_more ps d to at n k m code old h k_is m_is at_is to_is code_is =
    let p = get_or ps n d in
    ap₂ (λ t xs. instruction.Argument t at p.kind ∷ xs) to_is code_is
    ∙ ap (λ a. instruction.Argument (register_at a p.kind) a p.kind ∷ (arguments_code (drop k ps) k ++ old)) at_is
    ∙ ap (λ j. instruction.Argument (register_at n p.kind) n p.kind ∷ (arguments_code (drop j ps) j ++ old)) k_is
    ∙ ap (λ qs. arguments_code qs n ++ old) (sym (drop_one ps n d h))
    ∙ ap (λ j. arguments_code (drop j ps) j ++ old) (sym m_is)
